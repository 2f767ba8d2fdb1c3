use mathlib.Core.Path.{ap, ◌∙◌}
use Prim.Native.Nat.{ℕ}
use lib.ListN.{length}
use Rattle.face_entries.specs.Buffers.{entry_capacity}
use Rattle.face_entries.specs.Entries.{entries_from_link}
use Rattle.face_query.specs.FaceDistance.{to_entries, to_pieces}
use Rattle.face_query.proofs.to_pieces.Goals as goal

pub returns : goal.returns
unfolding to_pieces
returns c =
    let a = c.args in
    c.to_entries.ensures ∙ ap (λ (l : ℕ). to_entries a.coords.now a.p a.d (entries_from_link (entry_capacity (length a.entry_words.now)) a.entry_words.now l)) c.first_entry.ensures
