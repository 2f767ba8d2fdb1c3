use mathlib.Core.Path.{◌≡◌}
use Prim.Native.Nat.{ℕ}
use Rattle.face_entries.specs.Buffers.{next_entry_of}
use Rattle.field_check.specs.Chains.{walk_of}
use Rattle.field_check.specs.FieldCheck.{entry_outside}
use Rattle.field_check.proofs.walk_entries.Given as goal

abbrev pub invariant-loop-at : goal.invariant-loop-at
invariant-loop-at l = walk_of (next_entry_of l.entry_words) (λ (before i : ℕ). entry_outside l.pieces l.entry_words i) l.left 0 l.at ≡ walk_of (next_entry_of l.entry_words) (λ (before i : ℕ). entry_outside l.pieces l.entry_words i) l.most 0 l.first

abbrev pub decreases-loop-at : goal.decreases-loop-at
decreases-loop-at l = l.left
