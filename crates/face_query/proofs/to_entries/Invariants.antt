use mathlib.Core.Path.{◌≡◌}
use lib.ListN.{length}
use Rattle.face_entries.specs.Buffers.{entry_capacity}
use Rattle.face_query.proofs.Walks.{to_enter}
use Rattle.face_query.proofs.to_entries.Given as goal

abbrev pub invariant-loop-left : goal.invariant-loop-left
invariant-loop-left l = to_enter l.coords l.entry_words l.p l.left l.at l.d ≡ to_enter l.coords l.entry_words l.p (entry_capacity (length l.entry_words)) l.first l.far

abbrev pub decreases-loop-left : goal.decreases-loop-left
decreases-loop-left l = l.left
