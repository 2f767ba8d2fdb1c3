use Prim.Native.Nat.{◌≤◌, ◌-◌}
use mathlib.Core.Path.{◌≡◌}
use lib.ListN.{length}
use Rattle.frames.specs.Stored.{with_lengths}
use Rattle.frames.proofs.lengths.Given as goal

abbrev pub invariant-loop-e : goal.invariant-loop-e
invariant-loop-e l = (l.e ≤ l.count) × ((length l.edge_reals ≡ length l.initial.edge_reals) × (l.edge_reals ≡ with_lengths l.vertices l.edge_words l.e l.initial.edge_reals))

abbrev pub decreases-loop-e : goal.decreases-loop-e
decreases-loop-e l = l.count - l.e
