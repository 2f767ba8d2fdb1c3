use Prim.Native.Nat.{◌≤◌, ◌-◌}
use mathlib.Core.Path.{◌≡◌}
use Rattle.chains.specs.Chains.{links}
use Rattle.last_pass.specs.Buffers.{lowered_all_at}
use Rattle.last_pass.proofs.lower_all.Given as goal

abbrev pub invariant-loop-e : goal.invariant-loop-e
invariant-loop-e l = (l.e ≤ l.edges) × (l.vertex ≡ lowered_all_at l.made l.edge_reals (links l.edge_words l.words) l.reals l.e l.initial.vertex)

abbrev pub decreases-loop-e : goal.decreases-loop-e
decreases-loop-e l = l.edges - l.e
