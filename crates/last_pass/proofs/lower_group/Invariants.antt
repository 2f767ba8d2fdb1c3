use Prim.Native.Nat.{◌≤◌, ◌-◌}
use mathlib.Core.Path.{◌≡◌}
use Rattle.chains.specs.Chains.{links}
use Rattle.last_pass.specs.Buffers.{lowered_from}
use Rattle.last_pass.proofs.lower_group.Given as goal

abbrev pub invariant-loop-e : goal.invariant-loop-e
invariant-loop-e l =
    ((l.from ≤ l.e) × (l.e ≤ l.end)) × (l.vertex ≡ lowered_from l.made l.edge_reals (links l.edge_words l.words) l.reals l.from (l.e - l.from) l.initial.vertex)
