use Prim.Native.Nat.{◌-◌, ◌≤◌}
use mathlib.Core.Path.{◌≡◌}
use Rattle.chains.specs.Chains.{links}
use Rattle.edge_query.specs.Resume.{from_head}
use Rattle.edge_query.proofs.Forward.{to_come}
use Rattle.edge_query.proofs.Resume.{Trails}
use Rattle.edge_query.proofs.least_on_chain.Given as goal

abbrev pub invariant-loop-left : goal.invariant-loop-left
invariant-loop-left l =
    (l.before ≤ l.made) × ((l.left ≤ l.made) × ((l.passed.short ≤ l.made) × ((to_come l.made (links l.edge_words l.words) l.reals l.from.edge l.x l.d l.left l.before l.passed ≡ from_head l.made (links l.edge_words l.words) l.reals l.from.edge l.x l.d)
    × Trails l.made (links l.edge_words l.words) l.reals l.from.edge l.left l.before l.bound l.cursor)))

abbrev pub decreases-loop-left : goal.decreases-loop-left
decreases-loop-left l = l.left
