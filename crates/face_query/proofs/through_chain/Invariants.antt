use mathlib.Core.Path.{◌≡◌}
use Rattle.chains.specs.Chains.{links}
use Rattle.face_query.proofs.Walks.{to_do}
use Rattle.face_query.proofs.through_chain.Given as goal

abbrev pub invariant-loop-left : goal.invariant-loop-left
invariant-loop-left l = to_do l.made (links l.edge_words l.words) l.reals l.e.0 l.x l.y l.left l.before l.d ≡ to_do l.made (links l.edge_words l.words) l.reals l.e.0 l.x l.y l.made 0 l.far

abbrev pub decreases-loop-left : goal.decreases-loop-left
decreases-loop-left l = l.left
