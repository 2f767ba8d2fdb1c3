-- `distance_tests::nearer` meets its contract. Assumes nothing.
use mathlib.Core.Path.{sym, ap, ◌∙◌, subst}
use lib.Dec.{T}
use lib.Ieee.{Float, binary64}
use Rattle.root_spec.specs.Root.{hypot_of}
use Rattle.float64.specs.Scalar.{zero64, min_of}
use Rattle.float64.specs.Notation.{◌⊕◌, ◌⊖◌}
use Rattle.source.specs.Distance.{edge_of}
use Rattle.nat_laws.proofs.Tests.{holds}
use Rattle.distance_tests.proofs.Foot.{eval_beyond}
use Rattle.distance_tests.proofs.nearer.Goals as goal

pub returns-then-is_beyond : goal.returns-then-is_beyond
returns-then-is_beyond c =
    let a = c.args in
    let f = c.foot_stays.ensures (holds _ c.if-foot_stays.true) in
    let outside = subst T c.is_beyond.ensures (holds _ c.if-is_beyond.true) in
    c.along.ensures ∙ ap (min_of a.d) (ap (λ (q : Float). hypot_of binary64 (a.x ⊖ q) zero64 ⊕ edge_of a.w.src q) c.clamp.ensures ∙ sym (eval_beyond a.w a.x f outside))
