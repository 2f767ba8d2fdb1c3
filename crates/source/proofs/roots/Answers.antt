-- `source::roots` meets its contract. Assumes nothing.
use mathlib.Core.Path.{◌≡◌}
use mathlib.Core.Bool.{false, not, ◌||◌}
use lib.Ieee.{eq}
use Rattle.float64.specs.Scalar.{zero64, max_of, abs_of, is_finite}
use Rattle.source.specs.Quadratic.{roots_of}
use Rattle.source.proofs.roots.Goals.{then-s-via-then-s, then-s-via-else-s+then-not-is_finite, After-max-s, Else-not-is_finite}
use Rattle.source.proofs.roots.Goals as goal

-- s, and that it is neither 0 nor infinite nor a NaN
largest : (c : After-max-s) → max_of (max_of (abs_of c.args.a) (abs_of c.args.b)) (abs_of c.args.c) ≡ c.max-s.result
largest c = rw (c.max-s.ensures, c.abs-3.ensures, c.max.ensures, c.abs-2.ensures, c.abs.ensures)

counts : (c : Else-not-is_finite) → (eq c.max-s.result zero64 || not (is_finite c.max-s.result)) ≡ false
counts c = rw (c.if-s.false, ← c.is_finite.ensures, c.if-not-is_finite.false)

pub returns-then-s : goal.returns-then-s
unfolding roots_of
returns-then-s c = elim c.then-s.branch [ then-s-via-then-s w ↦ rw (largest (goal.at.returns-then-s c).After-max-s, w.if-s.true) | then-s-via-else-s+then-not-is_finite w ↦ rw (largest (goal.at.returns-then-s c).After-max-s, w.if-s.false, ← w.is_finite.ensures, w.if-not-is_finite.true) ]

pub returns-then-b : goal.returns-then-b
unfolding roots_of
returns-then-b c =
    rw (largest (goal.at.returns-then-b c).After-max-s, counts (goal.at.returns-then-b c).Else-not-is_finite, ← c.abs-4.ensures, c.if-abs-s.true, c.if-b.true)

pub returns-then-abs-s : goal.returns-then-abs-s
unfolding roots_of
returns-then-abs-s c =
    rw (largest (goal.at.returns-then-abs-s c).After-max-s, counts (goal.at.returns-then-abs-s c).Else-not-is_finite, ← c.abs-4.ensures, c.if-abs-s.true, c.if-b.false)

pub returns-then-disc : goal.returns-then-disc
unfolding roots_of
returns-then-disc c =
    rw (largest (goal.at.returns-then-disc c).After-max-s, counts (goal.at.returns-then-disc c).Else-not-is_finite, ← c.abs-4.ensures, c.if-abs-s.false, c.if-disc.true)

pub returns-then-q : goal.returns-then-q
unfolding roots_of
returns-then-q c =
    rw (largest (goal.at.returns-then-q c).After-max-s, counts (goal.at.returns-then-q c).Else-not-is_finite, ← c.abs-4.ensures, c.if-abs-s.false, c.if-disc.false, ← c.sqrt.ensures, ← c.signum.ensures, c.if-q.true)

pub returns : goal.returns
unfolding roots_of
returns c =
    rw (largest (goal.at.returns c).After-max-s, counts (goal.at.returns c).Else-not-is_finite, ← c.abs-4.ensures, c.if-abs-s.false, c.if-disc.false, ← c.sqrt.ensures, ← c.signum.ensures, c.if-q.false)
