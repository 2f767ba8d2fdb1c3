-- Ties are doubles: each is a quotient. Assumes nothing.
use mathlib.Core.Bool.{not, ◌||◌}
use lib.Ieee.{Float, binary64, neg, lt, le, eq, ne}
use lib.Ieee.Fits.{div-fits}
use Rattle.nat_laws.proofs.Tests.{branch}
use Rattle.root_spec.specs.Root.{sqrt_of}
use Rattle.float64.specs.Scalar.{zero64, two, max_of, abs_of, signum_of, is_finite}
use Rattle.float64.specs.Notation.{◌⊕◌, ◌⊖◌, ◌⊗◌, ◌⊘◌}
use Rattle.source.specs.declared.Src.{Src}
use Rattle.source.specs.declared.Src.TheVariants.{Point, Line}
use Rattle.source.specs.declared.RealRoots.{RealRoots}
use Rattle.source.specs.declared.RealRoots.TheVariants.{None, One, Two}
use Rattle.source.specs.Quadratic.{half, four, negligible, roots_of}
use Rattle.source.specs.Distance.{ties_of, ties_of_points, ties_of_point_line}
use Rattle.better.specs.Points.{root_list}
use Rattle.better.specs.Claim.{All}
use Rattle.better.proofs.Cutting.{Double}

abbrev Doubles : RealRoots → Type 0
Doubles None = Unit {0}
Doubles (One x) = Double x
Doubles (Two x y) = Double x × Double y

one_double : (x y : Float) → Doubles (One (x ⊘ y))
one_double x y = div-fits binary64 x y

two_double : (x y z w : Float) → Doubles (Two (x ⊘ y) (z ⊘ w))
two_double x y z w = (div-fits binary64 x y, div-fits binary64 z w)

roots_double : (a b c : Float) → Doubles (roots_of a b c)
unfolding roots_of
roots_double a b c =
    let s = max_of (max_of (abs_of a) (abs_of b)) (abs_of c) in
    let disc = b ⊗ b ⊖ four ⊗ a ⊗ c in
    let q = neg half ⊗ (b ⊕ signum_of b ⊗ sqrt_of binary64 disc) in
    branch Doubles (eq s zero64 || not (is_finite s)) (λ t. tt) λ t.
    branch Doubles (le (abs_of a) (negligible ⊗ s)) (λ t. branch Doubles (ne b zero64) (λ t. one_double (neg c) b) (λ t. tt)) λ t.
    branch Doubles (lt disc zero64) (λ t. tt) λ t.
    branch Doubles (ne q zero64) (λ t. two_double q a c q) (λ t. one_double q a)

ties_double : (p q : Src) → Doubles (ties_of p q)
unfolding ties_of ties_of_points ties_of_point_line
ties_double (Point a0 h0 s0) (Point a1 h1 s1) =
    let b = s1 ⊖ s0 in
    let k1 = two ⊗ (a1 ⊖ a0) in
    let k0 = a0 ⊗ a0 ⊕ h0 ⊗ h0 ⊖ a1 ⊗ a1 ⊖ h1 ⊗ h1 ⊖ b ⊗ b in
    branch Doubles (eq b zero64) (λ t. branch Doubles (ne k1 zero64) (λ t. one_double (neg k0) k1) (λ t. tt)) (λ t. roots_double _ _ _)
ties_double (Point a h s) (Line ux uy c) = roots_double _ _ _
ties_double (Line ux uy c) (Point a h s) = roots_double _ _ _
ties_double (Line u0 v0 c0) (Line u1 v1 c1) = branch Doubles (ne u0 u1) (λ t. one_double (c1 ⊖ c0) (u0 ⊖ u1)) (λ t. tt)

listed : (r : RealRoots) → Doubles r → All Double (root_list r)
unfolding root_list
listed None d = tt
listed (One x) d = (d, tt)
listed (Two x y) d = (d.0, (d.1, tt))

pub cuts_double : (p q : Src) → All Double (root_list (ties_of p q))
cuts_double p q = listed (ties_of p q) (ties_double p q)
