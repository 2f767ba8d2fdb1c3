-- The halvings turn by turn, and where a cut lies. Assumes nothing.
--     eq_same     what `==` answers at two signs
--     halve_end, halve_right, halve_left     `halve_of` by the count and the test
--     halve_double     what it gives is a double
--     cut_first, cut_second, cut_none, cut_flat     `cut_of` by its tests
--     cut_between      a cut is a double that lies strictly between its two neighbours
use Rattle.std.specs.declared.cmp.Ordering.{Ordering}
use Rattle.std.specs.declared.cmp.Ordering.TheVariants.{Less, Equal, Greater}
use Rattle.std.specs.Ordering.{ordering_index}
use Rattle.std.specs.Bool.{◌==◌}
use Rattle.std.specs.Prelude.{if◌then◌else◌, Option, Some, None}
use Prim.Native.Nat.{ℕ, zero, suc, ◌-◌}
use native.Mathlib.Omega.{arith}
use mathlib.Core.Path.{◌≡◌, refl}
use mathlib.Core.Logic.{◌≢◌}
use mathlib.Core.Bool.{true, false, ◌&&◌, ◌||◌}
use lib.Dec.{T}
use lib.Ieee.{Float, binary64, lt, fits}
use lib.Ieee.Fits.{div-fits, and_l, and_r}
use Rattle.nat_laws.proofs.Tests.{branch}
use Rattle.float64.specs.Scalar.{two}
use Rattle.float64.specs.Notation.{◌⊕◌, ◌⊘◌}
use Rattle.source.specs.declared.Src.{Src}
use Rattle.better.specs.Cutting.{sign_of, same_comparison, change_of, halve_of, strictly, cut_of}

abbrev pub Double : Float → Type 0
Double x = T (fits binary64 x)

pub eq_same : (a b : Ordering) → (ordering_index a == ordering_index b) ≡ same_comparison a b
eq_same Less Less = refl
eq_same Less Equal = refl
eq_same Less Greater = refl
eq_same Equal Less = refl
eq_same Equal Equal = refl
eq_same Equal Greater = refl
eq_same Greater Less = refl
eq_same Greater Equal = refl
eq_same Greater Greater = refl

module _ (p q : Src) where
  pub halve_end : (a b : Float) (sa : Ordering) (n : ℕ) → n ≡ 0 → (a ⊕ b) ⊘ two ≡ halve_of p q a b sa n
  unfolding halve_of
  halve_end a b sa n e = rw e

  pub halve_right : (a b : Float) (sa : Ordering) (n : ℕ) → n ≢ 0 → same_comparison (sign_of p q ((a ⊕ b) ⊘ two)) sa ≡ true → halve_of p q ((a ⊕ b) ⊘ two) b sa (n - 1) ≡ halve_of p q a b sa n
  unfolding halve_of
  halve_right a b sa zero h t = absurd (h refl)
  halve_right a b sa (suc n) h t = let e : suc n - 1 ≡ n = omega arith in rw (t, e)

  pub halve_left : (a b : Float) (sa : Ordering) (n : ℕ) → n ≢ 0 → same_comparison (sign_of p q ((a ⊕ b) ⊘ two)) sa ≡ false → halve_of p q a ((a ⊕ b) ⊘ two) sa (n - 1) ≡ halve_of p q a b sa n
  unfolding halve_of
  halve_left a b sa zero h t = absurd (h refl)
  halve_left a b sa (suc n) h t = let e : suc n - 1 ≡ n = omega arith in rw (t, e)

  pub halve_double : (a b : Float) (sa : Ordering) (n : ℕ) → Double (halve_of p q a b sa n)
  unfolding halve_of
  halve_double a b sa zero = div-fits binary64 (a ⊕ b) two
  halve_double a b sa (suc n) =
      let c = (a ⊕ b) ⊘ two in
      branch Double (same_comparison (sign_of p q c) sa) (λ t. halve_double c b sa n) (λ t. halve_double a c sa n)

  module _ (x0 x1 : Float) where
    pub cut_first : lt x0 x1 ≡ true → change_of (sign_of p q x0) (sign_of p q ((x0 ⊕ x1) ⊘ two)) ≡ true → strictly x0 x1 (halve_of p q x0 ((x0 ⊕ x1) ⊘ two) (sign_of p q x0) 60) ≡ cut_of p q x0 x1
    unfolding cut_of
    cut_first h t = rw (h, t)

    pub cut_second : lt x0 x1 ≡ true → change_of (sign_of p q x0) (sign_of p q ((x0 ⊕ x1) ⊘ two)) ≡ false → change_of (sign_of p q ((x0 ⊕ x1) ⊘ two)) (sign_of p q x1) ≡ true
        → strictly x0 x1 (halve_of p q ((x0 ⊕ x1) ⊘ two) x1 (sign_of p q ((x0 ⊕ x1) ⊘ two)) 60) ≡ cut_of p q x0 x1
    unfolding cut_of
    cut_second h t u = rw (h, t, u)

    pub cut_none : lt x0 x1 ≡ true → change_of (sign_of p q x0) (sign_of p q ((x0 ⊕ x1) ⊘ two)) ≡ false → change_of (sign_of p q ((x0 ⊕ x1) ⊘ two)) (sign_of p q x1) ≡ false → None ≡ cut_of p q x0 x1
    unfolding cut_of
    cut_none h t u = rw (h, t, u)

    pub cut_flat : lt x0 x1 ≡ false → None ≡ cut_of p q x0 x1
    unfolding cut_of
    cut_flat h = rw h

-- a cut, if there is one, is a double that lies strictly between x0 and x1
abbrev pub Between : Float → Float → Option Float → Type 0
Between x0 x1 None = Unit {0}
Between x0 x1 (Some c) = T (lt x0 c) × T (lt c x1) × Double c

strictly_between : (x0 x1 c : Float) → Double c → Between x0 x1 (strictly x0 x1 c)
strictly_between x0 x1 c f = branch (Between x0 x1) (lt x0 c && lt c x1) (λ t. (and_l (lt x0 c) (lt c x1) t, and_r (lt x0 c) (lt c x1) t, f)) (λ t. tt)

pub cut_between : (p q : Src) (x0 x1 : Float) → Between x0 x1 (cut_of p q x0 x1)
unfolding cut_of
cut_between p q x0 x1 =
    let m = (x0 ⊕ x1) ⊘ two in
    let s0 = sign_of p q x0 in
    let sm = sign_of p q m in
    let a = if change_of s0 sm then x0 else m in
    let b = if change_of s0 sm then m else x1 in
    let sa = sign_of p q a in
    branch (Between x0 x1) (lt x0 x1 && (change_of s0 sm || change_of sm (sign_of p q x1))) (λ t. strictly_between x0 x1 (halve_of p q a b sa 60) (halve_double p q a b sa 60)) (λ t. tt)
