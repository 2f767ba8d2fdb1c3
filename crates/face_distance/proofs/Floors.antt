-- A way is no shorter than the sum of the longer legs of its two parts, since rounded roots and rounded sums keep the order. So a window whose legs come to d or more need not be evaluated. Assumes nothing.
--     leg_below (the hypotenuse), sum_over (sums of what is at least as long), skipped (the least of d and of such a sum is d)
use Prim.Native.Nat.{ℕ, ◌*◌}
use mathlib.Core.Bool.{Bool, true, false, not}
use mathlib.Core.Path.{◌≡◌, refl, subst}
use native.Mathlib.Nat.{add_comm, mul_comm}
use lib.Dec.{T}
use lib.IntN.{ℤ}
use lib.Ieee.{Float, nan, inf, fin, Format, binary64, up, down, add, lt, le, is_nan, fits, of_bits}
use Rattle.nat_laws.proofs.Tests.{by_cases}
use Rattle.root_spec.specs.Root.{root_of, hypot_of}
use Rattle.float64.specs.Scalar.{zero64, min_of, max_of, abs_of}
use Rattle.float64.specs.Notation.{◌⊕◌}
use Rattle.float_laws.proofs.Order.{Number, le_refl, le_trans, le_number_l, le_number_r, past_infinity}
use Rattle.float_laws.proofs.MinMax.{min_left, max_least}
use Rattle.float_laws.proofs.Roots.{no_minus, hypot_nonneg}
use Rattle.float_laws.proofs.Sum.{add_mono}
use Rattle.float_monotone.proofs.HypotOrder.{below_infinity, above_infinity, hypot_leg}
use Rattle.face_distance.specs.Floors.{UpTo, longer_leg}

-- ---- a hypotenuse
hypot_turned : (f : Format) (s t : Bool) (m n : ℕ) (e d : ℤ) → hypot_of f (fin t n d) (fin s m e) ≡ hypot_of f (fin s m e) (fin t n d)
unfolding hypot_of
hypot_turned f s t m n e d =
    let p = m * up e * down d in
    let q = n * up d * down e in
    λ i. root_of f (add_comm (q * q) (p * p) i) (mul_comm (down d) (down e) i * mul_comm (down d) (down e) i)

both : (s : Bool) (m : ℕ) (e : ℤ) (t : Bool) (n : ℕ) (d : ℤ) → T (fits binary64 (fin s m e)) → T (fits binary64 (fin t n d)) → T (le (max_of (abs_of (fin s m e)) (abs_of (fin t n d))) (hypot_of binary64 (fin s m e) (fin t n d)))
unfolding is_nan
both s m e t n d p q =
    max_least (abs_of (fin s m e)) (abs_of (fin t n d)) (hypot_of binary64 (fin s m e) (fin t n d))
    (subst (λ (v : Float). T (le (abs_of (fin s m e)) v)) (hypot_turned binary64 s t m n e d) (hypot_leg binary64 (fin t n d) (fin s m e) tt tt p))
    (hypot_leg binary64 (fin s m e) (fin t n d) tt tt q)

pub leg_below : (a b : Float) → T (fits binary64 a) → T (fits binary64 b) → Number (hypot_of binary64 a b) → T (le (longer_leg a b) (hypot_of binary64 a b))
unfolding longer_leg hypot_of max_of abs_of le lt is_nan
leg_below nan nan p q h = absurd h
leg_below nan (inf t) p q h = tt
leg_below nan (fin t n d) p q h = absurd h
leg_below (inf s) nan p q h = tt
leg_below (inf s) (inf t) p q h = tt
leg_below (inf s) (fin t n d) p q h = tt
leg_below (fin s m e) nan p q h = absurd h
leg_below (fin s m e) (inf t) p q h = tt
leg_below (fin s m e) (fin t n d) p q h = both s m e t n d p q

from_zero : (s : Bool) (m : ℕ) (e : ℤ) (t : Bool) (n : ℕ) (d : ℤ) → T (le zero64 (hypot_of binary64 (fin s m e) (fin t n d)))
unfolding is_nan
from_zero s m e t n d = hypot_nonneg binary64 (fin s m e) (fin t n d) tt tt

pub hypot_from_zero : (a b : Float) → Number (hypot_of binary64 a b) → T (le zero64 (hypot_of binary64 a b))
unfolding hypot_of is_nan le of_bits
hypot_from_zero nan nan h = absurd h
hypot_from_zero nan (inf t) h = tt
hypot_from_zero nan (fin t n d) h = absurd h
hypot_from_zero (inf s) b h = tt
hypot_from_zero (fin s m e) nan h = absurd h
hypot_from_zero (fin s m e) (inf t) h = tt
hypot_from_zero (fin s m e) (fin t n d) h = from_zero s m e t n d

-- ---- a sum
pub sum_number_l : (x y : Float) → Number (x ⊕ y) → Number x
unfolding add is_nan
sum_number_l nan y h = h
sum_number_l (inf s) y h = tt
sum_number_l (fin s m e) y h = tt

pub sum_number_r : (x y : Float) → Number (x ⊕ y) → Number y
unfolding add is_nan
sum_number_r nan y h = absurd h
sum_number_r (inf s) nan h = h
sum_number_r (inf s) (inf t) h = tt
sum_number_r (inf s) (fin t n d) h = tt
sum_number_r (fin s m e) nan h = h
sum_number_r (fin s m e) (inf t) h = tt
sum_number_r (fin s m e) (fin t n d) h = tt

-- d is at most a sum that rises to another
pub sum_over : (d a e H E : Float) → T (le zero64 H) → T (le a H) → T (le e E) → T (le d (a ⊕ e)) → Number (H ⊕ E) → T (le d (H ⊕ E))
unfolding add is_nan le
sum_over d a e nan E z h k l n = absurd n
sum_over d a e (inf true) E z h k l n = absurd (no_minus z)
sum_over d a e (inf false) nan z h k l n = absurd n
sum_over d a e (inf false) (inf true) z h k l n = absurd n
sum_over d a e (inf false) (inf false) z h k l n = below_infinity d (le_number_l d (a ⊕ e) l)
sum_over d a e (inf false) (fin t j i) z h k l n = below_infinity d (le_number_l d (a ⊕ e) l)
sum_over d a e (fin s m g) nan z h k l n = absurd n
sum_over d a e (fin s m g) (inf false) z h k l n = below_infinity d (le_number_l d (a ⊕ e) l)
sum_over d nan e (fin s m g) (inf true) z h k l n = absurd (le_number_l nan (fin s m g) h)
sum_over d (inf true) nan (fin s m g) (inf true) z h k l n = absurd (le_number_l nan (inf true) k)
sum_over d (inf true) (inf true) (fin s m g) (inf true) z h k l n = l
sum_over d (inf true) (inf false) (fin s m g) (inf true) z h k l n = absurd k
sum_over d (inf true) (fin t j i) (fin s m g) (inf true) z h k l n = l
sum_over d (inf false) e (fin s m g) (inf true) z h k l n = absurd (past_infinity s m g h)
sum_over d (fin u o v) nan (fin s m g) (inf true) z h k l n = absurd (le_number_l nan (inf true) k)
sum_over d (fin u o v) (inf true) (fin s m g) (inf true) z h k l n = l
sum_over d (fin u o v) (inf false) (fin s m g) (inf true) z h k l n = absurd k
sum_over d (fin u o v) (fin t j i) (fin s m g) (inf true) z h k l n = absurd k
sum_over d nan e (fin s m g) (fin t j i) z h k l n = absurd (le_number_l nan (fin s m g) h)
sum_over d (inf false) e (fin s m g) (fin t j i) z h k l n = absurd (past_infinity s m g h)
sum_over d (inf true) nan (fin s m g) (fin t j i) z h k l n = absurd (le_number_l nan (fin t j i) k)
sum_over d (inf true) (inf false) (fin s m g) (fin t j i) z h k l n = absurd (past_infinity t j i k)
sum_over d (inf true) (inf true) (fin s m g) (fin t j i) z h k l n = le_trans d (inf true) (fin s m g ⊕ fin t j i) l (above_infinity (fin s m g ⊕ fin t j i) n)
sum_over d (inf true) (fin u o v) (fin s m g) (fin t j i) z h k l n = le_trans d (inf true) (fin s m g ⊕ fin t j i) l (above_infinity (fin s m g ⊕ fin t j i) n)
sum_over d (fin u o v) nan (fin s m g) (fin t j i) z h k l n = absurd (le_number_l nan (fin t j i) k)
sum_over d (fin u o v) (inf false) (fin s m g) (fin t j i) z h k l n = absurd (past_infinity t j i k)
sum_over d (fin u o v) (inf true) (fin s m g) (fin t j i) z h k l n = le_trans d (inf true) (fin s m g ⊕ fin t j i) l (above_infinity (fin s m g ⊕ fin t j i) n)
sum_over d (fin u o v) (fin x w y) (fin s m g) (fin t j i) z h k l n = le_trans d (fin u o v ⊕ fin x w y) (fin s m g ⊕ fin t j i) l (add_mono binary64 (fin u o v) (fin s m g) (fin x w y) (fin t j i) tt tt tt tt h k)

pub floor_sum : (a H s : Float) → (Number H → T (le zero64 H)) → UpTo a H → UpTo (a ⊕ s) (H ⊕ s)
floor_sum a H s z h n m =
    let p = sum_number_l H s m in
    sum_over (a ⊕ s) a s H s (z p) (h (sum_number_l a s n) p) (le_refl s (sum_number_r a s n)) (le_refl (a ⊕ s) n) m

-- ---- the least of d and of a sum
not_number : (d v : Float) → T (is_nan v) → min_of d v ≡ d
unfolding min_of is_nan lt
not_number nan nan t = refl
not_number (inf s) nan t = refl
not_number (fin s m e) nan t = refl
not_number d (inf s) t = absurd t
not_number d (fin s m e) t = absurd t

pub skipped : (d a e H E : Float) → (Number H → T (le zero64 H)) → UpTo a H → UpTo e E → T (le d (a ⊕ e)) → min_of d (H ⊕ E) ≡ d
skipped d a e H E z h k l = by_cases (λ (t : Bool). is_nan (H ⊕ E) ≡ t → min_of d (H ⊕ E) ≡ d) (is_nan (H ⊕ E)) (λ t q. not_number d (H ⊕ E) t) (λ t q. least t) refl
  where
    least : T (not (is_nan (H ⊕ E))) → min_of d (H ⊕ E) ≡ d
    least n =
        let s = le_number_r d (a ⊕ e) l in
        let p = sum_number_l H E n in
        min_left d (H ⊕ E) (sum_over d a e H E (z p) (h (sum_number_l a e s) p) (k (sum_number_r a e s) (sum_number_r H E n)) l n)
