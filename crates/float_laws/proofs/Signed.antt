-- Signed numbers ±a and signed fractions ±a / b in natural numbers: what the comparisons of finite floats say. The laws of floats in the files beside this one rest on it. Assumes nothing.
use Prim.Native.Nat.{ℕ, ◌+◌, ◌*◌, ◌≤◌, ◌<◌, zero-le}
use mathlib.Core.Bool.{Bool, true, false, not, ◌&&◌, ◌||◌}
use mathlib.Core.Logic.{◌⊎◌, inl, inr}
use mathlib.Core.Path.{◌≡◌, sym, ap, ◌∙◌}
use native.Mathlib.Decide.{dec_le}
use native.Mathlib.Nat.{le_refl, le_trans, le_of_eq, le_of_lt, lt_of_not-le, le_antisymm, eq-or-lt_of_le, eq-zero-or-pos, mul-pos, zero-mul, le_of_mul-le-mul_right, mul-le-mul_right}
use native.Mathlib.Omega.{arith}
use lib.Dec.{T, ltb, eqb, ltb→lt, lt→ltb, eqb→eq, nltb→le}
use lib.Ieee.{below, level}
use lib.Ieee.Fits.{and_l, and_r, and_i, eq→eqb}
use lib.Ieee.Positive.{through}
use Rattle.nat_laws.proofs.Tests.{or_split, or_l, or_r}

-- ±a ≤ ±b
abbrev pub SLe : Bool → ℕ → Bool → ℕ → Type 0
SLe false a false b = a ≤ b
SLe false a true b = (a ≡ 0) × (b ≡ 0)
SLe true a false b = Unit {0}
SLe true a true b = b ≤ a

-- ---- the tests of `lt` and `eq`
-- ±a = ∓b only where both are zero
pub level_zeros : (a b : ℕ) → T (eqb a b && eqb a 0) → (a ≡ 0) × (b ≡ 0)
level_zeros a b h =
    let z : a ≡ 0 = eqb→eq a 0 (and_r (eqb a b) (eqb a 0) h) in
    (z, sym (eqb→eq a b (and_l (eqb a b) (eqb a 0) h)) ∙ z)

pub signed : (s : Bool) (a : ℕ) (t : Bool) (b : ℕ) → T (below s a t b || level s a t b) → SLe s a t b
signed false a false b h = elim (or_split (ltb a b) (eqb a b && true) h) [ inl u ↦ le_of_lt (ltb→lt a b u) | inr u ↦ le_of_eq (eqb→eq a b (and_l (eqb a b) true u)) ]
signed false a true b h = level_zeros a b h
signed true a false b h = tt
signed true a true b h = elim (or_split (ltb b a) (eqb a b && true) h) [ inl u ↦ le_of_lt (ltb→lt b a u) | inr u ↦ le_of_eq (sym (eqb→eq a b (and_l (eqb a b) true u))) ]

pub unsigned : (s : Bool) (a : ℕ) (t : Bool) (b : ℕ) → SLe s a t b → T (below s a t b || level s a t b)
unsigned false a false b h = elim (eq-or-lt_of_le h) [ inl e ↦ or_r (ltb a b) (eqb a b && true) (and_i (eqb a b) true (eq→eqb e) tt) | inr l ↦ or_l (ltb a b) (eqb a b && true) (lt→ltb a b l) ]
unsigned false a true b h = and_i (eqb a b) (eqb a 0) (eq→eqb (h.0 ∙ sym h.1)) (eq→eqb h.0)
unsigned true a false b h = elim (eq-zero-or-pos (a + b)) [
  | inl z ↦ or_r (ltb 0 (a + b)) (eqb a b && eqb a 0) (let x : a ≡ b = omega arith in let y : a ≡ 0 = omega arith in and_i (eqb a b) (eqb a 0) (eq→eqb x) (eq→eqb y))
  | inr p ↦ or_l (ltb 0 (a + b)) (eqb a b && eqb a 0) (lt→ltb 0 (a + b) p)
]
unsigned true a true b h = elim (eq-or-lt_of_le h) [ inl e ↦ or_r (ltb b a) (eqb a b && true) (and_i (eqb a b) true (eq→eqb (sym e)) tt) | inr l ↦ or_l (ltb b a) (eqb a b && true) (lt→ltb b a l) ]

pub below_no : (s : Bool) (a : ℕ) (t : Bool) (b : ℕ) → T (not (below s a t b)) → SLe t b s a
below_no false a false b h = nltb→le a b h
below_no false a true b h = tt
below_no true a false b h = let z = nltb→le 0 (a + b) h in (omega arith, omega arith)
below_no true a true b h = nltb→le b a h

pub below_yes : (s : Bool) (a : ℕ) (t : Bool) (b : ℕ) → T (below s a t b) → SLe t b s a → ⊥
below_yes false a false b h k = omega (arith, ltb→lt a b h)
below_yes false a true b h k = h
below_yes true a false b h k = let x = k.0 in let y = k.1 in omega (arith, ltb→lt 0 (a + b) h)
below_yes true a true b h k = omega (arith, ltb→lt b a h)

-- ---- an order
pub signed_refl : (s : Bool) (a : ℕ) → SLe s a s a
signed_refl false a = le_refl a
signed_refl true a = le_refl a

pub signed_total : (s : Bool) (a : ℕ) (t : Bool) (b : ℕ) → SLe s a t b ⊎ SLe t b s a
signed_total false a false b = elim (dec_le a b) [ yes h ↦ inl h | no f ↦ inr (le_of_lt (lt_of_not-le f)) ]
signed_total false a true b = inr tt
signed_total true a false b = inl tt
signed_total true a true b = elim (dec_le b a) [ yes h ↦ inl h | no f ↦ inr (le_of_lt (lt_of_not-le f)) ]

pub signed_both : (s : Bool) (a : ℕ) (t : Bool) (b : ℕ) → SLe s a t b → SLe t b s a → T (level s a t b)
signed_both false a false b h k = and_i (eqb a b) true (eq→eqb (le_antisymm h k)) tt
signed_both false a true b h k = and_i (eqb a b) (eqb a 0) (eq→eqb (h.0 ∙ sym h.1)) (eq→eqb h.0)
signed_both true a false b h k = and_i (eqb a b) (eqb a 0) (eq→eqb (k.1 ∙ sym k.0)) (eq→eqb k.1)
signed_both true a true b h k = and_i (eqb a b) true (eq→eqb (le_antisymm k h)) tt

pub level_sym : (s : Bool) (a : ℕ) (t : Bool) (b : ℕ) → T (level s a t b) → T (level t b s a)
level_sym false a false b h = and_i (eqb b a) true (eq→eqb (sym (eqb→eq a b (and_l (eqb a b) true h)))) tt
level_sym true a true b h = and_i (eqb b a) true (eq→eqb (sym (eqb→eq a b (and_l (eqb a b) true h)))) tt
level_sym false a true b h = signed_both true b false a tt (level_zeros a b h)
level_sym true a false b h = signed_both false b true a ((level_zeros a b h).1, (level_zeros a b h).0) tt

pub signed_flip : (s t : Bool) (a b : ℕ) → SLe t b s a → SLe (not s) a (not t) b
signed_flip false false a b h = h
signed_flip false true a b h = tt
signed_flip true false a b h = (h.1, h.0)
signed_flip true true a b h = h

pub signed_up : (s t : Bool) (a b k : ℕ) → SLe s a t b → SLe s (a * k) t (b * k)
signed_up false false a b k h = mul-le-mul_right k h
signed_up false true a b k h = (ap (λ (x : ℕ). x * k) h.0 ∙ zero-mul k, ap (λ (x : ℕ). x * k) h.1 ∙ zero-mul k)
signed_up true false a b k h = tt
signed_up true true a b k h = mul-le-mul_right k h

-- a zero over any denominator
pub zero_of : (x q : ℕ) → 0 < q → x * q ≡ 0 → x ≡ 0
zero_of x q p e = elim (eq-zero-or-pos x) [ inl z ↦ z | inr l ↦ absurd (let y : ⊥ = omega (arith, mul-pos l p) in y) ]

pub signed_down : (s t : Bool) (a b k : ℕ) → 0 < k → SLe s (a * k) t (b * k) → SLe s a t b
signed_down false false a b k p h = le_of_mul-le-mul_right h p
signed_down false true a b k p h = (zero_of a k p h.0, zero_of b k p h.1)
signed_down true false a b k p h = tt
signed_down true true a b k p h = le_of_mul-le-mul_right h p

scaled_zero : (x q : ℕ) → x ≡ 0 → x * q ≡ 0
scaled_zero x q e = ap (λ (n : ℕ). n * q) e ∙ zero-mul q

-- three fractions x / p, y / q, z / r
pub signed_trans : (s t u : Bool) (x y z p q r : ℕ) → 0 < p → 0 < q → 0 < r → SLe s (x * q) t (y * p) → SLe t (y * r) u (z * q) → SLe s (x * r) u (z * p)
signed_trans false false false x y z p q r P Q R h k = through x y z p q r Q h k
signed_trans false false true x y z p q r P Q R h k =
    let y0 : y ≡ 0 = zero_of y r R k.0 in
    let x0 : x ≡ 0 = zero_of x q Q (omega (arith, scaled_zero y p y0)) in
    (scaled_zero x r x0, scaled_zero z p (zero_of z q Q k.1))
signed_trans false true false x y z p q r P Q R h k = le_trans (le_of_eq (scaled_zero x r (zero_of x q Q h.0))) zero-le
signed_trans false true true x y z p q r P Q R h k =
    let y0 : y ≡ 0 = zero_of y p P h.1 in
    let z0 : z ≡ 0 = zero_of z q Q (omega (arith, scaled_zero y r y0)) in
    (scaled_zero x r (zero_of x q Q h.0), scaled_zero z p z0)
signed_trans true t false x y z p q r P Q R h k = tt
signed_trans true false true x y z p q r P Q R h k = le_trans (le_of_eq (scaled_zero z p (zero_of z q Q k.1))) zero-le
signed_trans true true true x y z p q r P Q R h k = through z y x r q p Q k h

-- ---- a signed number as a difference of two naturals, for `omega`
abbrev pub plus : Bool → ℕ → ℕ
plus false a = a
plus true a = 0

abbrev pub minus : Bool → ℕ → ℕ
minus false a = 0
minus true a = a

pub spread : (s t : Bool) (a b : ℕ) → SLe s a t b → plus s a + minus t b ≤ plus t b + minus s a
spread false false a b h = omega arith
spread false true a b h = omega arith
spread true false a b h = omega arith
spread true true a b h = omega arith

pub gather : (s t : Bool) (a b : ℕ) → plus s a + minus t b ≤ plus t b + minus s a → SLe s a t b
gather false false a b h = omega arith
gather false true a b h = (omega arith, omega arith)
gather true false a b h = tt
gather true true a b h = omega arith
