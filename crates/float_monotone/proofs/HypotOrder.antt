-- The rounded hypotenuse rises with its legs, so that its bounds on an interval are taken at the interval's ends. Assumes nothing.
--     hypot_mono (|a| ≤ |b| gives hypot a y ≤ hypot b y, for every number y), hypot_leg (|y| ≤ hypot a y, for a y that the format holds), below_infinity, above_infinity (minus infinity)
use Prim.Native.Nat.{ℕ, ◌+◌, ◌*◌, ◌^◌, ◌≤◌, ◌<◌}
use mathlib.Core.Bool.{Bool, true, false}
use mathlib.Core.Logic.{inl, inr}
use mathlib.Core.Path.{◌≡◌, refl, sym, ap, ◌∙◌, subst}
use native.Mathlib.Decide.{dec_le}
use native.Mathlib.Nat.{le_refl, le_trans, le_of_eq, lt_irrefl, lt_of_not-le, lt_of_le_of_lt, lt_of_lt_of_le, eq-or-lt_of_le, mul-pos, mul-le-mul, mul-le-mul_right, mul-lt-mul_of_pos_right, mul_right_comm}
use native.Mathlib.Omega.{arith}
use lib.Dec.{T}
use lib.Pow.{pow_pos}
use lib.Ieee.{Float, nan, inf, fin, Format, low, up, down, le, fits, is_nan}
use lib.Ieee.Exact.{HasValue}
use lib.Ieee.Fits.{down_pos}
use lib.Ieee.Order.{le_of_values}
use Rattle.nat_laws.proofs.Ring.{ring}
use Rattle.nat_laws.proofs.Power.{four, four_pos}
use Rattle.root_spec.specs.Root.{hypot_of}
use Rattle.root_spec.specs.Nearest.{HoldsValue, NearestRoot, twice_root_squared, sum_squared, largest, past_largest}
use Rattle.root_spec.proofs.Halfway.{doubled}
use Rattle.root_spec.proofs.Units.{in_units, fits_either}
use Rattle.root_spec.proofs.Neighbours.{square_lt}
use Rattle.root_spec.proofs.Correct.{nearest_unique, hypot_nearest, hypot_overflow, hypot_of_values, hypot_infinite}
use Rattle.float64.specs.Scalar.{zero64, abs_of}
use Rattle.float_laws.proofs.Order.{Number, past_infinity, le_number_l, le_number_r}
use Rattle.float_laws.proofs.MinMax.{abs_number}
use Rattle.float_laws.proofs.RootOrder.{le_fractions}
use Rattle.float_laws.proofs.Roots.{hypot_nonneg}

pub below_infinity : (x : Float) → Number x → T (le x (inf false))
unfolding le is_nan
below_infinity nan a = a
below_infinity (inf true) a = tt
below_infinity (inf false) a = tt
below_infinity (fin s m e) a = tt

pub above_infinity : (x : Float) → Number x → T (le (inf true) x)
unfolding le is_nan
above_infinity nan a = a
above_infinity (inf true) a = tt
above_infinity (inf false) a = tt
above_infinity (fin s m e) a = tt

hypot_below : (f : Format) (x y r : Float) → Number x → Number y → r ≡ inf false → T (le (hypot_of f x y) r)
hypot_below f x y r a b e = rw e (below_infinity (hypot_of f x y) (le_number_r zero64 (hypot_of f x y) (hypot_nonneg f x y a b)))

of_value : (z : Float) (u : Bool) (i j : ℕ) → HasValue z u i j → Number z
unfolding is_nan
of_value nan u i j k = absurd k
of_value (inf r) u i j k = absurd k
of_value (fin r m e) u i j k = tt

-- ---- the roots of two fractions with one denominator
more_squares : (f : Format) (a b y : ℕ) → a ≤ b → twice_root_squared f (a * a + y * y) ≤ twice_root_squared f (b * b + y * y)
more_squares f a b y h = let k = mul-le-mul h h in let l = mul-le-mul_right (4 ^ low f) (more k) in omega arith
  where
    more : a * a ≤ b * b → a * a + y * y ≤ b * b + y * y
    more h = omega arith

-- if the root of the smaller were the larger, it would be at or above the middle of the two, and the other root at or below it
roots_rise : (f : Format) (a b den : ℕ) (r s : Float) → 0 < den → NearestRoot f a den r → NearestRoot f b den s → twice_root_squared f a < twice_root_squared f b → T (le r s)
roots_rise f a b den r s D x y l = elim (dec_le x.value y.value) [
  | yes h ↦ le_of_values r s x.value (2 ^ low f) y.value (2 ^ low f) (pow_pos (low f)) (pow_pos (low f)) x.holds.1 y.holds.1 (mul-le-mul_right (2 ^ low f) h)
  | no h ↦
      let i : y.value + x.value ≡ x.value + y.value = omega arith in
      let k = subst (λ (z : ℕ). twice_root_squared f b ≤ z * z * den) i (y.above r x.value x.holds (lt_of_not-le h)) in
      absurd (lt_irrefl (twice_root_squared f a) (lt_of_lt_of_le l (le_trans k (x.below s y.value y.holds (lt_of_not-le h)))))
]

module _ (f : Format) (x x' y : Float) (s s' t : Bool) (a a' b c : ℕ) (C : 0 < c) (v : HasValue x s a c) (v' : HasValue x' s' a' c) (w : HasValue y t b c) (h : a ≤ a') where
  abbrev num : ℕ
  num = a * a + b * b

  abbrev num' : ℕ
  num' = a' * a' + b * b

  -- no overflow of the larger one
  under : twice_root_squared f num' < sum_squared (c * c) (largest f) (past_largest f) → T (le (hypot_of f x y) (hypot_of f x' y))
  under small =
      let k = more_squares f a a' b h in
      let r = hypot_nearest f x y s t a b c C v w (lt_of_le_of_lt k small) in
      let r' = hypot_nearest f x' y s' t a' b c C v' w small in
      elim (eq-or-lt_of_le h) [
        | inl e ↦
            let i = subst (λ (z : ℕ). NearestRoot f (z * z + b * b) (c * c) (hypot_of f x y)) e r in
            let j = nearest_unique f num' (c * c) (hypot_of f x y) (hypot_of f x' y) (mul-pos C C) i r' in
            subst (λ (z : Float). T (le (hypot_of f x y) z)) j (le_of_values (hypot_of f x y) (hypot_of f x y) r.value (2 ^ low f) r.value (2 ^ low f) (pow_pos (low f)) (pow_pos (low f)) r.holds.1 r.holds.1 (le_refl (r.value * 2 ^ low f)))
        | inr l ↦ roots_rise f num num' (c * c) (hypot_of f x y) (hypot_of f x' y) (mul-pos C C) r r' (strictly l)
      ]
    where
      strictly : a < a' → twice_root_squared f num < twice_root_squared f num'
      strictly l = let k = square_lt 1 a a' (omega arith) l in let m = mul-lt-mul_of_pos_right (more k) (four_pos (low f)) in omega arith
        where
          more : a * a * 1 < a' * a' * 1 → a * a + b * b < a' * a' + b * b
          more k = omega arith

  rises : T (le (hypot_of f x y) (hypot_of f x' y))
  rises = elim (dec_le (sum_squared (c * c) (largest f) (past_largest f)) (twice_root_squared f num')) [
    | yes k ↦ hypot_below f x y (hypot_of f x' y) (of_value x s a c v) (of_value y t b c w) (hypot_overflow f x' y s' t a' b c C v' w k)
    | no k ↦ under (lt_of_not-le k)
  ]

-- x / p over the denominator p * q * r, with its factors in any order
first : (x p q r : ℕ) → x * (p * q * r) ≡ x * (q * r) * p
first x p q r = simp ring refl

second : (x p q r : ℕ) → x * (p * q * r) ≡ x * (p * r) * q
second x p q r = simp ring refl

third : (x p q r : ℕ) → x * (p * q * r) ≡ x * (p * q) * r
third x p q r = simp ring refl

widen : (x y p q r : ℕ) → x * q ≤ y * p → x * (q * r) ≤ y * (p * r)
widen x y p q r h = simp ring at (mul-le-mul_right r h)

pub hypot_mono : (f : Format) (a b y : Float) → Number y → T (le (abs_of a) (abs_of b)) → T (le (hypot_of f a y) (hypot_of f b y))
unfolding abs_of is_nan
hypot_mono f nan b y n h = absurd (le_number_l nan (abs_of b) h)
hypot_mono f (inf s) nan y n h = absurd (le_number_r (inf false) nan h)
hypot_mono f (fin s m e) nan y n h = absurd (le_number_r (fin false m e) nan h)
hypot_mono f (inf s) (inf t) y n h = hypot_below f (inf s) y (hypot_of f (inf t) y) tt n (hypot_infinite f t y).0
hypot_mono f (fin s m e) (inf t) y n h = hypot_below f (fin s m e) y (hypot_of f (inf t) y) tt n (hypot_infinite f t y).0
hypot_mono f (inf s) (fin t k d) y n h = absurd (past_infinity false k d h)
hypot_mono f (fin s m e) (fin t k d) nan n h = absurd n
hypot_mono f (fin s m e) (fin t k d) (inf u) n h = hypot_below f (fin s m e) (inf u) (hypot_of f (fin t k d) (inf u)) tt tt (hypot_infinite f u (fin t k d)).1
hypot_mono f (fin s m e) (fin t k d) (fin u l g) n h =
    let p = down e in
    let q = down d in
    let r = down g in
    rises f (fin s m e) (fin t k d) (fin u l g) s t u (m * up e * (q * r)) (k * up d * (p * r)) (l * up g * (p * q)) (p * q * r)
    (mul-pos (mul-pos (down_pos e) (down_pos d)) (down_pos g)) (refl, first (m * up e) p q r) (refl, second (k * up d) p q r) (refl, third (l * up g) p q r)
    (widen (m * up e) (k * up d) p q r (le_fractions m e k d h))

-- ---- a leg
-- were the root the smaller, it would be at or below the middle of the two, which lies below the leg
leg : (f : Format) (y r : Float) (Y a b c : ℕ) → 0 < c → HoldsValue f y Y → Y * c ≡ b * 2 ^ low f → NearestRoot f (a * a + b * b) (c * c) r → T (le y r)
leg f y r Y a b c C hold e n = elim (dec_le Y n.value) [
  | yes h ↦ le_of_values y r Y (2 ^ low f) n.value (2 ^ low f) (pow_pos (low f)) (pow_pos (low f)) hold.1 n.holds.1 (mul-le-mul_right (2 ^ low f) h)
  | no h ↦
      let r0 = n.value in
      let i = n.above y Y hold (lt_of_not-le h) in
      let j = square_lt (c * c) (r0 + Y) (Y + Y) (mul-pos C C) (omega arith) in
      let k : (Y + Y) * (Y + Y) * (c * c) ≡ 4 * (b * b * 4 ^ low f) = doubled Y (c * c) ∙ ap (λ (z : ℕ). 4 * z) (square Y c ∙ ap (λ (z : ℕ). z * z) e ∙ sym (square b (2 ^ low f)) ∙ ap (λ (z : ℕ). b * b * z) (sym (four (low f)))) in
      absurd (lt_irrefl (4 * (b * b * 4 ^ low f)) (lt_of_le_of_lt (le_trans (less a b (4 ^ low f)) i) (lt_of_lt_of_le j (le_of_eq k))))
]
  where
    square : (x z : ℕ) → x * x * (z * z) ≡ x * z * (x * z)
    square x z = simp ring refl

    less : (x z F : ℕ) → 4 * (z * z * F) ≤ 4 * ((x * x + z * z) * F)
    less x z F = let k = mul-le-mul_right F (more (x * x) (z * z)) in omega arith
      where
        more : (i j : ℕ) → j ≤ i + j
        more i j = omega arith

pub hypot_leg : (f : Format) (a y : Float) → Number a → Number y → T (fits f y) → T (le (abs_of y) (hypot_of f a y))
unfolding abs_of is_nan
hypot_leg f nan y i j h = absurd i
hypot_leg f (inf s) y i j h = rw (hypot_infinite f s y).0 (below_infinity (abs_of y) (abs_number y j))
hypot_leg f (fin s m e) nan i j h = absurd j
hypot_leg f (fin s m e) (inf t) i j h = rw (hypot_infinite f t (fin s m e)).1 (below_infinity (inf false) tt)
hypot_leg f (fin s m e) (fin t n d) i j h =
    let a = m * up e * down d in
    let b = n * up d * down e in
    let c = down e * down d in
    let C = mul-pos (down_pos e) (down_pos d) in
    let Y = in_units f n d (fits_either f t false n d h) in
    let v = hypot_of_values f s t m n e d in
    elim (dec_le (sum_squared (c * c) (largest f) (past_largest f)) (twice_root_squared f (a * a + b * b))) [
      | yes k ↦ rw (v.1 k) (below_infinity (fin false n d) tt)
      | no k ↦ leg f (fin false n d) (hypot_of f (fin s m e) (fin t n d)) Y.0 a b c C Y.1 (units Y.0 Y.1.1.1) (v.0 (lt_of_not-le k))
    ]
  where
    units : (Y : ℕ) → n * up d * 2 ^ low f ≡ Y * down d → Y * (down e * down d) ≡ n * up d * down e * 2 ^ low f
    units Y k = move Y (down e) (down d) ∙ ap (λ (z : ℕ). z * down e) (sym k) ∙ mul_right_comm (n * up d) (2 ^ low f) (down e)
      where
        move : (x p q : ℕ) → x * (p * q) ≡ x * q * p
        move x p q = simp ring refl
