-- `min_of`, `max_of`, `clamp_of` and `abs_of` of float64, on numbers. Assumes nothing.
--     min          min_le_l, min_le_r (below both), min_greatest, min_left, min_right (which operand it is), min_keeps (what holds of both holds of it), min_mono, min_fits, rank_min
--     max          max_ge_l, max_ge_r, max_least, max_left, max_right, max_keeps, max_mono, max_fits, rank_max
--     clamp        clamp_lower, clamp_upper, clamp_inside, clamp_below, clamp_above, clamp_keeps, clamp_mono, clamp_fits
--     abs          abs_nonneg, le_abs, neg_abs_le, abs_le, abs_either, abs_neg, abs_number, abs_finite; abs_fits is a law of float64
use Prim.Native.Nat.{◌*◌, min, max}
use mathlib.Core.Bool.{Bool, true, false, cond, not}
use mathlib.Core.Logic.{◌⊎◌, inl, inr}
use mathlib.Core.Path.{◌≡◌, refl, sym, subst}
use native.Mathlib.Omega.{arith}
use native.Mathlib.Nat.{zero-mul}
use lib.Dec.{T, T_not, not_T}
use lib.Ieee.{Float, nan, inf, fin, Format, up, down, lt, le, neg, is_nan, fits, of_bits}
use lib.Ieee.Bits.{is_true, is_false}
use lib.Ieee.Scale.{finite}
use Rattle.nat_laws.proofs.Tests.{by_cases}
use Rattle.float64.specs.Scalar.{zero64, min_of, max_of, clamp_of, abs_of}
use Rattle.float_laws.proofs.Signed.{unsigned, signed_refl}
use Rattle.float_laws.proofs.Order.{Number, le_refl, le_trans, lt_le, lt_le_trans, not_lt_le, lt_not_le, le_or_lt, le_number_l, le_number_r, neg_le, neg_neg, neg_number}
use Rattle.float_laws.proofs.Rank.{Held, rank, le_rank, lt_rank}

-- ---- one argument for both: the order goes up for the smaller of two, and down for the larger
record Way (before upto : Float → Float → Bool) : Type 0 where
  loose : (x y : Float) → T (before x y) → T (upto x y)
  strict : (x y : Float) → T (before x y) → T (upto y x) → ⊥
  other : (x y : Float) → Number x → Number y → T (not (before y x)) → T (upto x y)
  same : (x : Float) → Number x → T (upto x x)
  through : (x y z : Float) → T (upto x y) → T (upto y z) → T (upto x z)
  number_l : (x y : Float) → T (upto x y) → Number x
  number_r : (x y : Float) → T (upto x y) → Number y

rising : Way lt le
rising = record { loose = lt_le; strict = lt_not_le; other = λ x y a b h. not_lt_le y x b a h; same = le_refl; through = le_trans; number_l = le_number_l; number_r = le_number_r }

falling : Way (λ x y. lt y x) (λ x y. le y x)
falling = record {
  loose = λ x y h. lt_le y x h;
  strict = λ x y h k. lt_not_le y x h k;
  other = λ x y a b h. not_lt_le x y a b h;
  same = le_refl;
  through = λ x y z h k. le_trans z y x k h;
  number_l = λ x y h. le_number_r y x h;
  number_r = λ x y h. le_number_l y x h;
}

abbrev picked : (Float → Float → Bool) → Float → Float → Float
picked before x y = cond (is_nan x) y (cond (before y x) y x)

picked_keeps : (before : Float → Float → Bool) (P : Float → Type 0) (x y : Float) → P x → P y → P (picked before x y)
picked_keeps before P x y p q = by_cases (λ c. P (cond c y (cond (before y x) y x))) (is_nan x) (λ n. q) (λ n. by_cases (λ c. P (cond c y x)) (before y x) (λ h. q) (λ h. p))

module _ (before upto : Float → Float → Bool) (W : Way before upto) where
  picked_l : (x y : Float) → Number x → T (upto (picked before x y) x)
  picked_l x y a = by_cases (λ c. T (upto (cond c y (cond (before y x) y x)) x)) (is_nan x) (λ n. absurd (T_not (is_nan x) a n)) (λ n. by_cases (λ c. T (upto (cond c y x) x)) (before y x) (λ h. W.loose y x h) (λ h. W.same x a))

  picked_r : (x y : Float) → Number y → T (upto (picked before x y) y)
  picked_r x y b = by_cases (λ c. T (upto (cond c y (cond (before y x) y x)) y)) (is_nan x) (λ n. W.same y b) (λ n. by_cases (λ c. T (upto (cond c y x) y)) (before y x) (λ h. W.same y b) (λ h. W.other x y n b h))

  picked_left : (x y : Float) → T (upto x y) → picked before x y ≡ x
  picked_left x y k = by_cases (λ c. cond c y (cond (before y x) y x) ≡ x) (is_nan x) (λ n. absurd (T_not (is_nan x) (W.number_l x y k) n)) (λ n. by_cases (λ c. cond c y x ≡ x) (before y x) (λ h. absurd (W.strict y x h k)) (λ h. refl))

  picked_right : (x y : Float) → T (before y x) → picked before x y ≡ y
  picked_right x y k = by_cases (λ c. cond c y (cond (before y x) y x) ≡ y) (is_nan x) (λ n. refl) (λ n. by_cases (λ c. cond c y x ≡ y) (before y x) (λ h. refl) (λ h. absurd (T_not (before y x) h k)))

  picked_mono : (x x' y y' : Float) → T (upto x x') → T (upto y y') → T (upto (picked before x y) (picked before x' y'))
  picked_mono x x' y y' h k = picked_keeps before (λ v. T (upto (picked before x y) v)) x' y'
      (W.through (picked before x y) x x' (picked_l x y (W.number_l x x' h)) h)
      (W.through (picked before x y) y y' (picked_r x y (W.number_l y y' k)) k)

-- ---- the smaller of two
pub min_keeps : (P : Float → Type 0) (x y : Float) → P x → P y → P (min_of x y)
unfolding min_of
min_keeps P x y p q = picked_keeps lt P x y p q

pub min_le_l : (x y : Float) → Number x → T (le (min_of x y) x)
unfolding min_of
min_le_l x y a = picked_l lt le rising x y a

pub min_le_r : (x y : Float) → Number y → T (le (min_of x y) y)
unfolding min_of
min_le_r x y b = picked_r lt le rising x y b

pub min_greatest : (x y z : Float) → T (le z x) → T (le z y) → T (le z (min_of x y))
min_greatest x y z h k = min_keeps (λ v. T (le z v)) x y h k

pub min_left : (x y : Float) → T (le x y) → min_of x y ≡ x
unfolding min_of
min_left x y h = picked_left lt le rising x y h

pub min_right : (x y : Float) → T (lt y x) → min_of x y ≡ y
unfolding min_of
min_right x y h = picked_right lt le rising x y h

pub min_mono : (x x' y y' : Float) → T (le x x') → T (le y y') → T (le (min_of x y) (min_of x' y'))
unfolding min_of
min_mono x x' y y' h k = picked_mono lt le rising x x' y y' h k

pub min_fits : (f : Format) (x y : Float) → T (fits f x) → T (fits f y) → T (fits f (min_of x y))
min_fits f x y p q = min_keeps (λ v. T (fits f v)) x y p q

pub rank_min : (f : Format) (x y : Float) → Held f x → Held f y → rank f (min_of x y) ≡ min (rank f x) (rank f y)
rank_min f x y g k = elim (le_or_lt x y g.0 k.0) [
  | inl h ↦ rw (min_left x y h) (omega (arith, le_rank f x y g k h))
  | inr h ↦ rw (min_right x y h) (omega (arith, lt_rank f y x k g h))
]

-- ---- the larger of two
pub max_keeps : (P : Float → Type 0) (x y : Float) → P x → P y → P (max_of x y)
unfolding max_of
max_keeps P x y p q = picked_keeps (λ a b. lt b a) P x y p q

pub max_ge_l : (x y : Float) → Number x → T (le x (max_of x y))
unfolding max_of
max_ge_l x y a = picked_l (λ a b. lt b a) (λ a b. le b a) falling x y a

pub max_ge_r : (x y : Float) → Number y → T (le y (max_of x y))
unfolding max_of
max_ge_r x y b = picked_r (λ a b. lt b a) (λ a b. le b a) falling x y b

pub max_least : (x y z : Float) → T (le x z) → T (le y z) → T (le (max_of x y) z)
max_least x y z h k = max_keeps (λ v. T (le v z)) x y h k

pub max_left : (x y : Float) → T (le y x) → max_of x y ≡ x
unfolding max_of
max_left x y h = picked_left (λ a b. lt b a) (λ a b. le b a) falling x y h

pub max_right : (x y : Float) → T (lt x y) → max_of x y ≡ y
unfolding max_of
max_right x y h = picked_right (λ a b. lt b a) (λ a b. le b a) falling x y h

pub max_mono : (x x' y y' : Float) → T (le x x') → T (le y y') → T (le (max_of x y) (max_of x' y'))
unfolding max_of
max_mono x x' y y' h k = picked_mono (λ a b. lt b a) (λ a b. le b a) falling x' x y' y h k

pub max_fits : (f : Format) (x y : Float) → T (fits f x) → T (fits f y) → T (fits f (max_of x y))
max_fits f x y p q = max_keeps (λ v. T (fits f v)) x y p q

pub rank_max : (f : Format) (x y : Float) → Held f x → Held f y → rank f (max_of x y) ≡ max (rank f x) (rank f y)
rank_max f x y g k = elim (le_or_lt y x k.0 g.0) [
  | inl h ↦ rw (max_left x y h) (omega (arith, le_rank f y x k g h))
  | inr h ↦ rw (max_right x y h) (omega (arith, lt_rank f x y g k h))
]

-- ---- between two bounds
pub clamp_keeps : (P : Float → Type 0) (x lo hi : Float) → P x → P lo → P hi → P (clamp_of x lo hi)
unfolding clamp_of
clamp_keeps P x lo hi p q r = by_cases (λ c. P (cond c hi (cond (lt x lo) lo x))) (lt hi (cond (lt x lo) lo x)) (λ h. r) (λ h. by_cases (λ c. P (cond c lo x)) (lt x lo) (λ k. q) (λ k. p))

pub clamp_fits : (f : Format) (x lo hi : Float) → T (fits f x) → T (fits f lo) → T (fits f hi) → T (fits f (clamp_of x lo hi))
clamp_fits f x lo hi p q r = clamp_keeps (λ v. T (fits f v)) x lo hi p q r

shut : (b : Bool) → (T b → ⊥) → b ≡ false
shut b h = is_false b (not_T b h)

pub clamp_inside : (x lo hi : Float) → T (le lo x) → T (le x hi) → clamp_of x lo hi ≡ x
unfolding clamp_of
clamp_inside x lo hi h k = rw (shut (lt x lo) (λ l. lt_not_le x lo l h), shut (lt hi x) (λ l. lt_not_le hi x l k))

pub clamp_below : (x lo hi : Float) → T (lt x lo) → T (le lo hi) → clamp_of x lo hi ≡ lo
unfolding clamp_of
clamp_below x lo hi h k = rw (is_true (lt x lo) h, shut (lt hi lo) (λ l. lt_not_le hi lo l k))

pub clamp_above : (x lo hi : Float) → T (lt hi x) → T (le lo hi) → clamp_of x lo hi ≡ hi
unfolding clamp_of
clamp_above x lo hi h k = rw (shut (lt x lo) (λ l. lt_not_le hi x h (lt_le x hi (lt_le_trans x lo hi l k))), is_true (lt hi x) h)

-- a number is below, inside or above
clamp_is : (P : Float → Type 0) (x lo hi : Float) → Number x → T (le lo hi) → (T (lt x lo) → P lo) → (T (le lo x) → T (le x hi) → P x) → (T (lt hi x) → P hi) → P (clamp_of x lo hi)
clamp_is P x lo hi a h p q r = elim (le_or_lt lo x (le_number_l lo hi h) a) [
  | inr k ↦ subst P (sym (clamp_below x lo hi k h)) (p k)
  | inl k ↦ elim (le_or_lt x hi a (le_number_r lo hi h)) [ inl l ↦ subst P (sym (clamp_inside x lo hi k l)) (q k l) | inr l ↦ subst P (sym (clamp_above x lo hi l h)) (r l) ]
]

pub clamp_lower : (x lo hi : Float) → Number x → T (le lo hi) → T (le lo (clamp_of x lo hi))
clamp_lower x lo hi a h = clamp_is (λ v. T (le lo v)) x lo hi a h (λ k. le_refl lo (le_number_l lo hi h)) (λ k l. k) (λ k. h)

pub clamp_upper : (x lo hi : Float) → Number x → T (le lo hi) → T (le (clamp_of x lo hi) hi)
clamp_upper x lo hi a h = clamp_is (λ v. T (le v hi)) x lo hi a h (λ k. h) (λ k l. l) (λ k. le_refl hi (le_number_r lo hi h))

pub clamp_mono : (x x' lo hi : Float) → T (le x x') → T (le lo hi) → T (le (clamp_of x lo hi) (clamp_of x' lo hi))
clamp_mono x x' lo hi i h =
    clamp_is (λ v. T (le v (clamp_of x' lo hi))) x lo hi (le_number_l x x' i) h
    (λ k. clamp_lower x' lo hi (le_number_r x x' i) h)
    (λ k l. clamp_is (λ v. T (le x v)) x' lo hi (le_number_r x x' i) h (λ u. absurd (lt_not_le x' lo u (le_trans lo x x' k i))) (λ u w. i) (λ u. l))
    (λ k. subst (λ v. T (le hi v)) (sym (clamp_above x' lo hi (lt_le_trans hi x x' k i) h)) (le_refl hi (le_number_r lo hi h)))

-- ---- the magnitude
pub abs_number : (x : Float) → Number x → Number (abs_of x)
unfolding abs_of is_nan
abs_number nan a = a
abs_number (inf s) a = tt
abs_number (fin s m e) a = tt

pub abs_finite : (x : Float) → T (finite x) → T (finite (abs_of x))
unfolding abs_of
abs_finite nan a = a
abs_finite (inf s) a = absurd a
abs_finite (fin s m e) a = tt

pub abs_either : (x : Float) → (abs_of x ≡ x) ⊎ (abs_of x ≡ neg x)
unfolding abs_of neg
abs_either nan = inl refl
abs_either (inf true) = inr refl
abs_either (inf false) = inl refl
abs_either (fin true m e) = inr refl
abs_either (fin false m e) = inl refl

pub abs_neg : (x : Float) → abs_of (neg x) ≡ abs_of x
unfolding abs_of neg
abs_neg nan = refl
abs_neg (inf s) = refl
abs_neg (fin s m e) = refl

pub abs_nonneg : (x : Float) → Number x → T (le zero64 (abs_of x))
unfolding abs_of le is_nan of_bits
abs_nonneg nan a = absurd a
abs_nonneg (inf s) a = tt
abs_nonneg (fin s m e) a = unsigned false (0 * 1 * down e) false (m * up e * 1) (omega (arith, zero-mul (down e)))

pub le_abs : (x : Float) → Number x → T (le x (abs_of x))
unfolding abs_of le is_nan
le_abs nan a = absurd a
le_abs (inf true) a = tt
le_abs (inf false) a = tt
le_abs (fin true m e) a = unsigned true (m * up e * down e) false (m * up e * down e) tt
le_abs (fin false m e) a = unsigned false (m * up e * down e) false (m * up e * down e) (signed_refl false (m * up e * down e))

pub neg_abs_le : (x : Float) → Number x → T (le (neg (abs_of x)) x)
neg_abs_le x a = subst (λ v. T (le (neg (abs_of x)) v)) (neg_neg x) (neg_le (neg x) (abs_of x) (subst (λ v. T (le (neg x) v)) (abs_neg x) (le_abs (neg x) (neg_number x a))))

pub abs_le : (x b : Float) → T (le (neg b) x) → T (le x b) → T (le (abs_of x) b)
abs_le x b h k = elim (abs_either x) [
  | inl e ↦ subst (λ v. T (le v b)) (sym e) k
  | inr e ↦ subst (λ v. T (le v b)) (sym e) (subst (λ v. T (le (neg x) v)) (neg_neg b) (neg_le (neg b) x h))
]
