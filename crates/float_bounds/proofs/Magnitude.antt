-- Magnitudes through sums, products and roots, as computed. Assumes nothing.
--     within      within_of (from both sides), within_upper, within_lower, within_finite, within_wider, within_neg, within_from_zero (0 ≤ x ≤ c)
--     computed    within_add, within_sub, within_mul: the bound is the same operation on the bounds; bounds are finite
--     squares     square_from_zero (0 ≤ x * x), sum_from_zero
--     roots       sqrt_upto (0 ≤ x ≤ c gives √x ≤ √c), sqrt_fits (a root is a value of the format)
use Prim.Native.Nat.{zero, suc, ◌*◌}
use mathlib.Core.Bool.{true, false}
use mathlib.Core.Logic.{◌⊎◌, inl, inr}
use mathlib.Core.Path.{◌≡◌, refl, sym, ◌∙◌, subst}
use native.Mathlib.Nat.{mul-pos, zero-lt-suc}
use lib.Dec.{T}
use lib.Ieee.{Float, nan, inf, fin, Format, up, down, add, sub, mul, neg, le, eq, fits, is_nan}
use lib.Ieee.Fits.{up_pos, down_pos, nan-fits, inf-fits}
use lib.Ieee.Scale.{finite}
use Rattle.root_spec.specs.Root.{sqrt_of}
use Rattle.root_spec.proofs.Correct.{sqrt_of_value, sqrt_zero, sqrt_special, sqrt_negative}
use Rattle.float64.specs.Scalar as scalar
use Rattle.float64.specs.Scalar.{abs_of}
use Rattle.float_laws.proofs.Order.{Number, finite_number, le_trans, le_number_l, neg_le, neg_finite, neg_zero_le, eq_le, eq_sym, finite_between}
use Rattle.float_laws.proofs.MinMax.{abs_finite, abs_neg, abs_nonneg, le_abs, neg_abs_le, abs_le}
use Rattle.float_laws.proofs.Sum.{add_mono, add_comm, add_above, sub_of_neg, sub_turn}
use Rattle.float_laws.proofs.Product.{mul_mono, mul_nonneg}
use Rattle.float_laws.proofs.Round.{round_not, round_nonneg}
use Rattle.float_laws.proofs.RootOrder.{sqrt_mono}
use Rattle.float_bounds.specs.Within.{Within}

-- ---- a magnitude and its value
abs_number_of : (x : Float) → Number (abs_of x) → Number x
unfolding abs_of is_nan
abs_number_of nan a = a
abs_number_of (inf s) a = tt
abs_number_of (fin s m e) a = tt

pub within_of : (c x : Float) → T (le (neg c) x) → T (le x c) → Within c x
within_of c x h k = abs_le x c h k

module _ (c x : Float) (h : Within c x) where
  pub within_number : Number x
  within_number = abs_number_of x (le_number_l (abs_of x) c h)

  pub within_upper : T (le x c)
  within_upper = le_trans x (abs_of x) c (le_abs x within_number) h

  pub within_lower : T (le (neg c) x)
  within_lower = le_trans (neg c) (neg (abs_of x)) x (neg_le (abs_of x) c h) (neg_abs_le x within_number)

  pub within_finite : T (finite c) → T (finite x)
  within_finite F = finite_between (neg c) x c (neg_finite c F) F within_lower within_upper

  pub within_wider : (d : Float) → T (le c d) → Within d x
  within_wider d k = le_trans (abs_of x) c d h k

  pub within_neg : Within c (neg x)
  within_neg = subst (λ (v : Float). T (le v c)) (sym (abs_neg x)) h

-- ---- from zero to a bound
pub within_from_zero : (c x : Float) → T (le scalar.zero64 x) → T (le x c) → Within c x
within_from_zero c x h k =
    within_of c x
    (le_trans (neg c) (neg scalar.zero64) x (neg_le scalar.zero64 c (le_trans scalar.zero64 x c h k)) (le_trans (neg scalar.zero64) scalar.zero64 x neg_zero_le h))
    k

-- ---- sums
-- -(a + b) is the sum of -a and -b, but for the sign of a zero
neg_sum : (f : Format) (a b : Float) → T (finite a) → T (finite b) → T (le (neg (add f a b)) (add f (neg a) (neg b)))
unfolding sub
neg_sum f a b F G =
    let t : T (eq (add f (neg a) (neg b)) (neg (sub f b (neg a)))) = sub_turn f b (neg a) G (neg_finite a F) in
    let e : sub f b (neg a) ≡ add f a b = sub_of_neg f b a ∙ add_comm f b a in
    eq_le (neg (add f a b)) (add f (neg a) (neg b)) (eq_sym (add f (neg a) (neg b)) (neg (add f a b)) (subst (λ (v : Float). T (eq (add f (neg a) (neg b)) (neg v))) e t))

module _ (f : Format) (a b x y : Float) (F : T (finite a)) (G : T (finite b)) (h : Within a x) (k : Within b y) where
  X : T (finite x)
  X = within_finite a x h F

  Y : T (finite y)
  Y = within_finite b y k G

  pub within_add : Within (add f a b) (add f x y)
  within_add =
      within_of (add f a b) (add f x y)
      (le_trans (neg (add f a b)) (add f (neg a) (neg b)) (add f x y) (neg_sum f a b F G) (add_mono f (neg a) x (neg b) y (neg_finite a F) X (neg_finite b G) Y (within_lower a x h) (within_lower b y k)))
      (add_mono f x a y b X F Y G (within_upper a x h) (within_upper b y k))

pub within_sub : (f : Format) (a b x y : Float) → T (finite a) → T (finite b) → Within a x → Within b y → Within (add f a b) (sub f x y)
unfolding sub
within_sub f a b x y F G h k = within_add f a b x (neg y) F G h (within_neg b y k)

-- ---- products
-- a product is that of the magnitudes, or its negative
mul_either : (f : Format) (x y : Float) → T (finite x) → T (finite y) → (mul f x y ≡ mul f (abs_of x) (abs_of y)) ⊎ (mul f x y ≡ neg (mul f (abs_of x) (abs_of y)))
unfolding mul abs_of
mul_either f nan y F G = absurd F
mul_either f (inf s) y F G = absurd F
mul_either f (fin s m e) nan F G = absurd G
mul_either f (fin s m e) (inf t) F G = absurd G
mul_either f (fin false m e) (fin false n d) F G = inl refl
mul_either f (fin false m e) (fin true n d) F G = inr (round_not f false (m * up e * (n * up d)) (down e * down d))
mul_either f (fin true m e) (fin false n d) F G = inr (round_not f false (m * up e * (n * up d)) (down e * down d))
mul_either f (fin true m e) (fin true n d) F G = inl refl

abs_product_from_zero : (f : Format) (x y : Float) → T (finite x) → T (finite y) → T (le scalar.zero64 (mul f (abs_of x) (abs_of y)))
abs_product_from_zero f x y F G =
    mul_nonneg f (abs_of x) (abs_of y) (abs_finite x F) (abs_finite y G) (abs_nonneg x (finite_number x F)) (abs_nonneg y (finite_number y G))

module _ (f : Format) (a b x y : Float) (F : T (finite a)) (G : T (finite b)) (h : Within a x) (k : Within b y) where
  P : T (finite x)
  P = within_finite a x h F

  Q : T (finite y)
  Q = within_finite b y k G

  abbrev product : Float
  product = mul f (abs_of x) (abs_of y)

  product_within : Within (mul f a b) product
  product_within =
      within_from_zero (mul f a b) product (abs_product_from_zero f x y P Q)
      (mul_mono f (abs_of x) a (abs_of y) b (abs_finite x P) F (abs_finite y Q) G (abs_nonneg x (finite_number x P)) (abs_nonneg y (finite_number y Q)) h k)

  pub within_mul : Within (mul f a b) (mul f x y)
  within_mul = elim (mul_either f x y P Q) [
    | inl e ↦ subst (Within (mul f a b)) (sym e) product_within
    | inr e ↦ subst (Within (mul f a b)) (sym e) (within_neg (mul f a b) product product_within)
  ]

-- ---- squares and sums of them
pub square_from_zero : (f : Format) (x : Float) → T (finite x) → T (le scalar.zero64 (mul f x x))
unfolding mul
square_from_zero f nan F = absurd F
square_from_zero f (inf s) F = absurd F
square_from_zero f (fin false m e) F = round_nonneg f (m * up e * (m * up e)) (down e * down e)
square_from_zero f (fin true m e) F = round_nonneg f (m * up e * (m * up e)) (down e * down e)

pub sum_from_zero : (f : Format) (x y : Float) → T (finite x) → T (fits f x) → T (le scalar.zero64 x) → T (le scalar.zero64 y) → T (le scalar.zero64 (add f x y))
sum_from_zero f x y F p h k = le_trans scalar.zero64 x (add f x y) h (add_above f x y F p k)

-- ---- roots
pub sqrt_fits : (f : Format) (x : Float) → T (fits f x) → T (fits f (sqrt_of f x))
sqrt_fits f nan p = rw (sqrt_special f).2 (nan-fits f)
sqrt_fits f (inf true) p = rw (sqrt_special f).1 (nan-fits f)
sqrt_fits f (inf false) p = rw (sqrt_special f).0 (inf-fits f false)
sqrt_fits f (fin false m e) p = (sqrt_of_value f m e p).holds.0
sqrt_fits f (fin true zero e) p = rw (sqrt_zero f true e) p
sqrt_fits f (fin true (suc m) e) p = rw (sqrt_negative f (fin true (suc m) e) (suc m * up e) (down e) (mul-pos (zero-lt-suc m) (up_pos e)) (down_pos e) (refl, refl)) (nan-fits f)

pub sqrt_upto : (f : Format) (c x : Float) → T (fits f c) → T (fits f x) → T (le scalar.zero64 x) → T (le x c) → T (le (sqrt_of f x) (sqrt_of f c))
sqrt_upto f c x p q h k = sqrt_mono f x c q p h k
