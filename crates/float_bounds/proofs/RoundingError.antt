-- How far a rounded result is from the exact one: at most one part in 2 ^ prec of it, and where it is small at most half a unit of the format's smallest value. Assumes nothing.
--     the law      NearFraction P n c g (g is n / c but for n / c / P and a half), round_near (of `round`, in units), round_value
--     operations   ComputedNear (a value and what it is near), product_near, sum_near (of two of one sign): the units of the result beside those of the operands
use Prim.Native.Nat.{ℕ, zero, suc, ◌+◌, ◌-◌, ◌*◌, ◌/◌, ◌%◌, ◌^◌, ◌≤◌, ◌<◌, compare, Ordering}
use mathlib.Core.Bool.{Bool, true, false, not}
use mathlib.Core.Logic.{inl, inr}
use mathlib.Core.Path.{◌≡◌, refl, sym, ap, ◌∙◌, subst}
use native.Mathlib.Nat.{mul-one, one-mul, mul-add, add-mul, suc-mul, mul-pos, mul_assoc, mul_comm, mul_right_comm, mul_left_comm, mul-mul-mul_comm, mul-le-mul_left, mul-le-mul_right, le_of_mul-le-mul_right, le-div_iff_mul-le, div-add-mod', mod-lt, eq-zero-or-pos}
use native.Mathlib.Omega.{arith}
use lib.Dec.{T}
use lib.Pow.{pow-add, pow_pos}
use lib.Ieee.{Float, nan, inf, fin, Format, prec, low, up, down, unlike, size, round, nearest, sum, add, mul, neg}
use lib.Ieee.Digits.{size_reaches}
use lib.Ieee.Exact.{HasValue}
use lib.Ieee.Fits.{two, down_pos}
use lib.Ieee.Nearest.{closest}
use lib.Ieee.Order.{drop, kept}
use lib.Ieee.Scale.{finite, grid, round_same, round_val, round_under}
use Rattle.nat_laws.proofs.Compare.{Cmp, cmp}
use Rattle.root_spec.proofs.Patterns.{twice_hid}
use Rattle.float_laws.proofs.Round.{round_not}

-- ---- the law
-- g is n / c but for an error of n / c / P and a half; multiplied by 2 * P * c
pub record NearFraction (P n c g : ℕ) : Type 0 where
  pub most : 2 * (P * (g * c)) ≤ 2 * (P * n) + 2 * n + P * c
  pub least : 2 * (P * n) ≤ 2 * (P * (g * c)) + 2 * n + P * c

-- w + r / b to the nearest whole number is off by a half at most
half_off : (w r b : ℕ) (o : Ordering) → Cmp o (r * 2) b → r < b → (2 * (nearest w o * b) ≤ 2 * (w * b + r) + b) × (2 * (w * b + r) ≤ 2 * (nearest w o * b) + b)
half_off w r b Ordering.lt c h = (omega arith, omega arith)
half_off w r b Ordering.eq c h =
    let i : w % 2 ≤ 1 = omega arith in
    let k = mul-le-mul_right b i in
    let e = add-mul w (w % 2) b in
    (omega arith, omega arith)
half_off w r b Ordering.gt c h = let e = suc-mul w b in (omega arith, omega arith)

closest_off : (a b : ℕ) → 0 < b → (2 * (closest a b * b) ≤ 2 * a + b) × (2 * a ≤ 2 * (closest a b * b) + b)
closest_off a b B =
    subst (λ (x : ℕ). (2 * (closest a b * b) ≤ 2 * x + b) × (2 * x ≤ 2 * (closest a b * b) + b)) (div-add-mod' a b)
    (half_off (a / b) (a % b) b (compare (a % b * 2) b) (cmp (a % b * 2) b) (mod-lt a B))

-- what is dropped is less than a digit that is kept: the unit 2 ^ k is 1, or n / c has prec digits more
unit_small : (p n c : ℕ) → 2 ≤ p → 0 < c → 2 ^ p * (c * 2 ^ drop p n c) ≤ 2 * n + 2 ^ p * c
unit_small p n c P C = elim (eq-zero-or-pos (drop p n c)) [
  | inl z ↦ let e : 2 ^ p * (c * 2 ^ drop p n c) ≡ 2 ^ p * c = ap (λ (k : ℕ). 2 ^ p * (c * 2 ^ k)) z ∙ ap (λ (x : ℕ). 2 ^ p * x) (mul-one c) in omega arith
  | inr K ↦
      let k = drop p n c in
      let i : p - 1 + k < size (n / c) = omega arith in
      let h : 2 ^ (p - 1 + k) * c ≤ n = (le-div_iff_mul-le C).0 (size_reaches (n / c) (p - 1 + k) i) in
      let e : 2 ^ p * (c * 2 ^ k) ≡ 2 * (2 ^ (p - 1 + k) * c) = ap (λ (x : ℕ). x * (c * 2 ^ k)) (twice_hid p P) ∙ mul_assoc 2 (2 ^ (p - 1)) (c * 2 ^ k) ∙ ap (λ (x : ℕ). 2 * x) (ap (λ (x : ℕ). 2 ^ (p - 1) * x) (mul_comm c (2 ^ k)) ∙ sym (mul_assoc (2 ^ (p - 1)) (2 ^ k) c) ∙ ap (λ (x : ℕ). x * c) (sym (pow-add 2 (p - 1) k))) in
      omega arith
]

times : (P x y u b : ℕ) → 2 * x ≤ 2 * y + u → P * u ≤ b → 2 * (P * x) ≤ 2 * (P * y) + b
times P x y u b h k =
    let a : P * (2 * x) ≤ P * (2 * y + u) = mul-le-mul_left P h in
    omega (arith, mul_left_comm P 2 x, mul_left_comm P 2 y, mul-add P (2 * y) u)

pub round_near : (f : Format) (a c : ℕ) → 0 < c → NearFraction (2 ^ prec f) (a * 2 ^ low f) c (grid f a c)
round_near f a c C =
    let n = a * 2 ^ low f in
    let k = drop (prec f) n c in
    let u = c * 2 ^ k in
    let g = kept (prec f) n c in
    let P = 2 ^ prec f in
    let o = closest_off n u (mul-pos C (pow_pos k)) in
    let e : g * u ≡ g * 2 ^ k * c = ap (λ (x : ℕ). g * x) (mul_comm c (2 ^ k)) ∙ sym (mul_assoc g (2 ^ k) c) in
    let s = unit_small (prec f) n c (two f) C in
    let x = times P (g * u) n u (2 * n + P * c) o.0 s in
    let y = times P n (g * u) u (2 * n + P * c) o.1 s in
    let d : P * (g * u) ≡ P * (g * 2 ^ k * c) = ap (λ (x : ℕ). P * x) e in
    record { most = omega arith; least = omega arith }

-- the same of n / c, both multiplied by k
pub near_cancel : (P n c g k : ℕ) → 0 < k → NearFraction P (n * k) (c * k) g → NearFraction P n c g
near_cancel P n c g k K h =
    let i : P * (g * (c * k)) ≡ P * (g * c) * k = ap (λ (x : ℕ). P * x) (sym (mul_assoc g c k)) ∙ sym (mul_assoc P (g * c) k) in
    let j : P * (n * k) ≡ P * n * k = sym (mul_assoc P n k) in
    let l : P * (c * k) ≡ P * c * k = sym (mul_assoc P c k) in
    let a = h.most in
    let b = h.least in
    record {
      most = le_of_mul-le-mul_right (omega (arith, mul_assoc 2 (P * (g * c)) k, spread (P * n) n (P * c))) K;
      least = le_of_mul-le-mul_right (omega (arith, mul_assoc 2 (P * n) k, spread (P * (g * c)) n (P * c))) K;
    }
  where
    spread : (x y z : ℕ) → (2 * x + 2 * y + z) * k ≡ 2 * (x * k) + 2 * (y * k) + z * k
    spread x y z = add-mul (2 * x + 2 * y) z k ∙ ap (λ (w : ℕ). w + z * k) (add-mul (2 * x) (2 * y) k ∙ ap (λ (w : ℕ). w + 2 * y * k) (mul_assoc 2 x k) ∙ ap (λ (w : ℕ). 2 * (x * k) + w) (mul_assoc 2 y k))

-- ---- values
neg_value : (x : Float) (s : Bool) (a c : ℕ) → HasValue x s a c → HasValue (neg x) (not s) a c
unfolding neg
neg_value nan s a c h = h
neg_value (inf t) s a c h = h
neg_value (fin t m e) s a c h = (ap not h.0, h.1)

finite_neg : (x : Float) → T (finite (neg x)) → T (finite x)
unfolding neg
finite_neg nan F = F
finite_neg (inf t) F = F
finite_neg (fin t m e) F = tt

pub round_value : (f : Format) (s : Bool) (a c : ℕ) → T (finite (round f s a c)) → HasValue (round f s a c) s (grid f a c) (2 ^ low f)
round_value f false a c F = round_val f a c (round_under f a c F)
round_value f true a c F =
    let e : round f true a c ≡ neg (round f false a c) = round_not f false a c in
    let G : T (finite (round f false a c)) = finite_neg (round f false a c) (subst (λ (v : Float). T (finite v)) e F) in
    subst (λ (v : Float). HasValue v true (grid f a c) (2 ^ low f)) (sym e) (neg_value (round f false a c) false (grid f a c) (2 ^ low f) (round_val f a c (round_under f a c G)))

-- a computed value of g units that is near n / c
pub record ComputedNear (f : Format) (x : Float) (s : Bool) (n c : ℕ) : Type 0 where
  pub units : ℕ
  pub value : HasValue x s units (2 ^ low f)
  pub near : NearFraction (2 ^ prec f) n c units

-- X * Y units of units, and X + Y units
computed_product : (f : Format) (s : Bool) (X Y : ℕ) → T (finite (round f s (X * Y) (2 ^ low f * 2 ^ low f))) → ComputedNear f (round f s (X * Y) (2 ^ low f * 2 ^ low f)) s (X * Y) (2 ^ low f)
computed_product f s X Y F =
    let S = 2 ^ low f in
    let P = pow_pos (low f) in
    record { units = grid f (X * Y) (S * S); value = round_value f s (X * Y) (S * S) F; near = near_cancel (2 ^ prec f) (X * Y) S (grid f (X * Y) (S * S)) S P (round_near f (X * Y) (S * S) (mul-pos P P)) }

computed_sum : (f : Format) (s : Bool) (N : ℕ) → T (finite (round f s N (2 ^ low f))) → ComputedNear f (round f s N (2 ^ low f)) s N 1
computed_sum f s N F =
    let S = 2 ^ low f in
    let P = pow_pos (low f) in
    record { units = grid f N S; value = round_value f s N S F; near = near_cancel (2 ^ prec f) N 1 (grid f N S) S P (subst (λ (c : ℕ). NearFraction (2 ^ prec f) (N * S) c (grid f N S)) (sym (one-mul S)) (round_near f N S P)) }

pub product_near : (f : Format) (s t : Bool) (x y : Float) (X Y : ℕ) → HasValue x s X (2 ^ low f) → HasValue y t Y (2 ^ low f) → T (finite (mul f x y)) → ComputedNear f (mul f x y) (unlike s t) (X * Y) (2 ^ low f)
unfolding mul
product_near f s t nan y X Y v w F = absurd v
product_near f s t (inf s') y X Y v w F = absurd v
product_near f s t (fin s' m e) nan X Y v w F = absurd w
product_near f s t (fin s' m e) (inf t') X Y v w F = absurd w
product_near f s t (fin s' m e) (fin t' n d) X Y v w F =
    let S = 2 ^ low f in
    let P = pow_pos (low f) in
    let a = m * up e in
    let b = n * up d in
    let i : a * b * (S * S) ≡ X * Y * (down e * down d) = mul-mul-mul_comm a b S S ∙ ap (λ (z : ℕ). z * (b * S)) v.1 ∙ ap (λ (z : ℕ). X * down e * z) w.1 ∙ mul-mul-mul_comm X (down e) Y (down d) in
    let k : round f (unlike s' t') (a * b) (down e * down d) ≡ round f (unlike s t) (X * Y) (S * S)
    = round_same f (unlike s' t') (a * b) (down e * down d) (X * Y) (S * S) (mul-pos (down_pos e) (down_pos d)) (mul-pos P P) i ∙ ap (λ (u : Bool). round f (unlike u t') (X * Y) (S * S)) v.0 ∙ ap (λ (u : Bool). round f (unlike s u) (X * Y) (S * S)) w.0 in
    subst (λ (r : Float). ComputedNear f r (unlike s t) (X * Y) S) (sym k) (computed_product f (unlike s t) X Y (subst (λ (r : Float). T (finite r)) k F))

sum_alike : (f : Format) (s : Bool) (a b c : ℕ) → sum f s a s b c ≡ round f s (a + b) c
unfolding sum
sum_alike f true a b c = refl
sum_alike f false a b c = refl

pub sum_near : (f : Format) (s : Bool) (x y : Float) (X Y : ℕ) → HasValue x s X (2 ^ low f) → HasValue y s Y (2 ^ low f) → T (finite (add f x y)) → ComputedNear f (add f x y) s (X + Y) 1
unfolding add
sum_near f s nan y X Y v w F = absurd v
sum_near f s (inf s') y X Y v w F = absurd v
sum_near f s (fin s' m e) nan X Y v w F = absurd w
sum_near f s (fin s' m e) (inf t') X Y v w F = absurd w
sum_near f s (fin s' m e) (fin t' n d) X Y v w F =
    let S = 2 ^ low f in
    let P = pow_pos (low f) in
    let a = m * up e * down d in
    let b = n * up d * down e in
    let c = down e * down d in
    let i : a * S ≡ X * c = mul_right_comm (m * up e) (down d) S ∙ ap (λ (z : ℕ). z * down d) v.1 ∙ mul_assoc X (down e) (down d) in
    let j : b * S ≡ Y * c = mul_right_comm (n * up d) (down e) S ∙ ap (λ (z : ℕ). z * down e) w.1 ∙ mul_right_comm Y (down d) (down e) ∙ mul_assoc Y (down e) (down d) in
    let l : (a + b) * S ≡ (X + Y) * c = add-mul a b S ∙ ap (λ (z : ℕ). z + b * S) i ∙ ap (λ (z : ℕ). X * c + z) j ∙ sym (add-mul X Y c) in
    let k : sum f s' a t' b c ≡ round f s (X + Y) S
    = ap (λ (u : Bool). sum f u a t' b c) v.0 ∙ ap (λ (u : Bool). sum f s a u b c) w.0 ∙ sum_alike f s a b c ∙ round_same f s (a + b) c (X + Y) S (mul-pos (down_pos e) (down_pos d)) P l in
    subst (λ (r : Float). ComputedNear f r s (X + Y) 1) (sym k) (computed_sum f s (X + Y) (subst (λ (r : Float). T (finite r)) k F))
