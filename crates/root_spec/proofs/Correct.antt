-- `root_of`, `sqrt_of` and `hypot_of` are correctly rounded, for every format and every fraction, in the words of specs/Nearest.antt. Assumes nothing.
use mathlib.Core.Path.{◌≡◌, refl, sym, ap, ◌∙◌, subst}
use mathlib.Core.Bool.{Bool, true, false, cond, true≢false}
use mathlib.Core.Logic.{inl, inr}
use Prim.Native.Nat.{ℕ, zero, suc, ◌+◌, ◌*◌, ◌%◌, ◌^◌, ◌≤◌, ◌<◌}
use native.Mathlib.Nat.{le_of_mul-le-mul_right, mul_right_comm, mul-mul-mul_comm, pow-suc, eq_of_mul-eq-mul_right, zero-mul, add_comm, le_trans, le_of_eq, le_of_lt, le_antisymm, lt_of_lt_of_le, lt_of_le_of_lt, lt_irrefl, lt_of_not-le, eq-or-lt_of_le, add-mul, mul-pos, mul-le-mul_left, mul-le-mul_right, mul-lt-mul_of_pos_right, mul_assoc, mul_comm}
use native.Mathlib.Omega.{arith}
use native.Mathlib.Decide.{dec_le}
use lib.Arith.{le→nltb}
use lib.Dec.{T, ltb, eqb-suc-zero}
use lib.IntN.{ℤ}
use lib.Pow.{pow-add, pow_pos, pow_mono}
use lib.Ieee.{Float, nan, inf, fin, Format, prec, emax, low, hid, up, down, odd, units, fits}
use lib.Ieee.Bits.{cond_no}
use lib.Ieee.Exact.{HasValue}
use lib.Ieee.Fits.{two, reach, down_pos}
use Rattle.nat_laws.proofs.Ring.{ring}
use Rattle.nat_laws.proofs.Power.{four, four_pos, quad}
use Rattle.root_spec.specs.Root.{root_of, sqrt_of, hypot_of}
use Rattle.root_spec.specs.Nearest.{HoldsValue, twice_root_squared, sum_squared, NearestRoot, largest, past_largest}
use Rattle.root_spec.proofs.Halfway.{doubled}
use Rattle.root_spec.proofs.Patterns.{Keeps, pattern, units_hold}
use Rattle.root_spec.proofs.Units.{fits_in}
use Rattle.root_spec.proofs.Values.{decompose, same_value_lem, step_up, add_one_mul, largest_lt, at_most_largest}
use Rattle.root_spec.proofs.Neighbours.{keep, square_le, square_lt, square_up, too_large, small_enough, units_nearest}

-- ---- every fraction
units_infinite : (f : Format) (c k : ℕ) → past_largest f ≤ c * 2 ^ k → units f false c k ≡ inf false
unfolding units
units_infinite f c k h = cond_no (ltb (c * 2 ^ k) (past_largest f)) (odd (suc (prec f)) false c k (low f)) (inf false) (le→nltb (c * 2 ^ k) (past_largest f) h)

-- below the middle of the largest value and the next, `root_of` is the nearest value
pub root_of_nearest : (f : Format) (num den : ℕ) → 0 < den → twice_root_squared f num < sum_squared den (largest f) (past_largest f) → NearestRoot f num den (root_of f num den)
root_of_nearest f num den D h =
    let s = keep f num den D in
    rw s.is (elim (dec_le (past_largest f) (s.c * 2 ^ s.k)) [
      | yes g ↦ absurd (lt_irrefl (twice_root_squared f num) (lt_of_lt_of_le h (too_large f num den s.q s.c s.k D s.keeps s.most s.rounded g)))
      | no g ↦ units_nearest f num den s.q s.c s.k D s.keeps s.most s.rounded (lt_of_not-le g)
    ])

-- from there on it is infinity
pub root_of_overflow : (f : Format) (num den : ℕ) → 0 < den → sum_squared den (largest f) (past_largest f) ≤ twice_root_squared f num → root_of f num den ≡ inf false
root_of_overflow f num den D h =
    let s = keep f num den D in
    s.is ∙ elim (dec_le (past_largest f) (s.c * 2 ^ s.k)) [
      | yes g ↦ units_infinite f s.c s.k g
      | no g ↦ absurd (small_enough f num den s.q s.c s.k D s.keeps s.most s.rounded (lt_of_not-le g) h)
    ]

-- ---- there is one such value
swapped : (den a b : ℕ) → sum_squared den a b ≡ sum_squared den b a
swapped den a b = ap (λ (x : ℕ). x * x * den) (add_comm a b)

-- two, a below b: the root is their middle, so both patterns are even, and the value after a, whose pattern is odd, is nearer
two_nearest : (f : Format) (num den : ℕ) (r s : Float) → 0 < den → (a : NearestRoot f num den r) (b : NearestRoot f num den s) → a.value < b.value → ⊥
two_nearest f num den r s D a b l =
    let A = a.value in
    let B = b.value in
    let t : twice_root_squared f num ≡ sum_squared den A B = le_antisymm (a.above s B b.holds l) (le_trans (le_of_eq (swapped den A B)) (b.below r A a.holds l)) in
    let d = decompose f r A a.holds in
    let g = decompose f s B b.holds in
    let C = (d.c + 1) * 2 ^ d.k in
    let e : C ≡ A + 2 ^ d.k = add_one_mul d.c (2 ^ d.k) ∙ ap (λ (x : ℕ). x + 2 ^ d.k) (sym d.is) in
    let u : C ≤ B = le_trans (step_up (prec f) d.c d.k g.c g.k (two f) d.keeps (le_of_lt g.digits) (rw (d.is, g.is) at l)) (le_of_eq (sym g.is)) in
    let most : d.c + 1 ≤ 2 ^ prec f = let h = d.digits in omega arith in
    elim (eq-or-lt_of_le u) [
      | inl z ↦
          let kept : Keeps (prec f) (d.c + 1) d.k = elim d.keeps [ inl x ↦ inl x | inr x ↦ inr (omega arith) ] in
          let i = pattern f s (d.c + 1) d.k (subst (λ (x : ℕ). HasValue s false x (2 ^ low f)) (sym z) b.holds.1) kept most in
          odd_even (d.k * hid f) d.c
          (ap (λ (x : ℕ). x % 2) (sym d.bits) ∙ a.even s B b.holds (λ (x : B ≡ A). lt_irrefl A (lt_of_lt_of_le l (le_of_eq x))) t)
          (ap (λ (x : ℕ). x % 2) (sym i) ∙ b.even r A a.holds (λ (x : A ≡ B). lt_irrefl A (lt_of_lt_of_le l (le_of_eq (sym x)))) (t ∙ swapped den A B))
      | inr m ↦
          let n : A < C = let h = pow_pos d.k in omega arith in
          let h = units_hold f (d.c + 1) d.k most (lt_of_le_of_lt u g.small) in
          lt_irrefl (twice_root_squared f num)
          (lt_of_le_of_lt (a.above (units f false (d.c + 1) d.k) C h n) (lt_of_lt_of_le (square_lt den (A + C) (A + B) D (omega arith)) (le_of_eq (sym t))))
    ]
  where
    odd_even : (a b : ℕ) → (a + b) % 2 ≡ 0 → (a + (b + 1)) % 2 ≡ 0 → ⊥
    odd_even a b h k = omega arith

pub nearest_unique : (f : Format) (num den : ℕ) (r s : Float) → 0 < den → NearestRoot f num den r → NearestRoot f num den s → r ≡ s
nearest_unique f num den r s D a b =
    same_value_lem f r s a.value a.holds
    (subst (λ (x : ℕ). HoldsValue f s x) (le_antisymm (least b a) (least a b)) b.holds)
  where
    least : {x y : Float} (i : NearestRoot f num den x) (j : NearestRoot f num den y) → i.value ≤ j.value
    least {x} {y} i j = elim (dec_le i.value j.value) [ yes h ↦ h | no h ↦ absurd (two_nearest f num den y x D j i (lt_of_not-le h)) ]

-- ---- a root that is itself a value, a subnormal one too, is the result
exact_nearest : (f : Format) (num den : ℕ) (y : Float) (Y : ℕ) → 0 < den → HoldsValue f y Y → num * 4 ^ low f ≡ Y * Y * den → NearestRoot f num den y
exact_nearest f num den y Y D h e =
    let t : twice_root_squared f num ≡ sum_squared den Y Y = ap (λ (x : ℕ). 4 * x) e ∙ sym (doubled Y den) in
    record {
      value = Y;
      holds = h;
      above = λ z Z i l. le_trans (le_of_eq t) (square_le den (Y + Y) (Y + Z) (omega arith));
      below = λ z Z i l. le_trans (square_le den (Y + Z) (Y + Y) (omega arith)) (le_of_eq (sym t));
      even = λ z Z i ne u.
          let a = square_up den (Y + Y) (Y + Z) D (le_of_eq (sym t ∙ u)) in
          let b = square_up den (Y + Z) (Y + Y) D (le_of_eq (sym u ∙ t)) in
          absurd (ne (omega arith));
    }

pub root_of_exact : (f : Format) (num den : ℕ) (y : Float) (Y : ℕ) → 0 < den → HoldsValue f y Y → num * 4 ^ low f ≡ Y * Y * den → root_of f num den ≡ y
root_of_exact f num den y Y D h e =
    let l = at_most_largest f y Y h in
    let g = largest_lt f in
    nearest_unique f num den (root_of f num den) y D
    (root_of_nearest f num den D (lt_of_le_of_lt (le_of_eq (ap (λ (x : ℕ). 4 * x) e ∙ sym (doubled Y den))) (square_lt den (Y + Y) (largest f + past_largest f) D (omega arith))))
    (exact_nearest f num den y Y D h e)

-- ---- one fraction for another of the same size
module _ (f : Format) (num den num' den' : ℕ) (D : 0 < den) (e : num * den' ≡ num' * den) where
  crossed : twice_root_squared f num * den' ≡ twice_root_squared f num' * den
  crossed = move num den' ∙ ap (λ (x : ℕ). 4 * (x * 4 ^ low f)) e ∙ sym (move num' den)
    where
      move : (a b : ℕ) → twice_root_squared f a * b ≡ 4 * (a * b * 4 ^ low f)
      move a b = mul_assoc 4 (a * 4 ^ low f) b ∙ ap (λ (x : ℕ). 4 * x) (mul_right_comm a (4 ^ low f) b)

  most_at : (S : ℕ) → twice_root_squared f num ≤ S * den → twice_root_squared f num' ≤ S * den'
  most_at S h = le_of_mul-le-mul_right (le_trans (le_of_eq (sym crossed)) (le_trans (mul-le-mul_right den' h) (le_of_eq (mul_right_comm S den den')))) D

  least_at : (S : ℕ) → S * den ≤ twice_root_squared f num → S * den' ≤ twice_root_squared f num'
  least_at S h = le_of_mul-le-mul_right (le_trans (le_of_eq (mul_right_comm S den' den)) (le_trans (mul-le-mul_right den' h) (le_of_eq crossed))) D

below_at : (f : Format) (num den num' den' S : ℕ) → 0 < den' → num * den' ≡ num' * den → twice_root_squared f num < S * den → twice_root_squared f num' < S * den'
below_at f num den num' den' S D e h =
    elim (dec_le (S * den') (twice_root_squared f num')) [ yes g ↦ absurd (lt_irrefl (twice_root_squared f num) (lt_of_lt_of_le h (least_at f num' den' num den D (sym e) S g))) | no g ↦ lt_of_not-le g ]

same_fraction : (f : Format) (num den num' den' : ℕ) (r : Float) → 0 < den → 0 < den' → num * den' ≡ num' * den → NearestRoot f num den r → NearestRoot f num' den' r
same_fraction f num den num' den' r D D' e n = record {
  value = n.value;
  holds = n.holds;
  above = λ y Y h l. most_at f num den num' den' D e ((n.value + Y) * (n.value + Y)) (n.above y Y h l);
  below = λ y Y h l. least_at f num den num' den' D e ((n.value + Y) * (n.value + Y)) (n.below y Y h l);
  even = λ y Y h ne t.
      let S = (n.value + Y) * (n.value + Y) in
      n.even y Y h ne (le_antisymm (most_at f num' den' num den D' (sym e) S (le_of_eq t)) (least_at f num' den' num den D' (sym e) S (le_of_eq (sym t))));
}

-- ---- the square root of x = a / c, a value of the format that is not negative: it never overflows
sqrt_small : (f : Format) (num den : ℕ) → 0 < den → num < 2 ^ suc (emax f) * den → twice_root_squared f num < sum_squared den (largest f) (past_largest f)
sqrt_small f num den D h =
    let E = 2 ^ emax f in
    let F = 4 ^ low f in
    let one : 1 ≤ emax f = let a = two f in let b = reach f in omega arith in
    let a : 2 ^ suc (emax f) ≤ E * E = le_trans (le_of_eq (pow-suc 2 (emax f))) (mul-le-mul_left E (pow_mono {i = 1} one)) in
    let b : F * (E * E * 4) ≡ past_largest f * past_largest f =
    ap (λ (x : ℕ). x * (E * E * 4)) (four (low f))
    ∙ ap (λ (x : ℕ). 2 ^ low f * 2 ^ low f * x) (quad E ∙ ap (λ (x : ℕ). x * x) (sym (pow-suc 2 (emax f))))
    ∙ sym (mul-mul-mul_comm (2 ^ low f) (2 ^ suc (emax f)) (2 ^ low f) (2 ^ suc (emax f)))
    ∙ ap (λ (x : ℕ). x * x) (sym (pow-add 2 (low f) (suc (emax f)))) in
    let c : num * F < E * E * den * F = mul-lt-mul_of_pos_right (lt_of_lt_of_le h (mul-le-mul_right den a)) (four_pos (low f)) in
    let d : 4 * (E * E * den * F) ≡ past_largest f * past_largest f * den = sort F (E * E) ∙ ap (λ (x : ℕ). x * den) b in
    lt_of_lt_of_le (lt_of_lt_of_le (let g : 4 * (num * F) < 4 * (E * E * den * F) = omega arith in g) (le_of_eq d)) (square_le den (past_largest f) (largest f + past_largest f) (omega arith))
  where
    sort : (F G : ℕ) → 4 * (G * den * F) ≡ F * (G * 4) * den
    sort F G = simp ring refl

sqrt_positive : (f : Format) (s : Bool) (m : ℕ) (e : ℤ) → sqrt_of f (fin s (suc m) e) ≡ cond s nan (root_of f (suc m * up e) (down e))
unfolding sqrt_of
sqrt_positive f s m e = ap (λ (b : Bool). cond b (fin s (suc m) e) (cond s nan (root_of f (suc m * up e) (down e)))) (eqb-suc-zero m)

pub sqrt_zero : (f : Format) (s : Bool) (e : ℤ) → sqrt_of f (fin s 0 e) ≡ fin s 0 e
unfolding sqrt_of
sqrt_zero f s e = refl

pub sqrt_nearest : (f : Format) (x : Float) (a c : ℕ) → 0 < c → T (fits f x) → HasValue x false a c → NearestRoot f a c (sqrt_of f x)
sqrt_nearest f nan a c C t v = absurd v
sqrt_nearest f (inf s) a c C t v = absurd v
sqrt_nearest f (fin true m e) a c C t v = absurd (true≢false v.0)
sqrt_nearest f (fin false zero e) a c C t v =
    let z : a ≡ 0 = eq_of_mul-eq-mul_right (down e) (down_pos e) a 0 (sym v.1 ∙ none c ∙ sym (zero-mul (down e))) in
    rw (sqrt_zero f false e) (exact_nearest f a c (fin false zero e) 0 C (t, (refl, none (2 ^ low f) ∙ sym (zero-mul (down e)))) (ap (λ (x : ℕ). x * 4 ^ low f) z ∙ zero-mul (4 ^ low f) ∙ sym (zero-mul c)))
  where
    none : (y : ℕ) → 0 * up e * y ≡ 0
    none y = ap (λ (x : ℕ). x * y) (zero-mul (up e)) ∙ zero-mul y
sqrt_nearest f (fin false (suc m) e) a c C t v =
    rw (sqrt_positive f false m e) (same_fraction f (suc m * up e) (down e) a c (root_of f (suc m * up e) (down e)) (down_pos e) C v.1
    (root_of_nearest f (suc m * up e) (down e) (down_pos e) (sqrt_small f (suc m * up e) (down e) (down_pos e) (fits_in f false (suc m) e t).under)))

-- every value of the format that is not negative is such a fraction
pub sqrt_of_value : (f : Format) (m : ℕ) (e : ℤ) → T (fits f (fin false m e)) → NearestRoot f (m * up e) (down e) (sqrt_of f (fin false m e))
sqrt_of_value f m e t = sqrt_nearest f (fin false m e) (m * up e) (down e) (down_pos e) t (refl, refl)

pub sqrt_special : (f : Format) → (sqrt_of f (inf false) ≡ inf false) × (sqrt_of f (inf true) ≡ nan) × (sqrt_of f nan ≡ nan)
unfolding sqrt_of
sqrt_special f = (refl, refl, refl)

-- a number below 0 has no root
pub sqrt_negative : (f : Format) (x : Float) (a c : ℕ) → 0 < a → 0 < c → HasValue x true a c → sqrt_of f x ≡ nan
sqrt_negative f nan a c A C v = absurd v
sqrt_negative f (inf s) a c A C v = absurd v
sqrt_negative f (fin false m e) a c A C v = absurd (true≢false (sym v.0))
sqrt_negative f (fin true zero e) a c A C v = absurd (lt_irrefl 0 (lt_of_lt_of_le (mul-pos A (down_pos e)) (le_of_eq (sym v.1 ∙ ap (λ (x : ℕ). x * c) (zero-mul (up e)) ∙ zero-mul c))))
sqrt_negative f (fin true (suc m) e) a c A C v = sqrt_positive f true m e

-- ---- the hypotenuse of x = ±a / c and y = ±b / c, two fractions with one denominator
same_square : (p g c d : ℕ) → p * c ≡ g * d → p * p * (c * c) ≡ g * g * (d * d)
same_square p g c d h = mul-mul-mul_comm p p c c ∙ ap (λ (z : ℕ). z * z) h ∙ sym (mul-mul-mul_comm g g d d)

-- the fraction that `hypot_of` takes the root of
record Squares (f : Format) (x y : Float) (a b c : ℕ) : Type 0 where
  num : ℕ
  den : ℕ
  positive : 0 < den
  same : num * (c * c) ≡ (a * a + b * b) * den
  is : hypot_of f x y ≡ root_of f num den

squares : (f : Format) (x y : Float) (s t : Bool) (a b c : ℕ) → HasValue x s a c → HasValue y t b c → Squares f x y a b c
unfolding hypot_of
squares f nan y s t a b c v w = absurd v
squares f (inf z) y s t a b c v w = absurd v
squares f (fin z m e) nan s t a b c v w = absurd w
squares f (fin z m e) (inf u) s t a b c v w = absurd w
squares f (fin z m e) (fin u n d) s t a b c v w =
    let p = m * up e * down d in
    let q = n * up d * down e in
    let r = down e * down d in
    let i : p * c ≡ a * r = mul_right_comm (m * up e) (down d) c ∙ ap (λ (k : ℕ). k * down d) v.1 ∙ mul_assoc a (down e) (down d) in
    let j : q * c ≡ b * r = mul_right_comm (n * up d) (down e) c ∙ ap (λ (k : ℕ). k * down e) w.1 ∙ mul_right_comm b (down d) (down e) ∙ mul_assoc b (down e) (down d) in
    record {
      num = p * p + q * q;
      den = r * r;
      positive = let h = mul-pos (down_pos e) (down_pos d) in mul-pos h h;
      same = add-mul (p * p) (q * q) (c * c) ∙ ap (λ (k : ℕ). k + q * q * (c * c)) (same_square p a c r i) ∙ ap (λ (k : ℕ). a * a * (r * r) + k) (same_square q b c r j) ∙ sym (add-mul (a * a) (b * b) (r * r));
      is = refl;
    }

pub hypot_nearest : (f : Format) (x y : Float) (s t : Bool) (a b c : ℕ) → 0 < c → HasValue x s a c → HasValue y t b c → twice_root_squared f (a * a + b * b) < sum_squared (c * c) (largest f) (past_largest f)
    → NearestRoot f (a * a + b * b) (c * c) (hypot_of f x y)
hypot_nearest f x y s t a b c C v w h =
    let q = squares f x y s t a b c v w in
    rw q.is (same_fraction f q.num q.den (a * a + b * b) (c * c) (root_of f q.num q.den) q.positive (mul-pos C C) q.same
    (root_of_nearest f q.num q.den q.positive (below_at f (a * a + b * b) (c * c) q.num q.den ((largest f + past_largest f) * (largest f + past_largest f)) q.positive (sym q.same) h)))

pub hypot_overflow : (f : Format) (x y : Float) (s t : Bool) (a b c : ℕ) → 0 < c → HasValue x s a c → HasValue y t b c → sum_squared (c * c) (largest f) (past_largest f) ≤ twice_root_squared f (a * a + b * b)
    → hypot_of f x y ≡ inf false
hypot_overflow f x y s t a b c C v w h =
    let q = squares f x y s t a b c v w in
    q.is ∙ root_of_overflow f q.num q.den q.positive (least_at f (a * a + b * b) (c * c) q.num q.den (mul-pos C C) (sym q.same) ((largest f + past_largest f) * (largest f + past_largest f)) h)

-- every two finite numbers are such fractions
pub over_both : (s : Bool) (m : ℕ) (e d : ℤ) → HasValue (fin s m e) s (m * up e * down d) (down e * down d)
over_both s m e d = (refl, sym (mul_assoc (m * up e) (down e) (down d)) ∙ mul_right_comm (m * up e) (down e) (down d))

over_other : (t : Bool) (n : ℕ) (d e : ℤ) → HasValue (fin t n d) t (n * up d * down e) (down e * down d)
over_other t n d e = (refl, ap (λ (c : ℕ). n * up d * c) (mul_comm (down e) (down d)) ∙ (over_both t n d e).1)

pub hypot_of_values : (f : Format) (s t : Bool) (m n : ℕ) (e d : ℤ) → let a = m * up e * down d in let b = n * up d * down e in let c = down e * down d in
    (twice_root_squared f (a * a + b * b) < sum_squared (c * c) (largest f) (past_largest f) → NearestRoot f (a * a + b * b) (c * c) (hypot_of f (fin s m e) (fin t n d)))
    × (sum_squared (c * c) (largest f) (past_largest f) ≤ twice_root_squared f (a * a + b * b) → hypot_of f (fin s m e) (fin t n d) ≡ inf false)
hypot_of_values f s t m n e d = (
  hypot_nearest f (fin s m e) (fin t n d) s t (m * up e * down d) (n * up d * down e) (down e * down d) (mul-pos (down_pos e) (down_pos d)) (over_both s m e d) (over_other t n d e),
  hypot_overflow f (fin s m e) (fin t n d) s t (m * up e * down d) (n * up d * down e) (down e * down d) (mul-pos (down_pos e) (down_pos d)) (over_both s m e d) (over_other t n d e),
)

-- an infinity wins, beside a NaN too; otherwise a NaN does
pub hypot_infinite : (f : Format) (s : Bool) (x : Float) → (hypot_of f (inf s) x ≡ inf false) × (hypot_of f x (inf s) ≡ inf false)
unfolding hypot_of
hypot_infinite f s nan = (refl, refl)
hypot_infinite f s (inf t) = (refl, refl)
hypot_infinite f s (fin t m e) = (refl, refl)

pub hypot_nan : (f : Format) (x : Float) → ((s : Bool) → x ≡ inf s → ⊥) → (hypot_of f nan x ≡ nan) × (hypot_of f x nan ≡ nan)
unfolding hypot_of
hypot_nan f nan h = (refl, refl)
hypot_nan f (inf s) h = absurd (h s refl)
hypot_nan f (fin t m e) h = (refl, refl)
