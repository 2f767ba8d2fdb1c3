-- The result of `root_of` beside every other value of the format, in squares. Assumes nothing.
-- The idea: the result is c * 2 ^ k units. Where k is above 0, c has all of prec digits, so a larger value is at least (c + 1) * 2 ^ k, however it is written, and a smaller one
-- at most q * 2 ^ k, where q is the root cut off, c or c - 1 (`step_up`). So the middle of the result and another value is at least (c + (c + 1)) / 2 or at most (c + q) / 2
-- times 2 ^ k, and with these the root was compared (`halfway`). The overflow is the same argument, with 2 ^ (emax + 1) taken for a value.
use mathlib.Core.Path.{◌≡◌, refl, sym, ap, ◌∙◌, subst}
use mathlib.Core.Bool.{false}
use mathlib.Core.Logic.{inl, inr}
use Prim.Native.Nat.{ℕ, suc, ◌+◌, ◌-◌, ◌*◌, ◌/◌, ◌%◌, ◌^◌, ◌≤◌, ◌<◌, compare}
use native.Mathlib.Nat.{add-zero, le_refl, le_trans, le_of_eq, le_of_lt, le_antisymm, lt_of_lt_of_le, lt_of_le_of_lt, lt_irrefl, lt_of_not-le, eq-or-lt_of_le, add-mul, mul-pos, mul-le-mul, mul-le-mul_left, mul-le-mul_right, mul-lt-mul_of_pos_right, mul_assoc, mul_comm, mul_left_comm, pow-succ', div-div-eq-div-mul}
use native.Mathlib.Omega.{arith}
use native.Mathlib.Decide.{dec_le}
use lib.Arith.{lt_of_le-ne}
use lib.Pow.{pow_pos}
use lib.Ieee.{Float, Format, prec, low, hid, size, nearest, units, to_bits}
use lib.Ieee.Exact.{HasValue}
use lib.Ieee.Fits.{two, nearest-le}
use Rattle.nat_laws.proofs.Power.{four_pos, scaled}
use Rattle.root_spec.specs.Root.{isqrt, root_of}
use Rattle.root_spec.specs.Nearest.{twice_root_squared, sum_squared, NearestRoot, largest, past_largest}
use Rattle.root_spec.proofs.Isqrt.{Rooted, rooted}
use Rattle.root_spec.proofs.RootOf.{root_low, root_high}
use Rattle.root_spec.proofs.Halfway.{Rounded, halfway}
use Rattle.root_spec.proofs.Patterns.{Keeps, pattern, twice_hid, units_hold}
use Rattle.root_spec.proofs.Values.{cut_digits, highest, decompose, step_up, next_is, largest_lt, largest_keeps, largest_holds, below_next}

-- ---- squares
pub square_le : (den a b : ℕ) → a ≤ b → a * a * den ≤ b * b * den
square_le den a b h = mul-le-mul_right den (mul-le-mul h h)

pub square_lt : (den a b : ℕ) → 0 < den → a < b → a * a * den < b * b * den
square_lt den a b D h = mul-lt-mul_of_pos_right (lt_of_le_of_lt (mul-le-mul_left a (le_of_lt h)) (mul-lt-mul_of_pos_right h (omega arith))) D

pub square_up : (den a b : ℕ) → 0 < den → a * a * den ≤ b * b * den → a ≤ b
square_up den a b D h = elim (dec_le a b) [ yes x ↦ x | no x ↦ absurd (lt_irrefl (b * b * den) (lt_of_lt_of_le (square_lt den b a D (lt_of_not-le x)) h)) ]

in_units : (den s k : ℕ) → s * s * (den * 4 ^ k) ≡ s * 2 ^ k * (s * 2 ^ k) * den
in_units den s k = ap (λ (x : ℕ). s * s * x) (mul_comm den (4 ^ k)) ∙ sym (mul_assoc (s * s) (4 ^ k) den) ∙ ap (λ (x : ℕ). x * den) (scaled s k)

pub even_bits : (f : Format) (c k : ℕ) → c % 2 ≡ 0 → (k * hid f + c) % 2 ≡ 0
even_bits f c k e =
    let P = two f in
    let i : prec f - 1 ≡ suc (prec f - 2) = omega arith in
    let h : k * hid f ≡ 2 * (k * 2 ^ (prec f - 2)) = ap (λ (x : ℕ). k * x) (ap (λ (x : ℕ). 2 ^ x) i ∙ pow-succ' 2 (prec f - 2)) ∙ mul_left_comm k 2 (2 ^ (prec f - 2)) in
    omega arith

-- ---- c * 2 ^ k units beside any other value, m * 2 ^ j
module _ (f : Format) (num den q c k : ℕ) (D : 0 < den) (keeps : Keeps (prec f) q k) (most : c ≤ 2 ^ prec f) (r : Rounded (num * 4 ^ low f) (den * 4 ^ k) q c) where
  kept : Keeps (prec f) c k
  kept = elim keeps [ inl z ↦ inl z | inr h ↦ inr (le_trans h r.from) ]

  far : (m j : ℕ) → m ≤ 2 ^ prec f → c * 2 ^ k < m * 2 ^ j → (c + (c + 1)) * 2 ^ k ≤ c * 2 ^ k + m * 2 ^ j
  far m j h l = omega (arith, add-mul c (c + 1) (2 ^ k), step_up (prec f) c k m j (two f) kept h l)

  under : (m j : ℕ) → m ≤ 2 ^ prec f → m * 2 ^ j < c * 2 ^ k → m * 2 ^ j ≤ q * 2 ^ k
  under m j h l = elim (dec_le (m * 2 ^ j) (q * 2 ^ k)) [
    | yes x ↦ x
    | no x ↦ absurd (lt_irrefl (m * 2 ^ j) (lt_of_lt_of_le l (le_trans (mul-le-mul_right (2 ^ k) r.to) (step_up (prec f) q k m j (two f) keeps h (lt_of_not-le x)))))
  ]

  near : (m j : ℕ) → m ≤ 2 ^ prec f → m * 2 ^ j < c * 2 ^ k → c * 2 ^ k + m * 2 ^ j ≤ (c + q) * 2 ^ k
  near m j h l = omega (arith, add-mul c q (2 ^ k), under m j h l)

  high : twice_root_squared f num ≤ (c + (c + 1)) * 2 ^ k * ((c + (c + 1)) * 2 ^ k) * den
  high = le_trans r.most (le_of_eq (in_units den (c + (c + 1)) k))

  least : (c + q) * 2 ^ k * ((c + q) * 2 ^ k) * den ≤ twice_root_squared f num
  least = le_trans (le_of_eq (sym (in_units den (c + q) k))) r.least

  above : (m j : ℕ) → m ≤ 2 ^ prec f → c * 2 ^ k < m * 2 ^ j → twice_root_squared f num ≤ sum_squared den (c * 2 ^ k) (m * 2 ^ j)
  above m j h l = le_trans high (square_le den _ _ (far m j h l))

  below : (m j : ℕ) → m ≤ 2 ^ prec f → m * 2 ^ j < c * 2 ^ k → sum_squared den (c * 2 ^ k) (m * 2 ^ j) ≤ twice_root_squared f num
  below m j h l = le_trans (square_le den _ _ (near m j h l)) least

  even_above : (m j : ℕ) → m ≤ 2 ^ prec f → c * 2 ^ k < m * 2 ^ j → twice_root_squared f num ≡ sum_squared den (c * 2 ^ k) (m * 2 ^ j) → c % 2 ≡ 0
  even_above m j h l t = r.even_high (le_antisymm r.most (le_trans (le_of_eq (in_units den (c + (c + 1)) k)) (le_trans (square_le den _ _ (far m j h l)) (le_of_eq (sym t)))))

  even_below : (m j : ℕ) → m ≤ 2 ^ prec f → m * 2 ^ j < c * 2 ^ k → twice_root_squared f num ≡ sum_squared den (c * 2 ^ k) (m * 2 ^ j) → c % 2 ≡ 0
  even_below m j h l t = r.even_low moved (le_antisymm (le_trans (le_of_eq t) (le_trans (square_le den _ _ (near m j h l)) (le_of_eq (sym (in_units den (c + q) k))))) r.least)
    where
      -- c is not q: with another value below q * 2 ^ k the root would be above the middle
      moved : c ≡ q + 1
      moved = elim (eq-or-lt_of_le r.from) [
        | inl e ↦ absurd (lt_irrefl (twice_root_squared f num) (lt_of_le_of_lt (le_of_eq t) (lt_of_lt_of_le (square_lt den _ _ D (omega (arith, l, add-mul c q (2 ^ k), ap (λ (x : ℕ). x * 2 ^ k) e))) least)))
        | inr h ↦ le_antisymm r.to (let i : q + 1 ≤ c = omega arith in i)
      ]

  even_at : (m j : ℕ) → m ≤ 2 ^ prec f → (m * 2 ^ j ≡ c * 2 ^ k → ⊥) → twice_root_squared f num ≡ sum_squared den (c * 2 ^ k) (m * 2 ^ j) → c % 2 ≡ 0
  even_at m j h ne t = elim (dec_le (m * 2 ^ j) (c * 2 ^ k)) [ yes l ↦ even_below m j h (lt_of_le-ne l ne) t | no l ↦ even_above m j h (lt_of_not-le l) t ]

  bits : (v : Float) → HasValue v false (c * 2 ^ k) (2 ^ low f) → to_bits f v ≡ k * hid f + c
  bits v h = pattern f v c k h kept most

  -- 2 ^ (emax + 1) or more: the root is at or above the middle of the largest value and that
  pub too_large : past_largest f ≤ c * 2 ^ k → sum_squared den (largest f) (past_largest f) ≤ twice_root_squared f num
  too_large g =
      let l = largest_lt f in
      le_trans (square_le den (largest f + past_largest f) (c * 2 ^ k + largest f) (omega arith)) (below (2 ^ prec f - 1) (highest f) (omega arith) (lt_of_lt_of_le l g))

  -- less: the root is below that middle. Where it were at the middle, c would be the largest value's significand, which is odd
  pub small_enough : c * 2 ^ k < past_largest f → sum_squared den (largest f) (past_largest f) ≤ twice_root_squared f num → ⊥
  small_enough l o =
      let j = highest f in
      let m = 2 ^ prec f - 1 in
      let z : past_largest f ≡ 2 ^ prec f * 2 ^ j = next_is f in
      let g : c * 2 ^ k < 2 ^ prec f * 2 ^ j = lt_of_lt_of_le l (le_of_eq z) in
      let a : twice_root_squared f num ≤ sum_squared den (c * 2 ^ k) (past_largest f) = rw z (above (2 ^ prec f) j (le_refl (2 ^ prec f)) g) in
      let u : largest f + past_largest f ≤ c * 2 ^ k + past_largest f = square_up den (largest f + past_largest f) (c * 2 ^ k + past_largest f) D (le_trans o a) in
      let e : c * 2 ^ k ≡ m * 2 ^ j = le_antisymm (below_next f c k most l) (omega arith) in
      let t : twice_root_squared f num ≡ sum_squared den (c * 2 ^ k) (past_largest f) = le_antisymm a (le_trans (le_of_eq (ap (λ (x : ℕ). sum_squared den x (past_largest f)) e)) o) in
      let v = (largest_holds f).1 in
      let w = subst (λ (x : ℕ). HasValue (units f false m j) false x (2 ^ low f)) (sym e) v in
      odd_bits (2 ^ prec f) (hid f) (k * hid f + c) (j * hid f)
      (even_bits f c k (even_above (2 ^ prec f) j (le_refl (2 ^ prec f)) g (rw z at t)))
      (ap (λ (x : ℕ). x % 2) (sym (add-zero (j * hid f))) ∙ even_bits f 0 j refl)
      (twice_hid (prec f) (two f))
      (pow_pos (prec f))
      (sym (bits (units f false m j) w) ∙ pattern f (units f false m j) m j v (largest_keeps f) (omega arith))
    where
      odd_bits : (t h a b : ℕ) → a % 2 ≡ 0 → b % 2 ≡ 0 → t ≡ 2 * h → 0 < t → a ≡ b + (t - 1) → ⊥
      odd_bits t h a b x y e g i = omega arith

  pub units_nearest : c * 2 ^ k < past_largest f → NearestRoot f num den (units f false c k)
  units_nearest l =
      let H = units_hold f c k most l in
      record {
        value = c * 2 ^ k;
        holds = H;
        above = λ y Y h g. let d = decompose f y Y h in rw d.is (above d.c d.k (le_of_lt d.digits) (rw d.is at g));
        below = λ y Y h g. let d = decompose f y Y h in rw d.is (below d.c d.k (le_of_lt d.digits) (rw d.is at g));
        even = λ y Y h ne t.
            let d = decompose f y Y h in
            ap (λ (x : ℕ). x % 2) (bits (units f false c k) H.1) ∙ even_bits f c k (even_at d.c d.k (le_of_lt d.digits) (λ e. ne (d.is ∙ e)) (rw d.is at t));
      }

-- ---- what `root_of` keeps: q of prec digits, or no digit dropped
pub record Kept (f : Format) (num den : ℕ) : Type 0 where
  pub q : ℕ
  pub c : ℕ
  pub k : ℕ
  pub keeps : Keeps (prec f) q k
  pub most : c ≤ 2 ^ prec f
  pub rounded : Rounded (num * 4 ^ low f) (den * 4 ^ k) q c
  pub is : root_of f num den ≡ units f false c k

pub keep : (f : Format) (num den : ℕ) → 0 < den → Kept f num den
unfolding root_of
keep f num den D =
    let n = num * 4 ^ low f in
    let w = n / den in
    let k = size (isqrt w) - prec f in
    let u = den * 4 ^ k in
    let q = isqrt (n / u) in
    let r : Rooted (w / 4 ^ k) q = subst (λ (x : ℕ). Rooted x q) (sym (div-div-eq-div-mul n den (4 ^ k))) (rooted (n / u)) in
    let s = cut_digits (prec f) (isqrt w) q (two f) (root_low w k q r) (root_high w k q r) in
    record {
      q = q;
      c = nearest q (compare (4 * n) ((2 * q + 1) * (2 * q + 1) * u));
      k = k;
      keeps = s.0;
      most = le_trans (nearest-le q (compare (4 * n) ((2 * q + 1) * (2 * q + 1) * u))) s.1;
      rounded = halfway n u q (mul-pos D (four_pos k)) (rooted (n / u));
      is = refl;
    }
