-- The middle of two floats, as computed, lies where both of them lie. Assumes nothing.
--     middle_above (lo ≤ x, lo ≤ y give lo ≤ (x + y) / 2, where lo + lo is finite), middle_below
use Prim.Native.Nat.{ℕ, suc, ◌+◌, ◌*◌, ◌^◌, ◌<◌}
use mathlib.Core.Bool.{Bool, true, false}
use mathlib.Core.Path.{◌≡◌, refl, sym, ap, ◌∙◌, subst}
use native.Mathlib.Decide.{dec_le}
use native.Mathlib.Nat.{le_trans, le_of_eq, lt_of_not-le, mul-pos, mul-one, mul_comm, mul_assoc, mul_right_comm, pow-suc, two-mul}
use lib.Dec.{T, lit<}
use lib.IntN.{ℤ, pos}
use lib.Ieee.{Float, nan, inf, fin, Format, binary32, binary64, low, emax, up, down, round, sum, add, div, neg, le, fits, is_nan, of_bits}
use lib.Ieee.Exact.{HasValue, round_exact}
use lib.Ieee.Fits.{down_pos}
use lib.Ieee.Order.{round_mono}
use lib.Ieee.Scale.{finite, round_same}
use Rattle.nat_laws.proofs.Ring.{ring}
use Rattle.root_spec.proofs.Units.{fits_in, grid, grid_lt}
use Rattle.float64.specs.Scalar.{two}
use Rattle.float_laws.proofs.Signed.{SLe, signed, signed_up, signed_down}
use Rattle.float_laws.proofs.Order as order
use Rattle.float_laws.proofs.Order.{finite_number, le_number_l, le_number_r, neg_neg, neg_finite}
use Rattle.float_laws.proofs.Round.{round_not, round_own, round_signed}
use Rattle.float_laws.proofs.Sum.{add_mono}
use Rattle.float_monotone.proofs.HypotOrder.{below_infinity, above_infinity}

-- ---- twice a value of the format, exactly, unless that is infinite
infinite : (f : Format) → round f false (2 ^ suc (emax f)) 1 ≡ inf false
unfolding round
infinite binary32 = refl
infinite binary64 = refl

regroup : (x c : ℕ) → (x * c + x * c) * c ≡ 2 * x * (c * c)
regroup x c = simp (two-mul, ring) refl

twice_is : (f : Format) (s : Bool) (m : ℕ) (e : ℤ) → add f (fin s m e) (fin s m e) ≡ round f s (2 * (m * up e)) (down e)
unfolding add sum
twice_is f false m e = round_same f false (m * up e * down e + m * up e * down e) (down e * down e) (2 * (m * up e)) (down e) (mul-pos (down_pos e) (down_pos e)) (down_pos e) (regroup (m * up e) (down e))
twice_is f true m e = round_same f true (m * up e * down e + m * up e * down e) (down e * down e) (2 * (m * up e)) (down e) (mul-pos (down_pos e) (down_pos e)) (down_pos e) (regroup (m * up e) (down e))

finite_either : (f : Format) (s : Bool) (a c : ℕ) → T (finite (round f s a c)) → T (finite (round f false a c))
finite_either f false a c h = h
finite_either f true a c h = subst (λ (x : Float). T (finite x)) (ap neg (round_not f false a c) ∙ neg_neg (round f false a c)) (neg_finite (round f true a c) h)

finite_not_above : (x : Float) → T (finite x) → T (le x (inf true)) → ⊥
unfolding le
finite_not_above nan g h = g
finite_not_above (inf t) g h = g
finite_not_above (fin t n d) g h = h

finite_not_below : (x : Float) → T (finite x) → T (le (inf false) x) → ⊥
unfolding le
finite_not_below nan g h = g
finite_not_below (inf t) g h = g
finite_not_below (fin t n d) g h = h

no_overflow : (f : Format) (s : Bool) (a c : ℕ) → 0 < c → T (finite (round f s a c)) → a < 2 ^ suc (emax f) * c
no_overflow f s a c C h = elim (dec_le (2 ^ suc (emax f) * c) a) [
  | yes k ↦
      let i = subst (λ (x : Float). T (le x (round f false a c))) (infinite f) (round_mono f (2 ^ suc (emax f)) 1 a c (lit< tt) C (le_trans k (le_of_eq (sym (mul-one a))))) in
      absurd (finite_not_below (round f false a c) (finite_either f s a c h) i)
  | no k ↦ lt_of_not-le k
]

twice_exact : (f : Format) (s : Bool) (m : ℕ) (e : ℤ) → T (fits f (fin s m e)) → T (finite (add f (fin s m e) (fin s m e))) → HasValue (add f (fin s m e) (fin s m e)) s (2 * (m * up e)) (down e)
twice_exact f s m e p h =
    let F = fits_in f s m e p in
    let g = grid f m e F.deep in
    let u = no_overflow f s (2 * (m * up e)) (down e) (down_pos e) (subst (λ (x : Float). T (finite x)) (twice_is f s m e) h) in
    let j = suc g.j in
    let is : m * 2 ^ j ≡ m * 2 ^ g.j * 2 = ap (λ (x : ℕ). m * x) (pow-suc 2 g.j) ∙ sym (mul_assoc m (2 ^ g.j) 2) in
    subst (λ (x : Float). HasValue x s (2 * (m * up e)) (down e)) (sym (twice_is f s m e))
    (round_exact f s (2 * (m * up e)) (down e) m j (down_pos e) F.few
    (subst (λ (x : ℕ). x < 2 ^ (low f + suc (emax f))) (sym is) (grid_lt f m e g 2 (subst (λ (x : ℕ). x < 2 ^ suc (emax f) * down e) (mul_comm 2 (m * up e)) u)))
    (mul_assoc 2 (m * up e) (2 ^ low f) ∙ ap (λ (x : ℕ). 2 * x) g.is ∙ sym (ap (λ (x : ℕ). x * down e) is ∙ doubled (m * 2 ^ g.j) (down e))))
  where
    doubled : (x c : ℕ) → x * 2 * c ≡ 2 * (x * c)
    doubled x c = simp ring refl

-- ---- half of a value
two_is : two ≡ fin false 1 (pos 1)
unfolding of_bits
two_is = refl

half_is : (f : Format) (s : Bool) (m : ℕ) (e : ℤ) → div f (fin s m e) two ≡ round f s (m * up e) (2 * down e)
unfolding div
half_is f s m e = ap (div f (fin s m e)) two_is ∙ positive s
  where
    positive : (t : Bool) → div f (fin t m e) (fin false 1 (pos 1)) ≡ round f t (m * up e) (2 * down e)
    positive true = ap (λ (x : ℕ). round f true x (2 * down e)) (mul-one (m * up e))
    positive false = ap (λ (x : ℕ). round f false x (2 * down e)) (mul-one (m * up e))

-- ---- a value beside a fraction
module _ (s : Bool) (a c : ℕ) (t : Bool) (n : ℕ) (d : ℤ) where
  cross : (m : ℕ) (e : ℤ) → m * up e * c ≡ a * down e → m * up e * down d * c ≡ a * down d * down e
  cross m e v = mul_right_comm (m * up e) (down d) c ∙ ap (λ (z : ℕ). z * down d) v ∙ mul_right_comm a (down e) (down d)

  fraction_le : (x : Float) → HasValue x s a c → T (le x (fin t n d)) → SLe s (a * down d) t (n * up d * c)
  unfolding le
  fraction_le nan v h = absurd v
  fraction_le (inf r) v h = absurd v
  fraction_le (fin r m e) v h =
      let i = subst (λ (b : Bool). SLe b (m * up e * down d) t (n * up d * down e)) v.0 (signed r (m * up e * down d) t (n * up d * down e) h) in
      let j = signed_up s t (m * up e * down d) (n * up d * down e) c i in
      signed_down s t (a * down d) (n * up d * c) (down e) (down_pos e)
      (subst (λ (z : ℕ). SLe s z t (n * up d * c * down e)) (cross m e v.1) (subst (λ (z : ℕ). SLe s (m * up e * down d * c) t z) (mul_right_comm (n * up d) (down e) c) j))

  le_fraction : (x : Float) → HasValue x s a c → T (le (fin t n d) x) → SLe t (n * up d * c) s (a * down d)
  unfolding le
  le_fraction nan v h = absurd v
  le_fraction (inf r) v h = absurd v
  le_fraction (fin r m e) v h =
      let i = subst (λ (b : Bool). SLe t (n * up d * down e) b (m * up e * down d)) v.0 (signed t (n * up d * down e) r (m * up e * down d) h) in
      let j = signed_up t s (n * up d * down e) (m * up e * down d) c i in
      signed_down t s (n * up d * c) (a * down d) (down e) (down_pos e)
      (subst (λ (z : ℕ). SLe t z s (a * down d * down e)) (mul_right_comm (n * up d) (down e) c) (subst (λ (z : ℕ). SLe t (n * up d * down e * c) s z) (cross m e v.1) j))

-- ---- half of what lies above twice a value lies above it
infinite_half : (f : Format) (s : Bool) → div f (inf s) two ≡ inf s
unfolding div
infinite_half f true = ap (div f (inf true)) two_is
infinite_half f false = ap (div f (inf false)) two_is

halves : (x c : ℕ) → 2 * x * c ≡ x * (2 * c)
halves x c = simp ring refl

module _ (f : Format) (s : Bool) (m : ℕ) (e : ℤ) (p : T (fits f (fin s m e))) (g : T (finite (add f (fin s m e) (fin s m e)))) where
  abbrev twice : Float
  twice = add f (fin s m e) (fin s m e)

  half_above : (x : Float) → T (le twice x) → T (le (fin s m e) (div f x two))
  unfolding is_nan
  half_above nan h = absurd (le_number_r twice nan h)
  half_above (inf true) h = absurd (finite_not_above twice g h)
  half_above (inf false) h = rw (infinite_half f false) (below_infinity (fin s m e) (finite_number (fin s m e) tt))
  half_above (fin t n d) h =
      let i = fraction_le s (2 * (m * up e)) (down e) t n d twice (twice_exact f s m e p g) h in
      rw (half_is f t n d)
      (order.le_trans (fin s m e) (round f s (m * up e) (down e)) (round f t (n * up d) (2 * down d)) (round_own f s m e (fits_in f s m e p)).0
      (round_signed f s t (m * up e) (n * up d) (down e) (2 * down d) (down_pos e) (mul-pos (lit< tt) (down_pos d)) (subst (λ (z : ℕ). SLe s z t (n * up d * down e)) (halves (m * up e) (down d)) i)))

  half_below : (x : Float) → T (le x twice) → T (le (div f x two) (fin s m e))
  unfolding is_nan
  half_below nan h = absurd (le_number_l nan twice h)
  half_below (inf true) h = rw (infinite_half f true) (above_infinity (fin s m e) (finite_number (fin s m e) tt))
  half_below (inf false) h = absurd (finite_not_below twice g h)
  half_below (fin t n d) h =
      let i = le_fraction s (2 * (m * up e)) (down e) t n d twice (twice_exact f s m e p g) h in
      rw (half_is f t n d)
      (order.le_trans (round f t (n * up d) (2 * down d)) (round f s (m * up e) (down e)) (fin s m e)
      (round_signed f t s (n * up d) (m * up e) (2 * down d) (down e) (mul-pos (lit< tt) (down_pos d)) (down_pos e) (subst (λ (z : ℕ). SLe t (n * up d * down e) s z) (halves (m * up e) (down d)) i))
      (round_own f s m e (fits_in f s m e p)).1)

-- ---- the middle
module _ (f : Format) (x y : Float) (X : T (finite x)) (Y : T (finite y)) where
  pub middle_above : (lo : Float) → T (finite lo) → T (fits f lo) → T (finite (add f lo lo)) → T (le lo x) → T (le lo y) → T (le lo (div f (add f x y) two))
  middle_above nan L p g h k = absurd L
  middle_above (inf s) L p g h k = absurd L
  middle_above (fin s m e) L p g h k = half_above f s m e p g (add f x y) (add_mono f (fin s m e) x (fin s m e) y L X L Y h k)

  pub middle_below : (hi : Float) → T (finite hi) → T (fits f hi) → T (finite (add f hi hi)) → T (le x hi) → T (le y hi) → T (le (div f (add f x y) two) hi)
  middle_below nan L p g h k = absurd L
  middle_below (inf s) L p g h k = absurd L
  middle_below (fin s m e) L p g h k = half_below f s m e p g (add f x y) (add_mono f x (fin s m e) y (fin s m e) X L Y L h k)
