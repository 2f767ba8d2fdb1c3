-- A double whose square is at most x² + y² is at most their hypotenuse as it is rounded, and one whose square is at least that is at least the hypotenuse. Assumes nothing.
-- The hypotenuse is the nearest double: were it below such an L, the root would be at most the middle of the two, which is below L.
use Prim.Native.Nat.{ℕ, ◌+◌, ◌*◌, ◌^◌, ◌≤◌, ◌<◌}
use mathlib.Core.Bool.{Bool}
use mathlib.Core.Path.{◌≡◌, sym, ap, ◌∙◌}
use native.Mathlib.Decide.{dec_le}
use native.Mathlib.Nat.{le_trans, le_of_eq, lt_of_lt_of_le, lt_of_le_of_lt, lt_irrefl, lt_of_not-le, mul-pos, mul-le-mul_left, mul-le-mul_right}
use native.Mathlib.Omega.{arith}
use lib.Dec.{T}
use lib.Pow.{pow_pos}
use lib.Ieee.{Float, Format, low, le}
use lib.Ieee.Exact.{HasValue}
use lib.Ieee.Order.{le_of_values}
use Rattle.nat_laws.proofs.Power.{four}
use Rattle.root_spec.specs.Root.{hypot_of}
use Rattle.root_spec.specs.Nearest.{HoldsValue, twice_root_squared, sum_squared, NearestRoot, largest, past_largest}
use Rattle.root_spec.proofs.Halfway.{doubled}
use Rattle.root_spec.proofs.Values.{largest_lt, at_most_largest}
use Rattle.root_spec.proofs.Neighbours.{square_lt}
use Rattle.root_spec.proofs.Correct.{hypot_nearest}

module _ (f : Format) (x y : Float) (s t : Bool) (a b : ℕ) (v : HasValue x s a (2 ^ low f)) (w : HasValue y t b (2 ^ low f)) (u : Float) (U : ℕ) (held : HoldsValue f u U) (above : a * a + b * b ≤ U * U) where
  abbrev S : ℕ
  S = 2 ^ low f

  abbrev squares : ℕ
  squares = a * a + b * b

  abbrev hypot : Float
  hypot = hypot_of f x y

  S_pos : 0 < S
  S_pos = pow_pos (low f)

  SS-pos : 0 < S * S
  SS-pos = mul-pos S_pos S_pos

  -- twice X, squared
  twice : (X : ℕ) → sum_squared (S * S) X X ≡ 4 * (X * X * 4 ^ low f)
  twice X = doubled X (S * S) ∙ ap (λ (z : ℕ). 4 * (X * X * z)) (sym (four (low f)))

  scaled : (m n : ℕ) → m ≤ n → 4 * (m * 4 ^ low f) ≤ 4 * (n * 4 ^ low f)
  scaled m n h = mul-le-mul_left 4 (mul-le-mul_right (4 ^ low f) h)

  upto : twice_root_squared f squares ≤ sum_squared (S * S) U U
  upto = le_trans (scaled squares (U * U) above) (le_of_eq (sym (twice U)))

  no_overflow : twice_root_squared f squares < sum_squared (S * S) (largest f) (past_largest f)
  no_overflow =
      let i : U + U < largest f + past_largest f = omega (arith, at_most_largest f u U held, largest_lt f) in
      lt_of_le_of_lt upto (square_lt (S * S) (U + U) (largest f + past_largest f) SS-pos i)

  root : NearestRoot f squares (S * S) hypot
  root = hypot_nearest f x y s t a b S S_pos v w no_overflow

  value_upto : root.value ≤ U
  value_upto = elim (dec_le root.value U) [
    | yes h ↦ h
    | no h ↦
        let l = lt_of_not-le h in
        let i : U + U < root.value + U = omega arith in
        absurd (lt_irrefl (sum_squared (S * S) U U) (lt_of_lt_of_le (square_lt (S * S) (U + U) (root.value + U) SS-pos i) (le_trans (root.below u U held l) upto)))
  ]

  value_from : (l : Float) (L : ℕ) → HoldsValue f l L → L * L ≤ squares → L ≤ root.value
  value_from l L hold k = elim (dec_le L root.value) [
    | yes h ↦ h
    | no h ↦
        let j = lt_of_not-le h in
        let i : root.value + L < L + L = omega arith in
        absurd (lt_irrefl (sum_squared (S * S) L L)
        (lt_of_le_of_lt (le_trans (le_of_eq (twice L)) (le_trans (scaled (L * L) squares k) (root.above l L hold j))) (square_lt (S * S) (root.value + L) (L + L) SS-pos i)))
  ]

  pub hypot_upto : T (le hypot u)
  hypot_upto = le_of_values hypot u root.value S U S S_pos S_pos root.holds.1 held.1 (mul-le-mul_right S value_upto)

  pub hypot_from : (l : Float) (L : ℕ) → HoldsValue f l L → L * L ≤ squares → T (le l hypot)
  hypot_from l L hold k = le_of_values l hypot L S root.value S S_pos S_pos hold.1 root.holds.1 (mul-le-mul_right S (value_from l L hold k))
