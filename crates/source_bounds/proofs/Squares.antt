-- The margin of the test on squares is enough for its five roundings. Assumes nothing.
-- In units of the smallest double, S to one: D and Y are the two sides, A and B their squares and Z the sum as computed. Where Z times 1 - 2^-41, as computed, is at least the
-- computed square of L, the exact square of L is at most that of the hypotenuse; and the same of U from above. Each rounding is off by at most 6 parts in some 2 ^ 54, four of
-- them one after the other by 27 at most, and 27 parts in 2 ^ 54 are less than one in 2 ^ 41.
use Prim.Native.Nat.{ℕ, ◌+◌, ◌*◌, ◌≤◌, ◌<◌}
use mathlib.Core.Path.{◌≡◌, sym, ap, ◌∙◌, subst}
use native.Mathlib.Nat.{le_refl, le_trans, le_of_eq, mul_assoc, mul_comm, mul-one, mul_right_comm, mul-le-mul_left, le_of_mul-le-mul_right}
use native.Mathlib.Omega.{arith}
use Rattle.float_bounds.proofs.RoundingError.{NearFraction}
use Rattle.source_bounds.proofs.Parts.{Over, over_trans, over_times, P, N, half, double, rise, fall, rise_sum, fall_sum}

-- 2 ^ 41, one less and one more
abbrev pub M : ℕ
M = 0x200_0000_0000

abbrev pub less : ℕ
less = 0x1ff_ffff_ffff

abbrev pub more : ℕ
more = 0x200_0000_0001

-- what is large enough
sum_large : (Z n : ℕ) → 4 * P + 2 ≤ Z → Z * 1 ≤ 2 * n + 1 → 2 * P ≤ n
sum_large Z n h k = omega arith

less_large : (Z q : ℕ) → 4 * P + 2 ≤ Z → Z * less ≤ 2 * (q * M) + M → P ≤ q
less_large Z q h k = omega arith

more_large : (Z r : ℕ) → 4 * P + 2 ≤ Z → Z * more ≤ 2 * (r * M) + M → P ≤ r
more_large Z r h k = omega arith

large : (Z : ℕ) → 4 * P + 2 ≤ Z → P ≤ Z
large Z h = omega arith

-- four in a row
four : (v w x y z : ℕ) → Over N 6 v w → Over N 6 w x → Over N 6 x y → Over N 6 y z → Over N 27 v z
four v w x y z a b c d =
    over_trans N 20 6 v y z (omega arith) (omega arith) (over_trans N 13 6 v x y (omega arith) (omega arith) (over_trans N 6 6 v w x (omega arith) (omega arith) a b) c) d

-- the margin takes in 27 parts
margin : (x y j k : ℕ) → Over N 27 (x * j) (y * k) → k * (N + 27) ≤ j * N → 0 < j * N → x ≤ y
margin x y j k h l p =
    le_of_mul-le-mul_right
    (le_trans (le_of_eq (sym (mul_assoc x j N))) (le_trans h (le_trans (le_of_eq (mul_assoc y k (N + 27))) (mul-le-mul_left y l))))
    p

module _ (S D Y A B Z : ℕ) (a : NearFraction P (D * D) S A) (b : NearFraction P (Y * Y) S B) (z : NearFraction P (A + B) 1 Z) (big : 4 * P + 2 ≤ Z) where
  both_large : 2 * P ≤ A + B
  both_large = sum_large Z (A + B) big (double (A + B) 1 Z z)

  pub at_least : (L p q : ℕ) → NearFraction P (L * L) S p → NearFraction P (Z * less) M q → p ≤ q → L * L ≤ D * D + Y * Y
  at_least L p q l k i =
      let Q = less_large Z q big (half (Z * less) M q k) in
      let o1 : Over N 6 (L * L * M) (q * S * M) = over_times N 6 (L * L) (q * S) M (fall (L * L) S p l q i Q) in
      let o2 : Over N 6 (q * S * M) (Z * less * S) = subst (λ (x : ℕ). Over N 6 x (Z * less * S)) (mul_right_comm q M S) (over_times N 6 (q * M) (Z * less) S (rise (Z * less) M q k Q)) in
      let e3 : Z * 1 * (less * S) ≡ Z * less * S = ap (λ (x : ℕ). x * (less * S)) (mul-one Z) ∙ sym (mul_assoc Z less S) in
      let f3 : (A + B) * (less * S) ≡ (A + B) * S * less = ap (λ (x : ℕ). (A + B) * x) (mul_comm less S) ∙ sym (mul_assoc (A + B) S less) in
      let o3 : Over N 6 (Z * 1 * (less * S)) ((A + B) * (less * S)) = over_times N 6 (Z * 1) (A + B) (less * S) (rise (A + B) 1 Z z (large Z big)) in
      let p3 : Over N 6 (Z * less * S) ((A + B) * S * less) = subst (λ (x : ℕ). Over N 6 x ((A + B) * S * less)) e3 (subst (Over N 6 (Z * 1 * (less * S))) f3 o3) in
      let o4 : Over N 6 ((A + B) * S * less) ((D * D + Y * Y) * less) = over_times N 6 ((A + B) * S) (D * D + Y * Y) less (rise_sum (D * D) (Y * Y) S A B a b both_large) in
      margin (L * L) (D * D + Y * Y) M less (four (L * L * M) (q * S * M) (Z * less * S) ((A + B) * S * less) ((D * D + Y * Y) * less) o1 o2 p3 o4) (omega arith) (omega arith)

  pub at_most : (U v r : ℕ) → NearFraction P (U * U) S v → NearFraction P (Z * more) M r → r ≤ v → D * D + Y * Y ≤ U * U
  at_most U v r u k i =
      let R = more_large Z r big (half (Z * more) M r k) in
      let W = le_trans R i in
      let o1 : Over N 6 ((D * D + Y * Y) * more) ((A + B) * S * more) = over_times N 6 (D * D + Y * Y) ((A + B) * S) more (fall_sum (D * D) (Y * Y) S A B a b both_large) in
      let e2 : (A + B) * (more * S) ≡ (A + B) * S * more = ap (λ (x : ℕ). (A + B) * x) (mul_comm more S) ∙ sym (mul_assoc (A + B) S more) in
      let f2 : Z * 1 * (more * S) ≡ Z * more * S = ap (λ (x : ℕ). x * (more * S)) (mul-one Z) ∙ sym (mul_assoc Z more S) in
      let o2 : Over N 6 ((A + B) * (more * S)) (Z * 1 * (more * S)) = over_times N 6 (A + B) (Z * 1) (more * S) (fall (A + B) 1 Z z Z (le_refl Z) (large Z big)) in
      let p2 : Over N 6 ((A + B) * S * more) (Z * more * S) = subst (λ (x : ℕ). Over N 6 x (Z * more * S)) e2 (subst (Over N 6 ((A + B) * (more * S))) f2 o2) in
      let o3 : Over N 6 (Z * more * S) (v * S * M) = subst (Over N 6 (Z * more * S)) (mul_right_comm v M S) (over_times N 6 (Z * more) (v * M) S (fall (Z * more) M r k v i W)) in
      let o4 : Over N 6 (v * S * M) (U * U * M) = over_times N 6 (v * S) (U * U) M (rise (U * U) S v u W) in
      margin (D * D + Y * Y) (U * U) more M (four ((D * D + Y * Y) * more) ((A + B) * S * more) (Z * more * S) (v * S * M) (U * U * M) o1 p2 o3 o4) (omega arith) (omega arith)
