-- The pattern of a single from the fields of the double's. Assumes nothing.
use Prim.Native.Nat.{ℕ, ◌+◌, ◌-◌, ◌*◌, ◌/◌, ◌%◌, ◌^◌, ◌≤◌, ◌<◌}
use native.Mathlib.Nat.{lt_of_lt_of_le, mod-eq_of_lt, div-one}
use native.Mathlib.Omega.{arith}
use mathlib.Core.Path.{◌≡◌, sym, ap, ◌∙◌}
use lib.Pow.{pow_mono}
use lib.Ieee.{Float, binary32, binary64, size, to_bits}
use lib.Ieee.Digits.{size-lt, size-le}
use Rattle.single.proofs.Patterns.{Shape, null, some, lead, lead_low, lead_high, digits_some, shifted, leading}

-- the fields of a double's pattern
fields : (σ S Q b : ℕ) → σ ≤ 1 → S ≤ 277 → 4503599627370496 ≤ Q → Q < 9007199254740992 → b ≡ 9223372036854775808 * σ + (S + 872) * 4503599627370496 + Q
    → (b / 9223372036854775808 ≡ σ) × ((b % 9223372036854775808 / 4503599627370496 ≡ S + 873) × (4503599627370496 + b % 4503599627370496 ≡ Q))
fields σ S Q b l m lo hi e =
    let f : ℕ = S + 873 in
    let d : ℕ = Q - 4503599627370496 in
    let g : b ≡ 9223372036854775808 * σ + (f * 4503599627370496 + d) = omega arith in
    (omega arith, (omega arith, omega arith))

null_fields : (σ b : ℕ) → σ ≤ 1 → b ≡ 9223372036854775808 * σ → (b / 9223372036854775808 ≡ σ) × (b % 9223372036854775808 / 4503599627370496 ≡ 0)
null_fields σ b l e = (omega arith, omega arith)

module _ (x : Float) (b : ℕ) (e : b ≡ to_bits binary64 x) where
  private_fields : (σ N : ℕ) → σ ≤ 1 → (P : 0 < N) → N < 2 ^ 277 → to_bits binary64 x ≡ 2 ^ 63 * σ + (size N + 872) * 2 ^ 52 + N * 2 ^ 53 / 2 ^ size N
      → (b / 9223372036854775808 ≡ σ) × ((b % 9223372036854775808 / 4503599627370496 ≡ size N + 873) × (4503599627370496 + b % 4503599627370496 ≡ lead N P))
  private_fields σ N l P few d = fields σ (size N) (lead N P) b l (size-le N 277 few) (lead_low N P) (lead_high N P) (e ∙ d)

  pub none_below : Shape x → b % 9223372036854775808 / 4503599627370496 < 874 → 2147483648 * (b / 9223372036854775808) ≡ to_bits binary32 x
  none_below (null σ l d c) h = ap (λ (z : ℕ). 2147483648 * z) (null_fields σ b l (e ∙ d)).0 ∙ sym c
  none_below (some σ N l P few d c) h = absurd (impossible (size N) _ (private_fields σ N l P few d).1.0 (digits_some N P) h)
    where
      impossible : (S f : ℕ) → f ≡ S + 873 → 0 < S → f < 874 → ⊥
      impossible S f p q r = omega arith

  pub no_leading : Shape x → (f : ℕ) → f ≡ b % 9223372036854775808 / 4503599627370496 → 874 ≤ f → f < 897
      → 2147483648 * (b / 9223372036854775808) + (4503599627370496 + b % 4503599627370496) / 2 ^ (926 - f) % 2147483648 ≡ to_bits binary32 x
  no_leading (null σ l d c) f g lo hi = absurd (impossible f _ (null_fields σ b l (e ∙ d)).1 g lo)
    where
      impossible : (f k : ℕ) → k ≡ 0 → f ≡ k → 874 ≤ f → ⊥
      impossible f k p q r = omega arith
  no_leading (some σ N l P few d c) f g lo hi =
      let a = private_fields σ N l P few d in
      let S : f ≡ size N + 873 = g ∙ a.1.0 in
      let k : size N + (926 - f) ≡ 53 = omega (arith, S) in
      let s : size N - 24 ≡ 0 = omega (arith, S) in
      let w : size N ≤ 31 = omega (arith, S) in
      let n : N < 2 ^ 31 = lt_of_lt_of_le (size-lt N) (pow_mono w) in
      ap (λ (z : ℕ). 2147483648 * z + (4503599627370496 + b % 4503599627370496) / 2 ^ (926 - f) % 2147483648) a.0
      ∙ ap (λ (z : ℕ). 2147483648 * σ + z / 2 ^ (926 - f) % 2147483648) a.1.1
      ∙ ap (λ (z : ℕ). 2147483648 * σ + z % 2147483648) (shifted N P (926 - f) k)
      ∙ ap (λ (z : ℕ). 2147483648 * σ + z) (mod-eq_of_lt n ∙ sym (div-one N))
      ∙ add_none σ (N / 2 ^ 0)
      ∙ ap (λ (z : ℕ). 2147483648 * σ + z * 2 ^ 23 + N / 2 ^ z) (sym s)
      ∙ sym c
    where
      add_none : (σ m : ℕ) → 2147483648 * σ + m ≡ 2147483648 * σ + 0 * 8388608 + m
      add_none σ m = omega arith

  pub with_leading : Shape x → (f : ℕ) → f ≡ b % 9223372036854775808 / 4503599627370496 → 897 ≤ f
      → 2147483648 * (b / 9223372036854775808) + (f - 897) * 8388608 + (4503599627370496 + b % 4503599627370496) / 536870912 ≡ to_bits binary32 x
  with_leading (null σ l d c) f g lo = absurd (impossible f _ (null_fields σ b l (e ∙ d)).1 g lo)
    where
      impossible : (f k : ℕ) → k ≡ 0 → f ≡ k → 897 ≤ f → ⊥
      impossible f k p q r = omega arith
  with_leading (some σ N l P few d c) f g lo =
      let a = private_fields σ N l P few d in
      let S : f ≡ size N + 873 = g ∙ a.1.0 in
      let j : size N ≡ 24 + (size N - 24) = omega (arith, S) in
      let t : f - 897 ≡ size N - 24 = omega (arith, S) in
      ap (λ (z : ℕ). 2147483648 * z + (f - 897) * 8388608 + (4503599627370496 + b % 4503599627370496) / 536870912) a.0
      ∙ ap (λ (z : ℕ). 2147483648 * σ + (f - 897) * 8388608 + z / 536870912) a.1.1
      ∙ ap (λ (z : ℕ). 2147483648 * σ + (f - 897) * 8388608 + z) (leading N P (size N - 24) j)
      ∙ ap (λ (z : ℕ). 2147483648 * σ + z * 8388608 + N / 2 ^ (size N - 24)) t
      ∙ sym c

  pub none_above : Shape x → 1151 ≤ b % 9223372036854775808 / 4503599627370496 → ⊥
  none_above (null σ l d c) h = impossible _ (null_fields σ b l (e ∙ d)).1 h
    where
      impossible : (k : ℕ) → k ≡ 0 → 1151 ≤ k → ⊥
      impossible k p q = omega arith
  none_above (some σ N l P few d c) h = impossible (size N) _ (private_fields σ N l P few d).1.0 (size-le N 277 few) h
    where
      impossible : (S f : ℕ) → f ≡ S + 873 → S ≤ 277 → 1151 ≤ f → ⊥
      impossible S f p q r = omega arith
