-- The texts of a distance, by its bit pattern. Assumes nothing.
use Prim.Native.Nat.{ℕ, ◌+◌, ◌-◌, ◌*◌, ◌/◌, ◌%◌, ◌^◌, ◌≤◌, ◌<◌}
use native.Mathlib.Nat.{mul-pos}
use native.Mathlib.Omega.{arith}
use mathlib.Core.Path.{◌≡◌, refl, sym, ap, ◌∙◌}
use mathlib.Core.Bool.{Bool, true, false, cond, ◌&&◌}
use mathlib.Core.List.{List, []}
use borrow.Author.Tests.{lt-ltb, le-leb, lt-leb, ltb-true, ltb-false}
use lib.Dec.{T, leb, ltb}
use lib.Ieee.{Float, nan, inf, fin, binary64, fits, of_bits, to_bits, is_nan}
use lib.Ieee.Bits.{of_bits-to_bits}
use lib.Pow.{pow_pos}
use Rattle.float64.specs.Scalar.{abs_of, negative}
use Rattle.float64.proofs.Scalar.{abs_bits, abs_fits, abs_low, sign_bit}
use Rattle.text_out.specs.Text.{decimal, Puts}
use Rattle.text_out.proofs.Puts.{puts_then}
use Rattle.thousandths.specs.Thousandths.{thousandths_of}
use Rattle.thousandths.proofs.Laws.{from_large}
use Rattle.print_out.specs.PrintOut.{far_text, nan_text, minus_text, signed, distance_text}

infinite : of_bits binary64 0x7ff0_0000_0000_0000 ≡ inf false
unfolding of_bits
infinite = refl

-- ---- plus infinity
pub far_is : (x : Float) → T (fits binary64 x) → to_bits binary64 x ≡ 0x7ff0_0000_0000_0000 → distance_text x ≡ far_text
unfolding distance_text
far_is x h e = ap distance_text (sym (of_bits-to_bits binary64 x h) ∙ ap (of_bits binary64) e ∙ infinite)

-- ---- no distance
finite_below : (s : Bool) (m : ℕ) (e : _) → T (fits binary64 (fin s m e)) → to_bits binary64 (fin s m e) % 0x8000_0000_0000_0000 < 0x7ff0_0000_0000_0000
unfolding abs_of is_nan
finite_below s m e h =
    let x = fin s m e in
    let bits = abs_bits x h refl in
    let most = abs_low x h refl in
    let other : to_bits binary64 (abs_of x) ≡ 0x7ff0_0000_0000_0000 → ⊥ = λ q. no (sym (of_bits-to_bits binary64 (abs_of x) (abs_fits binary64 x h)) ∙ ap (of_bits binary64) q ∙ infinite) in
    omega (arith, bits, most, other)
  where
    no : fin false m e ≡ inf false → ⊥
    no q = let z : ◌≡◌ {A = ℕ} 0 1 = cc in omega arith

pub nan_is : (x : Float) → T (fits binary64 x) → (to_bits binary64 x ≡ 0x7ff0_0000_0000_0000 → ⊥) → 0x7ff0_0000_0000_0000 ≤ to_bits binary64 x % 0x8000_0000_0000_0000 → distance_text x ≡ nan_text
unfolding distance_text to_bits
nan_is nan h n l = refl
nan_is (inf false) h n l = absurd (n refl)
nan_is (inf true) h n l = refl
nan_is (fin s m e) h n l = absurd (omega (arith, finite_below s m e h))

-- ---- a number
sign_is : (s : Bool) (m : ℕ) (e : _) → T (fits binary64 (fin s m e)) → leb 0x8000_0000_0000_0000 (to_bits binary64 (fin s m e)) ≡ s
unfolding negative is_nan
sign_is false m e h = lt-leb 0x8000_0000_0000_0000 (to_bits binary64 (fin false m e)) (ltb-true _ _ (sign_bit (fin false m e) h refl))
sign_is true m e h = le-leb 0x8000_0000_0000_0000 (to_bits binary64 (fin true m e)) (ltb-false _ _ (sign_bit (fin true m e) h refl))

pub number_is : (x : Float) → T (fits binary64 x) → to_bits binary64 x % 0x8000_0000_0000_0000 < 0x7ff0_0000_0000_0000
    → signed (leb 0x8000_0000_0000_0000 (to_bits binary64 x)) (thousandths_of (leb 0x8000_0000_0000_0000 (to_bits binary64 x)) (of_bits binary64 (to_bits binary64 x % 0x8000_0000_0000_0000))) ≡ distance_text x
unfolding distance_text is_nan abs_of thousandths_of
number_is nan h l = absurd (unfold to_bits in omega (arith, l))
number_is (inf false) h l = absurd (unfold to_bits in omega (arith, l))
number_is (inf true) h l = absurd (unfold to_bits in omega (arith, l))
number_is (fin s m e) h l =
    let x = fin s m e in
    let size : of_bits binary64 (to_bits binary64 x % 0x8000_0000_0000_0000) ≡ abs_of x = ap (of_bits binary64) (abs_bits x h refl) ∙ of_bits-to_bits binary64 (abs_of x) (abs_fits binary64 x h) in
    ap (λ (y : Float). signed (leb 0x8000_0000_0000_0000 (to_bits binary64 x)) (thousandths_of (leb 0x8000_0000_0000_0000 (to_bits binary64 x)) y)) size
    ∙ ap (λ (b : Bool). signed b (thousandths_of b (abs_of x))) (sign_is s m e h)

-- ---- the sign and the digits
module _ (minus : Bool) (b : ℕ) where
  pub small_text : (t : ℕ) (below : Bool) {l m n : List ℕ} {i j k : ℕ} → t ≡ thousandths_of minus (of_bits binary64 b) → below ≡ (minus && ltb 0 t)
      → Puts l i (cond below minus_text []) m j → Puts m j (decimal t) n k → Puts l i (signed minus (thousandths_of minus (of_bits binary64 b))) n k
  unfolding signed
  small_text t below e eb p q = rw (sym e) (puts_then (rw eb at p) q)

  pub large_text : {l m n : List ℕ} {i j k : ℕ} → 0x4330_0000_0000_0000 ≤ b → b < 0x7ff0_0000_0000_0000
      → Puts l i (cond minus minus_text []) m j → Puts m j (decimal (1000 * (b % 2 ^ 52 + 2 ^ 52) * 2 ^ (b / 2 ^ 52 - 1075))) n k
      → Puts l i (signed minus (thousandths_of minus (of_bits binary64 b))) n k
  unfolding signed
  large_text g h p q =
      let d = b % 2 ^ 52 + 2 ^ 52 in
      let some : 0 < 1000 * d * 2 ^ (b / 2 ^ 52 - 1075) = mul-pos (omega arith) (pow_pos (b / 2 ^ 52 - 1075)) in
      rw (from_large minus b g h, lt-ltb 0 (1000 * d * 2 ^ (b / 2 ^ 52 - 1075)) some) (puts_then (rw (sym (and_true minus)) at p) q)
    where
      and_true : (a : Bool) → a && true ≡ a
      and_true true = refl
      and_true false = refl
