-- A number and a double that stand in a slip are read as they were written. Assumes nothing.
use Prim.Native.Nat.{ℕ, ◌+◌, ◌-◌, ◌*◌, ◌/◌, ◌%◌, ◌<◌}
use native.Mathlib.Nat.{add-zero, div-div-eq-div-mul}
use native.Mathlib.Omega.{arith}
use mathlib.Core.Path.{◌≡◌, refl, sym, ap, ◌∙◌}
use mathlib.Core.List.{List, ◌∷◌, ◌++◌, append_assoc}
use lib.Dec.{T}
use lib.ListN.{length, get_or, drop, length-append, length-drop}
use lib.Seq.{get_or-drop, drop-drop, drop_at}
use lib.Ieee.{Float, binary64, fits, of_bits, to_bits}
use lib.Ieee.Bits.{of_bits-to_bits, to_bits-lt}
use Rattle.little_endian.specs.Bytes.{number_from, double_from, number_bytes, double_bytes}
use Rattle.slip_write.proofs.Lengths.{length_number}

-- a number is made of its four digits to the base 256
digits : (n a b c : ℕ) → n / 256 ≡ a → a / 256 ≡ b → b / 256 ≡ c → n < 4_294_967_296 → n % 256 + 256 * (a % 256) + 65_536 * (b % 256) + 16_777_216 * (c % 256) ≡ n
digits n a b c ea eb ec l =
    let fa : a < 16_777_216 = omega (arith, ea, l) in
    let fb : b < 65_536 = omega (arith, eb, fa) in
    let fc : c < 256 = omega (arith, ec, fb) in
    let dc : c % 256 ≡ c = omega (arith, fc) in
    let db : b % 256 + 256 * c ≡ b = omega (arith, ec) in
    let da : a % 256 + 256 * b ≡ a = omega (arith, eb) in
    let dn : n % 256 + 256 * a ≡ n = omega (arith, ea) in
    omega (arith, dc, db, da, dn)

module _ (s : List ℕ) (i : ℕ) where
  -- the bytes behind
  pub past : (xs rest : List ℕ) (k : ℕ) → length xs ≡ k → drop i s ≡ xs ++ rest → drop (i + k) s ≡ rest
  past xs rest k e h = sym (drop-drop k i s) ∙ ap (drop k) h ∙ drop_at xs rest k e

  -- as long as that
  pub reaches : (xs rest : List ℕ) → 0 < length xs → drop i s ≡ xs ++ rest → length s ≡ i + length xs + length rest
  reaches xs rest l h =
      let e : length s - i ≡ length xs + length rest = sym (length-drop i s) ∙ ap length h ∙ length-append xs rest in omega (arith, e)

  pub first_here : (x : ℕ) (rest : List ℕ) → drop i s ≡ x ∷ rest → get_or s i 0 ≡ x
  first_here x rest h = ap (λ (k : ℕ). get_or s k 0) (sym (add-zero i)) ∙ sym (get_or-drop i s 0 0) ∙ ap (λ t. get_or t 0 0) h

  byte_here : (k : ℕ) (l : List ℕ) → drop i s ≡ l → get_or s (i + k) 0 ≡ get_or l k 0
  byte_here k l h = sym (get_or-drop i s k 0) ∙ ap (λ t. get_or t k 0) h

  pub number_here : (n : ℕ) (rest : List ℕ) → n < 4_294_967_296 → drop i s ≡ number_bytes n ++ rest → number_from s i ≡ n
  unfolding number_from number_bytes
  number_here n rest l h =
      let b0 : get_or s i 0 ≡ n % 256 = first_here _ _ h in
      let b1 : get_or s (i + 1) 0 ≡ n / 256 % 256 = byte_here 1 _ h in
      let b2 : get_or s (i + 2) 0 ≡ n / 65_536 % 256 = byte_here 2 _ h in
      let b3 : get_or s (i + 3) 0 ≡ n / 16_777_216 % 256 = byte_here 3 _ h in
      let two : n / 256 / 256 ≡ n / 65_536 = div-div-eq-div-mul n 256 256 in
      let three : n / 65_536 / 256 ≡ n / 16_777_216 = div-div-eq-div-mul n 65_536 256 in
      rw (b0, b1, b2, b3) (digits n (n / 256) (n / 65_536) (n / 16_777_216) refl two three l)

pattern_below : (x : Float) → T (fits binary64 x) → to_bits binary64 x < 18_446_744_073_709_551_616
pattern_below x f = to_bits-lt binary64 x f

module _ (s : List ℕ) (i : ℕ) where
  pub double_here : (x : Float) (rest : List ℕ) → T (fits binary64 x) → drop i s ≡ double_bytes x ++ rest → double_from s i ≡ x
  unfolding double_from double_bytes
  double_here x rest f h =
      let low = to_bits binary64 x % 4_294_967_296 in
      let high = to_bits binary64 x / 4_294_967_296 in
      let g : drop i s ≡ number_bytes low ++ (number_bytes high ++ rest) = h ∙ append_assoc (number_bytes low) (number_bytes high) rest in
      let el : number_from s i ≡ low = number_here s i low (number_bytes high ++ rest) (omega arith) g in
      let eh : number_from s (i + 4) ≡ high = number_here s (i + 4) high rest (omega (arith, pattern_below x f)) (past s i (number_bytes low) (number_bytes high ++ rest) 4 (length_number low) g) in
      let all : number_from s i + 4_294_967_296 * number_from s (i + 4) ≡ to_bits binary64 x = rw (el, eh) (omega arith) in
      ap (of_bits binary64) all ∙ of_bits-to_bits binary64 x f
