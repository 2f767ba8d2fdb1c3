-- From one place of a slip to the next stand the bytes that the writer writes of what is read there. Assumes nothing.
use Prim.Native.Nat.{ℕ, zero, suc, ◌+◌, ◌*◌, ◌/◌, ◌%◌, ◌≤◌, ◌<◌}
use native.Mathlib.Numerals.{add-one}
use native.Mathlib.Omega.{arith}
use mathlib.Core.Path.{◌≡◌, refl, sym, ap, ◌∙◌}
use mathlib.Core.Bool.{Bool, true, false, true≢false}
use mathlib.Core.List.{List, [], ◌∷◌, ◌++◌, append_assoc}
use lib.ListN.{length, get_or, drop}
use lib.Seq.{drop-cons}
use lib.Ieee.{Float, nan, inf, fin, binary64, of_bits, to_bits, is_nan}
use lib.Ieee.Bits.{to_bits-of_bits}
use Rattle.nat_laws.specs.Lists.{list_of}
use Rattle.nat_laws.proofs.Lists.{get_d_list_of}
use Rattle.little_endian.specs.Bytes.{number_from, double_from, doubles_from, numbers_from, bytes_from, number_bytes, double_bytes}
use Rattle.slip_write.specs.Write.{doubles_bytes, numbers_bytes}
use Rattle.slip_laws.specs.Plain.{IsByte, pattern_from, PlainAt}

-- xs stands from byte a to byte b
abbrev pub Stands : List ℕ → ℕ → List ℕ → ℕ → Type 0
Stands s a xs b = drop a s ≡ xs ++ drop b s

pub stands_none : (s : List ℕ) (a b : ℕ) → a ≡ b → Stands s a [] b
stands_none s a b e = ap (λ (k : ℕ). drop k s) e

pub stands_then : (s : List ℕ) (a b c : ℕ) (xs ys : List ℕ) → Stands s a xs b → Stands s b ys c → Stands s a (xs ++ ys) c
stands_then s a b c xs ys p q = p ∙ ap (λ l. xs ++ l) q ∙ sym (append_assoc xs ys (drop c s))

pub stands_byte : (s : List ℕ) (a b : ℕ) → b ≡ a + 1 → a < length s → Stands s a (get_or s a 0 ∷ []) b
stands_byte s a b e h = rw (e, add-one) (drop-cons s a 0 h)

-- the four digits to the base 256
digits_are : (n a b c d : ℕ) → n ≡ a + 256 * b + 65_536 * c + 16_777_216 * d → a < 256 → b < 256 → c < 256 → d < 256
    → (a ≡ n % 256) × ((b ≡ n / 256 % 256) × ((c ≡ n / 65_536 % 256) × (d ≡ n / 16_777_216 % 256)))
digits_are n a b c d e ha hb hc hd =
    let q1 : n / 256 ≡ b + 256 * c + 65_536 * d = omega arith in
    let q2 : n / 65_536 ≡ c + 256 * d = omega arith in
    let q3 : n / 16_777_216 ≡ d = omega arith in
    (omega arith, (omega (arith, q1), (omega (arith, q2), omega (arith, q3))))

is_nan_lem : (x : Float) → is_nan x ≡ true → x ≡ nan
unfolding is_nan
is_nan_lem nan h = refl
is_nan_lem (inf b) h = absurd (true≢false (sym h))
is_nan_lem (fin b m e) h = absurd (true≢false (sym h))

quiet : to_bits binary64 nan ≡ 0x7ff8_0000_0000_0000
unfolding to_bits
quiet = refl

module _ (s : List ℕ) (bytes : (i : ℕ) → IsByte (get_or s i 0)) where
  pub number_below : (i : ℕ) → number_from s i < 4_294_967_296
  unfolding number_from
  number_below i = omega (arith, bytes i, bytes (i + 1), bytes (i + 2), bytes (i + 3))

  four : (i : ℕ) → i + 4 ≤ length s → drop i s ≡ get_or s i 0 ∷ get_or s (i + 1) 0 ∷ get_or s (i + 2) 0 ∷ get_or s (i + 3) 0 ∷ drop (i + 4) s
  four i h =
      stands_byte s i (i + 1) refl (omega arith)
      ∙ ap (λ l. get_or s i 0 ∷ l)
      (stands_byte s (i + 1) (i + 2) (omega arith) (omega arith)
      ∙ ap (λ l. get_or s (i + 1) 0 ∷ l)
      (stands_byte s (i + 2) (i + 3) (omega arith) (omega arith)
      ∙ ap (λ l. get_or s (i + 2) 0 ∷ l) (stands_byte s (i + 3) (i + 4) (omega arith) (omega arith))))

  pub number_stands : (i j : ℕ) → j ≡ i + 4 → j ≤ length s → Stands s i (number_bytes (number_from s i)) j
  unfolding number_bytes number_from
  number_stands i j e h =
      let d = digits_are (number_from s i) (get_or s i 0) (get_or s (i + 1) 0) (get_or s (i + 2) 0) (get_or s (i + 3) 0) refl (bytes i) (bytes (i + 1)) (bytes (i + 2)) (bytes (i + 3)) in
      rw e (four i (omega arith) ∙ (λ t. d.0 t ∷ d.1.0 t ∷ d.1.1.0 t ∷ d.1.1.1 t ∷ drop (i + 4) s))

  -- a plain pattern is that of its double
  pattern_back : (i : ℕ) → PlainAt s i → to_bits binary64 (double_from s i) ≡ pattern_from s i
  unfolding double_from
  pattern_back i p = go (of_bits binary64 (pattern_from s i)) (is_nan (of_bits binary64 (pattern_from s i))) refl refl
    where
      go : (x : Float) (b : Bool) → x ≡ of_bits binary64 (pattern_from s i) → is_nan x ≡ b → to_bits binary64 x ≡ pattern_from s i
      go x true e h = ap (to_bits binary64) (is_nan_lem x h) ∙ quiet ∙ sym (p (rw e at h))
      go x false e h =
          ap (to_bits binary64) e
          ∙ to_bits-of_bits binary64 (pattern_from s i) (omega (arith, number_below i, number_below (i + 4))) (rw (rw e at h) tt)

  pub double_stands : (i j : ℕ) → j ≡ i + 8 → j ≤ length s → PlainAt s i → Stands s i (double_bytes (double_from s i)) j
  unfolding double_bytes
  double_stands i j e h p =
      let low : pattern_from s i % 4_294_967_296 ≡ number_from s i = omega (arith, number_below i) in
      let high : pattern_from s i / 4_294_967_296 ≡ number_from s (i + 4) = omega (arith, number_below i) in
      rw (pattern_back i p, low, high)
      (stands_then s i (i + 4) j (number_bytes (number_from s i)) (number_bytes (number_from s (i + 4))) (number_stands i (i + 4) refl (omega arith)) (number_stands (i + 4) j (omega arith) h))

  -- rows: the first n of all
  pub doubles_stand : (i all n : ℕ) → n ≤ all → i + 8 * all ≤ length s → ((k : ℕ) → k < all → PlainAt s (i + 8 * k))
      → Stands s i (doubles_bytes (doubles_from s i all) n) (i + 8 * n)
  unfolding doubles_bytes doubles_from
  doubles_stand i all zero l h p = stands_none s i (i + 8 * 0) (omega arith)
  doubles_stand i all (suc n) l h p =
      let last : get_or (doubles_from s i all) n nan ≡ double_from s (i + 8 * n) = get_d_list_of all (λ j. double_from s (i + 8 * j)) n nan (omega arith) in
      stands_then s i (i + 8 * n) (i + 8 * suc n) (doubles_bytes (doubles_from s i all) n) (double_bytes (get_or (doubles_from s i all) n nan)) (doubles_stand i all n (omega arith) h p)
      (rw last (double_stands (i + 8 * n) (i + 8 * suc n) (omega arith) (omega arith) (p n (omega arith))))

  pub numbers_stand : (i all n : ℕ) → n ≤ all → i + 4 * all ≤ length s → Stands s i (numbers_bytes (numbers_from s i all) n) (i + 4 * n)
  unfolding numbers_bytes numbers_from
  numbers_stand i all zero l h = stands_none s i (i + 4 * 0) (omega arith)
  numbers_stand i all (suc n) l h =
      let last : get_or (numbers_from s i all) n 0 ≡ number_from s (i + 4 * n) = get_d_list_of all (λ j. number_from s (i + 4 * j)) n 0 (omega arith) in
      stands_then s i (i + 4 * n) (i + 4 * suc n) (numbers_bytes (numbers_from s i all) n) (number_bytes (get_or (numbers_from s i all) n 0)) (numbers_stand i all n (omega arith) h)
      (rw last (number_stands (i + 4 * n) (i + 4 * suc n) (omega arith) (omega arith)))

  pub bytes_stand : (i n : ℕ) → i + n ≤ length s → Stands s i (bytes_from s i n) (i + n)
  unfolding bytes_from list_of
  bytes_stand i zero h = stands_none s i (i + 0) (omega arith)
  bytes_stand i (suc n) h =
      stands_then s i (i + n) (i + suc n) (bytes_from s i n) (get_or s (i + n) 0 ∷ []) (bytes_stand i n (omega arith)) (stands_byte s (i + n) (i + suc n) (omega arith) (omega arith))
