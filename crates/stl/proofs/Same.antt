-- Finite singles compare equal exactly where their bits are the same, minus zero's taken as zero's; so do points. Assumes nothing.
use Prim.Native.Nat.{ℕ, ◌+◌, ◌*◌, ◌<◌}
use native.Mathlib.Nat.{add-zero}
use native.Mathlib.Omega.{arith}
use mathlib.Core.Path.{◌≡◌, refl, sym, ap, ◌∙◌, subst}
use mathlib.Core.Bool.{Bool, true, false, not, cond, ◌&&◌, true≢false}
use mathlib.Core.List.{List}
use mathlib.Core.Logic.{◌⊎◌, inl, inr, ⊎_elim}
use borrow.Author.Tests.{eqb-true, eq-eqb}
use lib.Dec.{T, eqb}
use lib.ListN.{get_or}
use lib.Ieee.{binary32, binary64, of_bits, of_fields, odd, to_bits, size, span, climb, eq, neg}
use lib.Ieee.Bits.{of_bits-fits, to_bits-of_bits}
use lib.Ieee.Fits.{neg-fits}
use lib.Ieee.Scale.{finite}
use Rattle.float64.specs.Scalar.{zero64, negative}
use Rattle.float_laws.proofs.Order.{finite_number, eq_refl, eq_sym, eq_trans, eq_same_sign, eq_same}
use Rattle.little_endian.specs.Bytes.{number_from}
use Rattle.single.proofs.Values.{wide}
use Rattle.stl_format.specs.Format.{point_from, coordinate, bytes_not_finite, same_point}
use Rattle.stl_table.specs.Keys.{zero_unsigned, key_at, same_key, same_at}

-- ---- the two zeros, by computation

plain_sign : false ≡ negative zero64
unfolding of_bits of_fields odd negative
plain_sign = refl

minus_sign : true ≡ negative (neg zero64)
unfolding of_bits of_fields odd negative neg
minus_sign = refl

zeros_equal : T (eq zero64 (neg zero64))
unfolding of_bits of_fields odd neg eq
zeros_equal = tt

plain_bits : to_bits binary32 zero64 ≡ 0
unfolding of_bits of_fields odd to_bits size span climb
plain_bits = refl

minus_bits : to_bits binary32 (neg zero64) ≡ 2147483648
unfolding of_bits of_fields odd neg to_bits size span climb
minus_bits = refl

plain_value : T (eq (of_bits binary32 0) zero64)
unfolding of_bits of_fields odd eq
plain_value = tt

minus_value : T (eq (of_bits binary32 2147483648) zero64)
unfolding of_bits of_fields odd eq
minus_value = tt

abbrev IsZero : ℕ → Type 0
IsZero b = (b ≡ 0) ⊎ (b ≡ 2147483648)

zero_value : (b : ℕ) → IsZero b → T (eq (of_bits binary32 b) zero64)
zero_value b (inl e) = subst (λ (k : ℕ). T (eq (of_bits binary32 k) zero64)) (sym e) plain_value
zero_value b (inr e) = subst (λ (k : ℕ). T (eq (of_bits binary32 k) zero64)) (sym e) minus_value

back : (b : ℕ) → b < 4294967296 → T (finite (of_bits binary32 b)) → to_bits binary32 (of_bits binary32 b) ≡ b
back b l f = to_bits-of_bits binary32 b l (finite_number (of_bits binary32 b) f)

zero_bits : (b : ℕ) → b < 4294967296 → T (finite (of_bits binary32 b)) → T (eq (of_bits binary32 b) zero64) → IsZero b
zero_bits b l f e = go (negative (of_bits binary32 b)) refl
  where
    go : (s : Bool) → negative (of_bits binary32 b) ≡ s → IsZero b
    go false s = inl (sym (back b l f) ∙ (ap (to_bits binary32) (eq_same_sign (of_bits binary32 b) zero64 (wide b) (of_bits-fits binary64 0) e (s ∙ plain_sign)) ∙ plain_bits))
    go true s = inr (sym (back b l f) ∙ (ap (to_bits binary32) (eq_same_sign (of_bits binary32 b) (neg zero64) (wide b) (neg-fits binary64 zero64 (of_bits-fits binary64 0)) (eq_trans (of_bits binary32 b) zero64 (neg zero64) e zeros_equal) (s ∙ minus_sign)) ∙ minus_bits))

-- ---- two singles

zero_key : (b : ℕ) → IsZero b → zero_unsigned b ≡ 0
unfolding zero_unsigned
zero_key b (inl e) = rw e
zero_key b (inr e) = rw e

-- the key of a pattern that is not minus zero's is the pattern
key_cases : (d e : Bool) (b c : ℕ) → eqb b 2147483648 ≡ d → eqb c 2147483648 ≡ e → cond d 0 b ≡ cond e 0 c → (b ≡ c) ⊎ (IsZero b × IsZero c)
key_cases true true b c p q h = inl (eqb-true b 2147483648 p ∙ sym (eqb-true c 2147483648 q))
key_cases true false b c p q h = inr (inr (eqb-true b 2147483648 p), inl (sym h))
key_cases false true b c p q h = inr (inl h, inr (eqb-true c 2147483648 q))
key_cases false false b c p q h = inl h

same_keys : (b c : ℕ) → zero_unsigned b ≡ zero_unsigned c → (b ≡ c) ⊎ (IsZero b × IsZero c)
unfolding zero_unsigned
same_keys b c h = key_cases (eqb b 2147483648) (eqb c 2147483648) b c refl refl h

same_truth : (p q : Bool) → (T p → q ≡ true) → (q ≡ true → T p) → q ≡ p
same_truth true q f g = f tt
same_truth false true f g = absurd (g refl)
same_truth false false f g = refl

module _ (b c : ℕ) (lb : b < 4294967296) (lc : c < 4294967296) (fb : T (finite (of_bits binary32 b))) (fc : T (finite (of_bits binary32 c))) where
  pub same_single : eqb (zero_unsigned b) (zero_unsigned c) ≡ eq (of_bits binary32 b) (of_bits binary32 c)
  same_single =
      same_truth (eq (of_bits binary32 b) (of_bits binary32 c)) (eqb (zero_unsigned b) (zero_unsigned c))
      (λ e. eq-eqb (zero_unsigned b) (zero_unsigned c)
      (⊎_elim (λ p. ap zero_unsigned (sym (back b lb fb) ∙ (ap (to_bits binary32) p ∙ back c lc fc)))
      (λ z. zero_key b (zero_bits b lb fb z.0) ∙ sym (zero_key c (zero_bits c lc fc z.1)))
      (eq_same (of_bits binary32 b) (of_bits binary32 c) (wide b) (wide c) e)))
      (λ e. ⊎_elim (λ p. subst (λ (k : ℕ). T (eq (of_bits binary32 b) (of_bits binary32 k))) p (eq_refl (of_bits binary32 b) (finite_number (of_bits binary32 b) fb)))
      (λ z. eq_trans (of_bits binary32 b) zero64 (of_bits binary32 c) (zero_value b z.0) (eq_sym (of_bits binary32 c) zero64 (zero_value c z.1)))
      (same_keys b c (eqb-true (zero_unsigned b) (zero_unsigned c) e)))

-- ---- two points

abbrev pub Bytes : List ℕ → Type 0
Bytes s = (i : ℕ) → get_or s i 0 < 256

pub number_below : (s : List ℕ) → Bytes s → (i : ℕ) → number_from s i < 4294967296
unfolding number_from
number_below s h i = omega (arith, h i, h (i + 1), h (i + 2), h (i + 3))

three : (a b c : Bool) → not (a && b && c) ≡ false → T a × (T b × T c)
three true true true h = (tt, (tt, tt))
three true true false h = absurd (true≢false h)
three true false c h = absurd (true≢false h)
three false b c h = absurd (true≢false h)

pub all_finite : (s : List ℕ) (h : ℕ) → bytes_not_finite s h ≡ false → T (finite (coordinate s h 0)) × (T (finite (coordinate s h 1)) × T (finite (coordinate s h 2)))
unfolding bytes_not_finite
all_finite s h e = three (finite (coordinate s h 0)) (finite (coordinate s h 1)) (finite (coordinate s h 2)) e

-- the tests of the three coordinates in turn
module _ (s : List ℕ) (h : ℕ) where
  pub first_not : finite (coordinate s h 0) ≡ false → true ≡ bytes_not_finite s h
  unfolding bytes_not_finite
  first_not a = rw a

  pub second_not : finite (coordinate s h 0) ≡ true → finite (coordinate s h 1) ≡ false → true ≡ bytes_not_finite s h
  unfolding bytes_not_finite
  second_not a b = rw (a, b)

  pub third_is : (r : Bool) → finite (coordinate s h 0) ≡ true → finite (coordinate s h 1) ≡ true → finite (coordinate s h 2) ≡ r → not r ≡ bytes_not_finite s h
  unfolding bytes_not_finite
  third_is r a b c = rw (a, b, c)

module _ (s : List ℕ) (bytes : Bytes s) (g h : ℕ) (fg : bytes_not_finite s g ≡ false) (fh : bytes_not_finite s h ≡ false) where
  at : (k : ℕ) → T (finite (coordinate s g k)) → T (finite (coordinate s h k))
      → eqb (zero_unsigned (number_from s (point_from g + 4 * k))) (zero_unsigned (number_from s (point_from h + 4 * k))) ≡ eq (coordinate s g k) (coordinate s h k)
  unfolding coordinate
  at k p q = same_single (number_from s (point_from g + 4 * k)) (number_from s (point_from h + 4 * k)) (number_below s bytes (point_from g + 4 * k)) (number_below s bytes (point_from h + 4 * k)) p q

  at_first : eqb (zero_unsigned (number_from s (point_from g))) (zero_unsigned (number_from s (point_from h))) ≡ eq (coordinate s g 0) (coordinate s h 0)
  at_first =
      ap (λ (k : ℕ). eqb (zero_unsigned (number_from s k)) (zero_unsigned (number_from s (point_from h)))) (sym (add-zero (point_from g)))
      ∙ (ap (λ (k : ℕ). eqb (zero_unsigned (number_from s (point_from g + 0))) (zero_unsigned (number_from s k))) (sym (add-zero (point_from h))) ∙ at 0 (all_finite s g fg).0 (all_finite s h fh).0)

  pub same_is : same_at s g h ≡ same_point s g h
  unfolding same_at key_at same_key same_point
  same_is = rw (at_first, at 1 (all_finite s g fg).1.0 (all_finite s h fh).1.0, at 2 (all_finite s g fg).1.1 (all_finite s h fh).1.1)
