-- Rounding: it keeps the order of fractions of any sign, and gives a value that the format holds back as one that compares equal. Assumes nothing.
--     round_not (the sign goes through), round_signed (a ≤ b gives round a ≤ round b), round_nonneg, units_nonneg, round_zero, round_own (a value that fits)
use Prim.Native.Nat.{ℕ, zero, suc, ◌+◌, ◌-◌, ◌*◌, ◌/◌, ◌%◌, ◌^◌, ◌<◌, zero-le, compare}
use mathlib.Core.Bool.{Bool, true, false, not, cond}
use mathlib.Core.Path.{◌≡◌, refl, sym, ap, ◌∙◌, subst}
use native.Mathlib.Nat.{le_trans, le_of_eq, mul-one, zero-mul}
use lib.Dec.{T, ltb, lit<}
use lib.IntN.{ℤ, pos}
use lib.Count.{count_trailing_zeros}
use lib.Ieee.{Float, nan, inf, fin, Format, minus, of_bits, binary32, binary64, size, prec, low, emax, up, down, odd, units, round, nearest, neg, le}
use lib.Ieee.Fits.{down_pos, round_is}
use lib.Ieee.Exact.{HasValue, round_exact}
use lib.Ieee.Order.{round_mono}
use lib.Ieee.Scale.{round_same}
use Rattle.float64.specs.Scalar as scalar
use Rattle.root_spec.proofs.Units.{FitsIn, grid, grid_lt}
use Rattle.float_laws.proofs.Signed.{SLe, unsigned, signed_refl, zero_of}
use Rattle.float_laws.proofs.Order as order
use Rattle.float_laws.proofs.Order.{neg_le, neg_neg, neg_zero_le}

-- ---- the sign goes through
odd_neg : (d q k l : ℕ) → odd d true q k l ≡ neg (odd d false q k l)
unfolding odd neg
odd_neg d zero k l = refl
odd_neg d (suc q) k l = refl

units_neg : (f : Format) (q k : ℕ) → units f true q k ≡ neg (units f false q k)
unfolding units neg
units_neg f q k = go (ltb (q * 2 ^ k) (2 ^ (low f + suc (emax f))))
  where
    go : (b : Bool) → cond b (odd (suc (prec f)) true q k (low f)) (inf true) ≡ neg (cond b (odd (suc (prec f)) false q k (low f)) (inf false))
    go true = odd_neg (suc (prec f)) q k (low f)
    go false = refl

round_neg : (f : Format) (a c : ℕ) → round f true a c ≡ neg (round f false a c)
round_neg f a c =
    let n = a * 2 ^ low f in
    let k = size (n / c) - prec f in
    round_is f true a c ∙ units_neg f (nearest (n / (c * 2 ^ k)) (compare (n % (c * 2 ^ k) * 2) (c * 2 ^ k))) k ∙ ap neg (sym (round_is f false a c))

pub round_not : (f : Format) (s : Bool) (a c : ℕ) → round f (not s) a c ≡ neg (round f s a c)
round_not f false a c = round_neg f a c
round_not f true a c = sym (ap neg (round_neg f a c) ∙ neg_neg (round f false a c))

-- ---- zero
one_zero : (f : Format) (s : Bool) → round f s 0 1 ≡ fin s 0 (pos 0)
unfolding round
one_zero binary32 true = refl
one_zero binary32 false = refl
one_zero binary64 true = refl
one_zero binary64 false = refl

pub round_zero : (f : Format) (s : Bool) (c : ℕ) → 0 < c → round f s 0 c ≡ fin s 0 (pos 0)
round_zero f s c C = round_same f s 0 c 0 1 C (lit< tt) (zero-mul 1 ∙ sym (zero-mul c)) ∙ one_zero f s

-- ---- a value that the format holds
own_value : (f : Format) (s : Bool) (m : ℕ) (e : ℤ) → FitsIn f m e → HasValue (round f s (m * up e) (down e)) s (m * up e) (down e)
own_value f s m e h = let g = grid f m e h.deep in round_exact f s (m * up e) (down e) m g.j (down_pos e) h.few (subst (λ (x : ℕ). x < 2 ^ (low f + suc (emax f))) (mul-one (m * 2 ^ g.j)) (grid_lt f m e g 1 (subst (λ (x : ℕ). x < 2 ^ suc (emax f) * down e) (sym (mul-one (m * up e))) h.under))) g.is

-- values with one sign and one magnitude
same_value_lem : (s : Bool) (m : ℕ) (e : ℤ) (v : Float) → HasValue v s (m * up e) (down e) → T (le (fin s m e) v) × T (le v (fin s m e))
unfolding le
same_value_lem s m e nan h = absurd h
same_value_lem s m e (inf t) h = absurd h
same_value_lem s m e (fin t n d) h =
    let x : n * up d * down e ≡ m * up e * down d = h.1 in
    let r : SLe s (m * up e * down d) t (n * up d * down e) = rw (x, h.0) (signed_refl s (m * up e * down d)) in
    let l : SLe t (n * up d * down e) s (m * up e * down d) = rw (x, h.0) (signed_refl s (m * up e * down d)) in
    (unsigned s (m * up e * down d) t (n * up d * down e) r, unsigned t (n * up d * down e) s (m * up e * down d) l)

pub round_own : (f : Format) (s : Bool) (m : ℕ) (e : ℤ) → FitsIn f m e → T (le (fin s m e) (round f s (m * up e) (down e))) × T (le (round f s (m * up e) (down e)) (fin s m e))
round_own f s m e h = same_value_lem s m e (round f s (m * up e) (down e)) (own_value f s m e h)

-- ---- the order
odd_nonneg : (d q k l : ℕ) → T (le scalar.zero64 (odd d false q k l))
unfolding odd le of_bits
odd_nonneg d zero k l = tt
odd_nonneg d (suc q) k l = let t = count_trailing_zeros d (suc q) in unsigned false (0 * 1 * down (minus (k + t) l)) false (suc q / 2 ^ t * up (minus (k + t) l) * 1) (le_trans (le_of_eq (zero-mul (down (minus (k + t) l)))) zero-le)

pub units_nonneg : (f : Format) (q k : ℕ) → T (le scalar.zero64 (units f false q k))
unfolding units le of_bits
units_nonneg f q k = go (ltb (q * 2 ^ k) (2 ^ (low f + suc (emax f))))
  where
    go : (b : Bool) → T (le scalar.zero64 (cond b (odd (suc (prec f)) false q k (low f)) (inf false)))
    go true = odd_nonneg (suc (prec f)) q k (low f)
    go false = tt

pub round_nonneg : (f : Format) (a c : ℕ) → T (le scalar.zero64 (round f false a c))
round_nonneg f a c =
    let n = a * 2 ^ low f in
    let k = size (n / c) - prec f in
    subst (λ (v : Float). T (le scalar.zero64 v)) (sym (round_is f false a c)) (units_nonneg f (nearest (n / (c * 2 ^ k)) (compare (n % (c * 2 ^ k) * 2) (c * 2 ^ k))) k)

across : (x y : Float) → T (le scalar.zero64 x) → T (le scalar.zero64 y) → T (le (neg x) y)
across x y h k = order.le_trans (neg x) (neg scalar.zero64) y (neg_le scalar.zero64 x h) (order.le_trans (neg scalar.zero64) scalar.zero64 y neg_zero_le k)

zeros : T (le (fin false 0 (pos 0)) (fin true 0 (pos 0)))
unfolding le
zeros = tt

pub round_signed : (f : Format) (s t : Bool) (a b c d : ℕ) → 0 < c → 0 < d → SLe s (a * d) t (b * c) → T (le (round f s a c) (round f t b d))
round_signed f false false a b c d C D h = round_mono f a c b d C D h
round_signed f false true a b c d C D h =
    let x : a ≡ 0 = zero_of a d D h.0 in
    let y : b ≡ 0 = zero_of b c C h.1 in
    rw (x, y, round_zero f false c C, round_zero f true d D) zeros
round_signed f true false a b c d C D h = rw (round_neg f a c) (across (round f false a c) (round f false b d) (round_nonneg f a c) (round_nonneg f b d))
round_signed f true true a b c d C D h = rw (round_neg f a c, round_neg f b d) (neg_le (round f false b d) (round f false a c) (round_mono f b d a c D C h))
