-- The order of floats, for all values, infinities and both zeros included: `le`, `lt` and `eq` as an order of the numbers, that is of all values but the NaN. Assumes nothing.
--     number      Number x (no NaN), le_number_l, le_number_r, lt_number_l, lt_number_r, eq_number_l, eq_number_r (a comparison that holds has numbers on both sides), finite_number, zero_finite
--     order       le_refl, le_trans, lt_trans, lt_le_trans, le_lt_trans, lt_irrefl, lt_le, eq_le, past_infinity
--     totality    le_total, le_or_lt, not_le_lt, not_lt_le, lt_not_le; le_is (`le` is the negation of `lt` the other way, as an equation)
--     equality    le_antisym, eq_refl, eq_sym, eq_trans, eq_same, eq_same_sign (equal doubles are the same, or both are zeros)
--     between     finite_between (two finite values), eq_finite
--     sign        neg_neg, neg_finite, neg_number, neg_le, neg_lt, neg_eq, neg_zero_le
use Prim.Native.Nat.{ℕ, ◌*◌, ◌≤◌}
use mathlib.Core.Bool.{Bool, true, false, not, ◌||◌, beq, and-false, and-not_self}
use mathlib.Core.Logic.{◌⊎◌, inl, inr}
use mathlib.Core.Path.{◌≡◌, refl, sym, ap, ◌∙◌, subst}
use native.Mathlib.Omega.{arith}
use native.Mathlib.Nat.{le_antisymm, zero-mul}
use lib.Dec.{T, T_not, not_T, eqb, nltb→le}
use lib.IntN.{ℤ}
use lib.Ieee.{Float, nan, inf, fin, binary64, up, down, lt, le, eq, neg, is_nan, fits, of_bits}
use lib.Ieee.Fits.{down_pos, and_i, eq→eqb}
use lib.Ieee.Bits.{is_true, is_false}
use lib.Ieee.Scale.{finite}
use Rattle.nat_laws.proofs.Tests.{or_l, or_r, or_split}
use Rattle.float64.specs.Scalar.{zero64, negative}
use Rattle.float64.specs.TotalOrder.{total_key, total_less}
use Rattle.float64.proofs.TotalOrder.{total_key_less, total_key_injective}
use Rattle.float_laws.proofs.Signed.{signed, unsigned, signed_trans, signed_total, signed_flip, level_sym, level_zeros, below_no, below_yes, zero_of}

-- any value but the NaN
abbrev pub Number : Float → Type 0
Number x = T (not (is_nan x))

pub finite_number : (x : Float) → T (finite x) → Number x
unfolding is_nan
finite_number nan h = h
finite_number (inf s) h = tt
finite_number (fin s m e) h = tt

pub zero_finite : T (finite zero64)
unfolding of_bits
zero_finite = tt

-- ---- a comparison that holds is one of numbers
pub lt_number_l : (x y : Float) → T (lt x y) → Number x
unfolding lt is_nan
lt_number_l nan y h = h
lt_number_l (inf s) y h = tt
lt_number_l (fin s m e) y h = tt

pub lt_number_r : (x y : Float) → T (lt x y) → Number y
unfolding lt is_nan
lt_number_r nan nan h = h
lt_number_r (inf s) nan h = h
lt_number_r (fin s m e) nan h = h
lt_number_r x (inf t) h = tt
lt_number_r x (fin t n d) h = tt

pub eq_number_l : (x y : Float) → T (eq x y) → Number x
unfolding eq is_nan
eq_number_l nan y h = h
eq_number_l (inf s) y h = tt
eq_number_l (fin s m e) y h = tt

pub eq_number_r : (x y : Float) → T (eq x y) → Number y
unfolding eq is_nan
eq_number_r nan nan h = h
eq_number_r (inf s) nan h = h
eq_number_r (fin s m e) nan h = h
eq_number_r x (inf t) h = tt
eq_number_r x (fin t n d) h = tt

pub le_number_l : (x y : Float) → T (le x y) → Number x
unfolding le
le_number_l x y h = elim (or_split (lt x y) (eq x y) h) [ inl l ↦ lt_number_l x y l | inr e ↦ eq_number_l x y e ]

pub le_number_r : (x y : Float) → T (le x y) → Number y
unfolding le
le_number_r x y h = elim (or_split (lt x y) (eq x y) h) [ inl l ↦ lt_number_r x y l | inr e ↦ eq_number_r x y e ]

-- ---- `le` is `lt` or `eq`
pub lt_le : (x y : Float) → T (lt x y) → T (le x y)
unfolding le
lt_le x y h = or_l (lt x y) (eq x y) h

pub eq_le : (x y : Float) → T (eq x y) → T (le x y)
unfolding le
eq_le x y h = or_r (lt x y) (eq x y) h

-- ---- no finite value is at infinity or past it
pub past_infinity : (t : Bool) (n : ℕ) (d : ℤ) → T (le (inf false) (fin t n d)) → ⊥
unfolding le
past_infinity t n d h = h

-- ---- transitivity and totality
pub le_trans : (x y z : Float) → T (le x y) → T (le y z) → T (le x z)
unfolding le
le_trans nan y z h k = absurd h
le_trans (inf true) nan z h k = absurd h
le_trans (inf true) (inf t) nan h k = absurd k
le_trans (inf true) (inf t) (inf true) h k = tt
le_trans (inf true) (inf t) (inf false) h k = tt
le_trans (inf true) (inf t) (fin u l g) h k = tt
le_trans (inf true) (fin t n d) nan h k = absurd k
le_trans (inf true) (fin t n d) (inf true) h k = tt
le_trans (inf true) (fin t n d) (inf false) h k = tt
le_trans (inf true) (fin t n d) (fin u l g) h k = tt
le_trans (inf false) nan z h k = absurd h
le_trans (inf false) (inf true) z h k = absurd h
le_trans (inf false) (inf false) z h k = k
le_trans (inf false) (fin t n d) z h k = absurd h
le_trans (fin s m e) nan z h k = absurd h
le_trans (fin s m e) (inf true) z h k = absurd h
le_trans (fin s m e) (inf false) nan h k = absurd k
le_trans (fin s m e) (inf false) (inf true) h k = absurd k
le_trans (fin s m e) (inf false) (inf false) h k = tt
le_trans (fin s m e) (inf false) (fin u l g) h k = absurd k
le_trans (fin s m e) (fin t n d) nan h k = absurd k
le_trans (fin s m e) (fin t n d) (inf u) h k = k
le_trans (fin s m e) (fin t n d) (fin u l g) h k =
    unsigned s (m * up e * down g) u (l * up g * down e)
    (signed_trans s t u (m * up e) (n * up d) (l * up g) (down e) (down d) (down g) (down_pos e) (down_pos d) (down_pos g)
    (signed s (m * up e * down d) t (n * up d * down e) h) (signed t (n * up d * down g) u (l * up g * down d) k))

pub le_total : (x y : Float) → Number x → Number y → T (le x y) ⊎ T (le y x)
unfolding le is_nan
le_total nan y a b = absurd a
le_total (inf s) nan a b = absurd b
le_total (inf true) (inf true) a b = inl tt
le_total (inf true) (inf false) a b = inl tt
le_total (inf false) (inf true) a b = inr tt
le_total (inf false) (inf false) a b = inl tt
le_total (inf true) (fin t n d) a b = inl tt
le_total (inf false) (fin t n d) a b = inr tt
le_total (fin s m e) nan a b = absurd b
le_total (fin s m e) (inf true) a b = inr tt
le_total (fin s m e) (inf false) a b = inl tt
le_total (fin s m e) (fin t n d) a b = elim (signed_total s (m * up e * down d) t (n * up d * down e)) [
  | inl h ↦ inl (unsigned s (m * up e * down d) t (n * up d * down e) h)
  | inr h ↦ inr (unsigned t (n * up d * down e) s (m * up e * down d) h)
]

pub le_refl : (x : Float) → Number x → T (le x x)
le_refl x a = elim (le_total x x a a) [ inl h ↦ h | inr h ↦ h ]

-- ---- `lt` is the negation of `le` the other way
pub not_lt_le : (x y : Float) → Number x → Number y → T (not (lt x y)) → T (le y x)
unfolding lt le is_nan
not_lt_le nan y a b h = absurd a
not_lt_le (inf s) nan a b h = absurd b
not_lt_le (inf true) (inf true) a b h = tt
not_lt_le (inf true) (inf false) a b h = absurd h
not_lt_le (inf false) (inf true) a b h = tt
not_lt_le (inf false) (inf false) a b h = tt
not_lt_le (inf true) (fin t n d) a b h = absurd h
not_lt_le (inf false) (fin t n d) a b h = tt
not_lt_le (fin s m e) nan a b h = absurd b
not_lt_le (fin s m e) (inf true) a b h = tt
not_lt_le (fin s m e) (inf false) a b h = absurd h
not_lt_le (fin s m e) (fin t n d) a b h = unsigned t (n * up d * down e) s (m * up e * down d) (below_no s (m * up e * down d) t (n * up d * down e) h)

pub lt_not_le : (x y : Float) → T (lt x y) → T (le y x) → ⊥
unfolding lt le
lt_not_le nan y h k = h
lt_not_le (inf s) nan h k = h
lt_not_le (inf true) (inf true) h k = h
lt_not_le (inf true) (inf false) h k = k
lt_not_le (inf false) (inf t) h k = h
lt_not_le (inf true) (fin t n d) h k = k
lt_not_le (inf false) (fin t n d) h k = h
lt_not_le (fin s m e) nan h k = h
lt_not_le (fin s m e) (inf true) h k = h
lt_not_le (fin s m e) (inf false) h k = k
lt_not_le (fin s m e) (fin t n d) h k = below_yes s (m * up e * down d) t (n * up d * down e) h (signed t (n * up d * down e) s (m * up e * down d) k)

-- a test, or its negation
either : (b : Bool) → T b ⊎ T (not b)
either true = inl tt
either false = inr tt

pub le_or_lt : (x y : Float) → Number x → Number y → T (le x y) ⊎ T (lt y x)
le_or_lt x y a b = elim (either (lt y x)) [ inl h ↦ inr h | inr h ↦ inl (not_lt_le y x b a h) ]

pub not_le_lt : (x y : Float) → Number x → Number y → T (not (le x y)) → T (lt y x)
not_le_lt x y a b h = elim (le_or_lt x y a b) [ inl k ↦ absurd (T_not (le x y) h k) | inr k ↦ k ]

pub le_is : (x y : Float) → Number x → Number y → le x y ≡ not (lt y x)
le_is x y a b = elim (le_or_lt x y a b) [
  | inl h ↦ is_true (le x y) h ∙ sym (ap not (is_false (lt y x) (not_T (lt y x) (λ k. lt_not_le y x k h))))
  | inr h ↦ is_false (le x y) (not_T (le x y) (λ k. lt_not_le y x h k)) ∙ sym (ap not (is_true (lt y x) h))
]

pub lt_irrefl : (x : Float) → T (lt x x) → ⊥
lt_irrefl x h = lt_not_le x x h (le_refl x (lt_number_l x x h))

pub lt_le_trans : (x y z : Float) → T (lt x y) → T (le y z) → T (lt x z)
lt_le_trans x y z h k = elim (le_or_lt z x (le_number_r y z k) (lt_number_l x y h)) [ inl l ↦ absurd (lt_not_le x y h (le_trans y z x k l)) | inr l ↦ l ]

pub le_lt_trans : (x y z : Float) → T (le x y) → T (lt y z) → T (lt x z)
le_lt_trans x y z h k = elim (le_or_lt z x (lt_number_r y z k) (le_number_l x y h)) [ inl l ↦ absurd (lt_not_le y z k (le_trans z x y l h)) | inr l ↦ l ]

pub lt_trans : (x y z : Float) → T (lt x y) → T (lt y z) → T (lt x z)
lt_trans x y z h k = lt_le_trans x y z h (lt_le y z k)

-- ---- equality: both ways
pub le_antisym : (x y : Float) → T (le x y) → T (le y x) → T (eq x y)
unfolding le
le_antisym x y h k = elim (or_split (lt x y) (eq x y) h) [ inl l ↦ absurd (lt_not_le x y l k) | inr e ↦ e ]

pub eq_refl : (x : Float) → Number x → T (eq x x)
eq_refl x a = le_antisym x x (le_refl x a) (le_refl x a)

pub eq_sym : (x y : Float) → T (eq x y) → T (eq y x)
unfolding eq
eq_sym nan y h = absurd h
eq_sym (inf s) nan h = absurd h
eq_sym (inf true) (inf true) h = tt
eq_sym (inf true) (inf false) h = absurd h
eq_sym (inf false) (inf true) h = absurd h
eq_sym (inf false) (inf false) h = tt
eq_sym (inf s) (fin t n d) h = absurd h
eq_sym (fin s m e) nan h = absurd h
eq_sym (fin s m e) (inf t) h = absurd h
eq_sym (fin s m e) (fin t n d) h = level_sym s (m * up e * down d) t (n * up d * down e) h

pub eq_trans : (x y z : Float) → T (eq x y) → T (eq y z) → T (eq x z)
eq_trans x y z h k = le_antisym x z (le_trans x y z (eq_le x y h) (eq_le y z k)) (le_trans z y x (eq_le z y (eq_sym y z k)) (eq_le y x (eq_sym x y h)))

-- ---- a value between two finite ones is finite
pub finite_between : (x y z : Float) → T (finite x) → T (finite z) → T (le x y) → T (le y z) → T (finite y)
unfolding le
finite_between nan y z a c h k = absurd a
finite_between (inf s) y z a c h k = absurd a
finite_between (fin s m e) nan z a c h k = absurd h
finite_between (fin s m e) (inf true) z a c h k = absurd h
finite_between (fin s m e) (inf false) nan a c h k = absurd c
finite_between (fin s m e) (inf false) (inf t) a c h k = absurd c
finite_between (fin s m e) (inf false) (fin t n d) a c h k = absurd k
finite_between (fin s m e) (fin u l g) z a c h k = tt

pub eq_finite : (x y : Float) → T (eq x y) → T (finite x) → T (finite y)
eq_finite x y h a = finite_between x y x a a (eq_le x y h) (eq_le y x (eq_sym x y h))

-- ---- equal doubles are the same, but for the sign of a zero
eq_key : (x y : Float) → T (fits binary64 x) → T (fits binary64 y) → T (eq x y) → negative x ≡ negative y → total_key x ≤ total_key y
unfolding total_less
eq_key x y p q h s = nltb→le (total_key y) (total_key x) (subst (λ (b : Bool). T (not b)) (sym (total_key_less y x q p ∙ none)) tt)
  where
    none : total_less y x ≡ false
    none = rw (is_false (lt y x) (not_T (lt y x) (λ l. lt_not_le y x l (eq_le x y h))), is_false (is_nan x) (eq_number_l x y h), s, and-false, and-not_self, and-false)

pub eq_same_sign : (x y : Float) → T (fits binary64 x) → T (fits binary64 y) → T (eq x y) → negative x ≡ negative y → x ≡ y
eq_same_sign x y p q h s = total_key_injective x y p q (le_antisymm (eq_key x y p q h s) (eq_key y x q p (eq_sym x y h) (sym s)))

zero_eq : (s : Bool) (m : ℕ) (e : ℤ) → m * up e ≡ 0 → T (eq (fin s m e) zero64)
unfolding eq of_bits
zero_eq s m e z = let a : m * up e * 1 ≡ 0 = omega arith in and_i (eqb (m * up e * 1) (0 * 1 * down e)) (beq s false || eqb (m * up e * 1) 0) (eq→eqb (a ∙ sym (zero-mul (down e)))) (or_r (beq s false) (eqb (m * up e * 1) 0) (eq→eqb a))

zeros : (s : Bool) (m : ℕ) (e : ℤ) (t : Bool) (n : ℕ) (d : ℤ) → (m * up e * down d ≡ 0) × (n * up d * down e ≡ 0) → T (eq (fin s m e) zero64) × T (eq (fin t n d) zero64)
zeros s m e t n d h = (zero_eq s m e (zero_of (m * up e) (down d) (down_pos d) h.0), zero_eq t n d (zero_of (n * up d) (down e) (down_pos e) h.1))

pub eq_same : (x y : Float) → T (fits binary64 x) → T (fits binary64 y) → T (eq x y) → (x ≡ y) ⊎ (T (eq x zero64) × T (eq y zero64))
unfolding eq negative
eq_same nan y p q h = absurd h
eq_same (inf s) nan p q h = absurd h
eq_same (inf true) (inf true) p q h = inl refl
eq_same (inf true) (inf false) p q h = absurd h
eq_same (inf false) (inf true) p q h = absurd h
eq_same (inf false) (inf false) p q h = inl refl
eq_same (inf s) (fin t n d) p q h = absurd h
eq_same (fin s m e) nan p q h = absurd h
eq_same (fin s m e) (inf t) p q h = absurd h
eq_same (fin true m e) (fin true n d) p q h = inl (eq_same_sign (fin true m e) (fin true n d) p q h refl)
eq_same (fin false m e) (fin false n d) p q h = inl (eq_same_sign (fin false m e) (fin false n d) p q h refl)
eq_same (fin true m e) (fin false n d) p q h = inr (zeros true m e false n d (level_zeros (m * up e * down d) (n * up d * down e) h))
eq_same (fin false m e) (fin true n d) p q h = inr (zeros false m e true n d (level_zeros (m * up e * down d) (n * up d * down e) h))

-- ---- `neg` turns the order round
pub neg_neg : (x : Float) → neg (neg x) ≡ x
unfolding neg
neg_neg nan = refl
neg_neg (inf true) = refl
neg_neg (inf false) = refl
neg_neg (fin true m e) = refl
neg_neg (fin false m e) = refl

pub neg_finite : (x : Float) → T (finite x) → T (finite (neg x))
unfolding neg
neg_finite nan p = absurd p
neg_finite (inf s) p = absurd p
neg_finite (fin s m e) p = tt

pub neg_number : (x : Float) → Number x → Number (neg x)
unfolding neg is_nan
neg_number nan p = absurd p
neg_number (inf s) p = tt
neg_number (fin s m e) p = tt

pub neg_le : (x y : Float) → T (le x y) → T (le (neg y) (neg x))
unfolding le neg
neg_le nan y h = absurd h
neg_le (inf true) nan h = absurd h
neg_le (inf true) (inf true) h = tt
neg_le (inf true) (inf false) h = tt
neg_le (inf true) (fin t n d) h = tt
neg_le (inf false) nan h = absurd h
neg_le (inf false) (inf true) h = absurd h
neg_le (inf false) (inf false) h = tt
neg_le (inf false) (fin t n d) h = absurd h
neg_le (fin s m e) nan h = absurd h
neg_le (fin s m e) (inf true) h = absurd h
neg_le (fin s m e) (inf false) h = tt
neg_le (fin s m e) (fin t n d) h = unsigned (not t) (n * up d * down e) (not s) (m * up e * down d) (signed_flip t s (n * up d * down e) (m * up e * down d) (signed s (m * up e * down d) t (n * up d * down e) h))

pub neg_lt : (x y : Float) → T (lt x y) → T (lt (neg y) (neg x))
neg_lt x y h = elim (le_or_lt (neg x) (neg y) (neg_number x (lt_number_l x y h)) (neg_number y (lt_number_r x y h))) [ inl k ↦ absurd (lt_not_le x y h (subst (λ (v : Float). T (le y v)) (neg_neg x) (subst (λ (v : Float). T (le v (neg (neg x)))) (neg_neg y) (neg_le (neg x) (neg y) k)))) | inr k ↦ k ]

pub neg_eq : (x y : Float) → T (eq x y) → T (eq (neg x) (neg y))
neg_eq x y h = le_antisym (neg x) (neg y) (neg_le y x (eq_le y x (eq_sym x y h))) (neg_le x y (eq_le x y h))

pub neg_zero_le : T (le (neg zero64) zero64)
unfolding le neg of_bits
neg_zero_le = tt
