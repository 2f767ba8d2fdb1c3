-- A rank for the numbers that a format holds: a natural number that orders them as `le` and `lt` do, so that `omega` can reason about intervals, and that falls along any strictly falling chain. Assumes nothing.
--     Held f x     x is a number, and f holds it; held_finite
--     le_rank, rank_le, lt_rank, rank_lt, eq_rank, rank_eq     the order of values from that of ranks, and back; equal values, -0 and +0 among them, have one rank
use Prim.Native.Nat.{ℕ, ◌+◌, ◌-◌, ◌*◌, ◌^◌, ◌≤◌, ◌<◌}
use mathlib.Core.Bool.{Bool, true, false}
use mathlib.Core.Logic.{inl, inr}
use mathlib.Core.Path.{◌≡◌, subst, sym}
use native.Mathlib.Decide.{dec_le}
use native.Mathlib.Nat.{le_antisymm, mul-pos}
use native.Mathlib.Omega.{arith}
use lib.Dec.{T}
use lib.IntN.{ℤ}
use lib.Pow.{pow_pos}
use lib.Ieee.{Float, nan, inf, fin, Format, low, up, down, lt, le, eq, is_nan, fits}
use lib.Ieee.Fits.{down_pos}
use lib.Ieee.Scale.{finite}
use Rattle.root_spec.proofs.Units.{FitsIn, fits_in, ulps, ulps_lt, ulps_left, ulps_right, overflow, overflow_pos}
use Rattle.float_laws.proofs.Signed.{SLe, signed, unsigned, signed_up, signed_down}
use Rattle.float_laws.proofs.Order.{Number, finite_number, le_antisym, eq_le, eq_sym, le_or_lt, lt_not_le}

abbrev pub Held : Format → Float → Type 0
Held f x = Number x × T (fits f x)

pub held_finite : (f : Format) (x : Float) → T (finite x) → T (fits f x) → Held f x
held_finite f x h k = (finite_number x h, k)

-- the magnitudes in the format's smallest values, either side of the middle
abbrev pub offset : ℕ → Bool → ℕ → ℕ
offset B false a = B + a
offset B true a = B - a

unfoldable pub rank : Format → Float → ℕ
rank f nan = 0
rank f (inf true) = 0
rank f (inf false) = overflow f + overflow f
rank f (fin s m e) = offset (overflow f) s (ulps f m e)

offset_to : (B : ℕ) (s : Bool) (a : ℕ) (t : Bool) (b : ℕ) → a < B → b < B → SLe s a t b → offset B s a ≤ offset B t b
offset_to B false a false b i j h = omega arith
offset_to B false a true b i j h = let x = h.0 in let y = h.1 in omega arith
offset_to B true a false b i j h = omega arith
offset_to B true a true b i j h = omega arith

offset_of : (B : ℕ) (s : Bool) (a : ℕ) (t : Bool) (b : ℕ) → a < B → b < B → offset B s a ≤ offset B t b → SLe s a t b
offset_of B false a false b i j h = omega arith
offset_of B false a true b i j h = (omega arith, omega arith)
offset_of B true a false b i j h = tt
offset_of B true a true b i j h = omega arith

-- strictly between the infinities'
offset_in : (B : ℕ) (s : Bool) (a : ℕ) → a < B → (0 < offset B s a) × (offset B s a < B + B)
offset_in B false a h = (omega arith, omega arith)
offset_in B true a h = (omega arith, omega arith)

module _ (f : Format) (s : Bool) (m : ℕ) (e : ℤ) (t : Bool) (n : ℕ) (d : ℤ) (H : FitsIn f m e) (K : FitsIn f n d) where
  to_ulps : SLe s (m * up e * down d) t (n * up d * down e) → SLe s (ulps f m e) t (ulps f n d)
  to_ulps h =
      signed_down s t (ulps f m e) (ulps f n d) (down e * down d) (mul-pos (down_pos e) (down_pos d))
      (subst (λ (x : ℕ). SLe s x t (ulps f n d * (down e * down d))) (ulps_left f m e n d H K) (subst (λ (x : ℕ). SLe s (m * up e * down d * 2 ^ low f) t x) (ulps_right f m e n d H K) (signed_up s t (m * up e * down d) (n * up d * down e) (2 ^ low f) h)))

  of_ulps : SLe s (ulps f m e) t (ulps f n d) → SLe s (m * up e * down d) t (n * up d * down e)
  of_ulps h =
      signed_down s t (m * up e * down d) (n * up d * down e) (2 ^ low f) (pow_pos (low f))
      (subst (λ (x : ℕ). SLe s x t (n * up d * down e * 2 ^ low f)) (sym (ulps_left f m e n d H K)) (subst (λ (x : ℕ). SLe s (ulps f m e * (down e * down d)) t x) (sym (ulps_right f m e n d H K)) (signed_up s t (ulps f m e) (ulps f n d) (down e * down d) h)))

fin_in : (f : Format) (s : Bool) (m : ℕ) (e : ℤ) → T (fits f (fin s m e)) → (0 < rank f (fin s m e)) × (rank f (fin s m e) < overflow f + overflow f)
unfolding rank
fin_in f s m e p = offset_in (overflow f) s (ulps f m e) (ulps_lt f m e (fits_in f s m e p))

pub le_rank : (f : Format) (x y : Float) → Held f x → Held f y → T (le x y) → rank f x ≤ rank f y
unfolding rank le is_nan
le_rank f nan y g k h = absurd h
le_rank f (inf true) nan g k h = absurd h
le_rank f (inf true) (inf true) g k h = omega arith
le_rank f (inf true) (inf false) g k h = omega arith
le_rank f (inf true) (fin t n d) g k h = omega arith
le_rank f (inf false) nan g k h = absurd h
le_rank f (inf false) (inf true) g k h = absurd h
le_rank f (inf false) (inf false) g k h = omega arith
le_rank f (inf false) (fin t n d) g k h = absurd h
le_rank f (fin s m e) nan g k h = absurd h
le_rank f (fin s m e) (inf true) g k h = absurd h
le_rank f (fin s m e) (inf false) g k h = omega (arith, (fin_in f s m e g.1).1)
le_rank f (fin s m e) (fin t n d) g k h =
    let H = fits_in f s m e g.1 in
    let K = fits_in f t n d k.1 in
    offset_to (overflow f) s (ulps f m e) t (ulps f n d) (ulps_lt f m e H) (ulps_lt f n d K) (to_ulps f s m e t n d H K (signed s (m * up e * down d) t (n * up d * down e) h))

pub rank_le : (f : Format) (x y : Float) → Held f x → Held f y → rank f x ≤ rank f y → T (le x y)
unfolding rank le is_nan
rank_le f nan y g k h = absurd g.0
rank_le f (inf s) nan g k h = absurd k.0
rank_le f (fin s m e) nan g k h = absurd k.0
rank_le f (inf true) (inf true) g k h = tt
rank_le f (inf true) (inf false) g k h = tt
rank_le f (inf true) (fin t n d) g k h = tt
rank_le f (inf false) (inf true) g k h = let z : ⊥ = omega (arith, overflow_pos f) in absurd z
rank_le f (inf false) (inf false) g k h = tt
rank_le f (inf false) (fin t n d) g k h = let z : ⊥ = omega (arith, (fin_in f t n d k.1).1) in absurd z
rank_le f (fin s m e) (inf true) g k h = let z : ⊥ = omega (arith, (fin_in f s m e g.1).0) in absurd z
rank_le f (fin s m e) (inf false) g k h = tt
rank_le f (fin s m e) (fin t n d) g k h =
    let H = fits_in f s m e g.1 in
    let K = fits_in f t n d k.1 in
    unsigned s (m * up e * down d) t (n * up d * down e) (of_ulps f s m e t n d H K (offset_of (overflow f) s (ulps f m e) t (ulps f n d) (ulps_lt f m e H) (ulps_lt f n d K) h))

pub lt_rank : (f : Format) (x y : Float) → Held f x → Held f y → T (lt x y) → rank f x < rank f y
lt_rank f x y g k h = elim (dec_le (rank f y) (rank f x)) [ yes i ↦ absurd (lt_not_le x y h (rank_le f y x k g i)) | no n ↦ omega arith ]

pub rank_lt : (f : Format) (x y : Float) → Held f x → Held f y → rank f x < rank f y → T (lt x y)
rank_lt f x y g k h = elim (le_or_lt y x k.0 g.0) [ inl i ↦ let z : ⊥ = omega (arith, le_rank f y x k g i) in absurd z | inr i ↦ i ]

pub eq_rank : (f : Format) (x y : Float) → Held f x → Held f y → T (eq x y) → rank f x ≡ rank f y
eq_rank f x y g k h = le_antisymm (le_rank f x y g k (eq_le x y h)) (le_rank f y x k g (eq_le y x (eq_sym x y h)))

pub rank_eq : (f : Format) (x y : Float) → Held f x → Held f y → rank f x ≡ rank f y → T (eq x y)
rank_eq f x y g k h = le_antisym x y (rank_le f x y g k (omega arith)) (rank_le f y x k g (omega arith))
