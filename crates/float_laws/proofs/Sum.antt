-- Sums and differences of finite floats, as computed. No bound is asked: a result may overflow to an infinity, and is never a NaN. Assumes nothing.
--     numbers      add_number, sub_number (no NaN), add_finite, sub_finite (between two sums that are finite)
--     monotone     add_mono, sub_mono
--     exact        add_comm, sub_of_neg (x - (-y) is x + y), sub_self (x - x is 0); compares equal: sub_zero (x - 0 with x), sub_turn (y - x with -(x - y))
--     sign         sub_nonneg (a ≤ b gives 0 ≤ b - a), sub_nonpos, sub_pos (a < b gives 0 < b - a), sub_neg; the other way sub_pos_lt, sub_neg_lt
--     shift        sub_below (x - t ≤ x for 0 ≤ t), add_above (x ≤ x + t)
use Prim.Native.Nat.{ℕ, ◌+◌, ◌-◌, ◌*◌, ◌^◌, ◌≤◌, ◌<◌, zero-le}
use mathlib.Core.Bool.{Bool, true, false, not, cond}
use mathlib.Core.Logic.{inl, inr}
use mathlib.Core.Path.{◌≡◌, refl, sym, ap, ◌∙◌, subst}
use native.Mathlib.Omega.{arith}
use native.Mathlib.Nat as nat
use native.Mathlib.Nat.{le_refl, mul-pos, mul-one, zero-mul, add-zero, mul_comm, mul-le-mul_right}
use borrow.Author.Tests.{lt-ltb, le-ltb}
use native.Mathlib.Decide.{dec_le}
use lib.Dec.{T, ltb}
use lib.IntN.{ℤ}
use lib.Pow.{pow_pos}
use lib.Ieee.{Float, nan, inf, fin, Format, binary32, binary64, low, up, down, round, sum, add, sub, neg, lt, le, eq, fits, of_bits}
use lib.Ieee.Fits.{down_pos}
use lib.Ieee.Scale.{finite}
use Rattle.nat_laws.proofs.Ring.{ring}
use Rattle.float64.specs.Scalar.{zero64}
use Rattle.float64.proofs.Scalar.{zero_is}
use Rattle.root_spec.proofs.Units.{fits_in, ulps, ulps_lt, ulps_left, ulps_right, overflow}
use Rattle.float_laws.proofs.Signed.{SLe, signed, signed_up, plus, minus, spread, gather}
use Rattle.float_laws.proofs.Order as order
use Rattle.float_laws.proofs.Order.{Number, finite_number, zero_finite, le_number_l, le_or_lt, lt_not_le, lt_le_trans, le_lt_trans, finite_between, neg_neg, neg_finite, neg_le, neg_lt, neg_zero_le, le_antisym, eq_le, eq_sym}
use Rattle.float_laws.proofs.Rank.{rank, offset, lt_rank, held_finite}
use Rattle.float_laws.proofs.Round.{round_not, round_zero, round_own, round_signed}

-- ---- the sum ±a / c + ±b / c, as one signed fraction
record Total (f : Format) (s : Bool) (a : ℕ) (t : Bool) (b c : ℕ) : Type 0 where
  sign : Bool
  mag : ℕ
  is : sum f s a t b c ≡ round f sign mag c
  value : plus sign mag + (minus s a + minus t b) ≡ minus sign mag + (plus s a + plus t b)

total : (f : Format) (s : Bool) (a : ℕ) (t : Bool) (b c : ℕ) → Total f s a t b c
unfolding sum
total f false a false b c = record { sign = false; mag = a + b; is = refl; value = omega arith }
total f true a true b c = record { sign = true; mag = a + b; is = refl; value = omega arith }
total f false a true b c = elim (dec_le b a) [
  | yes h ↦ record { sign = false; mag = a - b; is = rw (le-ltb a b h); value = omega arith }
  | no h ↦ record { sign = true; mag = b - a; is = rw (lt-ltb a b (omega arith)); value = omega arith }
]
total f true a false b c = elim (dec_le b a) [
  | no h ↦ record { sign = false; mag = b - a; is = rw (lt-ltb a b (omega arith)); value = omega arith }
  | yes h ↦ record { sign = ltb b a; mag = a - b; is = rw (le-ltb a b h); value = go (dec_le a b) h }
]
  where
    go : Dec (a ≤ b) → b ≤ a → plus (ltb b a) (a - b) + (minus true a + minus false b) ≡ minus (ltb b a) (a - b) + (plus true a + plus false b)
    go (yes k) h = rw (le-ltb b a k) (omega arith)
    go (no k) h = rw (lt-ltb b a (omega arith)) (omega arith)

-- ---- x + y ≤ x' + y'
-- Each float is a signed fraction, each signed fraction a difference of two natural ones, and so is each sum before rounding. The hypotheses, multiplied out to the
-- common denominator, give the order of the two sums by linear arithmetic (`cross`), and rounding keeps it.
-- x / p + y / q is P - N over p * q, and x' / p' + y' / q' is P' - N' over p' * q', each number being a difference as xp - xm
cross : (xp xm x'p x'm yp ym y'p y'm p q p' q' P N P' N' : ℕ)
    → xp * p' + x'm * p ≤ x'p * p + xm * p' → yp * q' + y'm * q ≤ y'p * q + ym * q'
    → P + (xm * q + ym * p) ≡ N + (xp * q + yp * p) → P' + (x'm * q' + y'm * p') ≡ N' + (x'p * q' + y'p * p')
    → P * (p' * q') + N' * (p * q) ≤ P' * (p * q) + N * (p' * q')
cross xp xm x'p x'm yp ym y'p y'm p q p' q' P N P' N' a b c d =
    let a' = mul-le-mul_right (q * q') a in
    let b' = mul-le-mul_right (p * p') b in
    let c' = ap (λ (z : ℕ). z * (p' * q')) c in
    let d' = ap (λ (z : ℕ). z * (p * q)) d in
    simp ring (omega (arith, simp ring at a', simp ring at b', simp ring at c', simp ring at d'))

lift : (s t : Bool) (x y c d : ℕ) → plus s (x * c) + minus t (y * d) ≤ plus t (y * d) + minus s (x * c) → plus s x * c + minus t y * d ≤ plus t y * d + minus s x * c
lift false false x y c d h = omega arith
lift false true x y c d h = omega arith
lift true false x y c d h = omega arith
lift true true x y c d h = omega arith

drop : (s t : Bool) (x y c d : ℕ) → plus s x * c + minus t y * d ≤ plus t y * d + minus s x * c → plus s (x * c) + minus t (y * d) ≤ plus t (y * d) + minus s (x * c)
drop false false x y c d h = omega arith
drop false true x y c d h = omega arith
drop true false x y c d h = omega arith
drop true true x y c d h = omega arith

lift_value : (s t : Bool) (x y q p P N : ℕ) → P + (minus s (x * q) + minus t (y * p)) ≡ N + (plus s (x * q) + plus t (y * p)) → P + (minus s x * q + minus t y * p) ≡ N + (plus s x * q + plus t y * p)
lift_value false false x y q p P N h = omega arith
lift_value false true x y q p P N h = omega arith
lift_value true false x y q p P N h = omega arith
lift_value true true x y q p P N h = omega arith

pub add_mono : (f : Format) (x x' y y' : Float) → T (finite x) → T (finite x') → T (finite y) → T (finite y') → T (le x x') → T (le y y') → T (le (add f x y) (add f x' y'))
unfolding add le
add_mono f nan x' y y' F F' G G' h k = absurd F
add_mono f (inf s) x' y y' F F' G G' h k = absurd F
add_mono f (fin s m e) nan y y' F F' G G' h k = absurd F'
add_mono f (fin s m e) (inf s') y y' F F' G G' h k = absurd F'
add_mono f (fin s m e) (fin s' m' e') nan y' F F' G G' h k = absurd G
add_mono f (fin s m e) (fin s' m' e') (inf t) y' F F' G G' h k = absurd G
add_mono f (fin s m e) (fin s' m' e') (fin t n d) nan F F' G G' h k = absurd G'
add_mono f (fin s m e) (fin s' m' e') (fin t n d) (inf t') F F' G G' h k = absurd G'
add_mono f (fin s m e) (fin s' m' e') (fin t n d) (fin t' n' d') F F' G G' h k =
    let X = m * up e in
    let X' = m' * up e' in
    let Y = n * up d in
    let Y' = n' * up d' in
    let p = down e in
    let p' = down e' in
    let q = down d in
    let q' = down d' in
    let u = total f s (X * q) t (Y * p) (p * q) in
    let v = total f s' (X' * q') t' (Y' * p') (p' * q') in
    let a = lift s s' X X' p' p (spread s s' (X * p') (X' * p) (signed s (X * p') s' (X' * p) h)) in
    let b = lift t t' Y Y' q' q (spread t t' (Y * q') (Y' * q) (signed t (Y * q') t' (Y' * q) k)) in
    let c = cross (plus s X) (minus s X) (plus s' X') (minus s' X') (plus t Y) (minus t Y) (plus t' Y') (minus t' Y') p q p' q' (plus u.sign u.mag) (minus u.sign u.mag) (plus v.sign v.mag) (minus v.sign v.mag) a b
    (lift_value s t X Y q p (plus u.sign u.mag) (minus u.sign u.mag) u.value) (lift_value s' t' X' Y' q' p' (plus v.sign v.mag) (minus v.sign v.mag) v.value) in
    subst (λ (z : Float). T (le z (sum f s' (X' * q') t' (Y' * p') (p' * q')))) (sym u.is)
    (subst (λ (z : Float). T (le (round f u.sign u.mag (p * q)) z)) (sym v.is)
    (round_signed f u.sign v.sign u.mag v.mag (p * q) (p' * q') (mul-pos (down_pos e) (down_pos d)) (mul-pos (down_pos e') (down_pos d'))
    (gather u.sign v.sign (u.mag * (p' * q')) (v.mag * (p * q)) (drop u.sign v.sign u.mag v.mag (p' * q') (p * q) c))))

-- x ≤ x' and y' ≤ y give x - y ≤ x' - y'
pub sub_mono : (f : Format) (x x' y y' : Float) → T (finite x) → T (finite x') → T (finite y) → T (finite y') → T (le x x') → T (le y' y) → T (le (sub f x y) (sub f x' y'))
unfolding sub
sub_mono f x x' y y' F F' G G' h k = add_mono f x x' (neg y) (neg y') F F' (neg_finite y G) (neg_finite y' G') h (neg_le y' y k)

refl_finite : (x : Float) → T (finite x) → T (le x x)
refl_finite x h = order.le_refl x (finite_number x h)

pub add_number : (f : Format) (x y : Float) → T (finite x) → T (finite y) → Number (add f x y)
add_number f x y F G = le_number_l (add f x y) (add f x y) (add_mono f x x y y F F G G (refl_finite x F) (refl_finite y G))

pub sub_number : (f : Format) (x y : Float) → T (finite x) → T (finite y) → Number (sub f x y)
unfolding sub
sub_number f x y F G = add_number f x (neg y) F (neg_finite y G)

-- where the sums of the lower and of the upper bounds are finite
module _ (f : Format) (x lo hi y lo' hi' : Float) (F : T (finite lo)) (F' : T (finite hi)) (G : T (finite lo')) (G' : T (finite hi')) (h : T (le lo x)) (h' : T (le x hi)) (k : T (le lo' y)) (k' : T (le y hi')) where
  X : T (finite x)
  X = finite_between lo x hi F F' h h'

  Y : T (finite y)
  Y = finite_between lo' y hi' G G' k k'

  pub add_finite : T (finite (add f lo lo')) → T (finite (add f hi hi')) → T (finite (add f x y))
  add_finite a b = finite_between (add f lo lo') (add f x y) (add f hi hi') a b (add_mono f lo x lo' y F X G Y h k) (add_mono f x hi y hi' X F' Y G' h' k')

  pub sub_finite : T (finite (sub f lo hi')) → T (finite (sub f hi lo')) → T (finite (sub f x y))
  sub_finite a b = finite_between (sub f lo hi') (sub f x y) (sub f hi lo') a b (sub_mono f lo x hi' y F X G' Y h k') (sub_mono f x hi y lo' X F' Y G h' k)

-- ---- exact results
pub sub_of_neg : (f : Format) (x y : Float) → sub f x (neg y) ≡ add f x y
unfolding sub
sub_of_neg f x y = ap (add f x) (neg_neg y)

sum_comm : (f : Format) (s : Bool) (a : ℕ) (t : Bool) (b c : ℕ) → sum f s a t b c ≡ sum f t b s a c
unfolding sum
sum_comm f false a false b c = ap (λ (n : ℕ). round f false n c) (nat.add_comm a b)
sum_comm f true a true b c = ap (λ (n : ℕ). round f true n c) (nat.add_comm a b)
sum_comm f false a true b c = other a b (dec_le a b) (dec_le b a)
  where
    other : (a b : ℕ) → Dec (a ≤ b) → Dec (b ≤ a) → cond (ltb a b) (round f true (b - a) c) (round f false (a - b) c) ≡ cond (ltb b a) (round f false (a - b) c) (round f (ltb a b) (b - a) c)
    other a b (yes h) (yes k) = let e : a ≡ b = omega arith in rw (e, le-ltb b b (le_refl b))
    other a b (yes h) (no k) = rw (lt-ltb a b (omega arith), le-ltb b a h)
    other a b (no h) k = rw (le-ltb a b (omega arith), lt-ltb b a (omega arith))
sum_comm f true a false b c = other a b (dec_le a b) (dec_le b a)
  where
    other : (a b : ℕ) → Dec (a ≤ b) → Dec (b ≤ a) → cond (ltb a b) (round f false (b - a) c) (round f (ltb b a) (a - b) c) ≡ cond (ltb b a) (round f true (a - b) c) (round f false (b - a) c)
    other a b (yes h) (yes k) = let e : a ≡ b = omega arith in rw (e, le-ltb b b (le_refl b))
    other a b (yes h) (no k) = rw (lt-ltb a b (omega arith), le-ltb b a h)
    other a b (no h) k = rw (le-ltb a b (omega arith), lt-ltb b a (omega arith))

pub add_comm : (f : Format) (x y : Float) → add f x y ≡ add f y x
unfolding add
add_comm f nan nan = refl
add_comm f nan (inf t) = refl
add_comm f nan (fin t n d) = refl
add_comm f (inf s) nan = refl
add_comm f (inf true) (inf true) = refl
add_comm f (inf true) (inf false) = refl
add_comm f (inf false) (inf true) = refl
add_comm f (inf false) (inf false) = refl
add_comm f (inf s) (fin t n d) = refl
add_comm f (fin s m e) nan = refl
add_comm f (fin s m e) (inf t) = refl
add_comm f (fin s m e) (fin t n d) = sum_comm f s (m * up e * down d) t (n * up d * down e) (down e * down d) ∙ ap (λ (c : ℕ). sum f t (n * up d * down e) s (m * up e * down d) c) (mul_comm (down e) (down d))

sum_self : (f : Format) (s : Bool) (a c : ℕ) → sum f s a (not s) a c ≡ round f false 0 c
unfolding sum
sum_self f false a c = rw (le-ltb a a (le_refl a)) (ap (λ (n : ℕ). round f false n c) (nat.sub_self a))
sum_self f true a c = rw (le-ltb a a (le_refl a)) (ap (λ (n : ℕ). round f false n c) (nat.sub_self a))

pub sub_self : (f : Format) (x : Float) → T (finite x) → sub f x x ≡ zero64
unfolding sub add neg
sub_self f nan h = absurd h
sub_self f (inf s) h = absurd h
sub_self f (fin s m e) h = sum_self f s (m * up e * down e) (down e * down e) ∙ round_zero f false (down e * down e) (mul-pos (down_pos e) (down_pos e)) ∙ sym zero_is

sum_zero : (f : Format) (s : Bool) (a c : ℕ) → sum f s a true 0 c ≡ round f s a c
unfolding sum
sum_zero f true a c = ap (λ (n : ℕ). round f true n c) (add-zero a)
sum_zero f false a c = rw (le-ltb a 0 zero-le) (ap (λ (n : ℕ). round f false n c) (nat.sub-zero a))

sub_zero_is : (f : Format) (s : Bool) (m : ℕ) (e : ℤ) → sub f (fin s m e) zero64 ≡ round f s (m * up e) (down e)
unfolding sub add neg
sub_zero_is f s m e =
    ap (λ (z : Float). add f (fin s m e) (neg z)) zero_is
    ∙ ap (λ (n : ℕ). sum f s (m * up e * 1) true n (down e * 1)) (zero-mul (down e))
    ∙ sum_zero f s (m * up e * 1) (down e * 1)
    ∙ ap (λ (n : ℕ). round f s n (down e * 1)) (mul-one (m * up e))
    ∙ ap (λ (n : ℕ). round f s (m * up e) n) (mul-one (down e))

pub sub_zero : (f : Format) (x : Float) → T (finite x) → T (fits f x) → T (eq (sub f x zero64) x)
sub_zero f nan h k = absurd h
sub_zero f (inf s) h k = absurd h
sub_zero f (fin s m e) h k =
    let r = round_own f s m e (fits_in f s m e k) in
    subst (λ (v : Float). T (eq v (fin s m e))) (sym (sub_zero_is f s m e)) (le_antisym (round f s (m * up e) (down e)) (fin s m e) r.1 r.0)

-- y - x and -(x - y) compare equal: they differ at most in the sign of a zero
turned_value : (s t u v : Bool) (a b k l : ℕ)
    → plus u k + (minus s a + minus (not t) b) ≡ minus u k + (plus s a + plus (not t) b) → plus v l + (minus t b + minus (not s) a) ≡ minus v l + (plus t b + plus (not s) a)
    → (plus v l + plus u k ≡ minus v l + minus u k)
turned_value false false u v a b k l h i = omega arith
turned_value false true u v a b k l h i = omega arith
turned_value true false u v a b k l h i = omega arith
turned_value true true u v a b k l h i = omega arith

same_size : (u v : Bool) (k l : ℕ) → plus v l + plus u k ≡ minus v l + minus u k → SLe v l (not u) k × SLe (not u) k v l
same_size false false k l h = ((omega arith, omega arith), tt)
same_size false true k l h = (omega arith, omega arith)
same_size true false k l h = (omega arith, omega arith)
same_size true true k l h = (tt, (omega arith, omega arith))

pub sub_turn : (f : Format) (x y : Float) → T (finite x) → T (finite y) → T (eq (sub f y x) (neg (sub f x y)))
unfolding sub add neg
sub_turn f nan y F G = absurd F
sub_turn f (inf s) y F G = absurd F
sub_turn f (fin s m e) nan F G = absurd G
sub_turn f (fin s m e) (inf t) F G = absurd G
sub_turn f (fin s m e) (fin t n d) F G =
    let A = m * up e * down d in
    let B = n * up d * down e in
    let c = down e * down d in
    let u = total f s A (not t) B c in
    let v = total f t B (not s) A c in
    let C : 0 < c = mul-pos (down_pos e) (down_pos d) in
    let z = same_size u.sign v.sign u.mag v.mag (turned_value s t u.sign v.sign A B u.mag v.mag u.value v.value) in
    let w : T (eq (round f v.sign v.mag c) (round f (not u.sign) u.mag c)) =
    le_antisym (round f v.sign v.mag c) (round f (not u.sign) u.mag c)
    (round_signed f v.sign (not u.sign) v.mag u.mag c c C C (signed_up v.sign (not u.sign) v.mag u.mag c z.0))
    (round_signed f (not u.sign) v.sign u.mag v.mag c c C C (signed_up (not u.sign) v.sign u.mag v.mag c z.1)) in
    subst (λ (k : ℕ). T (eq (sum f t B (not s) A k) (neg (sum f s A (not t) B c)))) (mul_comm (down e) (down d))
    (subst (λ (x : Float). T (eq x (neg (sum f s A (not t) B c)))) (sym v.is)
    (subst (λ (x : Float). T (eq (round f v.sign v.mag c) (neg x))) (sym u.is)
    (subst (λ (x : Float). T (eq (round f v.sign v.mag c) x)) (round_not f u.sign u.mag c) w)))

-- ---- the sign of a difference is the order of the two
pub sub_nonneg : (f : Format) (a b : Float) → T (finite a) → T (finite b) → T (le a b) → T (le zero64 (sub f b a))
sub_nonneg f a b F G h = subst (λ (v : Float). T (le v (sub f b a))) (sub_self f a F) (sub_mono f a b a a F G F F h (refl_finite a F))

pub sub_nonpos : (f : Format) (a b : Float) → T (finite a) → T (finite b) → T (le b a) → T (le (sub f b a) zero64)
sub_nonpos f a b F G h = subst (λ (v : Float). T (le (sub f b a) v)) (sub_self f a F) (sub_mono f b a a a G F F F h (refl_finite a F))

-- a difference of two different numbers is at least the smallest value
apart : (s t sign : Bool) (a b mag A B D l : ℕ) → 0 < D → a * l ≡ A * D → b * l ≡ B * D
    → plus sign mag + (minus s a + minus (not t) b) ≡ minus sign mag + (plus s a + plus (not t) b)
    → plus t B + minus s A < plus s A + minus t B → SLe false (1 * D) sign (mag * l)
apart false false false a b mag A B D l p x y v h = omega (arith, ap (λ (z : ℕ). z * l) v, mul-le-mul_right D h)
apart false true false a b mag A B D l p x y v h = omega (arith, ap (λ (z : ℕ). z * l) v, mul-le-mul_right D h)
apart true false false a b mag A B D l p x y v h = let y : ⊥ = omega arith in absurd y
apart true true false a b mag A B D l p x y v h = omega (arith, ap (λ (z : ℕ). z * l) v, mul-le-mul_right D h)
apart false false true a b mag A B D l p x y v h = let y : ⊥ = omega (arith, ap (λ (z : ℕ). z * l) v, mul-le-mul_right D h) in absurd y
apart false true true a b mag A B D l p x y v h = let y : ⊥ = omega (arith, ap (λ (z : ℕ). z * l) v, mul-le-mul_right D h) in absurd y
apart true false true a b mag A B D l p x y v h = let y : ⊥ = omega arith in absurd y
apart true true true a b mag A B D l p x y v h = let y : ⊥ = omega (arith, ap (λ (z : ℕ). z * l) v, mul-le-mul_right D h) in absurd y

strict : (M : ℕ) (s : Bool) (A : ℕ) (t : Bool) (B : ℕ) → A < M → B < M → offset M t B < offset M s A → plus t B + minus s A < plus s A + minus t B
strict M false A false B i j h = omega arith
strict M false A true B i j h = omega arith
strict M true A false B i j h = omega arith
strict M true A true B i j h = omega arith

smallest : (f : Format) → T (lt zero64 (round f false 1 (2 ^ low f)))
unfolding lt round of_bits
smallest binary32 = tt
smallest binary64 = tt

wider : (f : Format) (a b : Float) → T (finite a) → T (finite b) → T (fits f a) → T (fits f b) → rank f a < rank f b → T (le (round f false 1 (2 ^ low f)) (sub f b a))
unfolding sub add neg rank
wider f a nan F G g k h = absurd G
wider f a (inf s) F G g k h = absurd G
wider f nan (fin s m e) F G g k h = absurd F
wider f (inf t) (fin s m e) F G g k h = absurd F
wider f (fin t n d) (fin s m e) F G g k h =
    let H = fits_in f s m e k in
    let K = fits_in f t n d g in
    let D = down e * down d in
    let P : 0 < D = mul-pos (down_pos e) (down_pos d) in
    let u = total f s (m * up e * down d) (not t) (n * up d * down e) D in
    subst (λ (v : Float). T (le (round f false 1 (2 ^ low f)) v)) (sym u.is)
    (round_signed f false u.sign 1 u.mag (2 ^ low f) D (pow_pos (low f)) P
    (apart s t u.sign (m * up e * down d) (n * up d * down e) u.mag (ulps f m e) (ulps f n d) D (2 ^ low f) P (ulps_left f m e n d H K) (ulps_right f m e n d H K) u.value
    (strict (overflow f) s (ulps f m e) t (ulps f n d) (ulps_lt f m e H) (ulps_lt f n d K) h)))

pub sub_pos : (f : Format) (a b : Float) → T (finite a) → T (finite b) → T (fits f a) → T (fits f b) → T (lt a b) → T (lt zero64 (sub f b a))
sub_pos f a b F G g k h =
    lt_le_trans zero64 (round f false 1 (2 ^ low f)) (sub f b a) (smallest f)
    (wider f a b F G g k (lt_rank f a b (held_finite f a F g) (held_finite f b G k) h))

pub sub_pos_lt : (f : Format) (a b : Float) → T (finite a) → T (finite b) → T (lt zero64 (sub f b a)) → T (lt a b)
sub_pos_lt f a b F G h = elim (le_or_lt b a (finite_number b G) (finite_number a F)) [ inl k ↦ absurd (lt_not_le zero64 (sub f b a) h (sub_nonpos f a b F G k)) | inr k ↦ k ]

pub sub_neg : (f : Format) (a b : Float) → T (finite a) → T (finite b) → T (fits f a) → T (fits f b) → T (lt b a) → T (lt (sub f b a) zero64)
sub_neg f a b F G g k h =
    le_lt_trans (sub f b a) (neg (sub f a b)) zero64 (eq_le (sub f b a) (neg (sub f a b)) (sub_turn f a b F G))
    (lt_le_trans (neg (sub f a b)) (neg zero64) zero64 (neg_lt zero64 (sub f a b) (sub_pos f b a G F k g h)) neg_zero_le)

pub sub_neg_lt : (f : Format) (a b : Float) → T (finite a) → T (finite b) → T (lt (sub f b a) zero64) → T (lt b a)
sub_neg_lt f a b F G h = elim (le_or_lt a b (finite_number a F) (finite_number b G)) [ inl k ↦ absurd (lt_not_le (sub f b a) zero64 h (sub_nonneg f a b F G k)) | inr k ↦ k ]

-- ---- x - t ≤ x ≤ x + t for a t that is not below zero, an infinite one among them
sub_inf : (f : Format) (x : Float) → T (finite x) → T (le (sub f x (inf false)) x)
unfolding sub add neg le
sub_inf f nan h = absurd h
sub_inf f (inf t) h = absurd h
sub_inf f (fin t m e) h = tt

add_inf : (f : Format) (x : Float) → T (finite x) → T (le x (add f x (inf false)))
unfolding add le
add_inf f nan h = absurd h
add_inf f (inf t) h = absurd h
add_inf f (fin t m e) h = tt

-- at or above zero: a finite value, or infinity
above_zero : (P : Float → Type 0) (t : Float) → T (le zero64 t) → (T (finite t) → P t) → P (inf false) → P t
unfolding le of_bits
above_zero P nan h f i = absurd h
above_zero P (inf true) h f i = absurd h
above_zero P (inf false) h f i = i
above_zero P (fin s m e) h f i = f tt

pub sub_below : (f : Format) (x t : Float) → T (finite x) → T (fits f x) → T (le zero64 t) → T (le (sub f x t) x)
sub_below f x t F p h = above_zero (λ (v : Float). T (le (sub f x v) x)) t h
    (λ G. order.le_trans (sub f x t) (sub f x zero64) x (sub_mono f x x t zero64 F F G zero_finite (refl_finite x F) h) (eq_le (sub f x zero64) x (sub_zero f x F p)))
    (sub_inf f x F)

pub add_above : (f : Format) (x t : Float) → T (finite x) → T (fits f x) → T (le zero64 t) → T (le x (add f x t))
add_above f x t F p h = above_zero (λ (v : Float). T (le x (add f x v))) t h
    (λ G.
    subst (λ (v : Float). T (le x v)) (sub_of_neg f x t)
    (order.le_trans x (sub f x zero64) (sub f x (neg t)) (eq_le x (sub f x zero64) (eq_sym (sub f x zero64) x (sub_zero f x F p)))
    (sub_mono f x x zero64 (neg t) F F zero_finite (neg_finite t G) (refl_finite x F) (order.le_trans (neg t) (neg zero64) zero64 (neg_le zero64 t h) neg_zero_le))))
    (add_inf f x F)
