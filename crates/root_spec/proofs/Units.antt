-- What `fits` says of a finite value. Its magnitude is a whole number of the format's smallest values: `ulps`, by which two magnitudes compare. Assumes nothing.
use Prim.Native.Nat.{ℕ, zero, suc, ◌+◌, ◌-◌, ◌*◌, ◌/◌, ◌%◌, ◌^◌, ◌≤◌, ◌<◌}
use mathlib.Core.Bool.{Bool, false, ◌&&◌}
use mathlib.Core.Path.{◌≡◌, refl, sym, ap, ◌∙◌}
use native.Mathlib.Omega.{arith}
use native.Mathlib.Nat.{le_trans, le_of_eq, lt_of_le_of_lt, lt_of_lt_of_le, mul-pos, mul-one, zero-mul, mul_comm, mul_assoc, mul_right_comm, mul-le-mul_right, mul-lt-mul_of_pos_right, lt_of_mul-lt-mul_right, le_of_mul-le-mul_right, mul-div_cancel, lt-suc_self}
use lib.Dec.{T, ltb, leb, eqb, ltb→lt, leb→le, eqb→eq}
use lib.IntN.{ℤ, pos, negsuc}
use lib.Pow.{pow_pos, pow-add, pow-lt}
use lib.Ieee.{fin, Format, prec, low, emax, up, down, fits}
use lib.Ieee.Fits.{down_pos, up_pos, and_l, and_r}
use Rattle.nat_laws.proofs.Power.{pow_back}
use Rattle.root_spec.specs.Nearest.{HoldsValue}

pub record FitsIn (f : Format) (m : ℕ) (e : ℤ) : Type 0 where
  pub few : m < 2 ^ prec f
  pub deep : down e ≤ 2 ^ low f
  pub under : m * up e < 2 ^ suc (emax f) * down e

pub fits_in : (f : Format) (s : Bool) (m : ℕ) (e : ℤ) → T (fits f (fin s m e)) → FitsIn f m e
unfolding fits
fits_in f s zero e h =
    let x = eqb→eq (up e * down e) 1 h in
    let y : down e ≤ 1 = omega (arith, mul-le-mul_right (down e) (up_pos e)) in
    record { few = pow_pos (prec f); deep = le_trans y (pow_pos (low f)); under = lt_of_le_of_lt (le_of_eq (zero-mul (up e))) (mul-pos (pow_pos (suc (emax f))) (down_pos e)) }
fits_in f s (suc m) e h =
    let a = eqb (suc m % 2) 1 in
    let b = ltb (suc m) (2 ^ prec f) in
    let c = leb (down e) (2 ^ low f) in
    let d = ltb (suc m * up e) (2 ^ suc (emax f) * down e) in
    record {
      few = ltb→lt (suc m) (2 ^ prec f) (and_r a b (and_l (a && b) c (and_l (a && b && c) d h)));
      deep = leb→le (down e) (2 ^ low f) (and_r (a && b) c (and_l (a && b && c) d h));
      under = ltb→lt (suc m * up e) (2 ^ suc (emax f) * down e) (and_r (a && b && c) d h);
    }

-- whatever the sign
pub fits_either : (f : Format) (s t : Bool) (m : ℕ) (e : ℤ) → T (fits f (fin s m e)) → T (fits f (fin t m e))
unfolding fits
fits_either f s t zero e h = h
fits_either f s t (suc m) e h = h

-- the magnitude is m * 2 ^ j of the smallest values
pub record Grid (f : Format) (m : ℕ) (e : ℤ) : Type 0 where
  pub j : ℕ
  pub is : m * up e * 2 ^ low f ≡ m * 2 ^ j * down e

pub grid : (f : Format) (m : ℕ) (e : ℤ) → down e ≤ 2 ^ low f → Grid f m e
grid f m (pos k) h = record { j = k + low f; is = mul_assoc m (2 ^ k) (2 ^ low f) ∙ ap (λ (x : ℕ). m * x) (sym (pow-add 2 k (low f))) ∙ sym (mul-one (m * 2 ^ (k + low f))) }
grid f m (negsuc k) h =
    let l : suc k ≤ low f = omega (arith, pow_back (suc k) (suc (low f)) (lt_of_le_of_lt h (pow-lt (lt-suc_self (low f))))) in
    record { j = low f - suc k; is = ap (λ (x : ℕ). x * 2 ^ low f) (mul-one m) ∙ ap (λ (x : ℕ). m * 2 ^ x) (rejoin (suc k) (low f) l) ∙ ap (λ (x : ℕ). m * x) (pow-add 2 (low f - suc k) (suc k)) ∙ sym (mul_assoc m (2 ^ (low f - suc k)) (2 ^ suc k)) }
  where
    rejoin : (a b : ℕ) → a ≤ b → b ≡ b - a + a
    rejoin a b h = omega arith

-- it is below 2 ^ (emax + 1), and so is c times it, where that is so of the value
pub grid_lt : (f : Format) (m : ℕ) (e : ℤ) (g : Grid f m e) (c : ℕ) → m * up e * c < 2 ^ suc (emax f) * down e → m * 2 ^ g.j * c < 2 ^ (low f + suc (emax f))
grid_lt f m e g c h =
    lt_of_mul-lt-mul_right (down e)
    (lt_of_le_of_lt (le_of_eq (mul_right_comm (m * 2 ^ g.j) c (down e) ∙ ap (λ (x : ℕ). x * c) (sym g.is) ∙ mul_right_comm (m * up e) (2 ^ low f) c))
    (lt_of_lt_of_le (mul-lt-mul_of_pos_right h (pow_pos (low f)))
    (le_of_eq (mul_right_comm (2 ^ suc (emax f)) (down e) (2 ^ low f) ∙ ap (λ (x : ℕ). x * down e) (mul_comm (2 ^ suc (emax f)) (2 ^ low f) ∙ sym (pow-add 2 (low f) (suc (emax f))))))))

-- how many of the smallest values
unfoldable pub ulps : Format → ℕ → ℤ → ℕ
ulps f m e = m * up e * 2 ^ low f / down e

pub ulps_is : (f : Format) (m : ℕ) (e : ℤ) → FitsIn f m e → ulps f m e * down e ≡ m * up e * 2 ^ low f
unfolding ulps
ulps_is f m e h =
    let g = grid f m e h.deep in
    ap (λ (x : ℕ). x / down e * down e) g.is ∙ ap (λ (x : ℕ). x * down e) (mul-div_cancel (m * 2 ^ g.j) (down_pos e)) ∙ sym g.is

-- 2 ^ (emax + 1) in those units: past every value
unfoldable pub overflow : Format → ℕ
overflow f = 2 ^ suc (emax f) * 2 ^ low f

pub overflow_pos : (f : Format) → 0 < overflow f
unfolding overflow
overflow_pos f = mul-pos (pow_pos (suc (emax f))) (pow_pos (low f))

pub ulps_lt : (f : Format) (m : ℕ) (e : ℤ) → FitsIn f m e → ulps f m e < overflow f
unfolding overflow
ulps_lt f m e h = lt_of_mul-lt-mul_right (down e) (lt_of_le_of_lt (le_of_eq (ulps_is f m e h)) (lt_of_lt_of_le (mul-lt-mul_of_pos_right h.under (pow_pos (low f))) (le_of_eq (mul_right_comm (2 ^ suc (emax f)) (down e) (2 ^ low f)))))

-- two magnitudes over one denominator
module _ (f : Format) (m : ℕ) (e : ℤ) (n : ℕ) (d : ℤ) (H : FitsIn f m e) (K : FitsIn f n d) where
  pub ulps_left : m * up e * down d * 2 ^ low f ≡ ulps f m e * (down e * down d)
  ulps_left = mul_right_comm (m * up e) (down d) (2 ^ low f) ∙ ap (λ (x : ℕ). x * down d) (sym (ulps_is f m e H)) ∙ mul_assoc (ulps f m e) (down e) (down d)

  pub ulps_right : n * up d * down e * 2 ^ low f ≡ ulps f n d * (down e * down d)
  ulps_right = mul_right_comm (n * up d) (down e) (2 ^ low f) ∙ ap (λ (x : ℕ). x * down e) (sym (ulps_is f n d K)) ∙ mul_assoc (ulps f n d) (down d) (down e) ∙ ap (λ (x : ℕ). ulps f n d * x) (mul_comm (down d) (down e))

  pub ulps_le : ulps f m e ≤ ulps f n d → m * up e * down d ≤ n * up d * down e
  ulps_le h = le_of_mul-le-mul_right (le_trans (le_of_eq ulps_left) (le_trans (mul-le-mul_right (down e * down d) h) (le_of_eq (sym ulps_right)))) (pow_pos (low f))

  pub le_ulps : m * up e * down d ≤ n * up d * down e → ulps f m e ≤ ulps f n d
  le_ulps h = le_of_mul-le-mul_right (le_trans (le_of_eq (sym ulps_left)) (le_trans (mul-le-mul_right (2 ^ low f) h) (le_of_eq ulps_right))) (mul-pos (down_pos e) (down_pos d))

-- each finite value that is not negative is a whole number of units
pub in_units : (f : Format) (m : ℕ) (e : ℤ) → T (fits f (fin false m e)) → (Y : ℕ) × HoldsValue f (fin false m e) Y
in_units f m e t = let g = grid f m e (fits_in f false m e t).deep in (m * 2 ^ g.j, (t, (refl, g.is)))
