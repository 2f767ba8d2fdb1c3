-- A length, which is a root, is above zero exactly where its argument is. Assumes nothing.
use Prim.Native.Nat.{zero, suc, ◌*◌, ◌≤◌, ◌<◌}
use mathlib.Core.Bool.{true, false}
use mathlib.Core.Path.{◌≡◌, refl, subst}
use native.Mathlib.Nat.{zero-mul, mul-pos}
use native.Mathlib.Omega.{arith}
use lib.Dec.{T, not_T, lt→ltb}
use lib.Ieee.{Float, nan, inf, fin, binary64, up, down, lt, le, fits, of_bits, to_bits, is_nan}
use lib.Ieee.Bits.{is_true, is_false, of_bits-fits}
use lib.Ieee.Fits.{add-fits, up_pos, down_pos}
use Rattle.nat_laws.proofs.Tests.{holds}
use Rattle.root_spec.specs.Root.{sqrt_of}
use Rattle.root_spec.proofs.Correct.{sqrt_negative}
use Rattle.float64.specs.Scalar.{zero64}
use Rattle.float64.specs.Notation.{◌⊕◌, ◌⊗◌}
use Rattle.float64.specs.TotalOrder.{total_key}
use Rattle.float_laws.proofs.Order.{lt_number_r, le_number_r, lt_le_trans}
use Rattle.float_laws.proofs.Total.{lt_key, key_le}
use Rattle.float_laws.proofs.RootOrder.{sqrt_mono}
use Rattle.vec3.specs.declared.Vec3.{Vec3}
use Rattle.vec3.specs.Vec.{dot_of, norm_of}

-- the least double above zero
abbrev least : Float
least = of_bits binary64 1

next_key : total_key least ≡ suc (total_key zero64)
unfolding total_key to_bits of_bits
next_key = refl

least_from_zero : T (le zero64 least)
unfolding le of_bits
least_from_zero = tt

least_root : T (lt zero64 (sqrt_of binary64 least))
unfolding sqrt_of lt of_bits
least_root = tt

root_above : (x : Float) → T (fits binary64 x) → T (lt zero64 x) → T (lt zero64 (sqrt_of binary64 x))
root_above x p h =
    let held = of_bits-fits binary64 1 in
    let i : total_key least ≤ total_key x = omega (arith, lt_key zero64 x (of_bits-fits binary64 0) p h, next_key) in
    let k = key_le least x held p (le_number_r zero64 least least_from_zero) (lt_number_r zero64 x h) i in
    lt_le_trans zero64 (sqrt_of binary64 least) (sqrt_of binary64 x) least_root (sqrt_mono binary64 least x held p least_from_zero k)

argument_above : (x : Float) → T (lt zero64 (sqrt_of binary64 x)) → T (lt zero64 x)
unfolding sqrt_of lt is_nan of_bits
argument_above nan h = h
argument_above (inf true) h = h
argument_above (inf false) h = tt
argument_above (fin s zero e) h = h
argument_above (fin true (suc m) e) h =
    absurd (subst (λ (z : Float). T (lt zero64 z)) (sqrt_negative binary64 (fin true (suc m) e) (suc m * up e) (down e) (mul-pos (omega arith) (up_pos e)) (down_pos e) (refl, refl)) h)
argument_above (fin false (suc m) e) h =
    let o : 0 < suc m = omega arith in
    lt→ltb (0 * 1 * down e) (suc m * up e * 1) (omega (arith, zero-mul (down e), mul-pos o (up_pos e)))

-- for the argument x that the code computed
module _ (d : Vec3) (x : Float) (is_x : x ≡ dot_of d d) where
  pub norm_above : lt zero64 x ≡ true → lt zero64 (norm_of d) ≡ true
  unfolding norm_of dot_of
  norm_above h =
      is_true (lt zero64 (sqrt_of binary64 (dot_of d d)))
      (root_above (dot_of d d) (add-fits binary64 (d.x ⊗ d.x ⊕ d.y ⊗ d.y) (d.z ⊗ d.z)) (subst (λ (z : Float). T (lt zero64 z)) is_x (holds (lt zero64 x) h)))

  pub norm_not_above : lt zero64 x ≡ false → lt zero64 (norm_of d) ≡ false
  unfolding norm_of
  norm_not_above h =
      is_false (lt zero64 (sqrt_of binary64 (dot_of d d)))
      (not_T (lt zero64 (sqrt_of binary64 (dot_of d d))) (λ k. rw (← is_x, h) at (argument_above (dot_of d d) k)))
