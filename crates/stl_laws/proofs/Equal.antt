-- On points with finite coordinates sameness is an equivalence. Assumes nothing.
use Prim.Native.Nat.{ℕ, zero, suc, ◌<◌}
use native.Mathlib.Omega.{arith}
use mathlib.Core.Path.{◌≡◌, sym, subst}
use mathlib.Core.Bool.{Bool, true, false, ◌&&◌}
use mathlib.Core.List.{List}
use lib.Dec.{T}
use lib.Ieee.{eq}
use lib.Ieee.Bits.{is_true}
use lib.Ieee.Fits.{and_i, and_l, and_r}
use lib.Ieee.Scale.{finite}
use Rattle.float_laws.proofs.Order.{finite_number, eq_refl, eq_sym, eq_trans}
use Rattle.stl_format.specs.Format.{coordinate, bytes_not_finite, same_point}
use Rattle.stl.proofs.Same.{all_finite}

holds : (b : Bool) → b ≡ true → T b
holds b e = subst T (sym e) tt

-- each coordinate compares equal, and where all do the points are the same
module _ (s : List ℕ) (g h : ℕ) where
  pub equal_at : same_point s g h ≡ true → (c : ℕ) → c < 3 → T (eq (coordinate s g c) (coordinate s h c))
  unfolding same_point
  equal_at e c l =
      let A = eq (coordinate s g 0) (coordinate s h 0) in
      let B = eq (coordinate s g 1) (coordinate s h 1) in
      let C = eq (coordinate s g 2) (coordinate s h 2) in
      let t : T (A && B && C) = holds (A && B && C) e in
      pick c l (and_l A B (and_l (A && B) C t)) (and_r A B (and_l (A && B) C t)) (and_r (A && B) C t)
    where
      pick : (c : ℕ) → c < 3 → T (eq (coordinate s g 0) (coordinate s h 0)) → T (eq (coordinate s g 1) (coordinate s h 1)) → T (eq (coordinate s g 2) (coordinate s h 2)) → T (eq (coordinate s g c) (coordinate s h c))
      pick zero l p q r = p
      pick (suc zero) l p q r = q
      pick (suc (suc zero)) l p q r = r
      pick (suc (suc (suc c))) l p q r = absurd (omega arith)

  pub same_of : ((c : ℕ) → c < 3 → T (eq (coordinate s g c) (coordinate s h c))) → same_point s g h ≡ true
  unfolding same_point
  same_of f =
      let A = eq (coordinate s g 0) (coordinate s h 0) in
      let B = eq (coordinate s g 1) (coordinate s h 1) in
      let C = eq (coordinate s g 2) (coordinate s h 2) in
      is_true (A && B && C) (and_i (A && B) C (and_i A B (f 0 (omega arith)) (f 1 (omega arith))) (f 2 (omega arith)))

pub finite_at : (s : List ℕ) (h : ℕ) → bytes_not_finite s h ≡ false → (c : ℕ) → c < 3 → T (finite (coordinate s h c))
finite_at s h e zero l = (all_finite s h e).0
finite_at s h e (suc zero) l = (all_finite s h e).1.0
finite_at s h e (suc (suc zero)) l = (all_finite s h e).1.1
finite_at s h e (suc (suc (suc c))) l = absurd (omega arith)

module _ (s : List ℕ) where
  pub same_self : (h : ℕ) → bytes_not_finite s h ≡ false → same_point s h h ≡ true
  same_self h f = same_of s h h (λ c l. eq_refl (coordinate s h c) (finite_number (coordinate s h c) (finite_at s h f c l)))

  pub same_turned : (g h : ℕ) → same_point s g h ≡ true → same_point s h g ≡ true
  same_turned g h e = same_of s h g (λ c l. eq_sym (coordinate s g c) (coordinate s h c) (equal_at s g h e c l))

  pub same_through : (f g h : ℕ) → same_point s f g ≡ true → same_point s g h ≡ true → same_point s f h ≡ true
  same_through f g h p q = same_of s f h (λ c l. eq_trans (coordinate s f c) (coordinate s g c) (coordinate s h c) (equal_at s f g p c l) (equal_at s g h q c l))
