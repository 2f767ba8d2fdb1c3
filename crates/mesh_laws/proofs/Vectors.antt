-- Magnitudes through the functions on vectors, as computed. Assumes nothing.
--     vec_wider, vec_finite; sub_within, scale_within, axpy_within, dot_within; square_from, square_fits (0 ≤ dot u u, a double); norm_from, norm_upto (0 ≤ norm u ≤ √c)
use lib.Dec.{T}
use lib.Ieee.{Float, binary64, le, fits}
use lib.Ieee.Fits.{mul-fits, add-fits}
use lib.Ieee.Scale.{finite}
use Rattle.root_spec.specs.Root.{sqrt_of}
use Rattle.float64.specs.Scalar.{zero64}
use Rattle.float64.specs.Notation.{◌⊕◌, ◌⊗◌}
use Rattle.float_laws.proofs.Order.{le_trans}
use Rattle.float_laws.proofs.Roots.{sqrt_nonneg}
use Rattle.float_bounds.specs.Within.{Within}
use Rattle.float_bounds.proofs.Magnitude.{within_upper, within_finite, within_wider, within_add, within_sub, within_mul, square_from_zero, sum_from_zero, sqrt_upto}
use Rattle.vec3.specs.declared.Vec3.{Vec3}
use Rattle.vec3.specs.Vec.{scale_of, axpy_of, sub_of, dot_of, norm_of}
use Rattle.mesh_laws.specs.Bounds.{VecWithin, FiniteVec}

pub vec_wider : (c d : Float) (u : Vec3) → T (le c d) → VecWithin c u → VecWithin d u
vec_wider c d u k h = record { x_within = within_wider c u.x h.x_within d k; y_within = within_wider c u.y h.y_within d k; z_within = within_wider c u.z h.z_within d k }

pub vec_finite : (c : Float) (u : Vec3) → T (finite c) → VecWithin c u → FiniteVec u
vec_finite c u F h = record { x_finite = within_finite c u.x h.x_within F; y_finite = within_finite c u.y h.y_within F; z_finite = within_finite c u.z h.z_within F }

pub sub_within : (a b : Float) (u v : Vec3) → T (finite a) → T (finite b) → VecWithin a u → VecWithin b v → VecWithin (a ⊕ b) (sub_of u v)
unfolding sub_of
sub_within a b u v F G h k =
    record {
      x_within = within_sub binary64 a b u.x v.x F G h.x_within k.x_within;
      y_within = within_sub binary64 a b u.y v.y F G h.y_within k.y_within;
      z_within = within_sub binary64 a b u.z v.z F G h.z_within k.z_within;
    }

pub scale_within : (a b : Float) (u : Vec3) (k : Float) → T (finite a) → T (finite b) → VecWithin a u → Within b k → VecWithin (a ⊗ b) (scale_of u k)
unfolding scale_of
scale_within a b u k F G h w =
    record {
      x_within = within_mul binary64 a b u.x k F G h.x_within w;
      y_within = within_mul binary64 a b u.y k F G h.y_within w;
      z_within = within_mul binary64 a b u.z k F G h.z_within w;
    }

pub axpy_within : (a b c : Float) (u : Vec3) (k : Float) (v : Vec3) → T (finite a) → T (finite b) → T (finite c) → T (finite (b ⊗ c)) → VecWithin a u → Within b k → VecWithin c v → VecWithin (a ⊕ b ⊗ c) (axpy_of u k v)
unfolding axpy_of
axpy_within a b c u k v F G H J h w i =
    record {
      x_within = within_add binary64 a (b ⊗ c) u.x (k ⊗ v.x) F J h.x_within (within_mul binary64 b c k v.x G H w i.x_within);
      y_within = within_add binary64 a (b ⊗ c) u.y (k ⊗ v.y) F J h.y_within (within_mul binary64 b c k v.y G H w i.y_within);
      z_within = within_add binary64 a (b ⊗ c) u.z (k ⊗ v.z) F J h.z_within (within_mul binary64 b c k v.z G H w i.z_within);
    }

pub dot_within : (a b : Float) (u v : Vec3) → T (finite a) → T (finite b) → T (finite (a ⊗ b)) → T (finite (a ⊗ b ⊕ a ⊗ b)) → VecWithin a u → VecWithin b v → Within (a ⊗ b ⊕ a ⊗ b ⊕ a ⊗ b) (dot_of u v)
unfolding dot_of
dot_within a b u v F G J K h i =
    within_add binary64 (a ⊗ b ⊕ a ⊗ b) (a ⊗ b) (u.x ⊗ v.x ⊕ u.y ⊗ v.y) (u.z ⊗ v.z) K J
    (within_add binary64 (a ⊗ b) (a ⊗ b) (u.x ⊗ v.x) (u.y ⊗ v.y) J J (within_mul binary64 a b u.x v.x F G h.x_within i.x_within) (within_mul binary64 a b u.y v.y F G h.y_within i.y_within))
    (within_mul binary64 a b u.z v.z F G h.z_within i.z_within)

-- ---- the square of a vector and its norm
module _ (a : Float) (u : Vec3) (F : T (finite a)) (J : T (finite (a ⊗ a))) (K : T (finite (a ⊗ a ⊕ a ⊗ a))) (h : VecWithin a u) where
  pub square_from : T (le zero64 (dot_of u u))
  unfolding dot_of
  square_from =
      let X = u.x ⊗ u.x in
      let Y = u.y ⊗ u.y in
      let Z = u.z ⊗ u.z in
      let x = within_mul binary64 a a u.x u.x F F h.x_within h.x_within in
      let y = within_mul binary64 a a u.y u.y F F h.y_within h.y_within in
      let s : T (finite (X ⊕ Y)) = within_finite (a ⊗ a ⊕ a ⊗ a) (X ⊕ Y) (within_add binary64 (a ⊗ a) (a ⊗ a) X Y J J x y) K in
      sum_from_zero binary64 (X ⊕ Y) Z s (add-fits binary64 X Y)
      (sum_from_zero binary64 X Y (within_finite (a ⊗ a) X x J) (mul-fits binary64 u.x u.x) (square_from_zero binary64 u.x (within_finite a u.x h.x_within F)) (square_from_zero binary64 u.y (within_finite a u.y h.y_within F)))
      (square_from_zero binary64 u.z (within_finite a u.z h.z_within F))

  pub square_fits : T (fits binary64 (dot_of u u))
  unfolding dot_of
  square_fits = add-fits binary64 (u.x ⊗ u.x ⊕ u.y ⊗ u.y) (u.z ⊗ u.z)

  pub norm_from : T (le zero64 (norm_of u))
  unfolding norm_of
  norm_from = sqrt_nonneg binary64 (dot_of u u) square_from

  pub norm_upto : (c : Float) → T (fits binary64 c) → T (le (a ⊗ a ⊕ a ⊗ a ⊕ a ⊗ a) c) → T (le (norm_of u) (sqrt_of binary64 c))
  unfolding norm_of
  norm_upto c p k =
      sqrt_upto binary64 c (dot_of u u) p square_fits square_from
      (le_trans (dot_of u u) (a ⊗ a ⊕ a ⊗ a ⊕ a ⊗ a) c (within_upper (a ⊗ a ⊕ a ⊗ a ⊕ a ⊗ a) (dot_of u u) (dot_within a a u u F F J K h h)) k)
