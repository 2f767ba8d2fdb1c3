-- The Rust's functions on vectors, one rounding for each operation, in its order. Definitions only.
use Rattle.std.specs.Prelude.{Float}
use Rattle.std.specs.Float.{binary64}
use Rattle.root_spec.specs.Root.{sqrt_of}
use Rattle.float64.specs.Notation.{◌⊕◌, ◌⊖◌, ◌⊗◌}
use Rattle.vec3.specs.declared.Vec3.{Vec3}

unfoldable pub scale_of : Vec3 → Float → Vec3
scale_of a k = record { x = a.x ⊗ k; y = a.y ⊗ k; z = a.z ⊗ k }

unfoldable pub axpy_of : Vec3 → Float → Vec3 → Vec3
axpy_of a k b = record { x = a.x ⊕ k ⊗ b.x; y = a.y ⊕ k ⊗ b.y; z = a.z ⊕ k ⊗ b.z }

unfoldable pub sub_of : Vec3 → Vec3 → Vec3
sub_of a b = record { x = a.x ⊖ b.x; y = a.y ⊖ b.y; z = a.z ⊖ b.z }

unfoldable pub dot_of : Vec3 → Vec3 → Float
dot_of a b = a.x ⊗ b.x ⊕ a.y ⊗ b.y ⊕ a.z ⊗ b.z

unfoldable pub cross_of : Vec3 → Vec3 → Vec3
cross_of a b = record {
  x = a.y ⊗ b.z ⊖ a.z ⊗ b.y;
  y = a.z ⊗ b.x ⊖ a.x ⊗ b.z;
  z = a.x ⊗ b.y ⊖ a.y ⊗ b.x;
}

unfoldable pub norm_of : Vec3 → Float
unfolding dot_of
norm_of a = sqrt_of binary64 (dot_of a a)
