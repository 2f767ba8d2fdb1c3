-- The altitude, which is a root, against its bound with no root taken: √x is `min_altitude` or more exactly where x is `min_radicand` or more. Assumes nothing.
use Prim.Native.Nat.{suc}
use mathlib.Core.Path.{◌≡◌, refl}
use lib.Dec.{T}
use lib.Ieee.{Float, binary64, of_bits, to_bits, le, lt}
use lib.Ieee.Bits.{of_bits-fits}
use lib.Ieee.Fits.{add-fits}
use Rattle.root_spec.specs.Root.{sqrt_of}
use Rattle.float64.specs.Notation.{◌⊕◌, ◌⊗◌}
use Rattle.float64.specs.TotalOrder.{total_key}
use Rattle.float_laws.proofs.RootOrder.{LeastRoot, sqrt_bound}
use Rattle.vec3.specs.declared.Vec3.{Vec3}
use Rattle.vec3.specs.Vec.{dot_of, norm_of}
use Rattle.job_checks.specs.Refusals.{min_altitude}

-- the least double whose root is 1e-6 or more: the one before 1e-12
abbrev pub min_radicand : Float
min_radicand = of_bits binary64 0x3d71_9799_812d_ea10

abbrev before : Float
before = of_bits binary64 0x3d71_9799_812d_ea0f

next_key : total_key min_radicand ≡ suc (total_key before)
unfolding total_key to_bits of_bits
next_key = refl

reaches_it : T (le min_altitude (sqrt_of binary64 min_radicand))
unfolding sqrt_of le of_bits
reaches_it = tt

before_short : T (lt (sqrt_of binary64 before) min_altitude)
unfolding sqrt_of lt of_bits
before_short = tt

least : LeastRoot min_altitude min_radicand before
least = record {
  held = of_bits-fits binary64 0x3d71_9799_812d_ea10;
  held_before = of_bits-fits binary64 0x3d71_9799_812d_ea0f;
  next = next_key;
  reaches = reaches_it;
  falls_short = before_short;
}

pub altitude_test : (p : Vec3) → le min_altitude (norm_of p) ≡ le min_radicand (dot_of p p)
unfolding norm_of dot_of
altitude_test p = sqrt_bound min_altitude min_radicand before least (dot_of p p) (add-fits binary64 (p.x ⊗ p.x ⊕ p.y ⊗ p.y) (p.z ⊗ p.z))
