-- The ends of a job's pieces and their coordinate bits. Definitions only.
-- End 2 i is the first end of piece i, a point's only one, and end 2 i + 1 the second end of a segment: numbers rise in the order in which the Rust's `compute`
-- meets the ends.
use Rattle.std.specs.Prelude.{ℕ, zero, suc, ◌*◌, ◌/◌, ◌%◌, Bool, not, cond, ◌&&◌, ◌||◌, List, [], ◌∷◌, ltb, eqb, length, get_or, Float}
use Rattle.std.specs.Float.{binary64}
use Rattle.std.specs.Float.Ieee.{to_bits}
use Rattle.vec3.specs.declared.Vec3.{Vec3}
use Rattle.job_checks.specs.Any.{any_below}
use Rattle.job_checks.specs.Edge.{vertex_at}

-- of the k numbers from e on, those that pass a test, in order
unfoldable pub passing : (ℕ → Bool) → ℕ → ℕ → List ℕ
passing test zero e = []
passing test (suc k) e = cond (test e) (e ∷ passing test k (suc e)) (passing test k (suc e))

-- six coordinates a piece are three an end
abbrev pub end_point : List Float → ℕ → Vec3
end_point coords e = vertex_at coords e

-- whether there is an end e: a point, of kind 0, has no second one
unfoldable pub is_end : List ℕ → ℕ → Bool
is_end kinds e = ltb (e / 2) (length kinds) && (eqb (e % 2) 0 || not (eqb (get_or kinds (e / 2) 0) 0))

-- the Rust's `p.map(f64::to_bits) == q.map(f64::to_bits)`: zero and minus zero differ
unfoldable pub same_bits : Vec3 → Vec3 → Bool
same_bits p q =
    eqb (to_bits binary64 p.x) (to_bits binary64 q.x)
    && (eqb (to_bits binary64 p.y) (to_bits binary64 q.y) && eqb (to_bits binary64 p.z) (to_bits binary64 q.z))

module _ (kinds : List ℕ) (coords : List Float) where
  unfoldable pub has_bits : Vec3 → ℕ → Bool
  has_bits p e = is_end kinds e && same_bits (end_point coords e) p

  -- the ends with the bits of p, in the Rust's order
  unfoldable pub ends_with_bits : Vec3 → List ℕ
  ends_with_bits p = passing (has_bits p) (2 * length kinds) 0

  -- the Rust's `points.insert(..)` at end e: it is entered where no end before it has its bits
  unfoldable pub first_of_bits : ℕ → Bool
  first_of_bits e = is_end kinds e && not (any_below (has_bits (end_point coords e)) e)
