-- The directions of a job's segments, as the Rust's `compute` makes them for `behind`. Definitions only.
use Rattle.std.specs.Prelude.{ℕ, ◌+◌, ◌*◌, Bool, ◌&&◌, List, Float, length, replicate, if◌then◌else◌}
use Rattle.std.specs.Float.Ieee.{lt}
use Rattle.layout.specs.Layout.{reals_per_piece}
use Rattle.float64.specs.Scalar.{zero64}
use Rattle.vec3.specs.declared.Vec3.{Vec3}
use Rattle.job_checks.specs.Edge.{len_of, xhat_of}
use Rattle.frames.specs.Stored.{with_rows, row3}
use Rattle.piece_ends.specs.Ends.{end_point, is_end}

module _ (kinds : List ℕ) (coords : List Float) where
  -- piece i has a second end, and the Rust's `norm(sub(b, a)) > 0.`
  unfoldable pub is_long : ℕ → Bool
  is_long i = is_end kinds (2 * i + 1) && lt zero64 (len_of (end_point coords (2 * i)) (end_point coords (2 * i + 1)))

  -- the Rust's `scale(d, 1. / l)` where it is so, else zeros
  unfoldable pub direction_of : ℕ → Vec3
  direction_of i =
      if is_long i then xhat_of (end_point coords (2 * i)) (end_point coords (2 * i + 1)) else
      record { x = zero64; y = zero64; z = zero64 }

  -- the buffer, of n reals: the pieces' directions, and zeros behind them
  unfoldable pub piece_reals_of : ℕ → List Float
  piece_reals_of n = with_rows reals_per_piece (λ (i : ℕ). row3 (direction_of i)) (length kinds) (replicate n zero64)
