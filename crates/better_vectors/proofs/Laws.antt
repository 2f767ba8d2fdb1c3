-- Laws of the records. Assumes nothing.
use Rattle.std.specs.Prelude.{Option, Some, None}
use mathlib.Core.List.{List}
use Prim.Native.Nat.{ℕ}
use lib.Ieee.{Float}
use Rattle.source.specs.declared.Src.{Src}
use Rattle.better.specs.Points.{pts_of, walk_of}
use Rattle.better.specs.Stretches.{better_of}
use Rattle.better.specs.Buffers.{Answers}
use Rattle.better_vectors.specs.Replay.{FitsOut}

-- a right answer is within its buffer
pub answer_within : (r : Option ℕ) (p q : Src) (lo hi : Float) (size : ℕ) (out : List Float)
    → Answers r size out (walk_of p q (pts_of p q lo hi)) (better_of p q lo hi) → FitsOut r out
answer_within None p q lo hi size out h = tt
answer_within (Some m) p q lo hi size out h = h.1.0
