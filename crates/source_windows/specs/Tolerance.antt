-- The tolerances of `source_point`, `source_segment` and `propagate`, each a law of proofs/Decimal.antt that it is its decimal, rounded. Definitions only.
use Rattle.std.specs.Prelude.{Bool, Float}
use Rattle.std.specs.Float.{binary64}
use Rattle.std.specs.Float.Ieee.{of_bits, le}
use Rattle.float64.specs.Notation.{◌⊖◌, ◌⊗◌}
use Rattle.source_windows.specs.declared.Bounds.{Bounds}

-- 1e-12: a range of at most this part of its edge's length is none, and so is a wave or a ray that rises no more than this from the edge
abbrev pub narrowest : Float
narrowest = of_bits binary64 0x3d71_9799_812d_ea11

-- 1e-9: a point at most this part of an edge's length into the face lies on the edge
abbrev pub near_edge : Float
near_edge = of_bits binary64 0x3e11_2e0b_e826_d695

-- 1e-15: a segment that goes at most this part of its length along an edge is upright on it
abbrev pub upright : Float
upright = of_bits binary64 0x3cd2_03af_9ee7_5616

-- the Rust's `b1 - b0 <= 1e-12 * l`
abbrev pub too_narrow : Bounds → Float → Bool
too_narrow w l = le (w.b1 ⊖ w.b0) (narrowest ⊗ l)
