-- Whether a segment goes back along an edge, as seen from one of its sides: the wave on that side then does not leave over the edge, which is told without a root. Definitions only.
use Rattle.std.specs.Prelude.{Bool, ◌&&◌, Float}
use Rattle.std.specs.Float.Ieee.{neg, lt}
use Rattle.float64.specs.Scalar.{zero64, is_finite}
use Rattle.float64.specs.Notation.{◌⊖◌}
use Rattle.source_windows.specs.declared.Normal.{Normal}
use Rattle.source_windows.specs.declared.Normal.TheVariants.{Left, Right}

-- how far along the edge the segment goes with the side's normal to its left: the numerator of `ny_of`
unfoldable pub advance_of : Float → Normal → Float
advance_of dx Left = dx
advance_of dx Right = neg dx

-- a segment whose ends stand at ax and bx along the edge
unfoldable pub goes_back_along : Float → Float → Normal → Bool
unfolding advance_of
goes_back_along ax bx n = lt (advance_of (bx ⊖ ax) n) zero64 && is_finite (advance_of (bx ⊖ ax) n)
