-- What a packed record holds: floats of 8 bytes, sources of 25 (a kind, 0 for a point, and three floats). Definitions only.
use Rattle.std.specs.Prelude.{List, cond, ℕ, ◌+◌, drop, get_or, eqb, Float}
use Rattle.std.specs.Float.{binary64}
use Rattle.std.specs.Float.Ieee.{of_bits}
use Rattle.vectors.specs.Records.{word_at}
use Rattle.source.specs.declared.Src.{Src}
use Rattle.source.specs.declared.Src.TheVariants.{Point, Line}

-- the number of 8 bytes, the float and the source that begin at byte i
unfoldable pub word_from : List ℕ → ℕ → ℕ
word_from s i = word_at (drop i s) 0

unfoldable pub float_from : List ℕ → ℕ → Float
float_from s i = of_bits binary64 (word_from s i)

unfoldable pub src_from : List ℕ → ℕ → Src
src_from s i =
    cond (eqb (get_or s i 0) 0)
    (Point (float_from s (i + 1)) (float_from s (i + 9)) (float_from s (i + 17)))
    (Line (float_from s (i + 1)) (float_from s (i + 9)) (float_from s (i + 17)))
