-- Sources and signs as programs in C and Rust name them. Definitions only.
use Rattle.std.specs.Prelude.{ℕ, cond, eqb, Float}
use Rattle.source.specs.declared.Src.{Src}
use Rattle.source.specs.declared.Src.TheVariants.{Point, Line}
use Rattle.std.specs.declared.cmp.Ordering.{Ordering}
use Rattle.std.specs.declared.cmp.Ordering.TheVariants.{Less, Equal, Greater}

-- kind 0 is a point (x, y, s), any other a line (ux, uy, c)
abbrev pub source_given : ℕ → Float → Float → Float → Src
source_given kind a b c = cond (eqb kind 0) (Point a b c) (Line a b c)

abbrev pub sign_number : Ordering → ℕ
sign_number Less = 0
sign_number Equal = 1
sign_number Greater = 2
