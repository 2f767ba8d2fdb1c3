-- What the trimming of windows asks of `better`. Definitions only.
use Rattle.std.specs.Prelude.{List, T, Float}
use Rattle.std.specs.Float.{binary64}
use Rattle.std.specs.Float.Ieee.{lt, le, fits}
use Rattle.std.specs.Float.Ieee.Scale.{finite}
pub use Rattle.nat_laws.specs.Lists.{All, Pairs}
use Rattle.source.specs.declared.Src.{Src}
use Rattle.better.specs.Stretches.{Interval}

-- a point of an edge: a finite double
pub record Point (x : Float) : Type 0 where
  pub number : T (finite x)
  pub double : T (fits binary64 x)

-- a stretch of [lo, hi]
pub record Stretch (lo hi : Float) (g : Interval) : Type 0 where
  pub point0 : Point g.from
  pub point1 : Point g.to
  pub above : T (le lo g.from)
  pub rises : T (lt g.from g.to)
  pub below : T (le g.to hi)

-- it names stretches of [lo, hi], in rising order, with a gap between each two
pub record Separates (better : Src → Src → Float → Float → List Interval) : Type 0 where
  pub within : (p q : Src) (lo hi : Float) → Point lo → Point hi → T (lt lo hi) → All (Stretch lo hi) (better p q lo hi)
  pub apart : (p q : Src) (lo hi : Float) → Point lo → Point hi → T (lt lo hi) → Pairs (λ (g h : Interval). T (lt g.to h.from)) (better p q lo hi)
