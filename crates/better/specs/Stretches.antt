-- Where one source is shorter than another: the Rust's `better`. Definitions only.
use Rattle.std.specs.Prelude.{Bool, false, List, [], ◌∷◌, Float, if◌then◌else◌, Option, Some, None}
use Rattle.std.specs.Float.Ieee.{le, eq}
use Rattle.float64.specs.Scalar.{two}
use Rattle.float64.specs.Notation.{◌⊕◌, ◌⊘◌}
use Rattle.source.specs.declared.Src.{Src}
use Rattle.source.specs.Distance.{edge_of}
use Rattle.better.specs.declared.Resolved.{Resolved}
use Rattle.better.specs.declared.Resolved.TheVariants.{Settled, CutAt}
use Rattle.better.specs.Cutting.{shorter, cut_of}
use Rattle.better.specs.Points.{pts_of, walk_of}

-- the Rust's pair of two ends
pub record Interval : Type 0 where
  pub from : Float
  pub to : Float

abbrev pub interval : Float → Float → Interval
interval a b = record { from = a; to = b }

-- `match out.last_mut()`: the last stretch is continued where it ends at x0; else [x0, x1] is one more
unfoldable pub joined : List Interval → Float → Float → List Interval
joined [] x0 x1 = interval x0 x1 ∷ []
joined (g ∷ []) x0 x1 = if eq g.to x0 then interval g.from x1 ∷ [] else g ∷ interval x0 x1 ∷ []
joined (g ∷ h ∷ out) x0 x1 = g ∷ joined (h ∷ out) x0 x1

-- whether p is shorter from x0 to x1: it is asked at the middle, and not of an empty stretch
unfoldable pub shorter_between : Src → Src → Float → Float → Bool
shorter_between p q x0 x1 =
    if le x1 x0 then false else
    let m = (x0 ⊕ x1) ⊘ two in
    shorter (edge_of p m) (edge_of q m)

-- a turn of the walk and of the loop over neighbours, between x0 and x1: the cut, if there is one; else p is shorter there or not
abbrev pub settling : Option Float → Bool → Resolved
settling None b = Settled b
settling (Some c) b = CutAt c

unfoldable pub turn_between : Src → Src → Float → Float → Resolved
turn_between p q x0 x1 = settling (cut_of p q x0 x1) (shorter_between p q x0 x1)

-- the loop over neighbours x0 and x1
unfoldable pub stretches : Src → Src → Float → List Float → List Interval → List Interval
stretches p q x0 [] out = out
stretches p q x0 (x1 ∷ xs) out = stretches p q x1 xs (if shorter_between p q x0 x1 then joined out x0 x1 else out)

-- `out` of `pts`
unfoldable pub out_of : Src → Src → List Float → List Interval
out_of p q [] = []
out_of p q (x0 ∷ xs) = stretches p q x0 xs []

unfoldable pub better_of : Src → Src → Float → Float → List Interval
better_of p q lo hi = out_of p q (walk_of p q (pts_of p q lo hi))
