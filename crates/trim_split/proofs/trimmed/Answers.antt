-- `trim_split::trimmed` meets its contract. Assumes nothing.
use mathlib.Core.Path.{ap}
use lib.Ieee.{Float}
use Rattle.trim_split.proofs.trimmed.Goals as goal

pub returns : goal.returns
returns c = let a = c.args in ap (λ (low : Float). record { b0 = a.b0; b1 = a.b1; low = low; src = a.w.src }) c.lowest-low.ensures
