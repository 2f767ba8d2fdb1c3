-- `signs_c::sirmolaat_lower` meets its contract. Assumes nothing.
use mathlib.Core.Path.{subst}
use lib.Dec.{T}
use lib.Ieee.{le, div, is_nan, of_bits}
use Rattle.source.specs.declared.Src.{Src}
use Rattle.source.specs.Distance.{edge_of}
use Rattle.signs_c.proofs.sirmolaat_lower.Goals as goal

pub returns-in-Some : goal.returns-in-Some
returns-in-Some c =
    λ n. subst (λ (s : Src). T (le c.in-Some.e.lo (edge_of s c.args.x))) c.source_given-src.ensures c.in-Some.ensures.from

pub returns-in-None : goal.returns-in-None
unfolding is_nan div of_bits
returns-in-None c = λ n. absurd n
