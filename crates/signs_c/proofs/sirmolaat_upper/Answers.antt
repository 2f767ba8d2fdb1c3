-- `signs_c::sirmolaat_upper` meets its contract. Assumes nothing.
use mathlib.Core.Path.{subst}
use lib.Dec.{T}
use lib.Ieee.{le, div, is_nan, of_bits}
use Rattle.source.specs.declared.Src.{Src}
use Rattle.source.specs.Distance.{edge_of}
use Rattle.signs_c.proofs.sirmolaat_upper.Goals as goal

pub returns-in-Some : goal.returns-in-Some
returns-in-Some c =
    λ n. subst (λ (s : Src). T (le (edge_of s c.args.x) c.in-Some.e.hi)) c.source_given-src.ensures c.in-Some.ensures.upto

pub returns-in-None : goal.returns-in-None
unfolding is_nan div of_bits
returns-in-None c = λ n. absurd n
