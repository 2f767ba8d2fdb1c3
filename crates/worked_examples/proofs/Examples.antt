-- Every worked example comes out as the scope says, by computation. Assumes nothing.
use mathlib.Core.Path.{◌≡◌, refl}
use mathlib.Core.List.Memᴰ
use mathlib.Core.List.{List, [], ◌∷◌, map, Memᴰ}
use lib.Ieee.{of_int, sub, mul, div, le, ne, is_nan, of_bits}
use Rattle.root_spec.specs.Root.{sqrt_of, hypot_of}
use Rattle.float64.specs.Scalar.{min_of, max_of, abs_of, signum_of}
use Rattle.source.specs.Quadratic.{roots_of}
use Rattle.source.specs.Distance.{edge_of, lowest_of, ties_of_points, ties_of}
use Rattle.worked_examples.specs.Examples.{Example, examples}

abbrev AsExpected : List Example → Type 0
AsExpected es = map (λ (e : Example). e.answer) es ≡ map (λ (e : Example). e.expected) es

-- the one computation, over the whole list; what these names stand on unfolds with them
as_expected : AsExpected examples
unfolding examples sqrt_of hypot_of of_int sub mul div le ne is_nan of_bits min_of max_of abs_of signum_of roots_of edge_of lowest_of ties_of_points ties_of
as_expected = refl

among : (es : List Example) → AsExpected es → (e : Example) → Memᴰ e es → e.answer ≡ e.expected
among [] h e m = absurd (Memᴰ.not-nil m)
among (x ∷ es) h e (Memᴰ.head p) = cc
among (x ∷ es) h e (Memᴰ.tail m) = among es (cc) e m

pub every_example : (e : Example) → Memᴰ e examples → e.answer ≡ e.expected
every_example e m = among examples as_expected e m
