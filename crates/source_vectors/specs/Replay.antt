-- What the records of stored cases say. A record is packed. Definitions only.
use Rattle.std.specs.Prelude.{List, Bool, ◌&&◌, ℕ, ◌+◌, ◌*◌, ◌/◌, length, take, drop, get_or, eqb, Float}
use Rattle.vectors.specs.Records.{agrees, failing}
use Rattle.source.specs.Quadratic.{roots_of}
use Rattle.source.specs.Distance.{edge_of, free_of, foot_of, lowest_of, ties_of, eval_of}
use Rattle.source.specs.declared.RealRoots.{RealRoots}
use Rattle.source.specs.declared.RealRoots.TheVariants.{None, One, Two}
use Rattle.source_records.specs.Records.{word_from, float_from, src_from}
use Rattle.source_vectors.specs.declared.Leaf.{Leaf}
use Rattle.source_vectors.specs.declared.Leaf.TheVariants.{Roots, Ties, Edge, Free, Foot, Lowest, Eval}

-- how many bytes the arguments take, and then the answer: a float, or how many roots and two floats
abbrev pub arguments : Leaf → ℕ
arguments Roots = 24
arguments Ties = 50
arguments Edge = 33
arguments Free = 41
arguments Foot = 41
arguments Lowest = 41
arguments Eval = 57

abbrev pub answers : Leaf → ℕ
answers Roots = 17
answers Ties = 17
answers Edge = 8
answers Free = 8
answers Foot = 8
answers Lowest = 8
answers Eval = 8

abbrev pub size : Leaf → ℕ
size f = arguments f + answers f

-- whether the float stored at byte i is x; whether the roots stored there, how many and two floats, are those of x
unfoldable pub same_value : Float → List ℕ → ℕ → Bool
same_value x r i = agrees x (word_from r i)

unfoldable pub same_roots : RealRoots → List ℕ → ℕ → Bool
same_roots None r i = eqb (get_or r i 0) 0
same_roots (One x) r i = eqb (get_or r i 0) 1 && same_value x r (i + 1)
same_roots (Two x y) r i = same_value x r (i + 1) && (eqb (get_or r i 0) 2 && same_value y r (i + 9))

-- whether the function answers as its record says
unfoldable pub holds_for : Leaf → List ℕ → Bool
holds_for Roots r = same_roots (roots_of (float_from r 0) (float_from r 8) (float_from r 16)) r 24
holds_for Ties r = same_roots (ties_of (src_from r 0) (src_from r 25)) r 50
holds_for Edge r = same_value (edge_of (src_from r 0) (float_from r 25)) r 33
holds_for Free r = same_value (free_of (src_from r 0) (float_from r 25) (float_from r 33)) r 41
holds_for Foot r = same_value (foot_of (src_from r 0) (float_from r 25) (float_from r 33)) r 41
holds_for Lowest r = same_value (lowest_of (src_from r 0) (float_from r 25) (float_from r 33)) r 41
holds_for Eval r =
    same_value
    (eval_of (record { b0 = float_from r 0; b1 = float_from r 8; low = float_from r 0; src = src_from r 16 }) (float_from r 41) (float_from r 49))
    r
    57

-- record k of those that follow a file's count, and how many whole ones there are
unfoldable pub record_at : Leaf → List ℕ → ℕ → List ℕ
record_at f s k = take (size f) (drop (size f * k) s)

unfoldable pub leaf_records : Leaf → List ℕ → ℕ
leaf_records f s = length s / size f

-- how many of the first n records differ
abbrev pub leaf_differences : Leaf → List ℕ → ℕ → ℕ
leaf_differences f s n = failing (λ k. holds_for f (record_at f s k)) n
