use Prim.Native.Nat.{ℕ}
use mathlib.Core.Bool.{false}
use mathlib.Core.List.{List}
use mathlib.Core.Path.{◌≡◌}
use lib.Ieee.{Float, inf}
use Rattle.chains.specs.Chains.{links}
use Rattle.last_pass.specs.Buffers.{chain_behind}
use Rattle.face_query.specs.Lows.{least_low, walk_low}
use Rattle.face_query.proofs.side_lows.Given as goal

-- the least of an edge's chain
abbrev pub lowest : List ℕ → List ℕ → List Float → ℕ → ℕ → Float
lowest ew w f made e = least_low f (inf false) (chain_behind made (links ew w) e made 0)

abbrev pub invariant-loop-left : goal.invariant-loop-left
invariant-loop-left l =
    (walk_low l.made (links l.edge_words l.words) l.reals l.e0.0 l.left l.a ≡ lowest l.edge_words l.words l.reals l.made l.e0.0)
    × ((walk_low l.made (links l.edge_words l.words) l.reals l.e1.0 l.left l.b ≡ lowest l.edge_words l.words l.reals l.made l.e1.0)
    × (walk_low l.made (links l.edge_words l.words) l.reals l.e2.0 l.left l.c ≡ lowest l.edge_words l.words l.reals l.made l.e2.0))

abbrev pub decreases-loop-left : goal.decreases-loop-left
decreases-loop-left l = l.left
