use mathlib.Core.Path.{◌≡◌}
use lib.ListN.{length}
use Rattle.topology.specs.Edges.{edges_of}
use Rattle.edge_table.specs.Sides.{Partial}
use Rattle.edge_table.proofs.enter_sides.Given as goal

abbrev pub invariant-loop-h : goal.invariant-loop-h
invariant-loop-h l =
    (l.count ≡ length (edges_of l.triangles l.h))
    × (length l.heads ≡ length l.initial.heads)
    × (length l.edge_words ≡ length l.initial.edge_words)
    × (length l.triangle_words ≡ length l.initial.triangle_words)
    × Partial l.triangles (length l.triangles) l.h l.heads l.edge_words l.triangle_words
