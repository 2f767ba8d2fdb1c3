-- The Rust's last pass over the edges: every vertex at the least of its edges' windows there. Definitions only.
use Rattle.std.specs.Prelude.{ℕ, zero, suc, List, [], ◌∷◌, map, Float}
use Rattle.float64.specs.Scalar.{zero64, min_of}
use Rattle.source.specs.declared.Win.{Win}
use Rattle.source.specs.Distance.{eval_of}
use Rattle.windows.specs.declared.Edge.{Edge}
use Rattle.actions.specs.Actions.{distance_of, with_distance}
use Rattle.pop.specs.of_trim_model.Windows.{Window}
use Rattle.pop.specs.of_trim_state.Trace.{win_of}
use Rattle.pop.specs.of_trim_state.State.{EdgeData, edge_in}

-- `vertex[v] = vertex[v].min(d)`
abbrev pub lowered : List Float → ℕ → Float → List Float
lowered vertex v d = with_distance vertex v (min_of (distance_of vertex v) d)

-- by one window of the edge from a to b: `(da, db) = (w.eval(0., 0.), w.eval(l, 0.))`
unfoldable pub lowered_by : Edge → Win → List Float → List Float
lowered_by e w vertex =
    let da = eval_of w zero64 zero64 in
    let db = eval_of w e.len zero64 in
    lowered (lowered vertex e.a.0 da) e.b.0 db

-- by the windows of the edge in their order
unfoldable pub lowered_edge : Edge → List Win → List Float → List Float
unfolding lowered_by
lowered_edge e [] vertex = vertex
lowered_edge e (w ∷ ws) vertex = lowered_edge e ws (lowered_by e w vertex)

-- by the live windows of the first n edges
unfoldable pub lowered_all : ℕ → EdgeData → (ℕ → List Window) → List Float → List Float
unfolding lowered_edge
lowered_all zero mesh live vertex = vertex
lowered_all (suc n) mesh live vertex = lowered_edge (edge_in mesh n) (map win_of (live n)) (lowered_all n mesh live vertex)
