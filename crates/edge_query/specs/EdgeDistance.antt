-- The Rust's `edge_at`: the distance at x on an edge, from the distances of its ends, its length and its list of windows. Definitions only.
use Rattle.std.specs.Prelude.{ℕ, suc, List, [], ◌∷◌, reverse, Float, take, drop, if◌then◌else◌}
use Rattle.std.specs.Float.Ieee.{lt, le}
use Rattle.float64.specs.Scalar.{zero64, min_of}
use Rattle.source.specs.declared.Win.{Win}
use Rattle.source.specs.Distance.{eval_of}
use Rattle.windows.specs.declared.Edge.{Edge}
use Rattle.actions.specs.Actions.{distance_of}
use Rattle.chains.specs.Chains.{Links}
use Rattle.last_pass.specs.Buffers.{chain_behind, wins_on}
use Rattle.last_pass.specs.of_face_distance.Entries.{through_ends}

-- `list.partition_point(|&id| wins[id].b0 <= x)`: how many windows there are before the first that starts past x. The Rust searches by halves, which comes to the same in a list
-- whose starts rise, as they do wherever a query answers
unfoldable pub partition_point : Float → List Win → ℕ
partition_point x [] = 0
partition_point x (w ∷ ws) = if le w.b0 x then suc (partition_point x ws) else 0

-- `if let Some(&id) = list.get(i) { d = d.min(wins[id].eval(x, 0.)); }`, given the windows from i on
unfoldable pub with_next : Float → Float → List Win → Float
with_next x d [] = d
with_next x d (w ∷ ws) = min_of d (eval_of w x zero64)

-- `for j in (0..i).rev() { d = d.min(w.eval(x, 0.)); if w.b1 < x { break; } }`, given the windows before i, the last of them first
unfoldable pub backwards : Float → Float → List Win → Float
backwards x d [] = d
backwards x d (w ∷ ws) =
    let nearer = min_of d (eval_of w x zero64) in
    if lt w.b1 x then nearer else backwards x nearer ws

-- da and db are the distances of the edge's ends, l its length
unfoldable pub edge_distance : Float → Float → Float → List Win → Float → Float
unfolding partition_point with_next backwards
edge_distance da db l ws x =
    let i = partition_point x ws in
    let d = with_next x (through_ends da db l x) (drop i ws) in
    backwards x d (reverse (take i ws))

-- the same of what the buffers hold: the vertices' distances, and the windows on the chain of the edge, of so many made
abbrev pub edge_distance_in : List Float → Links → List Float → ℕ → Edge → Float → Float
edge_distance_in vertex b f made e x =
    edge_distance (distance_of vertex e.a.0) (distance_of vertex e.b.0) e.len (wins_on b.words f (chain_behind made b e.id.0 made 0)) x
