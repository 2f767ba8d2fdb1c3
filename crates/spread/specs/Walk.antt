-- What is asked of a mesh in its buffers for a window to be propagated in it, or for a vertex to pass its distance on. Definitions only.
use Rattle.std.specs.Prelude.{ℕ, List, ◌≡◌}
use Rattle.spread_offers.specs.of_mesh_readers.Held.{HoldsRound}
use Rattle.spread_offers.specs.declared.Spread.{Spread}
use Rattle.spread_offers.specs.Spreading.{SpreadOf}

-- beside the edges and the faces: the buffers hold its triangles and the faces round its n vertices, and the window or the vertex is one of it
pub record SpreadIn (buffer vertex_words round : List ℕ) (s : Spread) (triangles : List ℕ) (n : ℕ) : Type 0 where
  pub same : buffer ≡ triangles
  pub rounds : HoldsRound triangles n vertex_words round
  pub there : SpreadOf triangles n s
