-- Every window made stands on an edge of the mesh and goes into a face of that edge, or into none: what the Rust's `propagate` needs to find the edges ahead. And every event of a vertex
-- names one of the mesh's. Definitions only.
use Rattle.std.specs.Prelude.{ℕ, ◌<◌, cond, List, ◌⊎◌, ◌≡◌, ltb, length, get_or}
use Rattle.topology.specs.Edges.{no_face, edges, edge_faces}
use Rattle.pop.specs.of_better.Claim.{All}
use Rattle.heap.specs.declared.Event.{Event}
use Rattle.heap.specs.declared.Item.{Item}
use Rattle.heap.specs.declared.Item.TheVariants.{Window as Item-as-Window, Vertex as Item-as-Vertex}
use Rattle.heap.specs.Model.{weight_of}
use Rattle.windows.specs.declared.WindowRecord.{WindowRecord}
use Rattle.pop.specs.of_trim_model.Windows.{Window}
use Rattle.pop.specs.of_trim_model.Model.{Candidate}
use Rattle.pop.specs.of_trim_state.State.{State, EdgeData}

-- face g is one of those of edge e
abbrev pub FaceOf : List ℕ → ℕ → ℕ → Type 0
FaceOf triangles e g = (i : ℕ) × ((i < length (edge_faces triangles e)) × (get_or (edge_faces triangles e) i no_face ≡ g))

-- an edge of the mesh, and what a window of it goes into
abbrev pub GoesInto : List ℕ → ℕ → ℕ → Type 0
GoesInto triangles e g = (e < length (edges triangles)) × (FaceOf triangles e g ⊎ (g ≡ no_face))

-- ---- a relation of an edge and what a window of it goes into
module _ (P : ℕ → ℕ → Type 0) where
  -- of a window made, a live window of edge e, and a candidate
  abbrev pub RecordThere : WindowRecord → Type 0
  RecordThere x = P x.edge.0 x.carried.into.0

  abbrev pub LiveThere : ℕ → Window → Type 0
  LiveThere e u = P e u.carried.into.0

  abbrev pub CandidateThere : Candidate → Type 0
  CandidateThere c = P c.edge c.carried.into.0

  -- of all windows of a state, dead ones too
  pub record WindowsThere (s : State) : Type 0 where
    pub wins : All RecordThere s.wins
    pub live : (e : ℕ) → All (LiveThere e) (s.live e)

-- ---- the vertex that an event names, if it names one
abbrev pub ItemThere : (ℕ → Type 0) → Item → Type 0
ItemThere Q (Item-as-Window id) = Unit {0}
ItemThere Q (Item-as-Vertex k) = Q k.0

-- the ends of a candidate's edge are vertices of the mesh
abbrev pub EndsThere : ℕ → EdgeData → Candidate → Type 0
EndsThere n mesh c = (mesh.low c.edge < n) × (mesh.high c.edge < n)

-- 1 for an event of a vertex past the first n
unfoldable pub past_item : ℕ → Item → ℕ
past_item n (Item-as-Window id) = 0
past_item n (Item-as-Vertex k) = cond (ltb k.0 n) 0 1

abbrev pub past_vertex : ℕ → Event → ℕ
past_vertex n e = past_item n e.item

-- no queued event is such a one
abbrev pub EventsThere : ℕ → State → Type 0
EventsThere n s = weight_of (past_vertex n) s.stock.queued s.stock.queue ≡ 0
