-- Walks over a mesh in its buffers that offer candidates: what they need to know of the mesh, and what they do. Definitions only.
use Rattle.std.specs.Prelude.{ℕ, ◌≤◌, List, length, get_or, Float, Result}
use Rattle.layout.specs.Layout.{words_per_edge}
use Rattle.buffers.specs.declared.Lack.{Lack}
use Rattle.buffers.specs.Slots.{slots_of}
use Rattle.topology.specs.Edges.{edges, no_edge}
use Rattle.topology.specs.Frames.{len}
use Rattle.mesh_readers.specs.Held.{HoldsMesh}
use Rattle.windows.specs.Windows.{capacity_of}
use Rattle.trim.specs.of_cut_lists.Buffers.{Cuts}
use Rattle.trim.specs.of_trim_model.Model.{Candidate}
use Rattle.trim.specs.of_trim_state.State.{EdgeData}
use Rattle.trim.specs.of_trim_split.declared.Counts.{Counts}
use Rattle.trim.specs.Buffers.{Slices}
use Rattle.trim.specs.Adding.{AddedWithin, snapshot_at, added_end_in}
use Rattle.offers.specs.Offers.{Offers}

-- ---- a mesh in its buffers, as walks over it need it
pub record MeshIn (v : List Float) (triangles : List ℕ) (n : ℕ) (edge_words : List ℕ) (edge_reals : List Float) (triangle_words : List ℕ) (triangleReals : List Float) : Type 0 where
  pub mesh : HoldsMesh v triangles n edge_words edge_reals triangle_words triangleReals
  pub slots : length (edges triangles) ≤ slots_of (length edge_words) words_per_edge

-- of each edge its length and its two ends
abbrev pub edge_data : List Float → List ℕ → EdgeData
edge_data v triangles = record { len = len v triangles; low = λ (e : ℕ). (get_or (edges triangles) e no_edge).low; high = λ (e : ℕ). (get_or (edges triangles) e no_edge).high }

-- ---- buffers b and c at the call, b' at the return: these candidates are added, of every mesh that the buffers hold and of which what is asked holds
pub record AddsCandidates (limit : Float) (vertex_words : List ℕ) (v : List Float) (edge_reals : List Float) (triangle_words : List ℕ) (triangleReals : List Float) (Asks : List ℕ → ℕ → Type 0) (cs : List ℕ → List Candidate)
    (counts : Counts) (b : Slices) (c : Cuts) (r : Result Counts Lack) (b' : Slices) : Type 0 where
  -- no more windows are made than the buffer has slots for
  pub bounded : AddedWithin (capacity_of (length b.words) (length b.reals)) r
  pub adds : (triangles : List ℕ) (n : ℕ) → MeshIn v triangles n b.edges edge_reals triangle_words triangleReals → Asks triangles n
      → Offers (length c.pts) (capacity_of (length b.words) (length b.reals)) limit vertex_words (edge_data v triangles) (cs triangles) (snapshot_at counts b) (added_end_in r b')
