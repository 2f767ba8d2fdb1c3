-- A job in its buffers, and what it is that its sources are inserted. Definitions only.
use Rattle.std.specs.Prelude.{ℕ, ◌*◌, ◌/◌, ◌≤◌, List, ◌≡◌, length, Float, Result}
use Rattle.layout.specs.Layout.{words_per_edge, words_per_triangle, reals_per_piece}
use Rattle.buffers.specs.declared.Lack.{Lack}
use Rattle.buffers.specs.Slots.{slots_of}
use Rattle.topology.specs.Edges.{edges}
use Rattle.windows.specs.Windows.{capacity_of}
use Rattle.insertion.specs.of_cut_lists.Buffers.{Cuts}
use Rattle.insertion.specs.of_trim.Buffers.{Slices}
use Rattle.insertion.specs.of_offers.Walks.{edge_data}
use Rattle.insertion.specs.of_face_entries.Buffers.{EntryBuffers, entry_capacity}
use Rattle.insertion.specs.of_piece_ends.Directions.{piece_reals_of}
use Rattle.insertion.specs.of_wedge_refusal.Held.{HoldsJob}
use Rattle.insertion.specs.of_source_inserts.declared.Insert.{Insert}
use Rattle.insertion.specs.declared.InsertCounts.{InsertCounts}
use Rattle.insertion.specs.Snapshots.{insert_snapshot, insert_end, InsertsFrom, InsertedWithin}

-- the slices that insertion only reads
pub record InsertionSlices : Type 0 where
  pub vertices : List Float
  pub vertex_words_held : List ℕ
  pub edge_reals_held : List Float
  pub triangle_reals : List Float
  pub round : List ℕ
  pub kinds : List ℕ
  pub faces : List ℕ
  pub coords : List Float
  pub piece_words : List ℕ
  pub piece_reals : List Float

abbrev pub insertion_slices : List Float → List ℕ → List Float → List Float → List ℕ → List ℕ → List ℕ → List Float → List ℕ → List Float → InsertionSlices
insertion_slices v vw er tr round kinds faces coords pw pr = record {
  vertices = v;
  vertex_words_held = vw;
  edge_reals_held = er;
  triangle_reals = tr;
  round = round;
  kinds = kinds;
  faces = faces;
  coords = coords;
  piece_words = pw;
  piece_reals = pr;
}

-- they, the edges' words and the triangles' hold a mesh of n vertices and the pieces of a job
pub record JobIn (k : InsertionSlices) (triangles : List ℕ) (n : ℕ) (edge_words triangle_words : List ℕ) : Type 0 where
  pub job : HoldsJob k.vertices triangles n edge_words k.edge_reals_held triangle_words k.triangle_reals k.vertex_words_held k.round k.kinds k.faces k.coords k.piece_words
  pub edge_slots : length (edges triangles) ≤ slots_of (length edge_words) words_per_edge
  pub triangle_slots_held : length triangles / 3 ≤ slots_of (length triangle_words) words_per_triangle
  pub directions : k.piece_reals ≡ piece_reals_of k.kinds k.coords (length k.piece_reals)
  pub room : reals_per_piece * length k.kinds ≤ length k.piece_reals

-- ---- buffers b, t and c at the call, b' and t' at the return: of every job that the buffers hold these are inserted
pub record InsertsAll (limit : Float) (k : InsertionSlices) (xs : List ℕ → List Insert) (counts : InsertCounts) (b : Slices) (t : EntryBuffers) (c : Cuts) (r : Result InsertCounts Lack) (b' : Slices) (t' : EntryBuffers) : Type 0 where
  -- no more windows are made than the buffer has slots for
  pub bounded : InsertedWithin (capacity_of (length b.words) (length b.reals)) r
  pub inserts : (triangles : List ℕ) (n : ℕ) → JobIn k triangles n b.edges t.triangles
      → InsertsFrom (length c.pts) (capacity_of (length b.words) (length b.reals)) (entry_capacity (length t.words)) limit k.vertex_words_held (edge_data k.vertices triangles) (xs triangles) (insert_snapshot counts b t) (insert_end r b' t')
