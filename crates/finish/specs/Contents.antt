-- What every buffer of a finished field holds, as a function of the mesh's buffers as they were built, the state, the entries and the job's pieces. Definitions only.
use Rattle.std.specs.Prelude.{ℕ, ◌+◌, ◌*◌, ◌/◌, ◌%◌, ◌≤◌, ◌<◌, cond, List, ◌≡◌, eqb, length, get_or, Float}
use Rattle.layout.specs.Layout.{words_per_edge, edge_head, edge_scratch, words_per_triangle, triangle_last_entry}
use Rattle.nat_laws.specs.Lists.{list_of}
use Rattle.windows.specs.Windows.{capacity_of}
use Rattle.heap.specs.Queue.{queue}
use Rattle.chains.specs.Chains.{links, first_link}
use Rattle.face_entries.specs.of_mesh.Topology.{MeshBuffers}
use Rattle.face_entries.specs.of_mesh.Held.{Fresh}
use Rattle.last_pass.specs.of_mesh_readers.Readers.{trim_edge_at}
use Rattle.offers.specs.of_cut_lists.Buffers.{Cuts}
use Rattle.contents.specs.of_trim_model.Windows.{Window}
use Rattle.offers.specs.of_trim_state.State.{State, EdgeData, edge_in}
use Rattle.offers.specs.of_trim_split.Running.{Snapshot, snapshot, Untouched}
use Rattle.offers.specs.of_trim_split.declared.Counts.{Counts}
use Rattle.offers.specs.of_trim.Buffers.{Slices, slices}
use Rattle.offers.specs.of_trim.Adding.{snapshot_at}
use Rattle.contents.specs.of_live_windows.Live.{nums, HoldsWindows}
use Rattle.contents.specs.Contents.{words_of, reals_of_all}
use Rattle.face_entries.specs.Entries.{FaceEntry, HoldsOnly, entry_words, triangles_with}
use Rattle.piece_ends.specs.Table.{piece_words_of}
use Rattle.piece_ends.specs.Directions.{piece_reals_of}
use Rattle.last_pass.specs.Lowered.{lowered_all}
use Rattle.zero_buffers.specs.ZeroIf.{zero_reals, zero_words, zero_cuts}

-- the words t of the edges, with the head of each edge's chain
unfoldable pub edge_word_with : List ℕ → (ℕ → List Window) → ℕ → ℕ
edge_word_with t live p = cond (eqb (p % words_per_edge) edge_head) (first_link (nums (live (p / words_per_edge)))) (get_or t p 0)

abbrev pub edges_with : List ℕ → (ℕ → List Window) → List ℕ
edges_with t live = list_of (length t) (edge_word_with t live)

-- document 01's rooms, laid out as crate layout says
pub record FieldBuffers : Type 0 where
  pub mesh : MeshBuffers
  pub vertex : List Float  -- of each vertex: its distance and the distance that it has emitted
  pub piece_words : List ℕ
  pub piece_reals : List Float
  pub words : List ℕ  -- the windows
  pub reals : List Float
  pub keys : List Float  -- the queue
  pub events : List ℕ
  pub cuts : Cuts
  pub entry_words_held : List ℕ
  pub scratch : List ℕ  -- two rows that nothing is written to
  pub other_scratch : List ℕ

-- those that window trimming is lent
abbrev pub slices_of : FieldBuffers → Slices
slices_of b = slices b.mesh.edge_words_held b.words b.reals b.keys b.events b.vertex

-- The mesh as it was built, the edges of which there are so many; the state, the entries, and the job's pieces. Of the buffers as they were lent, b, nothing counts but lengths.
module _ (built : MeshBuffers) (mesh : EdgeData) (edges : ℕ) (s : State) (xs : List FaceEntry) (kinds : List ℕ) (coords : List Float) (b : FieldBuffers) where
  pub record FieldContents (b' : FieldBuffers) : Type 0 where
    pub vertex_words_held : b'.mesh.vertex_words_held ≡ built.vertex_words_held
    pub edge_words_held : b'.mesh.edge_words_held ≡ edges_with built.edge_words_held s.live
    pub edge_reals_held : b'.mesh.edge_reals_held ≡ built.edge_reals_held
    pub round : b'.mesh.round ≡ built.round
    pub triangle_words_held : b'.mesh.triangle_words_held ≡ triangles_with built.triangle_words_held xs
    pub triangle_reals : b'.mesh.triangle_reals ≡ built.triangle_reals
    pub vertex : b'.vertex ≡ lowered_all edges mesh s.live s.stock.vertex
    pub piece_words : b'.piece_words ≡ piece_words_of kinds coords (length b.piece_words)
    pub piece_reals : b'.piece_reals ≡ piece_reals_of kinds coords (length b.piece_reals)
    pub words : b'.words ≡ words_of (length b.words) s.wins s.live
    pub reals : b'.reals ≡ reals_of_all (length b.reals) s.wins
    pub keys : b'.keys ≡ zero_reals b.keys
    pub events : b'.events ≡ zero_words b.events
    pub cuts : b'.cuts ≡ zero_cuts b.cuts
    pub entry_words_held : b'.entry_words_held ≡ entry_words (length b.entry_words_held) xs
    pub scratch : b'.scratch ≡ zero_words b.scratch
    pub other_scratch : b'.other_scratch ≡ zero_words b.other_scratch

-- ---- what the work before `finish` leaves
-- slices as long as they were lent
pub record WorkLengths (b b₁ : FieldBuffers) : Type 0 where
  pub words : length b₁.words ≡ length b.words
  pub reals : length b₁.reals ≡ length b.reals
  pub keys : length b₁.keys ≡ length b.keys
  pub events : length b₁.events ≡ length b.events
  pub pts : length b₁.cuts.pts ≡ length b.cuts.pts
  pub out : length b₁.cuts.out ≡ length b.cuts.out
  pub keep : length b₁.cuts.keep ≡ length b.cuts.keep
  pub next : length b₁.cuts.next ≡ length b.cuts.next
  pub entry_words_held : length b₁.entry_words_held ≡ length b.entry_words_held

-- they are so, and those that no work writes to hold what they did; b₁ has the mesh as it was built but for words of edges and triangles
pub record BuffersKept (built : MeshBuffers) (kinds : List ℕ) (coords : List Float) (b b₁ : FieldBuffers) : Type 0 where
  pub same : WorkLengths b b₁
  pub edge_length : length b₁.mesh.edge_words_held ≡ length built.edge_words_held
  pub vertex_words_held : b₁.mesh.vertex_words_held ≡ built.vertex_words_held
  pub edge_reals_held : b₁.mesh.edge_reals_held ≡ built.edge_reals_held
  pub round : b₁.mesh.round ≡ built.round
  pub triangle_reals : b₁.mesh.triangle_reals ≡ built.triangle_reals
  pub piece_words : b₁.piece_words ≡ piece_words_of kinds coords (length b.piece_words)
  pub piece_reals : b₁.piece_reals ≡ piece_reals_of kinds coords (length b.piece_reals)
  pub scratch : b₁.scratch ≡ zero_words b.scratch
  pub other_scratch : b₁.other_scratch ≡ zero_words b.other_scratch

-- before any window is made, with the edges' words as they were built, and whatever the queue and the vertices are
abbrev pub no_windows : MeshBuffers → FieldBuffers → Slices → Snapshot
no_windows built b z = snapshot 0 0 0 (links built.edge_words_held (zero_words b.words)) (zero_reals b.reals) (queue z.keys z.events) z.vertex

module _ (built : MeshBuffers) (mesh : EdgeData) (edges : ℕ) (counts : Counts) (entered : ℕ) (s : State) (xs : List FaceEntry) (kinds : List ℕ) (coords : List Float) (b : FieldBuffers) where
  -- b₁ holds the state and the entries; since the mesh was built nothing of edges but chain heads and scratch words has changed, and behind the windows made are zeros
  pub record WorkIn (b₁ : FieldBuffers) : Type 0 where
    pub fresh : Fresh built
    pub kept : BuffersKept built kinds coords b b₁
    pub fits : counts.made ≤ capacity_of (length b₁.words) (length b₁.reals)
    pub start : Slices
    pub untouched : Untouched (λ e. Unit {0}) (no_windows built b start) (snapshot_at counts (slices_of b₁))
    pub holds : HoldsWindows counts.made s.wins (links b₁.mesh.edge_words_held b₁.words) b₁.reals s.live
    pub distances : s.stock.vertex ≡ b₁.vertex
    pub entries : HoldsOnly built.triangle_words_held entered b₁.mesh.triangle_words_held b₁.entry_words_held xs
    pub edge_data_held : (e : ℕ) → e < edges → edge_in mesh e ≡ trim_edge_at b₁.mesh.edge_words_held b₁.mesh.edge_reals_held e

-- b₁ with what `finish` left of the slices that it is lent
abbrev pub after_finish : FieldBuffers → Slices → Cuts → FieldBuffers
after_finish b₁ z c = record {
  mesh = record {
    vertex_words_held = b₁.mesh.vertex_words_held;
    edge_words_held = z.edges;
    edge_reals_held = b₁.mesh.edge_reals_held;
    round = b₁.mesh.round;
    triangle_words_held = b₁.mesh.triangle_words_held;
    triangle_reals = b₁.mesh.triangle_reals;
  };
  vertex = z.vertex;
  piece_words = b₁.piece_words;
  piece_reals = b₁.piece_reals;
  words = z.words;
  reals = z.reals;
  keys = z.keys;
  events = z.events;
  cuts = c;
  entry_words_held = b₁.entry_words_held;
  scratch = b₁.scratch;
  other_scratch = b₁.other_scratch;
}

-- ---- what is zero in a mesh as it is built and in a field: the scratch word of edges and the spare word of triangles, apart from what a field writes
pub record SpareZero (m : MeshBuffers) : Type 0 where
  pub scratch : (e : ℕ) → get_or m.edge_words_held (words_per_edge * e + edge_scratch) 0 ≡ 0
  pub spare : (f a : ℕ) → triangle_last_entry < a → a < words_per_triangle → get_or m.triangle_words_held (words_per_triangle * f + a) 0 ≡ 0
