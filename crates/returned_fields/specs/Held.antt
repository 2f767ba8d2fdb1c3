-- What refusal 20 asks of a field, as the laws of a job's field have it: over the field's counts, the job and the buffers lent again, the live windows of each edge and the entries of the faces. Definitions only.
use Rattle.std.specs.Prelude.{ℕ, ◌*◌, ◌+◌, ◌/◌, ◌≤◌, ◌<◌, min, false, List, ◌⊎◌, ◌≡◌, T, length, get_or}
use Rattle.std.specs.Float.Ieee.{lt}
use Rattle.layout.specs.Layout.{coordinates_per_vertex, vertices_per_triangle, coordinates_per_piece, reals_per_vertex, words_per_edge, reals_per_edge, words_per_triangle, reals_per_triangle, words_per_entry, entry_piece}
use Rattle.nat_laws.specs.Lists.{All, Pairs}
use Rattle.buffers.specs.Slots.{slots_of}
use Rattle.windows.specs.Windows.{capacity_of, edge_stored, into_of, link_of}
use Rattle.chains.specs.Chains.{links, head_of}
use Rattle.job_checks.specs.Any.{first_of}
use Rattle.job_checks.specs.Job.{Job, vertex_count, triangle_count, piece_count}
use Rattle.job_checks.specs.Refusals.{mesh_tests, degenerate_triangle, piece_tests}
use Rattle.topology.specs.Edges.{no_face, edges}
use Rattle.queries.specs.of_frames.Stored.{low_at, high_at, face_at}
use Rattle.queries.specs.of_mesh_readers.Readers.{side_in}
use Rattle.queries.specs.of_trim_model.Windows.{Window}
use Rattle.queries.specs.of_live_windows.Live.{Stands}
use Rattle.queries.specs.of_face_entries.Buffers.{entry_capacity, first_entry_of, last_entry_of, next_entry_of}
use Rattle.queries.specs.of_face_entries.Entries.{FaceEntry, HoldsEntries}
use Rattle.field_laws.specs.of_finish.Contents.{FieldBuffers}
use Rattle.computed.specs.declared.Field.{Field}
use Rattle.queries.specs.of_field_check.FieldCheck.{JobSlices, FieldSlices, job_slices, field_slices}

-- one of so many faces, or none
abbrev pub FaceThere : ℕ → ℕ → Type 0
FaceThere triangles g = (g < triangles) ⊎ (g ≡ no_face)

-- the job has the field's counts and meets none of 1 to 7
pub record HeldJob (n : Field) (j : JobSlices) : Type 0 where
  pub vertices : length j.vertices ≡ coordinates_per_vertex * n.vertices
  pub triangles : length j.triangles ≡ vertices_per_triangle * n.triangles
  pub kinds : length j.kinds ≡ n.pieces
  pub faces : length j.faces ≡ n.pieces
  pub coords : length j.coords ≡ coordinates_per_piece * n.pieces
  pub mesh_passed : first_of (mesh_tests j.vertices j.triangles) ≡ 0
  pub regular : degenerate_triangle j.vertices j.triangles ≡ false
  pub pieces_passed : first_of (piece_tests (length j.triangles / 3) j.kinds j.faces j.coords) ≡ 0
  pub kinds_low : (i : ℕ) → i < length j.kinds → get_or j.kinds i 0 ≤ 1

-- the buffers have a slot for each edge, triangle, vertex and window
pub record HeldSlots (n : Field) (b : FieldSlices) : Type 0 where
  pub edges : n.edges ≤ min (slots_of (length b.edge_words_held) words_per_edge) (slots_of (length b.edge_reals_held) reals_per_edge)
  pub triangles : n.triangles ≤ min (slots_of (length b.triangle_words_held) words_per_triangle) (slots_of (length b.triangle_reals) reals_per_triangle)
  pub vertices : n.vertices ≤ slots_of (length b.vertex) reals_per_vertex
  pub windows : n.windows ≤ capacity_of (length b.words) (length b.reals)

-- every number of an edge, a triangle or a window names what the field has
pub record HeldNumbers (n : Field) (b : FieldSlices) : Type 0 where
  pub ends : (e : ℕ) → e < n.edges → (low_at b.edge_words_held e < n.vertices) × (high_at b.edge_words_held e < n.vertices)
  pub faces : (e i : ℕ) → e < n.edges → i < 2 → FaceThere n.triangles (face_at b.edge_words_held e i)
  pub heads : (e : ℕ) → e < n.edges → head_of b.edge_words_held e ≤ n.windows
  pub sides : (f k : ℕ) → f < n.triangles → k < 3 → side_in b.triangle_words_held f k < n.edges
  pub firsts : (f : ℕ) → f < n.triangles → first_entry_of b.triangle_words_held f ≤ entry_capacity (length b.entry_words_held)
  pub lasts : (f : ℕ) → f < n.triangles → last_entry_of b.triangle_words_held f ≤ entry_capacity (length b.entry_words_held)
  pub window_edges : (i : ℕ) → i < n.windows → edge_stored b.words i < n.edges
  pub window_faces : (i : ℕ) → i < n.windows → FaceThere n.triangles (into_of b.words i)
  pub window_links : (i : ℕ) → i < n.windows → link_of b.words i ≤ n.windows

-- the chain of each edge is its live windows, whose starts are below their ends and rise
pub record HeldWindows (n : Field) (b : FieldSlices) (live : ℕ → List Window) : Type 0 where
  pub stands : (e : ℕ) → e < n.edges → Stands n.windows (links b.edge_words_held b.words) b.reals e (live e)
  pub ordered : (e : ℕ) → e < n.edges → All (λ (u : Window). T (lt u.b0 u.b1)) (live e)
  pub rise : (e : ℕ) → e < n.edges → Pairs (λ (u v : Window). T (lt u.b0 v.b0)) (live e)

-- the chain of each face is the numbers of its entries, which name pieces of the job
pub record HeldEntries (n : Field) (b : FieldSlices) (xs : List FaceEntry) : Type 0 where
  pub holds : HoldsEntries (length xs) b.triangle_words_held b.entry_words_held xs
  pub slots : length xs ≤ entry_capacity (length b.entry_words_held)
  pub pieces : (i : ℕ) → i < length xs → get_or b.entry_words_held (words_per_entry * i + entry_piece) 0 < n.pieces
  pub entry_links : (i : ℕ) → i < length xs → next_entry_of b.entry_words_held i ≤ length xs

pub record HeldField (n : Field) (j : JobSlices) (b : FieldSlices) (live : ℕ → List Window) (xs : List FaceEntry) : Type 0 where
  pub job : HeldJob n j
  pub slots : HeldSlots n b
  pub numbers : HeldNumbers n b
  pub windows : HeldWindows n b live
  pub entries : HeldEntries n b xs

-- ---- a job and the buffers that it left, lent again
abbrev pub lent_job : Job → JobSlices
lent_job j = job_slices j.vertices j.triangles j.kinds j.faces j.coords

abbrev pub lent_field : FieldBuffers → FieldSlices
lent_field b = field_slices b.mesh.edge_words_held b.mesh.edge_reals_held b.mesh.triangle_words_held b.mesh.triangle_reals b.vertex b.words b.reals b.entry_words_held

-- the counts of a field are its job's
pub record CountsOf (j : Job) (f : Field) : Type 0 where
  pub vertices : f.vertices ≡ vertex_count j
  pub triangles : f.triangles ≡ triangle_count j
  pub pieces : f.pieces ≡ piece_count j
  pub edge_count_held : f.edges ≡ length (edges j.triangles)

-- the live windows and the entries of a field that a job returned
pub record ReturnedHeld (j : Job) (f : Field) (b' : FieldBuffers) : Type 0 where
  pub live : ℕ → List Window
  pub entries : List FaceEntry
  pub held : HeldField f (lent_job j) (lent_field b') live entries
