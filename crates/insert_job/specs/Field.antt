-- A job whose mesh is made, with no window yet: what it is that its pieces are inserted. Definitions only.
use Rattle.std.specs.Prelude.{ℕ, ◌≤◌, min, List, [], length}
use Rattle.layout.specs.Layout.{words_per_piece, reals_per_piece}
use Rattle.buffers.specs.Slots.{slots_of}
use Rattle.job_checks.specs.Job.{Job, vertex_count}
use Rattle.insert_sources.specs.of_mesh.declared.OtherCounts.{OtherCounts}
use Rattle.insert_sources.specs.of_mesh.Topology.{MeshBuffers}
use Rattle.windows.specs.Windows.{capacity_of}
use Rattle.heap.specs.Queue.{queue}
use Rattle.actions.specs.Actions.{stock}
use Rattle.insert_sources.specs.of_cut_lists.Buffers.{Cuts}
use Rattle.insert_sources.specs.of_trim.Buffers.{Slices, slices}
use Rattle.insert_sources.specs.of_offers.Walks.{edge_data}
use Rattle.insert_sources.specs.of_face_entries.Buffers.{EntryBuffers, entry_buffers, entry_capacity}
use Rattle.insert_sources.specs.of_source_inserts.declared.Insert.{Insert}
use Rattle.insert_sources.specs.of_source_inserts.Inserts.{job_inserts, candidates_in}
use Rattle.insert_sources.specs.of_insertion.declared.InsertCounts.{InsertCounts}
use Rattle.insert_sources.specs.of_insertion.Insertion.{Inserted, InsertResult, insert_each}
use Rattle.insert_sources.specs.of_insertion.Snapshots.{InsertEnd, InsertEnds, insert_snapshot}
use Rattle.insert_sources.specs.Job.{InsertionSlices, insertion_slices}
use Rattle.begin.specs.Begin.{WorkSlices, begun}

-- ---- the slices of a job whose mesh stands in m, for those who insert
abbrev pub read_slices : Job → MeshBuffers → WorkSlices → InsertionSlices
read_slices j m s = insertion_slices j.vertices m.vertex_words_held m.edge_reals_held m.triangle_reals m.round j.kinds j.faces j.coords s.piece_words s.piece_reals

abbrev pub trim_slices : MeshBuffers → WorkSlices → Slices
trim_slices m s = slices m.edge_words_held s.words s.reals s.keys s.events s.vertex

abbrev pub entry_slices : MeshBuffers → WorkSlices → EntryBuffers
entry_slices m s = entry_buffers m.triangle_words_held s.entries

-- as the work starts
abbrev pub begun_job : Job → WorkSlices → WorkSlices
begun_job j s = begun j.kinds j.coords (vertex_count j) s

abbrev pub no_counts : InsertCounts
no_counts = record { trim = record { made = 0; queued = 0 }; entries = 0 }

-- the count that the checks were told of the pieces is one that both slices have slots for
abbrev pub PiecesCounted : OtherCounts → WorkSlices → Type 0
PiecesCounted others s = others.pieces ≤ min (slots_of (length s.piece_words) words_per_piece) (slots_of (length s.piece_reals) reals_per_piece)

-- ---- on values
-- the Rust's `field` before its first piece: no windows, no events, no entries, and the vertices that the slices hold
abbrev pub empty_field : WorkSlices → Inserted
empty_field s = record { state = record { wins = []; live = λ (e : ℕ). []; stock = stock 0 0 (queue s.keys s.events) s.vertex }; entries = [] }

-- what a job's pieces do
abbrev pub inserts_of : Job → List Insert
inserts_of j = job_inserts j.vertices j.triangles j.kinds j.faces j.coords

-- the Rust's `field` after its last piece, or the number of what there is no slot for, in slices s and c as they are lent
abbrev pub inserted_field : Job → List ℕ → WorkSlices → Cuts → InsertResult
inserted_field j vertex_words s c =
    insert_each (length c.pts) (capacity_of (length s.words) (length s.reals)) (entry_capacity (length s.entries)) j.limit vertex_words (edge_data j.vertices j.triangles)
    (inserts_of j) (empty_field (begun_job j s))

-- ---- in the buffers
-- from buffers that hold the mesh m of the job and no window: stopped by the definition's number, or they hold the definition's state (all windows made, the live
-- windows of each edge, the queue, the vertices, the entries of faces), and the mesh is as it was
abbrev pub FieldInserted : Job → MeshBuffers → WorkSlices → Cuts → InsertEnd → Type 0
FieldInserted j m s c end =
    InsertEnds j.limit (edge_data j.vertices j.triangles) m.triangle_words_held (candidates_in (inserts_of j))
    (insert_snapshot no_counts (trim_slices m (begun_job j s)) (entry_slices m (begun_job j s))) end (inserted_field j m.vertex_words_held s c)
