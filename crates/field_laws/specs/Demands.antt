-- The demands of document 00 said of the whole job, and the laws of a field that a job returned, for whoever reads one. Definitions only: demand_1, demand_2, demand_3 and field-laws in
-- proofs/Demands.antt say that they hold of every job, whatever it is and whatever the buffers are.
-- `compute_over queue_in_order j b most` is what job j comes to in buffers b with an allowance of `most` steps, over the list of events in order; `LeavesOver j b r b'` is what the buffers b' hold then
-- (field_model/specs/Lent.antt). The contract of `compute`, `ComputesOver queue_in_order`, is of these two and of the counts that the answer takes from the first, so that what is said here of them is
-- said of the program: `Returned`, at the end, says it of an answer. The heap in its buffers comes to the same (`job_same` in field_model/proofs/Whole.antt).
use Rattle.std.specs.Prelude.{ℕ, zero, suc, ◌+◌, ◌*◌, ◌≤◌, ◌<◌, true, false, List, ◌∷◌, map, ◌⊎◌, ◌≡◌, T, length, get_or}
use Rattle.std.specs.Float.Ieee.{lt}
use Rattle.layout.specs.Layout.{words_per_vertex, reals_per_vertex, vertex_start, vertex_end, words_per_edge, reals_per_edge, words_per_triangle, reals_per_normal, words_per_piece, reals_per_piece, words_per_window, reals_per_window, words_per_entry, entry_piece}
use Rattle.float64.specs.Scalar.{zero64}
use Rattle.work_laws.specs.of_better.Claim.{All, Pairs, Point}
use Rattle.work_laws.specs.of_better.Stretches.{better_of}
use Rattle.heap.specs.declared.Event.{Event}
use Rattle.windows.specs.declared.WindowRecord.{WindowRecord}
use Rattle.windows.specs.Windows.{capacity_of, edge_stored, into_of, window_at}
use Rattle.chains.specs.Chains.{links, head_of, next_link}
use Rattle.job_checks.specs.Job.{Job, vertex_count, triangle_count, piece_count}
use Rattle.topology.specs.Edges.{no_face, edges}
use Rattle.topology.specs.Frames.{len}
use Rattle.work_laws.specs.of_frames.Stored.{low_at, high_at, face_at, side_at}
use Rattle.work_laws.specs.of_mesh.Answer.{counts_in, mesh_refusal}
use Rattle.work_laws.specs.of_mesh.Held.{Held}
use Rattle.work_laws.specs.of_mesh_readers.Readers.{round_at}
use Rattle.work_laws.specs.of_trim_model.Intervals.{tiny_of}
use Rattle.work_laws.specs.of_trim_model.Windows.{Window, unqueued}
use Rattle.work_laws.specs.of_trim_model.Model.{Candidate, Model, empty, steps, steps_bound}
use Rattle.work_laws.specs.of_trim_model.Claim.{Trimmed}
use Rattle.work_laws.specs.of_live_windows.Live.{nums, wins_of, HoldsWindows}
use Rattle.work_laws.specs.of_inside_edges.Inside.{OnLength}
use Rattle.work_laws.specs.of_windows_there.There.{GoesInto}
use Rattle.field_model.specs.of_offers.Walks.{edge_data}
use Rattle.field_model.specs.of_face_entries.Buffers.{first_entry_of, last_entry_of, next_entry_of}
use Rattle.field_model.specs.of_face_entries.Entries.{FaceEntry, numbers_of, HoldsEntries}
use Rattle.work_laws.specs.of_insert_job.Job.{wedge_in}
use Rattle.work_laws.specs.of_last_pass.Lowered.{lowered_all}
use Rattle.work_laws.specs.of_last_pass.Buffers.{chain_behind}
use Rattle.work_laws.specs.of_last_pass.Finished.{lows_set, retained, resorted, LowIs}
use Rattle.field_model.specs.of_zero_buffers.ZeroIf.{zero_reals, zero_words, zero_cuts}
use Rattle.field_model.specs.of_finish.Contents.{FieldBuffers, SpareZero}
use Rattle.field_model.specs.of_finish.Refused.{zero_field, FieldLengths}
use Rattle.computed.specs.declared.Field.{Field}
use Rattle.field_model.specs.of_compute_spec.Compute.{other_counts}
use Rattle.field_model.specs.Queue.{queue_in_order}
use Rattle.field_model.specs.Field.{FieldState, Reply, refused, gives, Slots, event_in}
use Rattle.field_model.specs.Job.{Finished, pseudo_of, after_sources}
use Rattle.field_model.specs.Lent.{slots_in, compute_over, candidates_over, LeavesOver}

-- ---- demand 1: "For every such job, however bad, the work ends in a field or in one of the numbered refusals of document 01, and the rooms then hold what 01 says."
-- the numbers of a job's refusals
abbrev pub JobRefusal : ℕ → Type 0
JobRefusal k = (1 ≤ k) × ((k ≤ 15) ⊎ (k ≡ 17))

-- it ends, and within its allowance
abbrev pub EndsWithin : ℕ → Reply Finished → Type 0
EndsWithin most (refused k) = JobRefusal k
EndsWithin most (gives x) = x.steps ≤ most

-- "A field leaves queue, cut room and scratch rows zero, and every place never taken."
pub record RestIsZero (j : Job) (made entered : ℕ) (b b' : FieldBuffers) : Type 0 where
  pub keys : b'.keys ≡ zero_reals b.keys
  pub events : b'.events ≡ zero_words b.events
  pub cuts : b'.cuts ≡ zero_cuts b.cuts
  pub scratch : b'.scratch ≡ zero_words b.scratch
  pub other_scratch : b'.other_scratch ≡ zero_words b.other_scratch
  -- windows and entries
  pub words : (p : ℕ) → words_per_window * made ≤ p → get_or b'.words p 0 ≡ 0
  pub reals : (p : ℕ) → reals_per_window * made ≤ p → get_or b'.reals p zero64 ≡ zero64
  pub entries : (p : ℕ) → words_per_entry * entered ≤ p → get_or b'.entry_words_held p 0 ≡ 0
  -- the mesh; and the scratch word of each edge and the spare word of each triangle
  pub vertex_words_held : (p : ℕ) → words_per_vertex * vertex_count j ≤ p → get_or b'.mesh.vertex_words_held p 0 ≡ 0
  pub vertex : (p : ℕ) → reals_per_vertex * vertex_count j ≤ p → get_or b'.vertex p zero64 ≡ zero64
  pub edge_words_held : (i a : ℕ) → length (edges j.triangles) ≤ i → a < words_per_edge → get_or b'.mesh.edge_words_held (words_per_edge * i + a) 0 ≡ 0
  pub edge_reals_held : (p : ℕ) → reals_per_edge * length (edges j.triangles) ≤ p → get_or b'.mesh.edge_reals_held p zero64 ≡ zero64
  pub round : (p : ℕ) → length j.triangles ≤ p → get_or b'.mesh.round p 0 ≡ 0
  pub triangle_words_held : (i a : ℕ) → triangle_count j ≤ i → a < words_per_triangle → get_or b'.mesh.triangle_words_held (words_per_triangle * i + a) 0 ≡ 0
  pub triangle_reals : (p : ℕ) → reals_per_normal * length j.triangles ≤ p → get_or b'.mesh.triangle_reals p zero64 ≡ zero64
  pub spare : SpareZero b'.mesh
  -- the pieces
  pub piece_words : (i a : ℕ) → piece_count j ≤ i → a < words_per_piece → get_or b'.piece_words (words_per_piece * i + a) 0 ≡ 0
  pub piece_reals : (p : ℕ) → reals_per_piece * piece_count j ≤ p → get_or b'.piece_reals p zero64 ≡ zero64

-- "1 to 9 change no room", "10 to 15 and 17 fill every room with zeros"
abbrev pub BuffersThen : Job → FieldBuffers → Reply Finished → FieldBuffers → Type 0
BuffersThen j b (refused k) b' = (k ≤ 9 → b' ≡ b) × (9 < k → b' ≡ zero_field b)
BuffersThen j b (gives x) b' = RestIsZero j (length x.wins) (length x.entries) b b'

abbrev pub JobDemand1 : Job → FieldBuffers → ℕ → Type 0
JobDemand1 j b most =
    EndsWithin most (compute_over queue_in_order j b most) × ((b' : FieldBuffers) → LeavesOver j b (compute_over queue_in_order j b most) b' → BuffersThen j b (compute_over queue_in_order j b most) b')

-- ---- demand 2: "On every job .. that ends in a field .., the windows, corner distances .. and the count of steps equal the Rust's"
-- `compute_over queue_in_order` is the Rust's `compute` on values up to the end of its main loop, and has the steps. Of what comes after, and of the buffers:
pub record AsTheRust (j : Job) (x : Finished) (b' : FieldBuffers) : Type 0 where
  -- all windows made, dead ones too, with the `low` that the Rust's last pass over them sets
  pub windows : wins_of (length x.wins) b'.words b'.reals ≡ lows_set x.wins
  -- the list of each edge without dead windows, sorted by their starts, as the Rust leaves it; `none` is read for a number past the windows made, which no list has
  pub lists : (none : WindowRecord) (e : ℕ) → chain_behind (length x.wins) (links b'.mesh.edge_words_held b'.words) e (length x.wins) 0 ≡ resorted x.wins none (retained x.wins none (nums (x.live e)))
  -- the distances of the vertices, lowered by the windows of each edge in order, and what they have emitted
  pub distances : b'.vertex ≡ lowered_all (length (edges j.triangles)) (edge_data j.vertices j.triangles) x.live x.vertex

-- "(none is refused but for 01's reasons)": the reason for each number. Those of the main loop with so many turns left, from the field f:
pub data LoopRefused (j : Job) (slots : Slots) : ℕ → FieldState (List Event) → ℕ → Type 0 where
  -- 15: the turns are over and an event waits
  spent : (f : FieldState (List Event)) (x : Event) (rest : List Event) → f.queue ≡ x ∷ rest → LoopRefused j slots zero f 15
  -- 12, 13 or 14: the turn of the first event comes to what there is no slot for
  turning : (left : ℕ) (f : FieldState (List Event)) (x : Event) (rest : List Event) (k : ℕ) → f.queue ≡ x ∷ rest
      → event_in queue_in_order slots j.limit (pseudo_of j) j.vertices j.triangles x rest f ≡ refused k → LoopRefused j slots (suc left) f k
  -- that turn is done, and a later one is refused
  later : (left : ℕ) (f g : FieldState (List Event)) (x : Event) (rest : List Event) (k : ℕ) → f.queue ≡ x ∷ rest
      → event_in queue_in_order slots j.limit (pseudo_of j) j.vertices j.triangles x rest f ≡ gives g → LoopRefused j slots left g k → LoopRefused j slots (suc left) f k

-- and all of them, in the order in which they are tried
pub data RefusedFor (j : Job) (b : FieldBuffers) (most : ℕ) : ℕ → Type 0 where
  -- 1 to 10: it is the first of them whose test holds (mesh/specs/Answer.antt)
  handing_in : (k : ℕ) → mesh_refusal j (counts_in b.mesh (other_counts b)) ≡ suc k → RefusedFor j b most (suc k)
  -- 11
  wedge : wedge_in j ≡ true → RefusedFor j b most 11
  -- 12, 13, 14 or 17: a piece is entered for which there is no slot
  inserting : (k : ℕ) → after_sources queue_in_order (slots_in b) j ≡ refused k → RefusedFor j b most k
  -- 12, 13, 14 or 15: the main loop, from what insertion left
  looping : (f : FieldState (List Event)) (k : ℕ) → after_sources queue_in_order (slots_in b) j ≡ gives f → LoopRefused j (slots_in b) most f k → RefusedFor j b most k

abbrev pub JobDemand2 : Job → FieldBuffers → ℕ → Type 0
JobDemand2 j b most = ((x : Finished) → compute_over queue_in_order j b most ≡ gives x → (b' : FieldBuffers) → LeavesOver j b (gives x) b' → AsTheRust j x b')
    × ((k : ℕ) → compute_over queue_in_order j b most ≡ refused k → RefusedFor j b most k)

-- ---- demand 3, for the candidates that the job offers: "after the list, on every edge, the live windows are exactly those of 01's book; .."
-- the book fed with the limit, the lengths and these candidates
abbrev pub job_model : Job → List Candidate → Model
job_model j cs = steps better_of j.limit (len j.vertices j.triangles) cs empty

pub record ModelKept (j : Job) (cs : List Candidate) (live : ℕ → List Window) : Type 0 where
  -- the book's live windows, of which the pops of their events have cleared the mark `queued`
  pub exactly : (e : ℕ) → live e ≡ map unqueued ((job_model j cs).edge e).live
  -- the sentences of demand 3, one by one, in trim_model/specs/Claim.antt
  pub trimmed : (e : ℕ) → Trimmed (tiny_of (len j.vertices j.triangles e)) (steps_bound better_of j.limit (len j.vertices j.triangles) e cs empty)
      (record { live = live e; admitted = ((job_model j cs).edge e).admitted; slivers = ((job_model j cs).edge e).slivers })

abbrev pub JobDemand3 : Job → FieldBuffers → ℕ → Type 0
JobDemand3 j b most = (x : Finished) → compute_over queue_in_order j b most ≡ gives x → ModelKept j (candidates_over queue_in_order j b most) x.live

-- ---- the laws of a field that a job returned, of its lists and of the buffers
-- the mesh
pub record MeshLaws (j : Job) (b' : FieldBuffers) : Type 0 where
  pub held : Held j.vertices j.triangles j.flags b'.mesh
  pub ends_there : (e : ℕ) → e < length (edges j.triangles) → (low_at b'.mesh.edge_words_held e < high_at b'.mesh.edge_words_held e) × (high_at b'.mesh.edge_words_held e < vertex_count j)
  pub faces_there : (e i : ℕ) → e < length (edges j.triangles) → i < 2 → (face_at b'.mesh.edge_words_held e i < triangle_count j) ⊎ (face_at b'.mesh.edge_words_held e i ≡ no_face)
  pub sides_there : (h : ℕ) → h < length j.triangles → side_at b'.mesh.triangle_words_held h < length (edges j.triangles)
  -- the faces round a vertex
  pub range_there : (k : ℕ) → k < vertex_count j → (get_or b'.mesh.vertex_words_held (words_per_vertex * k + vertex_start) 0 ≤ get_or b'.mesh.vertex_words_held (words_per_vertex * k + vertex_end) 0)
      × (get_or b'.mesh.vertex_words_held (words_per_vertex * k + vertex_end) 0 ≤ length j.triangles)
  pub round_there : (k p : ℕ) → k < vertex_count j → get_or b'.mesh.vertex_words_held (words_per_vertex * k + vertex_start) 0 ≤ p → p < get_or b'.mesh.vertex_words_held (words_per_vertex * k + vertex_end) 0
      → round_at b'.mesh.round p < triangle_count j

-- the windows
pub record WindowLaws (j : Job) (x : Finished) (b' : FieldBuffers) : Type 0 where
  -- the chain of each edge is its list of live windows; each stands in its slot, alive, and no other window is alive
  pub holds : HoldsWindows (length x.wins) x.wins (links b'.mesh.edge_words_held b'.words) b'.reals x.live
  -- there are no more windows than slots
  pub slots_there : length x.wins ≤ capacity_of (length b'.words) (length b'.reals)
  -- of every window made, dead ones too: an edge of the mesh, and a face of that edge or none
  pub edge_there : (i : ℕ) → i < length x.wins → GoesInto j.triangles (edge_stored b'.words i) (into_of b'.words i)
  pub heads_there : (e : ℕ) → head_of b'.mesh.edge_words_held e ≤ length x.wins
  pub links_there : (i : ℕ) → i < length x.wins → next_link b'.words i ≤ length x.wins
  pub chains_end : (e : ℕ) → length (x.live e) ≤ length x.wins
  pub lows : (i : ℕ) → i < length x.wins → LowIs (window_at b'.words b'.reals i)
  -- a listed window's start is a number below its end, and starts and ends rise along an edge
  pub ordered : (e : ℕ) → All (λ (u : Window). Point u.b0 × (Point u.b1 × T (lt u.b0 u.b1))) (x.live e)
  pub rise : (e : ℕ) → Pairs (λ (u v : Window). T (lt u.b0 v.b0) × T (lt u.b1 v.b1)) (x.live e)
  -- their ends are from 0 to the length of the edge
  pub inside : (e : ℕ) → All (OnLength (len j.vertices j.triangles e)) (x.live e)
  -- nothing is queued
  pub idle : (e : ℕ) → All (λ (u : Window). u.carried.queued ≡ false) (x.live e)

-- the entries of faces
pub record EntryLaws (j : Job) (xs : List FaceEntry) (b' : FieldBuffers) : Type 0 where
  pub holds : HoldsEntries (length xs) b'.mesh.triangle_words_held b'.entry_words_held xs
  pub entries_there : All (λ (x : FaceEntry). (x.face < triangle_count j) × (x.entry.piece < piece_count j)) xs
  pub pieces_there : (i : ℕ) → i < length xs → get_or b'.entry_words_held (words_per_entry * i + entry_piece) 0 < piece_count j
  pub firsts_there : (f : ℕ) → first_entry_of b'.mesh.triangle_words_held f ≤ length xs
  pub lasts_there : (f : ℕ) → last_entry_of b'.mesh.triangle_words_held f ≤ length xs
  pub links_there : (i : ℕ) → i < length xs → next_entry_of b'.entry_words_held i ≤ length xs
  pub chains_end : (f : ℕ) → length (numbers_of f xs) ≤ length xs

pub record FieldLaws (j : Job) (b : FieldBuffers) (x : Finished) (b' : FieldBuffers) : Type 0 where
  -- the job met none of 1 to 10
  pub passed : mesh_refusal j (counts_in b.mesh (other_counts b)) ≡ 0
  -- every slice is as long as it was lent
  pub lengths : FieldLengths b b'
  pub mesh : MeshLaws j b'
  pub windows : WindowLaws j x b'
  pub entries : EntryLaws j x.entries b'

abbrev pub ReturnedField : Job → FieldBuffers → ℕ → Type 0
ReturnedField j b most = (x : Finished) → compute_over queue_in_order j b most ≡ gives x → (b' : FieldBuffers) → LeavesOver j b (gives x) b' → FieldLaws j b x b'

-- ---- of an answer of `compute`, by its contract alone: `returned` in proofs/Demands.antt. The counts are those of the job, and the field is one whose buffers, lists and windows have the laws above.
pub record Returned (j : Job) (b : FieldBuffers) (most : ℕ) (f : Field) (b' : FieldBuffers) : Type 0 where
  pub finished : Finished
  pub comes_to : compute_over queue_in_order j b most ≡ gives finished
  pub vertices : f.vertices ≡ vertex_count j
  pub triangles : f.triangles ≡ triangle_count j
  pub pieces : f.pieces ≡ piece_count j
  pub edge_count_held : f.edges ≡ length (edges j.triangles)
  pub windows : f.windows ≡ length finished.wins
  pub popped : f.steps ≡ finished.steps
  pub steps_within : f.steps ≤ most
  pub leaves : LeavesOver j b (gives finished) b'
  pub laws : FieldLaws j b finished b'
  pub as_the_rust : AsTheRust j finished b'
  pub model : ModelKept j (candidates_over queue_in_order j b most) finished.live
