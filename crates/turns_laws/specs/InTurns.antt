-- A job in parts, by the contracts of the exports: `sirmolaat_insert`, then `sirmolaat_advance` any number of times, then `sirmolaat_finish`. What proofs/Whole.antt says of it: the answer
-- is then that of `compute`, and of a field every slice too. Definitions only.
use Rattle.std.specs.Prelude.{ℕ, ◌+◌, ◌≤◌, List, [], ◌∷◌, ◌≡◌, length, get_or, Float}
use Rattle.buffers.specs.Slots.{slots_of}
use Rattle.windows.specs.Windows.{capacity_of}
use Rattle.job_checks.specs.Job.{Job, vertex_count, triangle_count, piece_count}
use Rattle.compute.specs.of_mesh.Topology.{MeshBuffers, mesh_buffers}
use Rattle.compute.specs.of_cut_lists.Buffers.{Cuts}
use Rattle.insert_c.specs.of_cut_slots.Slots.{cut_count}
use Rattle.advance_c.specs.of_trim_split.declared.Counts.{Counts}
use Rattle.advance_c.specs.of_trim.Buffers.{Slices}
use Rattle.compute.specs.of_begin.Begin.{WorkSlices, work_slices}
use Rattle.insert_c.specs.of_insert_job.Field.{trim_slices}
use Rattle.compute.specs.of_finish.Contents.{FieldBuffers}
use Rattle.compute.specs.of_finish.Refused.{FieldLengths}
use Rattle.compute.specs.of_compute_spec.Compute.{field_buffers, work_slices_in}
use Rattle.computed.specs.declared.Computed.{Computed}
use Rattle.computed.specs.declared.Computed.TheVariants.{Field}
use Rattle.insert_c.specs.Exports.{InsertAnswers}
use Rattle.advance_c.specs.Turns.{told_counts, TurnsAnswer, FinishAnswer}

-- a call of `sirmolaat_advance`
pub record Call : Type 0 where
  pub most : ℕ
  pub lent : List ℕ  -- `told` at the call
  pub told : List ℕ  -- `told` at the return
  pub cuts : Cuts  -- the cut lists at the call, and at the return
  pub cuts_left : Cuts
  pub left : Slices  -- the other slices that it writes, at the return

-- slices as long as they were, as a caller's always are
pub record AsLong (b b' : Slices) : Type 0 where
  pub edges : length b'.edges ≡ length b.edges
  pub words : length b'.words ≡ length b.words
  pub reals : length b'.reals ≡ length b.reals
  pub keys : length b'.keys ≡ length b.keys
  pub events : length b'.events ≡ length b.events

-- how many turns the calls asked for, and how many steps they told of
unfoldable pub turns_asked : List Call → ℕ
turns_asked [] = 0
turns_asked (k ∷ ks) = k.most + turns_asked ks

unfoldable pub steps_of_calls : List Call → ℕ
steps_of_calls [] = 0
steps_of_calls (k ∷ ks) = get_or k.told 2 0 + steps_of_calls ks

-- the counts that the last call told, and the slices that it left
unfoldable pub last_counts : Counts → List Call → Counts
last_counts counts [] = counts
last_counts counts (k ∷ ks) = last_counts (told_counts k.told) ks

unfoldable pub last_left : Slices → List Call → Slices
last_left b [] = b
last_left b (k ∷ ks) = last_left k.left ks

-- of a mesh of n vertices in its slices, with so many cut slots
module _ (limit : Float) (n : ℕ) (v : List Float) (buffer vertex_words round : List ℕ) (edge_reals : List Float) (triangle_words : List ℕ) (triangleReals : List Float) (slots : ℕ) where
  -- a call with the counts and the slices that there are, answered by r
  pub record Called (counts : Counts) (b : Slices) (k : Call) (r : ℕ) : Type 0 where
    pub answers : TurnsAnswer limit n k.most v buffer vertex_words round edge_reals triangle_words triangleReals k.lent b k.cuts r k.left k.cuts_left k.told
    pub counted : told_counts k.lent ≡ counts
    pub three : 3 ≤ length k.lent
    pub cut_slots : length k.cuts.pts ≡ slots
    pub long : AsLong b k.left

  -- one behind another, each answered by 0
  unfoldable pub CalledAll : Counts → Slices → List Call → Type 0
  CalledAll counts b [] = Unit {0}
  CalledAll counts b (k ∷ ks) = Called counts b k 0 × CalledAll (told_counts k.told) k.left ks

-- with scratch rows of exactly as many slots as there are for windows, to which nothing is written
pub record RowsBeside (b : FieldBuffers) : Type 0 where
  pub scratch : slots_of (length b.scratch) 1 ≡ capacity_of (length b.words) (length b.reals)
  pub other_scratch : slots_of (length b.other_scratch) 1 ≡ capacity_of (length b.words) (length b.reals)

-- what `sirmolaat_insert` told, as the first call takes it
abbrev pub counts_inserted : List ℕ → Counts
counts_inserted told = record { made = get_or told 1 0; queued = get_or told 2 0 }

-- a job in buffers b: m₁, s₁ and told₁ are left by `sirmolaat_insert`; then come the calls
module _ (j : Job) (b : FieldBuffers) (m₁ : MeshBuffers) (s₁ : WorkSlices) (told₁ : List ℕ) where
  -- `sirmolaat_insert` answered r
  pub record InsertCalled (r : ℕ) : Type 0 where
    pub lent : List ℕ
    pub cuts_left : Cuts
    pub answers : InsertAnswers j b.mesh (work_slices_in b) b.cuts lent r m₁ s₁ cuts_left told₁
    pub four : 4 ≤ length lent
    pub long : AsLong (trim_slices b.mesh (work_slices_in b)) (trim_slices m₁ s₁)
    pub entries : length s₁.entries ≡ length b.entry_words_held

  abbrev pub slices_inserted : Slices
  slices_inserted = trim_slices m₁ s₁

  abbrev pub TurnsCalled : List Call → Type 0
  TurnsCalled ks = CalledAll j.limit (vertex_count j) j.vertices j.triangles m₁.vertex_words_held m₁.round m₁.edge_reals_held m₁.triangle_words_held m₁.triangle_reals (cut_count b.cuts)
      (counts_inserted told₁) slices_inserted ks

  -- a call behind them, answered by r
  abbrev pub NextTurn : List Call → Call → ℕ → Type 0
  NextTurn ks k r = Called j.limit (vertex_count j) j.vertices j.triangles m₁.vertex_words_held m₁.round m₁.edge_reals_held m₁.triangle_words_held m₁.triangle_reals (cut_count b.cuts)
      (last_counts (counts_inserted told₁) ks) (last_left slices_inserted ks) k r

  -- the slices at the end: those of the mesh and the pieces as insertion left them, z and c as `sirmolaat_finish` left them; the two scratch rows are zeroed by the caller
  abbrev pub ending_in : Slices → Cuts → List ℕ → List ℕ → FieldBuffers
  ending_in z c scratch other =
      field_buffers (mesh_buffers m₁.vertex_words_held z.edges m₁.edge_reals_held m₁.round m₁.triangle_words_held m₁.triangle_reals)
      (work_slices s₁.piece_words s₁.piece_reals z.vertex z.words z.reals z.keys z.events s₁.entries) c scratch other

  -- `sirmolaat_finish` answered 0; `cuts` are the cut lists that it was lent, and c' those that it left
  pub record Finishing (ks : List Call) (z : Slices) (c' : Cuts) : Type 0 where
    pub cuts : Cuts
    pub answers : FinishAnswer (get_or told₁ 0 0) (last_counts (counts_inserted told₁) ks).made m₁.edge_reals_held (last_left slices_inserted ks) cuts 0 z c'
    pub pts : length cuts.pts ≡ length b.cuts.pts
    pub out : length cuts.out ≡ length b.cuts.out
    pub keep : length cuts.keep ≡ length b.cuts.keep
    pub next : length cuts.next ≡ length b.cuts.next
    pub long : FieldLengths b (ending_in z c' b.scratch b.other_scratch)

  -- the counts of the field, as the exports told them
  abbrev pub field_in_turns : List Call → Computed
  field_in_turns ks = Field (record {
    vertices = vertex_count j;
    triangles = triangle_count j;
    pieces = piece_count j;
    edges = get_or told₁ 0 0;
    windows = (last_counts (counts_inserted told₁) ks).made;
    steps = steps_of_calls ks;
  })
