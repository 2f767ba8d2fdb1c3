-- What the main loop does to the buffers, within its budget. Definitions only.
use Rattle.std.specs.Prelude.{ℕ, ◌≤◌, ◌<◌, Bool, cond, List, ◌++◌, ◌≡◌, length, Float, Result, Ok, Err}
use Rattle.buffers.specs.declared.Lack.{Lack}
use Rattle.buffers.specs.Lack.{lack_number}
use Rattle.windows.specs.Windows.{capacity_of}
use Rattle.heap.specs.Queue.{queue, popping}
use Rattle.advance.specs.of_trim_model.Model.{Candidate}
use Rattle.advance.specs.of_trim_state.State.{State}
use Rattle.advance.specs.of_cut_lists.Buffers.{Cuts}
use Rattle.advance.specs.of_trim_split.Running.{Snapshot, Untouched}
use Rattle.insert_job.specs.of_trim.Buffers.{Slices}
use Rattle.insert_job.specs.of_trim.Adding.{snapshot_at}
use Rattle.advance.specs.of_face_entries.Entries.{FaceEntry}
use Rattle.insert_job.specs.of_insertion.declared.InsertCounts.{InsertCounts}
use Rattle.insert_job.specs.declared.InsertRefusal.{InsertRefusal}
use Rattle.insert_job.specs.declared.InsertRefusal.TheVariants.{Wedge, NoSlot}
use Rattle.advance.specs.of_field_step.Step.{is_empty}
use Rattle.advance.specs.of_field_step.Contract.{FieldMesh, FieldStands}
use Rattle.advance.specs.declared.Advanced.{Advanced}
use Rattle.advance.specs.Advance.{advance_candidates}
use Rattle.run_steps.specs.declared.FieldWork.{FieldWork}
use Rattle.run_steps.specs.declared.FieldWork.TheVariants.{Refused, Done}
use Rattle.run_steps.specs.Run.{WorkResult, refused, field, loop_of}

-- no event waits, of so many in the queue
abbrev pub none_waits : List Float → List ℕ → ℕ → Bool
none_waits keys events queued = is_empty (popping (queue keys events) queued).0

-- the answer after the turns, so many entries being made
abbrev pub work_answer : List Float → List ℕ → ℕ → Result Advanced Lack → FieldWork
work_answer keys events entries (Err lack) = Refused (lack_number lack)
work_answer keys events entries (Ok a) = cond (none_waits keys events a.counts.queued) (Done (record { trim = a.counts; entries = entries }) a.steps) (Refused 15)

-- a refusal is none of 1 to 9, and else the windows are within the buffer
abbrev pub WorkWithin : ℕ → FieldWork → Type 0
WorkWithin windows (Refused k) = 9 < k
WorkWithin windows (Done n steps) = n.trim.made ≤ windows

module _ (limit : Float) (v : List Float) (triangles : List ℕ) (vertices : ℕ) where
  -- from p₀ on the buffers have come to hold a field
  pub record RunComesTo (past : List Candidate) (xs : List FaceEntry) (entered : ℕ) (p₀ : Snapshot) (n : InsertCounts) (steps : ℕ) (b' : Slices) (r : WorkResult) : Type 0 where
    pub state : State
    pub is : r ≡ field (record { state = state; entries = xs }) steps
    pub same_entries : n.entries ≡ entered
    pub stands : FieldStands limit v triangles vertices past state (snapshot_at n.trim b')
    pub untouched : Untouched (λ e. Unit {0}) p₀ (snapshot_at n.trim b')

  abbrev pub RunEnds : List Candidate → List FaceEntry → ℕ → Snapshot → FieldWork → Slices → WorkResult → Type 0
  RunEnds past xs entered p₀ (Refused k) b' r = r ≡ refused k
  RunEnds past xs entered p₀ (Done n steps) b' r = RunComesTo past xs entered p₀ n steps b' r

module _ (limit : Float) (n most : ℕ) (v : List Float) (buffer vertex_words round : List ℕ) (edge_reals : List Float) (triangle_words : List ℕ) (triangleReals : List Float) (b : Slices) (c : Cuts) where
  -- a refusal before it stays; else the buffers come to hold the field, of every mesh and state that they hold
  abbrev pub RunsOn : Result InsertCounts InsertRefusal → FieldWork → Slices → Type 0
  RunsOn (Err Wedge) r b' = r ≡ Refused 11
  RunsOn (Err (NoSlot lack)) r b' = r ≡ Refused (lack_number lack)
  RunsOn (Ok k) r b' =
      (triangles : List ℕ) → FieldMesh v triangles n buffer b.edges edge_reals triangle_words triangleReals vertex_words round
      → (past : List Candidate) (s : State) → FieldStands limit v triangles n past s (snapshot_at k.trim b) → (xs : List FaceEntry)
      → let cuts = length c.pts in
      let windows = capacity_of (length b.words) (length b.reals) in
      RunEnds limit v triangles n (past ++ advance_candidates cuts windows limit vertex_words v triangles most s) xs k.entries (snapshot_at k.trim b) r b'
      (loop_of cuts windows limit vertex_words v triangles most (record { state = s; entries = xs }))

  -- buffers b and c at the call, b' at the return
  pub record RunsTo (from : Result InsertCounts InsertRefusal) (r : FieldWork) (b' : Slices) : Type 0 where
    -- no more windows are made than the buffer has slots for
    pub bounded : WorkWithin (capacity_of (length b.words) (length b.reals)) r
    pub runs : RunsOn from r b'
