-- What a run of turns does to the buffers. Definitions only.
use Rattle.std.specs.Prelude.{ℕ, ◌≤◌, List, ◌++◌, ◌≡◌, length, Float, Result, Ok, Err}
use Rattle.buffers.specs.declared.Lack.{Lack}
use Rattle.buffers.specs.Lack.{lack_number}
use Rattle.windows.specs.Windows.{capacity_of}
use Rattle.insertion.specs.of_trim_model.Model.{Candidate}
use Rattle.field_step.specs.of_trim_state.State.{State}
use Rattle.insertion.specs.of_cut_lists.Buffers.{Cuts}
use Rattle.insertion.specs.of_trim_split.declared.Counts.{Counts}
use Rattle.insertion.specs.of_trim_split.Running.{End, stopped, at}
use Rattle.insertion.specs.of_trim.Buffers.{Slices}
use Rattle.insertion.specs.of_trim.Adding.{snapshot_at}
use Rattle.field_step.specs.Contract.{FieldMesh, FieldStands, FieldEnds}
use Rattle.advance.specs.declared.Advanced.{Advanced}
use Rattle.advance.specs.Advance.{advance_of, steps_of, advance_candidates}

abbrev pub advanced_end : Result Advanced Lack → Slices → End
advanced_end (Err lack) b = stopped (lack_number lack)
advanced_end (Ok a) b = at (snapshot_at a.counts b)

-- if it was not stopped, the windows are within the buffer
abbrev pub AdvancedWithin : ℕ → Result Advanced Lack → Type 0
AdvancedWithin windows (Err lack) = Unit {0}
AdvancedWithin windows (Ok a) = a.counts.made ≤ windows

-- and so many events were popped
abbrev pub StepsTold : Result Advanced Lack → ℕ → Type 0
StepsTold (Err lack) k = Unit {0}
StepsTold (Ok a) k = a.steps ≡ k

-- buffers b and c at the call, b' at the return; at most `most` turns
pub record AdvancesTo (limit : Float) (n most : ℕ) (v : List Float) (buffer vertex_words round : List ℕ) (edge_reals : List Float) (triangle_words : List ℕ) (triangleReals : List Float)
    (counts : Counts) (b : Slices) (c : Cuts) (r : Result Advanced Lack) (b' : Slices) : Type 0 where
  -- no more windows are made than the buffer has slots for
  pub bounded : AdvancedWithin (capacity_of (length b.words) (length b.reals)) r
  -- the buffers come to hold the state after the turns, of every mesh and state that they hold; or what there is no slot for is told
  pub advances : (triangles : List ℕ) → FieldMesh v triangles n buffer b.edges edge_reals triangle_words triangleReals vertex_words round
      → (past : List Candidate) (s : State) → FieldStands limit v triangles n past s (snapshot_at counts b)
      → let cuts = length c.pts in
      let windows = capacity_of (length b.words) (length b.reals) in
      FieldEnds limit v triangles n (past ++ advance_candidates cuts windows limit vertex_words v triangles most s) (snapshot_at counts b) (advanced_end r b') (advance_of cuts windows limit vertex_words v triangles most s)
      × StepsTold r (steps_of cuts windows limit vertex_words v triangles most s)
