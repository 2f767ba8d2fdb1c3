-- The Rust's main loop within a step budget, over the state. Definitions only.
use Rattle.std.specs.Prelude.{ℕ, List, Float, if◌then◌else◌}
use Rattle.advance.specs.of_trim_state.State.{Result, stopped, went}
use Rattle.advance.specs.of_face_entries.Entries.{FaceEntry}
use Rattle.insert_job.specs.of_insertion.Insertion.{Inserted}
use Rattle.advance.specs.of_field_step.Step.{idle_of}
use Rattle.advance.specs.Advance.{advance_of, steps_of}

-- a refusal by its number in 01, or the state and the entries of faces after so many steps
pub data WorkResult : Type 0 where
  refused : ℕ → WorkResult
  field : Inserted → ℕ → WorkResult

-- 15: the turns of the budget are over, and an event is queued
unfoldable pub budgeted : List FaceEntry → ℕ → Result → WorkResult
budgeted xs steps (stopped k) = refused k
budgeted xs steps (went s) = if idle_of s then field (record { state = s; entries = xs }) steps else refused 15

-- from what insertion left, at most `most` turns
abbrev pub loop_of : ℕ → ℕ → Float → List ℕ → List Float → List ℕ → ℕ → Inserted → WorkResult
loop_of cuts windows limit flags v triangles most x =
    budgeted x.entries (steps_of cuts windows limit flags v triangles most x.state) (advance_of cuts windows limit flags v triangles most x.state)
