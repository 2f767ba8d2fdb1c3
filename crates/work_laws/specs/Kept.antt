-- A law of states that all of the work keeps: an addition, a pop, and the mark of a vertex that has emitted. Definitions only: `work_kept` in proofs/Work.antt says that such a law holds of
-- the field that the work on a job comes to.
use Rattle.std.specs.Prelude.{ℕ, List, [], ◌∷◌, ◌++◌, Float}
use Rattle.heap.specs.Queue.{popping}
use Rattle.topology.specs.Frames.{len}
use Rattle.last_pass.specs.of_trim_model.Model.{Candidate}
use Rattle.last_pass.specs.of_trim_model.Claim.{AdmittedProper}
use Rattle.last_pass.specs.of_trim_state.State.{State, Result, stopped, went, add_of}
use Rattle.last_pass.specs.of_pop.State.{after_pop}
use Rattle.inside_edges.specs.of_offers.Walks.{edge_data}
use Rattle.field_work.specs.of_spread_offers.declared.Spread.{Spread}
use Rattle.field_work.specs.of_spread_offers.Spreading.{SpreadOf}
use Rattle.field_work.specs.of_windows_there.There.{GoesInto, CandidateThere, WindowsThere, EventsThere}
use Rattle.inside_edges.specs.Inside.{AdmittedInside}
use Rattle.field_work.specs.of_field_step.Step.{marked}

-- what holds of the state, if there is one
abbrev pub EndsIn : (State → Type 0) → Result → Type 0
EndsIn Q (stopped k) = Unit {0}
EndsIn Q (went s) = Q s

module _ (limit : Float) (v : List Float) (triangles : List ℕ) where
  -- a candidate that is proper and lies on its edge if it is admitted, and whose edge is one of the mesh
  abbrev pub SoundCandidate : Candidate → Type 0
  SoundCandidate c = AdmittedProper limit (len v triangles) c × (AdmittedInside limit (len v triangles) c × CandidateThere (GoesInto triangles) c)

  -- P is of the candidates so far and of the state; n is the number of vertices, `cuts` and `windows` are the counts of the cut buffer and the window buffer, `flags` the vertices' words
  pub record WorkKeeps (cuts windows : ℕ) (flags : List ℕ) (n : ℕ) (P : List Candidate → State → Type 0) : Type 0 where
    pub there : (past : List Candidate) (s : State) → P past s → WindowsThere (GoesInto triangles) s
    pub events : (past : List Candidate) (s : State) → P past s → EventsThere n s
    pub add : (past : List Candidate) (s : State) → P past s → (c : Candidate) → SoundCandidate c → EndsIn (P (past ++ (c ∷ []))) (add_of cuts windows limit flags (edge_data v triangles) c s)
    pub pop : (past : List Candidate) (s : State) → P past s → P past (after_pop s (popping s.stock.queue s.stock.queued))
    pub mark : (past : List Candidate) (s : State) → P past s → (x : Spread) → SpreadOf triangles n x → P past (marked x s)
