-- Candidates added one after the other, as insertion, propagation and a vertex that passes distances on offer them: what they come to on values, and what it is
-- that buffers come to hold the outcome. Definitions only.
use Rattle.std.specs.Prelude.{ℕ, ◌≤◌, ◌<◌, not, ◌⊎◌, T, ◌≡◌, length, Float, Option, Some, None, Result}
use mathlib.Core.List.{List, [], ◌∷◌, ◌++◌}
use Rattle.layout.specs.Layout.{words_per_edge}
use Rattle.buffers.specs.declared.Lack.{Lack}
use Rattle.buffers.specs.Slots.{slots_of}
use Rattle.trim.specs.of_better.Claim.{All}
use Rattle.mesh_readers.specs.of_frames.Stored.{length_at}
use Rattle.trim.specs.of_trim_model.Model.{Candidate, admits}
use Rattle.trim.specs.of_trim_model.Claim.{AdmittedProper}
use Rattle.trim.specs.of_trim_state.State as state
use Rattle.trim.specs.of_trim_state.State.{State, stopped, went, EdgeData, edge_in, add_of}
use Rattle.trim.specs.of_trim_state.Follows.{Follows}
use Rattle.trim.specs.of_live_windows.Live.{HoldsWindows}
use Rattle.trim.specs.of_trim_split.Running as running
use Rattle.trim.specs.of_trim_split.Running.{Snapshot, stock_of, End, Untouched}
use Rattle.trim.specs.of_trim_split.declared.Counts.{Counts}
use Rattle.windows.specs.Windows.{capacity_of}
use Rattle.mesh_readers.specs.Readers.{trim_edge_at}
use Rattle.trim.specs.of_cut_lists.Buffers.{Cuts}
use Rattle.trim.specs.Buffers.{Slices}
use Rattle.trim.specs.Adding.{candidate_of, AddedWithin, snapshot_at, added_end_in, Unchanged}
use Rattle.offers.specs.declared.Offered.{Offered}

unfoldable pub and_next : state.Result → (State → state.Result) → state.Result
and_next (stopped n) next = stopped n
and_next (went s) next = next s

-- the limit and the edges
module _ (limit : Float) (mesh : EdgeData) where
  -- the buffers at p hold state s, which follows the reference model with the candidates so far
  pub record StandsFor (past : List Candidate) (s : State) (p : Snapshot) : Type 0 where
    pub holds : HoldsWindows p.made s.wins p.links p.reals s.live
    pub stock : s.stock ≡ stock_of p
    pub follows : Follows limit mesh.len past s.stock.made s.live

  -- from p₀ to p the buffers have come to hold a result
  pub record ComesTo (past : List Candidate) (p₀ p : Snapshot) (r : state.Result) : Type 0 where
    pub state : State
    pub is : r ≡ went state
    pub stands : StandsFor past state p
    pub untouched : Untouched (λ e. Unit {0}) p₀ p

  abbrev pub OfferEnds : List Candidate → Snapshot → End → state.Result → Type 0
  OfferEnds past p₀ (running.stopped n) r = r ≡ stopped n
  OfferEnds past p₀ (running.at p) r = ComesTo past p₀ p r

-- the counts of the cut buffer and the window buffer, the limit, the flags of the vertices, and the edges
module _ (cuts windows : ℕ) (limit : Float) (flags : List ℕ) (mesh : EdgeData) where
  -- the first that there is no slot for stops them
  unfoldable pub add_all : List Candidate → State → state.Result
  unfolding and_next
  add_all [] s = went s
  add_all (c ∷ cs) s = and_next (add_of cuts windows limit flags mesh c s) (add_all cs)

  -- from p on the candidates are added, whatever state the buffers hold that follows the model; one must be proper only if it is admitted
  abbrev pub Offers : List Candidate → Snapshot → End → Type 0
  Offers cs p end =
      (past : List Candidate) (s : State) → StandsFor limit mesh past s p → All (AdmittedProper limit mesh.len) cs → OfferEnds limit mesh (past ++ cs) p end (add_all cs s)

-- ---- the contract of `offer`
-- the candidates that there are
abbrev pub offer_list : Option Offered → List Candidate
offer_list None = []
offer_list (Some o) = record { edge = o.edge.0; b0 = o.window.b0; b1 = o.window.b1; src = o.window.src; carried = o.window.carried } ∷ []

-- its edge, if there is one, has a slot and is that of the mesh
abbrev pub EdgeThere : EdgeData → List ℕ → List Float → Option Offered → Type 0
EdgeThere mesh edge_words edge_reals None = Unit {0}
EdgeThere mesh edge_words edge_reals (Some o) = (o.edge.0 < slots_of (length edge_words) words_per_edge) × (edge_in mesh o.edge.0 ≡ trim_edge_at edge_words edge_reals o.edge.0)

-- nothing is offered, or to an edge without a slot, or what is not admitted
abbrev pub PassedOver : Float → List ℕ → List Float → Option Offered → Type 0
PassedOver limit edge_words edge_reals None = Unit {0}
PassedOver limit edge_words edge_reals (Some o) =
    (slots_of (length edge_words) words_per_edge ≤ o.edge.0) ⊎ T (not (admits limit (λ k. length_at edge_reals o.edge.0) (candidate_of (trim_edge_at edge_words edge_reals o.edge.0) o.window)))

-- buffers b and c at the call, b' and c' at the return
pub record OffersTo (limit : Float) (vertex_words : List ℕ) (edge_reals : List Float) (o : Option Offered) (counts : Counts) (b : Slices) (c : Cuts) (r : Result Counts Lack) (b' : Slices) (c' : Cuts) : Type 0 where
  -- no more windows are made than the buffer has slots for
  pub bounded : AddedWithin (capacity_of (length b.words) (length b.reals)) r
  pub offers : (mesh : EdgeData) → EdgeThere mesh b.edges edge_reals o
      → Offers (length c.pts) (capacity_of (length b.words) (length b.reals)) limit vertex_words mesh (offer_list o) (snapshot_at counts b) (added_end_in r b')
  -- what is passed over changes nothing
  pub skips : PassedOver limit b.edges edge_reals o → Unchanged counts b c r b' c'
