-- What holds of every state of the work on a job, and so of its field: state_laws. Assumes nothing.
use Prim.Native.Nat.{ℕ, ◌+◌, ◌*◌, ◌≤◌, ◌<◌}
use native.Mathlib.Omega.{arith}
use mathlib.Core.Bool.{true}
use mathlib.Core.List.{List, [], ◌∷◌, ◌++◌}
use mathlib.Core.Path.{◌≡◌, refl, ap, subst, ◌∙◌}
use lib.ListN.{length, get_or, length-set}
use lib.Ieee.{Float}
use Rattle.layout.specs.Layout.{reals_per_vertex}
use Rattle.float64.specs.Scalar.{zero64}
use Rattle.last_pass.specs.of_better.Claim.{All}
use Rattle.std.specs.Prelude.{None, Some}
use Rattle.heap.specs.Queue.{Queue, popping, Popped}
use Rattle.windows.specs.Windows.{capacity_of}
use Rattle.job_checks.specs.Job.{Job, vertex_count}
use Rattle.job_checks.specs.Sound.{ValidTriangles}
use Rattle.topology.specs.Edges.{edges}
use Rattle.topology.specs.Frames.{len}
use Rattle.inside_edges.specs.of_mesh_laws.Bounds.{EdgeLength}
use Rattle.last_pass.specs.of_trim_model.Model.{Candidate}
use Rattle.last_pass.specs.of_trim_state.State as state
use Rattle.last_pass.specs.of_trim_state.State.{State, Result, add_of}
use Rattle.last_pass.specs.of_trim_state.Follows.{Follows}
use Rattle.last_pass.proofs.laws_of_trim_state.Follows.{follows_empty, follows_unqueue}
use Rattle.last_pass.proofs.laws_of_trim_state.Made.{follows_step}
use Rattle.inside_edges.specs.of_cut_lists.Buffers.{Cuts}
use Rattle.last_pass.specs.of_pop.State.{live_claimed, after_pop}
use Rattle.last_pass.proofs.laws_of_pop.Answers.{live_claimed_lem}
use Rattle.inside_edges.specs.of_offers.Walks.{edge_data}
use Rattle.inside_edges.specs.of_face_entries.Buffers.{entry_capacity}
use Rattle.field_work.specs.of_source_inserts.Inserts.{candidates_in}
use Rattle.field_work.specs.of_insertion.Insertion.{Inserted, entries_in}
use Rattle.field_work.specs.of_spread_offers.Spreading.{SpreadOf}
use Rattle.field_work.specs.of_spread_offers.declared.Spread.{Spread}
use Rattle.field_work.specs.of_spread_offers.declared.Spread.TheVariants.{Window, Vertex}
use Rattle.field_work.specs.of_windows_there.There.{GoesInto}
use Rattle.field_work.proofs.laws_of_windows_there.Sides.{into_ends}
use Rattle.field_work.proofs.laws_of_windows_there.Kept.{there_none, there_stock, there_add, there_pop}
use Rattle.field_work.proofs.laws_of_windows_there.Events.{events_none, events_add, events_pop}
use Rattle.field_work.specs.of_field_step.Step.{marked_vertex, marked, idle_of}
use Rattle.last_pass.proofs.Recorded.{recorded_none, recorded_stock, recorded_add, recorded_pop}
use Rattle.actions.specs.Actions.{stock}
use Rattle.field_work.specs.of_begin.Begin.{WorkSlices, unreached, vertex_reals}
use Rattle.field_work.specs.of_insert_job.Field.{begun_job, empty_field, inserts_of}
use Rattle.field_work.specs.of_run_steps.Run.{field}
use Rattle.field_work.specs.Work.{work_of, work_candidates}
use Rattle.work_laws.specs.Kept.{EndsIn, SoundCandidate, WorkKeeps}
use Rattle.work_laws.specs.Laws.{StateLaws}
use Rattle.work_laws.proofs.Work.{work_kept}
use Rattle.work_laws.proofs.Account.{accounted_none, accounted_stock, accounted_add, accounted_pop}
use Rattle.work_laws.proofs.Zeros.{rows_zero}
use Rattle.work_laws.proofs.Beyond.{Beyond, beyond_add, beyond_mark}
use Rattle.work_laws.proofs.Inside.{OnEdges, inside_add, inside_pop}
use Rattle.work_laws.proofs.Stock.{Within, stock_add, stock_pop}

-- each result by its state
ends_by : (Q : State → Type 0) (r : Result) → ((t : State) → r ≡ state.went t → Q t) → EndsIn Q r
ends_by Q (state.stopped k) h = tt
ends_by Q (state.went t) h = h t refl

ends_at : (Q : State → Type 0) (r : Result) → EndsIn Q r → (t : State) → r ≡ state.went t → Q t
ends_at Q r h t is = subst (EndsIn Q) is h

-- a pop changes neither the number of windows made nor the vertices, and of the live windows flags alone
popped_stock : (s : State) (p : Popped × Queue) → ((after_pop s p).stock.made ≡ s.stock.made) × ((after_pop s p).stock.vertex ≡ s.stock.vertex)
unfolding after_pop
popped_stock s (None, q) = (refl, refl)
popped_stock s (Some (x, k), q) = (refl, refl)

popped_follows : {limit : Float} {l : ℕ → Float} {past : List Candidate} (s : State) → Follows limit l past s.stock.made s.live → (p : Popped × Queue) → Follows limit l past (after_pop s p).stock.made (after_pop s p).live
unfolding after_pop
popped_follows s F (None, q) = F
popped_follows s F (Some (x, k), q) = follows_unqueue F (λ (e : ℕ). live_claimed x.item (s.live e)) (λ e. live_claimed_lem x.item (s.live e))

marked_length : (x : Spread) (vertex : List Float) → length (marked_vertex x vertex) ≡ length vertex
unfolding marked_vertex
marked_length (Window e g b0 b1 src) vertex = refl
marked_length (Vertex k d) vertex = length-set vertex (2 * k.0 + 1) d

module _ (limit : Float) (v : List Float) (triangles : List ℕ) (n : ℕ) (valid : ValidTriangles triangles n) (cuts windows : ℕ) (flags : List ℕ) (reals : ℕ) where
  abbrev Laws : List Candidate → State → Type 0
  Laws = StateLaws limit v triangles n windows reals

  add_laws : (past : List Candidate) (s : State) → Laws past s → (c : Candidate) → SoundCandidate limit v triangles c → EndsIn (Laws (past ++ (c ∷ []))) (add_of cuts windows limit flags (edge_data v triangles) c s)
  add_laws past s L c sound =
      let mesh = edge_data v triangles in
      let r = add_of cuts windows limit flags mesh c s in
      let within = stock_add cuts windows limit flags reals mesh c s (L.fits, (L.vertices, L.queue_fits)) in
      ends_by (Laws (past ++ (c ∷ []))) r
      (λ t is. record {
        follows = follows_step cuts windows limit flags mesh c s sound.0 L.follows t is;
        inside = ends_at (OnEdges (len v triangles)) r (inside_add cuts windows limit flags mesh c s L.follows sound.0 sound.1.0 L.inside) t is;
        there = there_add (GoesInto triangles) cuts windows limit flags mesh c sound.1.1 s L.there t is;
        events = events_add n cuts windows limit flags mesh c (into_ends v triangles n valid c sound.1.1) s L.events t is;
        recorded = recorded_add cuts windows limit flags mesh c s L.recorded t is;
        accounted = ends_at _ r (accounted_add cuts windows limit flags mesh c s L.recorded.count L.follows L.accounted) t is;
        fits = (ends_at (λ (z : State). Within cuts windows limit flags reals z.stock) r within t is).0;
        queue_fits = (ends_at (λ (z : State). Within cuts windows limit flags reals z.stock) r within t is).1.1;
        vertices = (ends_at (λ (z : State). Within cuts windows limit flags reals z.stock) r within t is).1.0;
        beyond = ends_at (λ (z : State). Beyond n z.stock.vertex) r (beyond_add n cuts windows limit flags mesh c (into_ends v triangles n valid c sound.1.1) s L.beyond) t is;
      })

  pop_laws : (past : List Candidate) (s : State) → Laws past s → Laws past (after_pop s (popping s.stock.queue s.stock.queued))
  pop_laws past s L =
      let p = popping s.stock.queue s.stock.queued in
      let same = popped_stock s p in
      record {
        follows = popped_follows s L.follows p;
        inside = inside_pop (len v triangles) s L.inside p;
        there = there_pop (GoesInto triangles) s L.there p;
        events = events_pop n s L.events p refl;
        recorded = recorded_pop s L.recorded p;
        accounted = accounted_pop s L.accounted;
        fits = omega (arith, same.0, L.fits);
        queue_fits = stock_pop s L.queue_fits;
        vertices = ap length same.1 ∙ L.vertices;
        beyond = λ q h. ap (λ (l : List Float). get_or l q zero64) same.1 ∙ L.beyond q h;
      }

  mark_laws : (past : List Candidate) (s : State) → Laws past s → (x : Spread) → SpreadOf triangles n x → Laws past (marked x s)
  mark_laws past s L x of =
      let k = stock s.stock.made s.stock.queued s.stock.queue (marked_vertex x s.stock.vertex) in
      record {
        follows = L.follows;
        inside = L.inside;
        there = there_stock (GoesInto triangles) s L.there k;
        events = L.events;
        recorded = recorded_stock s L.recorded k refl;
        accounted = accounted_stock s L.accounted s.stock.made (marked_vertex x s.stock.vertex);
        fits = L.fits;
        queue_fits = L.queue_fits;
        vertices = marked_length x s.stock.vertex ∙ L.vertices;
        beyond = beyond_mark n triangles x of s.stock.vertex L.beyond;
      }

  pub laws_kept : WorkKeeps limit v triangles cuts windows flags n Laws
  laws_kept = record {
    there = λ past s L. L.there;
    events = λ past s L. L.events;
    add = add_laws;
    pop = pop_laws;
    mark = mark_laws;
  }

-- as the vertices are at first
first_beyond : (n size p : ℕ) → reals_per_vertex * n ≤ p → get_or (vertex_reals n size) p zero64 ≡ zero64
unfolding vertex_reals
first_beyond n size p h = rows_zero reals_per_vertex (λ (k : ℕ). unreached) (λ k. refl) n size p h

-- ---- the whole work on a job
module _ (j : Job) (valid : ValidTriangles j.triangles (vertex_count j)) (long : (e : ℕ) → e < length (edges j.triangles) → EdgeLength (len j.vertices j.triangles e)) (flags : List ℕ) (s : WorkSlices) (c : Cuts) (most : ℕ) where
  abbrev windows : ℕ
  windows = capacity_of (length s.words) (length s.reals)

  abbrev reals : ℕ
  reals = length (begun_job j s).vertex

  first_laws : StateLaws j.limit j.vertices j.triangles (vertex_count j) windows reals [] (empty_field (begun_job j s)).state
  first_laws =
      let s₀ = (empty_field (begun_job j s)).state in
      record {
        follows = follows_empty;
        inside = λ e. tt;
        there = there_none (GoesInto j.triangles) s₀ refl (λ e. refl);
        events = events_none (vertex_count j) s₀ refl;
        recorded = recorded_none s₀ refl (λ e. refl) refl;
        accounted = accounted_none s₀ refl (λ e. refl);
        fits = omega arith;
        queue_fits = omega arith;
        vertices = refl;
        beyond = λ p h. first_beyond (vertex_count j) (length s.vertex) p h;
      }

  -- a field: the laws, no event is queued, and the entries are those of the pieces, in slots that there are
  pub state_laws : All (SoundCandidate j.limit j.vertices j.triangles) (candidates_in (inserts_of j)) → (x : Inserted) (steps : ℕ) → work_of j flags s c most ≡ field x steps
      → StateLaws j.limit j.vertices j.triangles (vertex_count j) windows reals (work_candidates j flags s c most) x.state
      × ((idle_of x.state ≡ true) × ((x.entries ≡ entries_in (inserts_of j)) × (length x.entries ≤ entry_capacity (length s.entries))))
  state_laws a x steps is =
      work_kept j (vertex_count j) valid long flags s c most (StateLaws j.limit j.vertices j.triangles (vertex_count j) windows reals) (laws_kept j.limit j.vertices j.triangles (vertex_count j) valid (length c.pts) windows flags reals) first_laws a x steps is
