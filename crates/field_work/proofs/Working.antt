-- The work on a job, from what insertion and the main loop say of the buffers. Assumes nothing.
use Rattle.std.specs.Prelude.{Result}
use Rattle.std.specs.Prelude.{if◌then◌else◌}
use Prim.Native.Nat.{ℕ, ◌/◌, ◌≤◌}
use native.Mathlib.Omega.{arith}
use mathlib.Core.Bool.{Bool, true, false}
use mathlib.Core.List.{List, ◌++◌}
use mathlib.Core.Path.{◌≡◌, refl, sym, ap, subst, ◌∙◌}
use lib.ListN.{length}
use lib.Ieee.{Float}
use Rattle.layout.specs.Layout.{words_per_edge}
use Rattle.buffers.specs.Slots.{slots_of}
use Rattle.windows.specs.Windows.{capacity_of}
use Rattle.job_checks.specs.Job.{Job, job, vertex_count}
use Rattle.topology.specs.Edges.{edges}
use Rattle.run_steps.proofs.laws_of_mesh_laws.Frames.{len_bounds}
use Rattle.run_steps.specs.of_mesh.declared.OtherCounts.{OtherCounts}
use Rattle.run_steps.specs.of_mesh.declared.Refusal.{Refusal}
use Rattle.run_steps.specs.of_mesh.Topology.{MeshBuffers}
use Rattle.run_steps.specs.of_mesh.Answer.{counts_in, mesh_refusal, Answered}
use Rattle.run_steps.specs.of_cut_lists.Buffers.{Cuts}
use Rattle.run_steps.specs.of_cut_lists.Cut.{Sizes}
use Rattle.run_steps.proofs.laws_of_trim_split.Untouched.{untouched_then}
use Rattle.run_steps.specs.of_trim.Buffers.{Slices}
use Rattle.run_steps.specs.of_trim.Adding.{snapshot_at}
use Rattle.run_steps.specs.of_trim_model.Model.{Candidate}
use Rattle.run_steps.specs.of_offers.Offers.{StandsFor}
use Rattle.run_steps.specs.of_offers.Walks.{edge_data}
use Rattle.run_steps.specs.of_face_entries.Buffers.{EntryBuffers, entry_capacity}
use Rattle.run_steps.specs.of_face_entries.Entries.{HoldsOnly}
use Rattle.run_steps.specs.of_source_inserts.Inserts.{candidates_in}
use Rattle.run_steps.specs.of_insertion.declared.InsertCounts.{InsertCounts}
use Rattle.run_steps.specs.of_insertion.Insertion.{Inserted, InsertResult, stopped, went}
use Rattle.run_steps.specs.of_insertion.Snapshots.{at, insert_snapshot}
use Rattle.run_steps.specs.of_begin.Begin.{WorkSlices}
use Rattle.run_steps.specs.of_windows_there.There.{GoesInto, WindowsThere, EventsThere}
use Rattle.run_steps.proofs.laws_of_windows_there.Kept.{there_none}
use Rattle.run_steps.proofs.laws_of_windows_there.Events.{events_none}
use Rattle.run_steps.proofs.laws_of_windows_there.Inserted.{job_into}
use Rattle.run_steps.specs.of_field_step.Contract.{FieldMesh, FieldStands}
use Rattle.run_steps.specs.of_advance.Advance.{advance_candidates}
use Rattle.run_steps.proofs.laws_of_advance.Begin.{inserted_there}
use Rattle.run_steps.specs.of_insert_job.declared.InsertRefusal.{InsertRefusal}
use Rattle.std.specs.declared.result.Result.{Result}
use Rattle.run_steps.specs.of_insert_job.declared.InsertRefusal.TheVariants.{Wedge, NoSlot}
use Rattle.std.specs.declared.result.Result.TheVariants.{Ok, Err}
use Rattle.run_steps.specs.of_insert_job.Field.{trim_slices, begun_job, no_counts, PiecesCounted, empty_field, inserts_of, inserted_field, FieldInserted}
use Rattle.run_steps.specs.of_insert_job.Job.{wedge_in, JobInserted, JobWithin, InsertsJob}
use Rattle.run_steps.proofs.laws_of_insert_job.Begun.{checked, begun_job_lem}
use Rattle.run_steps.proofs.laws_of_insert_job.Kept.{inserted_mesh}
use Rattle.run_steps.specs.declared.FieldWork.{FieldWork}
use Rattle.run_steps.specs.declared.FieldWork.TheVariants.{Refused, Done}
use Rattle.run_steps.specs.Run.{WorkResult, refused, loop_of}
use Rattle.run_steps.specs.Contract.{WorkWithin, RunEnds, RunsOn, RunsTo}
use Rattle.field_work.specs.Work.{and_loop, then_offered, work_of, work_candidates}
use Rattle.field_work.specs.Contract.{JobWorked, WorksTo}

-- slices as long as they were
pub sizes_kept : (a a' : ℕ) (out keep next out' keep' next' : List Float) → a' ≡ a → length out' ≡ length out → length keep' ≡ length keep → length next' ≡ length next → Sizes a out keep next → Sizes a' out' keep' next'
sizes_kept a a' out keep next out' keep' next' p o k n h = record { outs = omega (arith, p, o, h.outs); keeps = omega (arith, p, k, h.keeps); nexts = omega (arith, p, n, h.nexts) }

pub within_kept : (words words' : List ℕ) (reals reals' : List Float) → length words' ≡ length words → length reals' ≡ length reals → (i : Result InsertCounts InsertRefusal)
    → JobWithin (capacity_of (length words) (length reals)) i → JobWithin (capacity_of (length words') (length reals')) i
within_kept words words' reals reals' w r i h = subst (λ (z : ℕ). JobWithin z i) (λ t. capacity_of (sym w t) (sym r t)) h

-- ---- the definition, after each answer of insertion
module _ (j : Job) (flags : List ℕ) (s : WorkSlices) (c : Cuts) (most : ℕ) where
  abbrev loop : Inserted → WorkResult
  loop = loop_of (length c.pts) (capacity_of (length s.words) (length s.reals)) j.limit flags j.vertices j.triangles most

  work_wedge : wedge_in j ≡ true → work_of j flags s c most ≡ refused 11
  work_wedge h = ap (λ (w : Bool). if w then refused 11 else and_loop (inserted_field j flags s c) loop) h

  work_inserted : wedge_in j ≡ false → (r : InsertResult) → inserted_field j flags s c ≡ r → work_of j flags s c most ≡ and_loop r loop
  work_inserted h r e = (λ i. if h i then refused 11 else and_loop (e i) loop)

  work_stopped : (k : ℕ) → wedge_in j ≡ false → inserted_field j flags s c ≡ stopped k → work_of j flags s c most ≡ refused k
  unfolding and_loop
  work_stopped k h e = work_inserted h (stopped k) e

  work_went : (x : Inserted) → wedge_in j ≡ false → inserted_field j flags s c ≡ went x → work_of j flags s c most ≡ loop x
  unfolding and_loop
  work_went x h e = work_inserted h (went x) e

-- ---- a job that `mesh::build` did not refuse, with its mesh in m, and the slices as insertion left them
module _ (j : Job) (others : OtherCounts) (meshed : Result ℕ Refusal) (before m : MeshBuffers) (answered : Answered j others meshed before m) (passed : mesh_refusal j (counts_in before others) ≡ 0)
    (s : WorkSlices) (c : Cuts) (most : ℕ) (counted : PiecesCounted others s) (b₁ : Slices) (t₁ : EntryBuffers) (c₁ : Cuts)
    (se : length b₁.edges ≡ length m.edge_words_held) (sw : length b₁.words ≡ length s.words) (sr : length b₁.reals ≡ length s.reals) (sc : length c₁.pts ≡ length c.pts)
    (k : InsertCounts) (no-wedge : wedge_in j ≡ false) (G : FieldInserted j m s c (at (insert_snapshot k b₁ t₁))) where
  field_mesh : FieldMesh j.vertices j.triangles (vertex_count j) j.triangles b₁.edges m.edge_reals_held t₁.triangles m.triangle_reals m.vertex_words_held m.round
  field_mesh =
      let stood = begun_job_lem j others meshed before m answered passed s counted in
      let sound = checked j others meshed before m answered passed in
      record {
        mesh = record {
          mesh = inserted_mesh j m s c (insert_snapshot k b₁ t₁) G others meshed before answered passed;
          slots = subst (λ (z : ℕ). length (edges j.triangles) ≤ slots_of z words_per_edge) (sym se) stood.edge_slots;
        };
        same = refl;
        rounds = stood.job.round_vertex;
        long = len_bounds j.vertices j.triangles sound.triangles sound.vertices sound.regular;
      }

  -- the windows and the events that insertion leaves are the mesh's
  both_stand : WindowsThere (GoesInto j.triangles) G.inserted.state × EventsThere (vertex_count j) G.inserted.state
  both_stand =
      let stood = begun_job_lem j others meshed before m answered passed s counted in
      let sound = checked j others meshed before m answered passed in
      let windows = capacity_of (length s.words) (length s.reals) in
      let first = empty_field (begun_job j s) in
      inserted_there (length c.pts) windows (entry_capacity (length s.entries)) j.limit m.vertex_words_held j.vertices j.triangles (vertex_count j) sound.triangles (inserts_of j)
      (job_into j.vertices j.triangles (vertex_count j) sound.triangles j.kinds j.faces j.coords stood.job.face_there)
      first (there_none (GoesInto j.triangles) first.state refl (λ e. refl)) (events_none (vertex_count j) first.state refl) G.inserted G.is

  field_stands : FieldStands j.limit j.vertices j.triangles (vertex_count j) (candidates_in (inserts_of j)) G.inserted.state (snapshot_at k.trim b₁)
  field_stands = record { stands = G.stands.trim; there = both_stand.0; events = both_stand.1 }

  abbrev Ends : FieldWork → Slices → ℕ → ℕ → Type 0
  Ends r b₂ cuts windows =
      RunEnds j.limit j.vertices j.triangles (vertex_count j)
      (candidates_in (inserts_of j) ++ advance_candidates cuts windows j.limit m.vertex_words_held j.vertices j.triangles most G.inserted.state)
      G.inserted.entries k.entries (snapshot_at k.trim b₁) r b₂
      (loop_of cuts windows j.limit m.vertex_words_held j.vertices j.triangles most G.inserted)

  abbrev Ran : FieldWork → Slices → Type 0
  Ran r b₂ = RunsOn j.limit (vertex_count j) most j.vertices j.triangles m.vertex_words_held m.round m.edge_reals_held t₁.triangles m.triangle_reals b₁ c₁ (Ok k) r b₂

  -- in slots that are as many
  ends_here : (r : FieldWork) (b₂ : Slices) → Ran r b₂ → Ends r b₂ (length c.pts) (capacity_of (length s.words) (length s.reals))
  ends_here r b₂ R =
      subst (Ends r b₂ (length c.pts)) (λ i. capacity_of (sw i) (sr i))
      (subst (λ (z : ℕ). Ends r b₂ z (capacity_of (length b₁.words) (length b₁.reals))) sc
      (R j.triangles field_mesh (candidates_in (inserts_of j)) G.inserted.state field_stands G.inserted.entries))

  is_loop : work_of j m.vertex_words_held s c most ≡ loop j m.vertex_words_held s c most G.inserted
  is_loop = work_went j m.vertex_words_held s c most G.inserted no-wedge G.is

  -- the candidates by the definition
  offered_are : candidates_in (inserts_of j)
      ++ advance_candidates (length c.pts) (capacity_of (length s.words) (length s.reals)) j.limit m.vertex_words_held j.vertices j.triangles most G.inserted.state
      ≡ work_candidates j m.vertex_words_held s c most
  unfolding then_offered
  offered_are =
      ap
      (λ (r : InsertResult).
      candidates_in (inserts_of j)
      ++ then_offered r (λ (x : Inserted). advance_candidates (length c.pts) (capacity_of (length s.words) (length s.reals)) j.limit m.vertex_words_held j.vertices j.triangles most x.state))
      (sym G.is)

  ended : (r : FieldWork) (b₂ : Slices) → Ends r b₂ (length c.pts) (capacity_of (length s.words) (length s.reals)) → JobWorked j m s c most r b₂ t₁
  ended (Refused n) b₂ E = is_loop ∙ E
  ended (Done n steps) b₂ E = record {
    inserted = record { state = E.state; entries = G.inserted.entries };
    is = is_loop ∙ E.is;
    stands = record {
      trim = subst (λ (l : List Candidate). StandsFor j.limit (edge_data j.vertices j.triangles) l E.state (snapshot_at n.trim b₂)) offered_are E.stands.stands;
      entries = subst (λ (z : ℕ). HoldsOnly m.triangle_words_held z t₁.triangles t₁.words G.inserted.entries) (sym E.same_entries) G.stands.entries;
    };
    untouched = untouched_then (λ e. Unit {0}) (snapshot_at no_counts.trim (trim_slices m (begun_job j s))) (snapshot_at k.trim b₁) (snapshot_at n.trim b₂) G.untouched E.untouched;
  }

  went_on : (r : FieldWork) (b₂ : Slices) → Ran r b₂ → JobWorked j m s c most r b₂ t₁
  went_on r b₂ R = ended r b₂ (ends_here r b₂ R)

-- ---- the whole
module _ (v : List Float) (triangles kinds faces : List ℕ) (coords : List Float) (limit : Float) (m : MeshBuffers) (s : WorkSlices) (c : Cuts) (most : ℕ)
    (b₁ : Slices) (t₁ : EntryBuffers) (c₁ : Cuts)
    (se : length b₁.edges ≡ length m.edge_words_held) (sw : length b₁.words ≡ length s.words) (sr : length b₁.reals ≡ length s.reals) (sc : length c₁.pts ≡ length c.pts) where
  abbrev job_with : List ℕ → Job
  job_with flags = job v triangles flags kinds faces coords limit

  abbrev RunHere : Result InsertCounts InsertRefusal → FieldWork → Slices → Type 0
  RunHere i r b₂ = RunsOn limit (length v / 3) most v triangles m.vertex_words_held m.round m.edge_reals_held t₁.triangles m.triangle_reals b₁ c₁ i r b₂

  each_work : (i : Result InsertCounts InsertRefusal) (r : FieldWork) (b₂ : Slices) → RunHere i r b₂ → (flags : List ℕ) (others : OtherCounts) (meshed : Result ℕ Refusal) (before : MeshBuffers)
      → Answered (job_with flags) others meshed before m → mesh_refusal (job_with flags) (counts_in before others) ≡ 0 → PiecesCounted others s
      → JobInserted (job_with flags) m s c i b₁ t₁ → JobWorked (job_with flags) m s c most r b₂ t₁
  each_work (Err Wedge) r b₂ R flags others meshed before answered passed counted J =
      subst (λ (z : FieldWork). JobWorked (job_with flags) m s c most z b₂ t₁) (sym R) (work_wedge (job_with flags) m.vertex_words_held s c most J)
  each_work (Err (NoSlot lack)) r b₂ R flags others meshed before answered passed counted J =
      subst (λ (z : FieldWork). JobWorked (job_with flags) m s c most z b₂ t₁) (sym R) (work_stopped (job_with flags) m.vertex_words_held s c most _ J.0 J.1)
  each_work (Ok k) r b₂ R flags others meshed before answered passed counted J =
      went_on (job_with flags) others meshed before m answered passed s c most counted b₁ t₁ c₁ se sw sr sc k J.0 J.1 r b₂ R

  pub works_to : (pw : List ℕ) (pr : List Float) (i : Result InsertCounts InsertRefusal) (r : FieldWork) (b₂ : Slices) → InsertsJob v triangles kinds faces coords limit m s c i pw pr b₁ t₁
      → RunsTo limit (length v / 3) most v triangles m.vertex_words_held m.round m.edge_reals_held t₁.triangles m.triangle_reals b₁ c₁ i r b₂
      → WorksTo v triangles kinds faces coords limit m s c most r pw pr b₂ t₁
  works_to pw pr i r b₂ I R = record {
    bounded = subst (λ (z : ℕ). WorkWithin z r) (λ t. capacity_of (sw t) (sr t)) R.bounded;
    pieces = I.pieces;
    directions = I.directions;
    works = λ flags others meshed before answered passed counted.
        each_work i r b₂ R.runs flags others meshed before answered passed counted (I.inserts flags others meshed before answered passed counted);
  }
