-- The answer of `compute` and what it leaves, from what the functions that it calls answer and leave: the mesh refused, the work refused, a field. Assumes nothing.
use Rattle.std.specs.Prelude.{Result}
use Prim.Native.Nat.{ℕ, zero, suc, ◌≤◌, ◌<◌}
use native.Mathlib.Omega.{arith}
use mathlib.Core.Bool.{Bool, true, false, cond}
use mathlib.Core.Logic.{⊎_elim, ◌⊎◌, inl, inr}
use mathlib.Core.List.{List, [], ◌∷◌}
use mathlib.Core.Path.{◌≡◌, refl, sym, ap, subst, ◌∙◌}
use lib.Dec.{leb}
use borrow.Author.Tests.{lt-ltb, le-ltb, le-leb, lt-leb, leb-true, leb-false}
use lib.ListN.{length}
use lib.Ieee.{Float}
use Rattle.layout.specs.Layout.{coordinates_per_vertex, vertices_per_triangle, words_per_edge}
use Rattle.buffers.specs.Slots.{slots_of}
use Rattle.job_checks.specs.Any.{first_of}
use Rattle.job_checks.specs.Job.{Job, job, vertex_count, triangle_count, piece_count}
use Rattle.job_checks.specs.Refusals.{refusals, refusal_of}
use Rattle.job_checks.proofs.Any.{first_past}
use Rattle.job_checks.proofs.Sound.{refusals_numbered}
use Rattle.topology.specs.Edges.{edges, shared_by_three}
use Rattle.field_model.specs.of_mesh.declared.OtherCounts.{OtherCounts}
use Rattle.field_model.specs.of_mesh.declared.Refusal.{Refusal}
use Rattle.field_model.specs.of_mesh.Topology.{MeshBuffers, topology_of}
use Rattle.field_model.specs.of_mesh.Answer.{meshed_number, counts_in, mesh_refusals, mesh_refusal, afterwards, Answered}
use Rattle.field_model.specs.of_cut_lists.Buffers.{Cuts}
use Rattle.make_field.specs.of_begin.Begin.{WorkSlices, work_slices}
use Rattle.field_model.specs.of_zero_buffers.ZeroIf.{zero_words, words_if, reals_if, mesh_if, cuts_if}
use Rattle.make_field.proofs.laws_of_insert_job.Begun.{checked, begun_fits, begun_job_lem}
use Rattle.make_field.specs.of_insertion.Insertion.{Inserted}
use Rattle.make_field.specs.of_run_steps.declared.FieldWork.{FieldWork}
use Rattle.make_field.specs.of_run_steps.declared.FieldWork.TheVariants.{Refused, Done}
use Rattle.make_field.specs.of_run_steps.Run.{WorkResult, refused, field}
use Rattle.field_model.specs.of_finish.Contents.{FieldBuffers}
use Rattle.field_model.specs.of_finish.Refused.{zero_field, FieldLengths}
use Rattle.field_model.proofs.laws_of_finish.Refused.{zero_lengths}
use Rattle.computed.specs.declared.Computed.{Computed}
use Rattle.computed.specs.declared.Computed.TheVariants as computed
use Rattle.field_model.specs.of_compute_spec.Compute.{other_counts, field_buffers, work_slices_in, compute_by_heap, LeavesByHeap, answer_by_heap, ComputesByHeap}
use Rattle.field_model.proofs.laws_of_compute_spec.Refusals.{compute_refused}
use Rattle.field_model.specs.Queue.{queue_in_order}
use Rattle.field_model.specs.Lent.{ComputesOver}
use Rattle.field_model.proofs.Lawful.{in_order}
use Rattle.field_model.proofs.Leaving.{computes_over}
use Rattle.make_field.specs.Contract.{WorkFits, MadeOrRefused, MakesField}
use Rattle.compute.specs.Answers.{edges_answered, zeroes, clears, told}

-- ---- the buffers b₁ that the work left, zeroed as its answer says
abbrev pub zeroed_by : FieldWork → FieldBuffers → FieldBuffers
zeroed_by r b₁ =
    field_buffers (mesh_if (zeroes r) b₁.mesh)
    (work_slices (words_if (zeroes r) b₁.piece_words) (reals_if (zeroes r) b₁.piece_reals) (reals_if (zeroes r) b₁.vertex) (words_if (zeroes r) b₁.words) (reals_if (zeroes r) b₁.reals)
    (reals_if (zeroes r) b₁.keys) (words_if (zeroes r) b₁.events) (words_if (zeroes r) b₁.entry_words_held))
    (cuts_if (zeroes r) b₁.cuts) (words_if (clears r) b₁.scratch) (words_if (clears r) b₁.other_scratch)

-- group by group, where the code's tests are those of the answer
pub zeroed_is : (r : FieldWork) (b₁ : FieldBuffers) (stop clear : Bool) → stop ≡ zeroes r → clear ≡ clears r
    → {m' : MeshBuffers} → m' ≡ mesh_if stop b₁.mesh
    → {pw' : List ℕ} {pr' vertex' : List Float} → pw' ≡ words_if stop b₁.piece_words → pr' ≡ reals_if stop b₁.piece_reals → vertex' ≡ reals_if stop b₁.vertex
    → {words' : List ℕ} {reals' keys' : List Float} {events' : List ℕ} → words' ≡ words_if stop b₁.words → reals' ≡ reals_if stop b₁.reals → keys' ≡ reals_if stop b₁.keys → events' ≡ words_if stop b₁.events
    → {entries' : List ℕ} → entries' ≡ words_if stop b₁.entry_words_held → {c' : Cuts} → c' ≡ cuts_if stop b₁.cuts
    → {x y : List ℕ} → x ≡ words_if clear b₁.scratch → y ≡ words_if clear b₁.other_scratch
    → field_buffers m' (work_slices pw' pr' vertex' words' reals' keys' events' entries') c' x y ≡ zeroed_by r b₁
zeroed_is r b₁ stop clear is cleared m pw pr vertex words reals keys events entries c x y =
    (λ i. field_buffers (m i) (work_slices (pw i) (pr i) (vertex i) (words i) (reals i) (keys i) (events i) (entries i)) (c i) (x i) (y i))
    ∙ (λ i. field_buffers (mesh_if (is i) b₁.mesh)
    (work_slices (words_if (is i) b₁.piece_words) (reals_if (is i) b₁.piece_reals) (reals_if (is i) b₁.vertex) (words_if (is i) b₁.words) (reals_if (is i) b₁.reals)
    (reals_if (is i) b₁.keys) (words_if (is i) b₁.events) (words_if (is i) b₁.entry_words_held))
    (cuts_if (is i) b₁.cuts) (words_if (cleared i) b₁.scratch) (words_if (cleared i) b₁.other_scratch))

zeroed : (k : ℕ) (b₁ : FieldBuffers) → 9 < k → zeroed_by (Refused k) b₁ ≡ zero_field b₁
zeroed k b₁ l = rw (lt-ltb 9 k l) refl

stayed : (k : ℕ) (b₁ : FieldBuffers) → k ≤ 9 → zeroed_by (Refused k) b₁ ≡ b₁
stayed k b₁ l = rw (le-ltb 9 k l) refl

-- ---- what a refusal leaves
leaves_zeros : (j : Job) (b b₁ b' : FieldBuffers) (k : ℕ) → 9 < k → FieldLengths b b₁ → b' ≡ zeroed_by (Refused k) b₁ → LeavesByHeap j b (refused k) b'
leaves_zeros j b b₁ b' k l lengths left = left ∙ zeroed k b₁ l ∙ zero_lengths b b₁ lengths ∙ sym (ap (λ t. cond t b (zero_field b)) (lt-leb k 9 l))

leaves_same : (j : Job) (b b₁ b' : FieldBuffers) (k : ℕ) → k ≤ 9 → b₁ ≡ b → b' ≡ zeroed_by (Refused k) b₁ → LeavesByHeap j b (refused k) b'
leaves_same j b b₁ b' k l same left = left ∙ stayed k b₁ l ∙ same ∙ sym (ap (λ t. cond t b (zero_field b)) (le-leb k 9 l))

-- ---- the answers
answer_refused : (j : Job) (w : WorkResult) (k : ℕ) → w ≡ refused k → computed.Refused k ≡ answer_by_heap j w
unfolding answer_by_heap
answer_refused j w k h = sym (ap (answer_by_heap j) h)

answer_field : (j : Job) (nv nt np count made steps : ℕ) (w : WorkResult) (x : Inserted) → w ≡ field x steps → nv ≡ vertex_count j → nt ≡ triangle_count j → np ≡ piece_count j → count ≡ length (edges j.triangles) → made ≡ length x.state.wins
    → computed.Field (record { vertices = nv; triangles = nt; pieces = np; edges = count; windows = made; steps = steps }) ≡ answer_by_heap j w
unfolding answer_by_heap
answer_field j nv nt np count made steps w x h a b c d e =
    (λ i. computed.Field (record { vertices = a i; triangles = b i; pieces = c i; edges = d i; windows = e i; steps = steps })) ∙ sym (ap (answer_by_heap j) h)

-- ---- a mesh that was refused by 1 to 9 is as it was
third_only : (shared : Bool) → (first_of ((10, shared) ∷ []) ≡ 0) ⊎ (first_of ((10, shared) ∷ []) ≡ 10)
unfolding first_of
third_only true = inr refl
third_only false = inl refl

mesh_stays : (k : ℕ) (m t : MeshBuffers) → 0 < k → afterwards k m t ≡ m
unfolding afterwards
mesh_stays zero m t l = absurd (omega (arith, l))
mesh_stays (suc k) m t l = refl

-- ---- the mesh answered with a number, over slices whose slots were counted
module _ (v : List Float) (triangles flags kinds faces : List ℕ) (coords : List Float) (limit : Float) (b : FieldBuffers) (most : ℕ) (o : OtherCounts) (counts : o ≡ other_counts b)
    (a : Result ℕ Refusal) (m : MeshBuffers) (built : Answered (job v triangles flags kinds faces coords limit) o a b.mesh m) (number count : ℕ) (number_is : number ≡ meshed_number a) (count_is : count ≡ edges_answered a) where
  abbrev j : Job
  j = job v triangles flags kinds faces coords limit

  answered : Answered j (other_counts b) a b.mesh m
  answered = subst (λ (z : OtherCounts). Answered j z a b.mesh m) counts built

  refusal : number ≡ mesh_refusal j (counts_in b.mesh (other_counts b))
  refusal = number_is ∙ answered.number

  module _ (none : number ≡ 0) where
    passed : mesh_refusal j (counts_in b.mesh (other_counts b)) ≡ 0
    passed = sym refusal ∙ none

    counted : count ≡ length (edges triangles)
    counted = count_is ∙ ap edges_answered (answered.edge_count_held passed)

  -- what `make_field` asks
  pub work_fits : WorkFits number count v kinds b.piece_words m.edge_words_held
  work_fits none =
      let fits = begun_fits j (other_counts b) a b.mesh m answered (passed none) (work_slices_in b) (omega arith) in
      let slots = (begun_job_lem j (other_counts b) a b.mesh m answered (passed none) (work_slices_in b) (omega arith)).edge_slots in
      (fits.0, (fits.1.0, (fits.1.1, subst (λ (n : ℕ). n ≤ slots_of (length m.edge_words_held) words_per_edge) (sym (counted none)) slots)))

  -- refused by 1 to 9
  unchanged : 0 < number → number ≤ 9 → m ≡ b.mesh
  unfolding mesh_refusals
  unchanged some few = answered.buffers ∙ go (refusal_of j (counts_in b.mesh (other_counts b))) refl where
    go : (k : ℕ) → refusal_of j (counts_in b.mesh (other_counts b)) ≡ k → afterwards k b.mesh (topology_of v triangles flags b.mesh) ≡ b.mesh
    go (suc k) h = mesh_stays (suc k) b.mesh (topology_of v triangles flags b.mesh) (omega arith)
    go zero h =
        let past = first_past ((10, shared_by_three triangles) ∷ []) (refusals j (counts_in b.mesh (other_counts b))) (refusals_numbered j (counts_in b.mesh (other_counts b))) h in
        ⊎_elim (λ e. absurd (omega (arith, refusal, past, e, some))) (λ e. absurd (omega (arith, refusal, past, e, few))) (third_only (shared_by_three triangles))

  -- ---- and then the work, which left these
  module _ (r : FieldWork) (m₁ : MeshBuffers) (s₁ : WorkSlices) (c₁ : Cuts) (makes : MakesField number count v triangles kinds faces coords limit m (work_slices_in b) b.cuts most r m₁ s₁ c₁) where
    abbrev b₁ : FieldBuffers
    b₁ = field_buffers m₁ s₁ c₁ b.scratch b.other_scratch

    module _ (lengths : FieldLengths b b₁) (b' : FieldBuffers) where
      abbrev Answers : FieldWork → Type 0
      Answers w = ComputesByHeap j b most (told (length v) (length triangles) (length kinds) count w) b'

      -- a refusal by the definition's number, with what it leaves
      says_refused : (k : ℕ) → compute_by_heap j b most ≡ refused k → LeavesByHeap j b (refused k) b' → Answers (Refused k)
      says_refused k is leaves = record {
        answer = answer_refused j (compute_by_heap j b most) k is;
        leaves = subst (λ (w : WorkResult). LeavesByHeap j b w b') (sym is) leaves;
      }

      -- of the mesh
      says_mesh : 0 < number → b' ≡ zeroed_by r b₁ → Answers r
      says_mesh some left =
          let p = makes.passes_on some in
          let zeroed = left ∙ ap (λ (w : FieldWork). zeroed_by w b₁) p.0 in
          subst Answers (sym p.0) (says_refused number (refused_by number some refl) (go (leb number 9) refl zeroed p.1)) where
            refused_by : (k : ℕ) → 0 < k → number ≡ k → compute_by_heap j b most ≡ refused k
            refused_by zero l h = absurd (omega (arith, l))
            refused_by (suc k) l h = compute_refused j b most k (sym refusal ∙ h)

            go : (few : Bool) → leb number 9 ≡ few → b' ≡ zeroed_by (Refused number) b₁ → (m₁ ≡ m) × ((s₁ ≡ work_slices_in b) × (c₁ ≡ b.cuts)) → LeavesByHeap j b (refused number) b'
            go true h z q =
                let few = leb-true number 9 h in
                leaves_same j b b₁ b' number few (λ i. field_buffers ((q.0 ∙ unchanged some few) i) (q.1.0 i) (q.1.1 i) b.scratch b.other_scratch) z
            go false h z q = leaves_zeros j b b₁ b' number (leb-false number 9 h) lengths z

      -- of the work, or the field
      says_made : number ≡ 0 → (w : FieldWork) → MadeOrRefused j b most w (field_buffers m₁ s₁ c₁ (zero_words b.scratch) (zero_words b.other_scratch)) → b' ≡ zeroed_by w b₁ → Answers w
      says_made none (Refused k) made left = says_refused k made.0 (leaves_zeros j b b₁ b' k made.1 lengths left)
      says_made none (Done n steps) made left =
          let sound = checked j (other_counts b) a b.mesh m answered (passed none) in
          record {
            answer = answer_field j (slots_of (length v) coordinates_per_vertex) (slots_of (length triangles) vertices_per_triangle) (slots_of (length kinds) 1) count n.trim.made steps (compute_by_heap j b most) made.inserted made.is
                (omega (arith, sound.whole.few_vertices)) (omega (arith, sound.whole.few_triangles)) (omega (arith, sound.whole.few_pieces)) (counted none) made.made;
            leaves = subst (λ (w : WorkResult). LeavesByHeap j b w b') (sym made.is) (subst (LeavesByHeap j b (field made.inserted steps)) (sym left) made.leaves);
          }

      says : b' ≡ zeroed_by r b₁ → Answers r
      says left = go number refl where
        go : (k : ℕ) → number ≡ k → Answers r
        go zero h = says_made h r (makes.makes h flags a b.mesh b.scratch b.other_scratch answered (passed h) (counted h)) left
        go (suc k) h = says_mesh (omega (arith, h)) left

      pub computes : b' ≡ zeroed_by r b₁ → (z : Computed) → z ≡ told (length v) (length triangles) (length kinds) count r → ComputesOver queue_in_order j b most z b'
      computes left z is = computes_over queue_in_order in_order j b most z b' (subst (λ (y : Computed). ComputesByHeap j b most y b') (sym is) (says left))
