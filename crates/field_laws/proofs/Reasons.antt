-- A job is refused for 01's reasons alone: refused_for. Assumes nothing.
use Rattle.std.specs.Prelude.{if◌then◌else◌}
use Prim.Native.Nat.{ℕ, zero, suc}
use mathlib.Core.Bool.{Bool, true, false}
use mathlib.Core.List.{List, [], ◌∷◌}
use mathlib.Core.Path.{◌≡◌, refl, sym, ap, subst, ◌∙◌}
use Rattle.heap.specs.declared.Event.{Event}
use Rattle.heap.specs.Model.{taking}
use Rattle.job_checks.specs.Job.{Job}
use Rattle.work_laws.specs.of_mesh.Answer.{counts_in, mesh_refusal}
use Rattle.work_laws.specs.of_insert_job.Job.{wedge_in}
use Rattle.field_model.specs.of_finish.Contents.{FieldBuffers}
use Rattle.field_model.specs.of_compute_spec.Compute.{other_counts}
use Rattle.field_model.specs.Queue.{queue_in_order, first_taken}
use Rattle.field_model.specs.Field.{FieldState, Reply, refused, gives, and_go, Slots, event_in, loop_in}
use Rattle.field_model.specs.Job.{finished, pseudo_of, after_sources, field_of, unless_mesh}
use Rattle.field_model.specs.Lent.{slots_in, compute_over}
use Rattle.field_laws.specs.Demands.{LoopRefused, spent, turning, later, RefusedFor, handing_in, wedge, inserting, looping}

number_in : {A : Type 0} → Reply A → ℕ
number_in (refused k) = k
number_in (gives x) = 0

IsRefused : {A : Type 0} → Reply A → Type 0
IsRefused (refused k) = Unit {0}
IsRefused (gives x) = ⊥

same_number : {A : Type 0} (i k : ℕ) → ◌≡◌ {A = Reply A} (refused i) (refused k) → i ≡ k
unfolding number_in
same_number i k h = ap number_in h

not_refused : {A : Type 0} (x : A) (k : ℕ) → gives x ≡ refused k → ⊥
unfolding IsRefused
not_refused x k h = subst IsRefused (sym h) tt

-- ---- the main loop
module _ (j : Job) (slots : Slots) (k : ℕ) where
  abbrev loop : ℕ → ℕ → FieldState (List Event) → Reply (FieldState (List Event) × ℕ)
  loop = loop_in queue_in_order slots j.limit (pseudo_of j) j.vertices j.triangles

  abbrev turn : Event → List Event → FieldState (List Event) → Reply (FieldState (List Event))
  turn = event_in queue_in_order slots j.limit (pseudo_of j) j.vertices j.triangles

  over_for : (n : ℕ) (f : FieldState (List Event)) (l : List Event) → f.queue ≡ l → taking {B = Reply (FieldState (List Event) × ℕ)} (gives (f, n)) (λ (x : Event) (q : List Event). refused 15) (first_taken l) ≡ refused k → LoopRefused j slots zero f k
  unfolding taking
  over_for n f [] e h = absurd (not_refused (f, n) k h)
  over_for n f (x ∷ l) e h = subst (LoopRefused j slots zero f) (same_number 15 k h) (spent f x l e)

  module _ (left n : ℕ) (next : (g : FieldState (List Event)) → loop left (suc n) g ≡ refused k → LoopRefused j slots left g k) (f : FieldState (List Event)) where
    turn_for : (x : Event) (l : List Event) → f.queue ≡ x ∷ l → (r : Reply (FieldState (List Event))) → turn x l f ≡ r → and_go r (loop left (suc n)) ≡ refused k → LoopRefused j slots (suc left) f k
    unfolding and_go
    turn_for x l e (refused i) t h = turning left f x l k e (t ∙ ap refused (same_number i k h))
    turn_for x l e (gives g) t h = later left f g x l k e t (next g h)

    more_for : (l : List Event) → f.queue ≡ l → taking {B = Reply (FieldState (List Event) × ℕ)} (gives (f, n)) (λ (x : Event) (q : List Event). and_go (turn x q f) (loop left (suc n))) (first_taken l) ≡ refused k → LoopRefused j slots (suc left) f k
    unfolding taking
    more_for [] e h = absurd (not_refused (f, n) k h)
    more_for (x ∷ l) e h = turn_for x l e (turn x l f) refl h

  pub loop_for : (left n : ℕ) (f : FieldState (List Event)) → loop left n f ≡ refused k → LoopRefused j slots left f k
  unfolding loop_in
  loop_for zero n f h = over_for n f f.queue refl h
  loop_for (suc left) n f h = more_for left n (loop_for left (suc n)) f f.queue refl h

-- ---- the job
module _ (j : Job) (b : FieldBuffers) (most : ℕ) (k : ℕ) where
  abbrev Due : ℕ → Type 0
  Due = RefusedFor j b most

  abbrev turns : FieldState (List Event) → Reply (FieldState (List Event) × ℕ)
  turns = loop_in queue_in_order (slots_in b) j.limit (pseudo_of j) j.vertices j.triangles most 0

  turns_for : (f : FieldState (List Event)) → after_sources queue_in_order (slots_in b) j ≡ gives f → (r : Reply (FieldState (List Event) × ℕ)) → turns f ≡ r → and_go r finished ≡ refused k → Due k
  unfolding and_go
  turns_for f e (refused i) t h = looping f k e (loop_for j (slots_in b) k most 0 f (t ∙ ap refused (same_number i k h)))
  turns_for f e (gives x) t h = absurd (not_refused _ k h)

  sources_for : (r : Reply (FieldState (List Event))) → after_sources queue_in_order (slots_in b) j ≡ r → and_go r (λ (f : FieldState (List Event)). and_go (turns f) finished) ≡ refused k → Due k
  unfolding and_go
  sources_for (refused i) e h = inserting k (e ∙ ap refused (same_number i k h))
  sources_for (gives f) e h = turns_for f e (turns f) refl h

  work_for : field_of queue_in_order (slots_in b) j most ≡ refused k → Due k
  work_for h = go (wedge_in j) refl h where
    go : (c : Bool) → wedge_in j ≡ c → (if c then refused 11 else and_go (after_sources queue_in_order (slots_in b) j) (λ (f : FieldState (List Event)). and_go (turns f) finished)) ≡ refused k → Due k
    go true z y = subst Due (same_number 11 k y) (wedge z)
    go false z y = sources_for (after_sources queue_in_order (slots_in b) j) refl y

  mesh_for : (m : ℕ) → mesh_refusal j (counts_in b.mesh (other_counts b)) ≡ m → unless_mesh m (field_of queue_in_order (slots_in b) j most) ≡ refused k → Due k
  unfolding unless_mesh
  mesh_for zero z h = work_for h
  mesh_for (suc i) z h = subst Due (same_number (suc i) k h) (handing_in i z)

  pub refused_for : compute_over queue_in_order j b most ≡ refused k → Due k
  refused_for h = mesh_for (mesh_refusal j (counts_in b.mesh (other_counts b))) refl h
