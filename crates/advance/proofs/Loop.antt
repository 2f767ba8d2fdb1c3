-- The loop over turns: its invariant, and the ways that it goes on and ends. Assumes nothing.
use Prim.Native.Nat.{ℕ, suc, ◌+◌, ◌-◌, ◌≤◌, ◌<◌}
use native.Mathlib.Omega.{arith}
use mathlib.Core.List.{List, [], ◌++◌, append-nil, append_assoc}
use mathlib.Core.Path.{◌≡◌, refl, sym, ap, subst, ◌∙◌}
use lib.ListN.{length}
use lib.Ieee.{Float}
use Rattle.buffers.specs.Lack.{lack_number}
use Rattle.buffers.specs.declared.Lack.{Lack}
use Rattle.heap.specs.Queue.{queue, popping}
use Rattle.actions.specs.Actions.{Stock}
use Rattle.insertion.specs.of_cut_lists.Buffers.{Cuts}
use Rattle.insertion.specs.of_trim_model.Model.{Candidate}
use Rattle.field_step.specs.of_trim_state.State.{State, Result, stopped, went}
use Rattle.insertion.specs.of_trim_split.declared.Counts.{Counts}
use Rattle.insertion.specs.of_trim_split.Running as running
use Rattle.insertion.specs.of_trim_split.Running.{Snapshot}
use Rattle.insertion.proofs.laws_of_trim_split.Untouched.{untouched_same, untouched_then}
use Rattle.insertion.specs.of_trim.Buffers.{Slices}
use Rattle.insertion.specs.of_trim.Adding.{snapshot_at}
use Rattle.insertion.specs.of_offers.Offers.{and_next}
use Rattle.insertion.proofs.laws_of_offers.Walks.{mesh_kept, SameSizes, same_refl, same_trans, windows_in, windows_same}
use Rattle.std.specs.declared.option.Option.{Option}
use Rattle.std.specs.declared.option.Option.TheVariants.{Some, None}
use Rattle.std.specs.declared.result.Result.{Result as Result₁}
use Rattle.std.specs.declared.result.Result.TheVariants.{Ok, Err}
use Rattle.field_step.specs.Step.{step_of, is_empty, idle_of, step_candidates}
use Rattle.field_step.specs.Contract.{FieldMesh, FieldStands, FieldEnds, stepped_end, is_idle, StepsOnce}
use Rattle.advance.specs.Advance.{of_state, advance_of, steps_of, advance_candidates}
use Rattle.advance.specs.Contract.{AdvancesTo}
use Rattle.advance.proofs.More.{step_idle, no_candidates, advance_idle, candidates_idle, steps_idle, advance_one, candidates_one, steps_one, advance_more, candidates_more, steps_more}

-- ---- on the state: i turns went to t, and what is next
module _ (cuts windows : ℕ) (limit : Float) (flags : List ℕ) (v : List Float) (triangles : List ℕ) (i j : ℕ) (s t : State) (h : advance_of cuts windows limit flags v triangles i s ≡ went t) where
  advance_then : advance_of cuts windows limit flags v triangles (i + j) s ≡ advance_of cuts windows limit flags v triangles j t
  unfolding and_next
  advance_then = advance_more cuts windows limit flags v triangles i j s ∙ ap (λ (r : Result). and_next r (advance_of cuts windows limit flags v triangles j)) h

  candidates_then : advance_candidates cuts windows limit flags v triangles (i + j) s ≡ advance_candidates cuts windows limit flags v triangles i s ++ advance_candidates cuts windows limit flags v triangles j t
  unfolding of_state
  candidates_then =
      candidates_more cuts windows limit flags v triangles i j s
      ∙ ap (λ (r : Result). advance_candidates cuts windows limit flags v triangles i s ++ of_state [] (advance_candidates cuts windows limit flags v triangles j) r) h

  steps_then : steps_of cuts windows limit flags v triangles i s ≡ i → steps_of cuts windows limit flags v triangles (i + j) s ≡ i + steps_of cuts windows limit flags v triangles j t
  unfolding of_state
  steps_then c =
      steps_more cuts windows limit flags v triangles i j s
      ∙ (λ k. c k + of_state 0 (steps_of cuts windows limit flags v triangles j) (h k))

-- ---- the loop
module _ (limit : Float) (n most : ℕ) (v : List Float) (buffer vw round : List ℕ) (er : List Float) (tw : List ℕ) (tr : List Float) (counts : Counts) (B : Slices) (c : Cuts) where
  abbrev cuts : ℕ
  cuts = length c.pts

  abbrev Mesh : List ℕ → List ℕ → Type 0
  Mesh triangles ew = FieldMesh v triangles n buffer ew er tw tr vw round

  -- i turns went, and that many events were popped
  abbrev Did : List ℕ → List Candidate → State → ℕ → Snapshot → Type 0
  Did triangles past s i p =
      FieldEnds limit v triangles n (past ++ advance_candidates cuts (windows_in B) limit vw v triangles i s) (snapshot_at counts B) (running.at p) (advance_of cuts (windows_in B) limit vw v triangles i s)
      × (steps_of cuts (windows_in B) limit vw v triangles i s ≡ i)

  pub record LoopInv (B' : Slices) (c' : Cuts) (now : Counts) (i : ℕ) : Type 0 where
    pub same : SameSizes B B' c c'
    pub fits : now.made ≤ windows_in B
    pub few : i ≤ most
    pub done : (triangles : List ℕ) → Mesh triangles B.edges → (past : List Candidate) (s : State) → FieldStands limit v triangles n past s (snapshot_at counts B) → Did triangles past s i (snapshot_at now B')

  pub loop_start : counts.made ≤ windows_in B → LoopInv B c counts 0
  unfolding advance_of advance_candidates steps_of
  loop_start fits = record {
    same = same_refl B c;
    fits = fits;
    few = omega arith;
    done = λ triangles F past s S. (
      record {
        state = s;
        is = refl;
        field = subst (λ (l : List Candidate). FieldStands limit v triangles n l s (snapshot_at counts B)) (sym (append-nil past)) S;
        untouched = untouched_same (λ e. Unit {0}) (snapshot_at counts B) counts.queued 0 (queue B.keys B.events) B.vertex;
      },
      refl,
    );
  }

  pub loop_over : (B' : Slices) (c' : Cuts) (now : Counts) (i : ℕ) → LoopInv B' c' now i → most ≤ i → AdvancesTo limit n most v buffer vw round er tw tr counts B c (Ok (record { counts = now; steps = most })) B'
  loop_over B' c' now i inv end =
      let z : i ≡ most = omega (arith, end, inv.few) in
      record {
        bounded = inv.fits;
        advances = λ triangles F past s S.
            let d = subst (λ (k : ℕ). FieldEnds limit v triangles n (past ++ advance_candidates cuts (windows_in B) limit vw v triangles k s) (snapshot_at counts B) (running.at (snapshot_at now B')) (advance_of cuts (windows_in B) limit vw v triangles k s) × (steps_of cuts (windows_in B) limit vw v triangles k s ≡ k)) z (inv.done triangles F past s S) in
            (d.0, sym d.1);
      }

  -- a turn
  module _ (B₁ : Slices) (c₁ : Cuts) (now : Counts) (i : ℕ) (inv : LoopInv B₁ c₁ now i) (q : i < most) where
    windows₁ : windows_in B₁ ≡ windows_in B
    windows₁ = windows_same B B₁ c c₁ inv.same

    pub loop_fits : now.made ≤ windows_in B₁
    loop_fits = subst (λ (z : ℕ). now.made ≤ z) (sym windows₁) inv.fits

    -- what the turn did
    module _ (r : Result₁ (Option Counts) Lack) (B₂ : Slices) (h : StepsOnce limit n v buffer vw round er tw tr now B₁ c₁ r B₂) (triangles : List ℕ) (F : Mesh triangles B.edges) (past : List Candidate) (s : State) (S : FieldStands limit v triangles n past s (snapshot_at counts B)) where
      abbrev D : Did triangles past s i (snapshot_at now B₁)
      D = inv.done triangles F past s S

      abbrev t : State
      t = D.0.state

      abbrev sofar : List Candidate
      sofar = advance_candidates cuts (windows_in B) limit vw v triangles i s

      mesh_now : Mesh triangles B₁.edges
      mesh_now = record { mesh = mesh_kept v triangles n er tw tr B.edges B₁.edges inv.same.edges D.0.untouched.edges F.mesh; same = F.same; rounds = F.rounds; long = F.long }

      turned : FieldEnds limit v triangles n ((past ++ sofar) ++ step_candidates limit v triangles t) (snapshot_at now B₁) (stepped_end now r B₂) (step_of cuts (windows_in B) limit vw v triangles t)
      turned =
          subst (λ (z : ℕ). FieldEnds limit v triangles n ((past ++ sofar) ++ step_candidates limit v triangles t) (snapshot_at now B₁) (stepped_end now r B₂) (step_of z (windows_in B) limit vw v triangles t)) inv.same.pts
          (subst (λ (z : ℕ). FieldEnds limit v triangles n ((past ++ sofar) ++ step_candidates limit v triangles t) (snapshot_at now B₁) (stepped_end now r B₂) (step_of (length c₁.pts) z limit vw v triangles t)) windows₁
          (h.steps triangles mesh_now (past ++ sofar) t D.0.field))

      idle_is : idle_of t ≡ is_idle r
      idle_is = ap (λ (k : Stock). is_empty (popping k.queue k.queued).0) D.0.field.stands.stock ∙ sym h.idle

      -- the candidates of the turn and of j turns from then on are the same
      candidates_on : (j : ℕ) → step_candidates limit v triangles t ≡ advance_candidates cuts (windows_in B) limit vw v triangles j t
          → (past ++ sofar) ++ step_candidates limit v triangles t ≡ past ++ advance_candidates cuts (windows_in B) limit vw v triangles (i + j) s
      candidates_on j e =
          append_assoc past sofar (step_candidates limit v triangles t)
          ∙ ap (λ (l : List Candidate). past ++ l) (ap (λ (l : List Candidate). sofar ++ l) e ∙ sym (candidates_then cuts (windows_in B) limit vw v triangles i j s t D.0.is))

    pub loop_next : (now₂ : Counts) (B₂ : Slices) (c₂ : Cuts) → SameSizes B₁ B₂ c₁ c₂ → StepsOnce limit n v buffer vw round er tw tr now B₁ c₁ (Ok (Some now₂)) B₂ → LoopInv B₂ c₂ now₂ (i + 1)
    loop_next now₂ B₂ c₂ same h = record {
      same = same_trans B B₁ B₂ c c₁ c₂ inv.same same;
      fits = subst (λ (z : ℕ). now₂.made ≤ z) windows₁ h.bounded;
      few = omega (arith, q);
      done = λ triangles F past s S.
          let d = inv.done triangles F past s S in
          let u = turned (Ok (Some now₂)) B₂ h triangles F past s S in
          let t = d.0.state in (
            record {
              state = u.state;
              is = advance_then cuts (windows_in B) limit vw v triangles i 1 s t d.0.is ∙ advance_one cuts (windows_in B) limit vw v triangles t ∙ u.is;
              field = subst (λ (l : List Candidate). FieldStands limit v triangles n l u.state (snapshot_at now₂ B₂))
                  (candidates_on (Ok (Some now₂)) B₂ h triangles F past s S 1 (sym (candidates_one cuts (windows_in B) limit vw v triangles t))) u.field;
              untouched = untouched_then (λ e. Unit {0}) (snapshot_at counts B) (snapshot_at now B₁) (snapshot_at now₂ B₂) d.0.untouched u.untouched;
            },
            steps_then cuts (windows_in B) limit vw v triangles i 1 s t d.0.is d.1 ∙ ap (λ (k : ℕ). i + k) (steps_one cuts (windows_in B) limit vw v triangles t (idle_is (Ok (Some now₂)) B₂ h triangles F past s S)),
          );
    }

    -- there is no slot for something
    pub loop_stopped : (lack : Lack) (B₂ : Slices) → StepsOnce limit n v buffer vw round er tw tr now B₁ c₁ (Err lack) B₂ → AdvancesTo limit n most v buffer vw round er tw tr counts B c (Err lack) B₂
    unfolding advance_of and_next
    loop_stopped lack B₂ h = record {
      bounded = tt;
      advances = λ triangles F past s S.
          let d = inv.done triangles F past s S in
          let j = most - suc i in
          let z : i + suc j ≡ most = omega (arith, q) in (
            subst (λ (k : ℕ). advance_of cuts (windows_in B) limit vw v triangles k s ≡ stopped (lack_number lack)) z
                (advance_then cuts (windows_in B) limit vw v triangles i (suc j) s d.0.state d.0.is
                ∙ ap (λ (x : Result). and_next x (advance_of cuts (windows_in B) limit vw v triangles j)) (turned (Err lack) B₂ h triangles F past s S)),
            tt,
          );
    }

    -- the queue is empty
    pub loop_idle : (B₂ : Slices) → StepsOnce limit n v buffer vw round er tw tr now B₁ c₁ (Ok None) B₂ → AdvancesTo limit n most v buffer vw round er tw tr counts B c (Ok (record { counts = now; steps = i })) B₂
    loop_idle B₂ h = record {
      bounded = inv.fits;
      advances = λ triangles F past s S.
          let d = inv.done triangles F past s S in
          let u = turned (Ok None) B₂ h triangles F past s S in
          let t = d.0.state in
          let idle = idle_is (Ok None) B₂ h triangles F past s S in
          let j = most - i in
          let z : i + j ≡ most = omega (arith, q) in
          subst (λ (k : ℕ). FieldEnds limit v triangles n (past ++ advance_candidates cuts (windows_in B) limit vw v triangles k s) (snapshot_at counts B) (running.at (snapshot_at now B₂)) (advance_of cuts (windows_in B) limit vw v triangles k s) × (i ≡ steps_of cuts (windows_in B) limit vw v triangles k s)) z (
            record {
              state = u.state;
              is = advance_then cuts (windows_in B) limit vw v triangles i j s t d.0.is ∙ advance_idle cuts (windows_in B) limit vw v triangles t idle j ∙ sym (step_idle cuts (windows_in B) limit vw v triangles t idle) ∙ u.is;
              field = subst (λ (l : List Candidate). FieldStands limit v triangles n l u.state (snapshot_at now B₂))
                  (candidates_on (Ok None) B₂ h triangles F past s S j (no_candidates cuts (windows_in B) limit vw v triangles t idle ∙ sym (candidates_idle cuts (windows_in B) limit vw v triangles t idle j))) u.field;
              untouched = untouched_then (λ e. Unit {0}) (snapshot_at counts B) (snapshot_at now B₁) (snapshot_at now B₂) d.0.untouched u.untouched;
            },
            let k = steps_idle cuts (windows_in B) limit vw v triangles t idle j in
                let m = steps_then cuts (windows_in B) limit vw v triangles i j s t d.0.is d.1 in
                omega (arith, k, m),
          );
    }
