-- Turns and then more in the buffers, as they are at once: advances_then. Where no event waits as many turns as there were steps suffice, and more change nothing: advances_within; nor do they after a refusal: advances_refused. Assumes nothing.
use Prim.Native.Nat.{ℕ, ◌+◌, ◌≤◌}
use native.Mathlib.Omega.{arith}
use mathlib.Core.Bool.{true}
use mathlib.Core.List.{List, ◌++◌, append-nil, append_assoc}
use mathlib.Core.Path.{◌≡◌, refl, sym, ap, subst, ◌∙◌}
use lib.ListN.{length}
use lib.Ieee.{Float}
use Rattle.buffers.specs.declared.Lack.{Lack}
use Rattle.windows.specs.Windows.{capacity_of}
use Rattle.heap.specs.Queue.{queue, popping}
use Rattle.actions.specs.Actions.{Stock}
use Rattle.compute.specs.of_cut_lists.Buffers.{Cuts}
use Rattle.compute.specs.of_trim_model.Model.{Candidate}
use Rattle.advance_c.specs.of_trim_state.State.{State, went}
use Rattle.advance_c.specs.of_trim_split.declared.Counts.{Counts}
use Rattle.advance_c.proofs.laws_of_trim_split.Untouched.{untouched_same, untouched_then}
use Rattle.advance_c.specs.of_trim.Buffers.{Slices}
use Rattle.advance_c.specs.of_trim.Adding.{snapshot_at}
use Rattle.advance_c.proofs.laws_of_offers.Walks.{mesh_kept}
use Rattle.advance_c.specs.of_field_step.Step.{is_empty, idle_of}
use Rattle.advance_c.specs.of_field_step.Contract.{FieldMesh, FieldStands, FieldEnds}
use Rattle.advance_c.specs.of_advance.declared.Advanced.{Advanced}
use Rattle.std.specs.declared.result.Result.{Result}
use Rattle.std.specs.declared.result.Result.TheVariants.{Ok, Err}
use Rattle.advance_c.specs.of_advance.Advance.{advance_of, steps_of, advance_candidates}
use Rattle.advance_c.specs.of_advance.Contract.{advanced_end, StepsTold, AdvancesTo}
use Rattle.advance_c.proofs.laws_of_advance.More.{advance_idle, candidates_idle, steps_idle}
use Rattle.compute.specs.of_run_steps.Contract.{none_waits}
use Rattle.turns_laws.specs.InTurns.{AsLong}
use Rattle.turns_laws.proofs.Steps.{advance_then, candidates_then, steps_then, stopped_more, Enough, steps_enough}

-- ---- in the buffers: the answer of the later turns, with the steps of both
abbrev pub later : ℕ → Result Advanced Lack → Result Advanced Lack
later k (Err lack) = Err lack
later k (Ok a) = Ok (record { counts = a.counts; steps = k + a.steps })

module _ (limit : Float) (n : ℕ) (v : List Float) (buffer vw round : List ℕ) (er : List Float) (tw : List ℕ) (tr : List Float) where
  abbrev pub Advances : ℕ → Counts → Slices → Cuts → Result Advanced Lack → Slices → Type 0
  Advances most counts b c r b' = AdvancesTo limit n most v buffer vw round er tw tr counts b c r b'

  module _ (m₁ m₂ : ℕ) (counts t : Counts) (k : ℕ) (b b₁ : Slices) (c c₁ : Cuts) (long : AsLong b b₁) (pts : length c₁.pts ≡ length c.pts) (A : Advances m₁ counts b c (Ok (record { counts = t; steps = k })) b₁) where
    abbrev cuts : ℕ
    cuts = length c.pts

    abbrev windows : ℕ
    windows = capacity_of (length b.words) (length b.reals)

    same_windows : capacity_of (length b₁.words) (length b₁.reals) ≡ windows
    same_windows = λ i. capacity_of (long.words i) (long.reals i)

    module _ (r : Result Advanced Lack) (b₂ : Slices) (B : Advances m₂ t b₁ c₁ r b₂)
        (triangles : List ℕ) (F : FieldMesh v triangles n buffer b.edges er tw tr vw round) (past : List Candidate) (s : State) (S : FieldStands limit v triangles n past s (snapshot_at counts b)) where
      abbrev first : List Candidate
      first = advance_candidates cuts windows limit vw v triangles m₁ s

      abbrev u : State
      u = (A.advances triangles F past s S).0.state

      went_u : advance_of cuts windows limit vw v triangles m₁ s ≡ went u
      went_u = (A.advances triangles F past s S).0.is

      mesh_then : FieldMesh v triangles n buffer b₁.edges er tw tr vw round
      mesh_then = record { mesh = mesh_kept v triangles n er tw tr b.edges b₁.edges long.edges (A.advances triangles F past s S).0.untouched.edges F.mesh; same = F.same; rounds = F.rounds; long = F.long }

      abbrev Ends : ℕ → ℕ → Type 0
      Ends x w =
          FieldEnds limit v triangles n ((past ++ first) ++ advance_candidates x w limit vw v triangles m₂ u) (snapshot_at t b₁) (advanced_end r b₂) (advance_of x w limit vw v triangles m₂ u)
          × StepsTold r (steps_of x w limit vw v triangles m₂ u)

      turned : Ends cuts windows
      turned = subst (Ends cuts) same_windows (subst (λ (x : ℕ). Ends x (capacity_of (length b₁.words) (length b₁.reals))) pts (B.advances triangles mesh_then (past ++ first) u (A.advances triangles F past s S).0.field))

      all_candidates : (past ++ first) ++ advance_candidates cuts windows limit vw v triangles m₂ u ≡ past ++ advance_candidates cuts windows limit vw v triangles (m₁ + m₂) s
      all_candidates =
          append_assoc past first (advance_candidates cuts windows limit vw v triangles m₂ u)
          ∙ ap (λ (l : List Candidate). past ++ l) (sym (candidates_then cuts windows limit vw v triangles m₁ m₂ s u went_u))

    pub advances_then : (r : Result Advanced Lack) (b₂ : Slices) → Advances m₂ t b₁ c₁ r b₂ → Advances (m₁ + m₂) counts b c (later k r) b₂
    advances_then (Err lack) b₂ B = record {
      bounded = tt;
      advances = λ triangles F past s S. (
        advance_then cuts windows limit vw v triangles m₁ m₂ s (u (Err lack) b₂ B triangles F past s S) (went_u (Err lack) b₂ B triangles F past s S) ∙ (turned (Err lack) b₂ B triangles F past s S).0,
        tt,
      );
    }
    advances_then (Ok a₂) b₂ B = record {
      bounded = subst (λ (z : ℕ). a₂.counts.made ≤ z) same_windows B.bounded;
      advances = λ triangles F past s S.
          let d = A.advances triangles F past s S in
          let e = turned (Ok a₂) b₂ B triangles F past s S in
          let w = went_u (Ok a₂) b₂ B triangles F past s S in
          let sum = steps_then cuts windows limit vw v triangles m₁ m₂ s d.0.state w in (
            record {
              state = e.0.state;
              is = advance_then cuts windows limit vw v triangles m₁ m₂ s d.0.state w ∙ e.0.is;
              field = subst (λ (l : List Candidate). FieldStands limit v triangles n l e.0.state (snapshot_at a₂.counts b₂)) (all_candidates (Ok a₂) b₂ B triangles F past s S) e.0.field;
              untouched = untouched_then (λ x. Unit {0}) (snapshot_at counts b) (snapshot_at t b₁) (snapshot_at a₂.counts b₂) d.0.untouched e.0.untouched;
            },
            omega (arith, d.1, e.1, sum),
          );
    }

  -- ---- no event waits
  pub advances_within : (m more : ℕ) (counts t : Counts) (k : ℕ) (b b' : Slices) (c : Cuts) → none_waits b'.keys b'.events t.queued ≡ true
      → Advances m counts b c (Ok (record { counts = t; steps = k })) b' → Advances (k + more) counts b c (Ok (record { counts = t; steps = k })) b'
  advances_within m more counts t k b b' c none A = record {
    bounded = A.bounded;
    advances = λ triangles F past s S.
        let cuts = length c.pts in
        let windows = capacity_of (length b.words) (length b.reals) in
        let d = A.advances triangles F past s S in
        let u = d.0.state in
        let idle : idle_of u ≡ true = ap (λ (z : Stock). is_empty (popping z.queue z.queued).0) d.0.field.stands.stock ∙ none in
        let e = subst (Enough cuts windows limit vw v triangles m s u) (sym d.1) (steps_enough cuts windows limit vw v triangles m s u d.0.is idle) in
        let steps = steps_then cuts windows limit vw v triangles k more s u e.0 in
        let None-more = steps_idle cuts windows limit vw v triangles u idle more in (
          record {
            state = u;
            is = advance_then cuts windows limit vw v triangles k more s u e.0 ∙ advance_idle cuts windows limit vw v triangles u idle more;
            field = subst (λ (l : List Candidate). FieldStands limit v triangles n (past ++ l) u (snapshot_at t b'))
                (sym (candidates_then cuts windows limit vw v triangles k more s u e.0
                ∙ ap (λ (l : List Candidate). advance_candidates cuts windows limit vw v triangles k s ++ l) (candidates_idle cuts windows limit vw v triangles u idle more)
                ∙ append-nil (advance_candidates cuts windows limit vw v triangles k s) ∙ e.1.1)) d.0.field;
            untouched = d.0.untouched;
          },
          omega (arith, steps, None-more, e.1.0),
        );
  }

  -- no turns
  pub advances_not : (counts : Counts) (b : Slices) (c : Cuts) → counts.made ≤ capacity_of (length b.words) (length b.reals) → Advances 0 counts b c (Ok (record { counts = counts; steps = 0 })) b
  unfolding advance_of advance_candidates steps_of
  advances_not counts b c fits = record {
    bounded = fits;
    advances = λ triangles F past s S. (
      record {
        state = s;
        is = refl;
        field = subst (λ (l : List Candidate). FieldStands limit v triangles n l s (snapshot_at counts b)) (sym (append-nil past)) S;
        untouched = untouched_same (λ x. Unit {0}) (snapshot_at counts b) counts.queued 0 (queue b.keys b.events) b.vertex;
      },
      refl,
    );
  }

  -- ---- a turn was refused
  pub advances_refused : (m₁ m₂ : ℕ) (counts : Counts) (b : Slices) (c : Cuts) (lack : Lack) (b' : Slices) → Advances m₁ counts b c (Err lack) b' → Advances (m₁ + m₂) counts b c (Err lack) b'
  advances_refused m₁ m₂ counts b c lack b' A = record {
    bounded = tt;
    advances = λ triangles F past s S. (
      stopped_more (length c.pts) (capacity_of (length b.words) (length b.reals)) limit vw v triangles m₁ m₂ s _ (A.advances triangles F past s S).0,
      tt,
    );
  }
