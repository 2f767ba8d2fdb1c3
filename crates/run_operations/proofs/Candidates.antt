-- A candidate: it is refused by its number, or it is added. Assumes nothing.
use Prim.Native.Nat.{ℕ, ◌*◌, ◌+◌, ◌<◌}
use native.Mathlib.Omega.{arith}
use mathlib.Core.Bool.{Bool, true, false, cond, ◌&&◌}
use mathlib.Core.List.{List}
use mathlib.Core.Logic.{◌≢◌}
use mathlib.Core.Path.{◌≡◌, refl, sym, ap, subst, ◌∙◌}
use lib.Dec.{T, ltb, ltb→lt}
use lib.ListN.{length, get_or}
use lib.Ieee.{Float, nan, binary64, fits}
use lib.Ieee.Fits.{and_l, and_r}
use Rattle.layout.specs.Layout.{words_per_ends, ends_low, ends_high}
use Rattle.buffers.specs.declared.EdgeId.{EdgeId}
use Rattle.buffers.specs.declared.Lack.{Lack}
use Rattle.buffers.specs.declared.Lack.TheVariants.{Windows, Events, Cuts as Lack·Cuts, Entries}
use Rattle.buffers.specs.Lack.{lack_number}
use Rattle.windows.specs.declared.Edge.{Edge}
use Rattle.windows.specs.declared.NewWindow.{NewWindow}
use Rattle.heap.specs.Queue.{queue}
use Rattle.chains.specs.Chains.{links}
use Rattle.trim.specs.of_trim_model.Model.{Candidate}
use Rattle.trim.specs.of_trim_state.State.{State, Result, stopped, add_of}
use Rattle.trim.specs.of_trim_state.Follows.{Follows}
use Rattle.trim.specs.of_cut_lists.Cut.{Sizes}
use Rattle.trim.proofs.laws_of_trim_split.Untouched.{untouched_wider}
use Rattle.trim.specs.of_trim_split.Running.{Ready as Running-as-Ready}
use Rattle.trim.specs.of_trim_split.declared.Counts.{Counts}
use Rattle.std.specs.declared.result.Result.{Result as Result₁}
use Rattle.std.specs.declared.result.Result.TheVariants.{Ok, Err}
use Rattle.trim.specs.Adding.{Given, AddsFrom, AddedWithin, added_end}
use Rattle.trim_operations.specs.Operations.{add, as_candidate, Doubles}
use Rattle.trim_operations.specs.Run.{has_length, is_on_edge, try_add, operate}
use Rattle.trim_operations.specs.Represents.{refusal_number, CheckedCandidate}
use Rattle.trim_operations.proofs.Follow.{proper}
use Rattle.std.specs.Prelude.{Ok, Err}
use Rattle.trim_operations.specs.declared.OperationRefusal.{OperationRefusal}
use Rattle.trim_operations.specs.declared.OperationRefusal.TheVariants.{UnknownKind, NoEdge, EndOutside, NoVertex, NoSlot}
use Rattle.run_operations.specs.Lists.{Setting, setting_of, ReadyToRun, StandsIn, snapshot_in, Operated}
use Rattle.trim.specs.Buffers.{Slices}
use Rattle.trim.specs.of_cut_lists.Buffers.{Cuts}

-- no refusal has the number 0
lack_above : (lack : Lack) → lack_number lack ≢ 0
lack_above Windows h = let z : ⊥ = omega (arith, h) in z
lack_above Events h = let z : ⊥ = omega (arith, h) in z
lack_above Lack·Cuts h = let z : ⊥ = omega (arith, h) in z
lack_above Entries h = let z : ⊥ = omega (arith, h) in z

above_zero : (refusal : OperationRefusal) → refusal_number refusal ≢ 0
above_zero UnknownKind h = let z : ⊥ = omega (arith, h) in z
above_zero NoEdge h = let z : ⊥ = omega (arith, h) in z
above_zero EndOutside h = let z : ⊥ = omega (arith, h) in z
above_zero NoVertex h = let z : ⊥ = omega (arith, h) in z
above_zero (NoSlot lack) h = lack_above lack h

-- ---- by the answers of two tests
refused : (a b : Bool) (n : ℕ) (r : Result) → n ≡ cond a (cond b 0 72) 71 → n ≢ 0 → cond a (cond b r (stopped 72)) (stopped 71) ≡ stopped n
refused true true n r h k = absurd (k h)
refused true false n r h k = ap stopped (sym h)
refused false b n r h k = ap stopped (sym h)

passed_first : (a b : Bool) → ◌≡◌ {A = ℕ} 0 (cond a (cond b 0 72) 71) → T a
passed_first true b h = tt
passed_first false b h = absurd (let z : ⊥ = omega (arith, h) in z)

passed_second : (a b : Bool) → ◌≡◌ {A = ℕ} 0 (cond a (cond b 0 72) 71) → T b
passed_second true true h = tt
passed_second true false h = absurd (let z : ⊥ = omega (arith, h) in z)
passed_second false b h = absurd (let z : ⊥ = omega (arith, h) in z)

passed_both : (a b : Bool) (r : Result) → ◌≡◌ {A = ℕ} 0 (cond a (cond b 0 72) 71) → cond a (cond b r (stopped 72)) (stopped 71) ≡ r
passed_both true true r h = refl
passed_both true false r h = absurd (let z : ⊥ = omega (arith, h) in z)
passed_both false b r h = absurd (let z : ⊥ = omega (arith, h) in z)

-- ---- the candidate c, of an edge whose length is l
module _ (limit : Float) (flags ends : List ℕ) (lens : List Float) (m : ℕ) (b : Slices) (x : Cuts) (made queued : ℕ) (id : EdgeId) (new : NewWindow) (l : Float) (long : l ≡ get_or lens (1 * id.0 + 0) nan) where
  abbrev c : Candidate
  c = as_candidate id.0 new

  abbrev g : Setting
  g = setting_of x b limit flags ends lens m

  abbrev first : Bool
  first = ltb c.edge m && has_length l

  abbrev second : Bool
  second = is_on_edge l c.b0 && is_on_edge l c.b1

  abbrev added : State → Result
  added s = add_of g.cuts g.windows limit flags g.mesh c s

  doubles : (number : ℕ) → CheckedCandidate m c.edge l c.b0 c.b1 number → Doubles g.mesh.len c
  doubles number h = record { start = h.start; end = h.end; length = subst (λ (z : Float). T (fits binary64 z)) long h.length }

  -- by the tests on the length that was read
  trying_is : (s : State) → operate g.cuts g.windows limit flags g.mesh m g.vertices (add c) s ≡ cond first (cond second (added s) (stopped 72)) (stopped 71)
  unfolding operate try_add
  trying_is s = ap (λ (z : Float). cond (ltb c.edge m && has_length z) (cond (is_on_edge z c.b0 && is_on_edge z c.b1) (added s) (stopped 72)) (stopped 71)) (sym long)

  pub candidate_refused : (refusal : OperationRefusal) → CheckedCandidate m c.edge l c.b0 c.b1 (refusal_number refusal) → Operated g (add c) made queued b (Err refusal) b
  candidate_refused refusal h = record { doubles = doubles (refusal_number refusal) h; fits = tt; says = λ s cs S F. trying_is s ∙ refused first second (refusal_number refusal) (added s) h.number (above_zero refusal) }

  -- it is refused by no number
  module _ (checked : CheckedCandidate m c.edge l c.b0 c.b1 0) where
    is : ◌≡◌ {A = ℕ} 0 (cond first (cond second 0 72) 71)
    is = checked.number

    pub candidate_there : c.edge < m
    candidate_there = ltb→lt c.edge m (and_l (ltb c.edge m) (has_length l) (passed_first first second is))

    -- of the ends that were read
    module _ (low high : ℕ) (isLow : low ≡ get_or ends (words_per_ends * c.edge + ends_low) 0) (isHigh : high ≡ get_or ends (words_per_ends * c.edge + ends_high) 0) where
      abbrev edge : Edge
      edge = record { id = id; len = l; a = record { 0 = low }; b = record { 0 = high } }

      given : (s : State) (cs : List Candidate) → StandsIn made queued b s → Follows limit g.mesh.len cs s.stock.made s.live → Given g.cuts g.windows limit flags edge new g.mesh s (snapshot_in made queued b)
      given s cs S F = record {
        edge = λ t. record { id = id; len = sym long t; a = record { 0 = sym isLow t }; b = record { 0 = sym isHigh t } };
        holds = S.holds;
        same = S.stock;
        candidates = cs;
        follows = F;
        proper = λ y.
            let d = doubles 0 checked in
            let on = passed_second first second is in
            proper g.mesh.len c d
            (subst (λ (z : Float). T (has_length z)) long (and_r (ltb c.edge m) (has_length l) (passed_first first second is)))
            (subst (λ (z : Float). T (is_on_edge z c.b0)) long (and_l (is_on_edge l c.b0) (is_on_edge l c.b1) on))
            (subst (λ (z : Float). T (is_on_edge z c.b1)) long (and_r (is_on_edge l c.b0) (is_on_edge l c.b1) on));
      }

      -- what `add` ensures of its answer
      abbrev AddsTo : Result₁ Counts Lack → Slices → Type 0
      AddsTo r b' = AddsFrom g.cuts g.windows limit flags edge new (snapshot_in made queued b)
          (added_end r (links b'.edges b'.words) b'.reals (queue b'.keys b'.events) b'.vertex)

      adds : (s : State) → operate g.cuts g.windows limit flags g.mesh m g.vertices (add c) s ≡ added s
      adds s = trying_is s ∙ passed_both first second (added s) is

      pub candidate_stopped : (lack : Lack) (b' : Slices) → AddsTo (Err lack) b' → Operated g (add c) made queued b (Err (NoSlot lack)) b'
      candidate_stopped lack b' h = record { doubles = doubles 0 checked; fits = tt; says = λ s cs S F. adds s ∙ h g.mesh s (given s cs S F) }

      pub candidate_went : (now : Counts) (b' : Slices) → AddedWithin g.windows (Ok now) → AddsTo (Ok now) b' → Operated g (add c) made queued b (Ok now) b'
      candidate_went now b' fits h = record {
        doubles = doubles 0 checked;
        fits = fits;
        says = λ s cs S F.
            let r = h g.mesh s (given s cs S F) in
            record {
              state = record { wins = r.wins; live = r.live; stock = _ };
              is = adds s ∙ r.is;
              stands = record { holds = r.holds; stock = refl };
              untouched = untouched_wider (λ k. k ≡ c.edge) (λ e. e < m) (λ e h. subst (λ (k : ℕ). k < m) (sym h) candidate_there) (snapshot_in made queued b) (snapshot_in now.made now.queued b') r.untouched;
            };
      }

    -- what `add` requires
    pub candidate_ready : ReadyToRun m made b x → Running-as-Ready c.edge made 0 b.edges b.words b.reals
    candidate_ready r = record { fits = r.fits; linked = omega arith; edge = omega (arith, candidate_there, r.edges) }

pub candidate_sizes : (m made : ℕ) (b : Slices) (x : Cuts) → ReadyToRun m made b x → Sizes (length x.pts) x.out x.keep x.next
candidate_sizes m made b x r = record { keeps = r.keeps; outs = r.outs; nexts = r.nexts }
