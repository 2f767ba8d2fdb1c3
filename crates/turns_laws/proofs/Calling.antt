-- Calls of `sirmolaat_advance`, one behind another, are the turns that they asked for: calls_advance, calls_stopped. Assumes nothing.
use Prim.Native.Nat.{ℕ, ◌+◌, ◌≤◌, ◌<◌}
use native.Mathlib.Omega.{arith}
use mathlib.Core.Bool.{Bool, true, false}
use mathlib.Core.List.{List, [], ◌∷◌, ◌++◌}
use mathlib.Core.Path.{◌≡◌, refl, sym, ap, subst, ◌∙◌}
use lib.ListN.{length, length-set, get_or, set}
use lib.Seq.{get_or-set_same, get_or-set_other}
use lib.Ieee.{Float}
use Rattle.buffers.specs.declared.Lack.{Lack}
use Rattle.buffers.specs.Lack.{lack_number}
use Rattle.windows.specs.Windows.{capacity_of}
use Rattle.compute.specs.of_cut_lists.Buffers.{Cuts}
use Rattle.advance_c.specs.of_trim_split.declared.Counts.{Counts}
use Rattle.advance_c.specs.of_trim.Buffers.{Slices}
use Rattle.advance_c.specs.of_trim.Adding.{snapshot_at}
use Rattle.advance_c.specs.of_field_step.Contract.{FieldEnds}
use Rattle.advance_c.specs.of_advance.declared.Advanced.{Advanced}
use Rattle.std.specs.declared.result.Result.{Result}
use Rattle.std.specs.declared.result.Result.TheVariants.{Ok, Err}
use Rattle.advance_c.specs.of_advance.Advance.{advance_of, steps_of, advance_candidates}
use Rattle.advance_c.specs.of_advance.Contract.{advanced_end, StepsTold, AdvancesTo}
use Rattle.compute.proofs.laws_of_run_steps.Running.{lack_above}
use Rattle.advance_c.specs.Turns.{told_counts, turns_told, turns_fit_in, Turned}
use Rattle.turns_laws.specs.InTurns.{Call, AsLong, turns_asked, steps_of_calls, last_counts, last_left, Called, CalledAll}
use Rattle.turns_laws.proofs.Then.{advances_then, advances_not}

-- ---- what a call told
module _ (l t : List ℕ) (long : 3 ≤ length l) (c : Counts) (k : ℕ) (e : t ≡ set (set (set l 0 c.made) 1 c.queued) 2 k) where
  abbrev one : List ℕ
  one = set l 0 c.made

  abbrev two : List ℕ
  two = set one 1 c.queued

  made_told : get_or t 0 0 ≡ c.made
  made_told =
      ap (λ (z : List ℕ). get_or z 0 0) e ∙ get_or-set_other two 2 0 k 0 (omega arith) ∙ get_or-set_other one 1 0 c.queued 0 (omega arith) ∙ get_or-set_same l 0 c.made 0 (omega (arith, long))

  queued_told : get_or t 1 0 ≡ c.queued
  queued_told = ap (λ (z : List ℕ). get_or z 1 0) e ∙ get_or-set_other two 2 1 k 0 (omega arith) ∙ get_or-set_same one 1 c.queued 0 (rw length-set (omega (arith, long)))

  steps_told : get_or t 2 0 ≡ k
  steps_told = ap (λ (z : List ℕ). get_or z 2 0) e ∙ get_or-set_same two 2 k 0 (rw (length-set, length-set) (omega (arith, long)))

  counts_told : told_counts t ≡ c
  unfolding told_counts
  counts_told = λ i. record { made = made_told i; queued = queued_told i }

-- ---- the calls
-- r is the number of what there is no slot for
pub record StoppedBy (r : ℕ) (Stops : Lack → Type 0) : Type 0 where
  pub lack : Lack
  pub number : r ≡ lack_number lack
  pub advances : Stops lack

module _ (limit : Float) (n : ℕ) (v : List Float) (buffer vw round : List ℕ) (er : List Float) (tw : List ℕ) (tr : List Float) (slots : ℕ) where
  abbrev Advances : ℕ → Counts → Slices → Cuts → Result Advanced Lack → Slices → Type 0
  Advances most counts b c r b' = AdvancesTo limit n most v buffer vw round er tw tr counts b c r b'

  module _ (counts : Counts) (b : Slices) (k : Call) where
    abbrev CallTurned : ℕ → Type 0
    CallTurned r = Turned limit n k.most v buffer vw round er tw tr k.lent b k.cuts r k.left k.cuts_left k.told

    -- an answer other than 20 is that of turns
    turned : (r : ℕ) → (r ≡ 20 → ⊥) → Called limit n v buffer vw round er tw tr slots counts b k r → CallTurned r
    turned r other C = go (turns_fit_in (told_counts k.lent).made b k.cuts) refl where
      go : (t : Bool) → turns_fit_in (told_counts k.lent).made b k.cuts ≡ t → CallTurned r
      go true h = C.answers.turned h
      go false h = absurd (other (C.answers.unfit h).0)

    module _ (C : Called limit n v buffer vw round er tw tr slots counts b k 0) where
      went : (a : Result Advanced Lack) → Advances k.most (told_counts k.lent) b k.cuts a k.left → (0, k.told) ≡ turns_told a k.lent
          → Advances k.most counts b k.cuts (Ok (record { counts = told_counts k.told; steps = get_or k.told 2 0 })) k.left
      unfolding turns_told
      went (Err lack) A e = let z : 0 ≡ lack_number lack = ap (λ (p : ℕ × List ℕ). p.0) e in absurd (omega (arith, z, lack_above lack))
      went (Ok a) A e =
          let is : k.told ≡ set (set (set k.lent 0 a.counts.made) 1 a.counts.queued) 2 a.steps = ap (λ (p : ℕ × List ℕ). p.1) e in
          let t-is = counts_told k.lent k.told C.three a.counts a.steps is in
          let k-is = steps_told k.lent k.told C.three a.counts a.steps is in
          subst (λ (z : Counts). Advances k.most z b k.cuts (Ok (record { counts = told_counts k.told; steps = get_or k.told 2 0 })) k.left) C.counted
          (subst (λ (z : Result Advanced Lack). Advances k.most (told_counts k.lent) b k.cuts z k.left) (λ i. Ok (record { counts = sym t-is i; steps = sym k-is i })) A)

      call_advances : Advances k.most counts b k.cuts (Ok (record { counts = told_counts k.told; steps = get_or k.told 2 0 })) k.left
      call_advances = let T = turned 0 (λ h. omega (arith, h)) C in went T.answer T.advances T.tells

    -- a refusal of the turns
    module _ (r : ℕ) (some : 0 < r) (other : r ≡ 20 → ⊥) (C : Called limit n v buffer vw round er tw tr slots counts b k r) where
      abbrev CallStopped : Type 0
      CallStopped = StoppedBy r (λ (lack : Lack). Advances k.most counts b k.cuts (Err lack) k.left)

      stops : (a : Result Advanced Lack) → Advances k.most (told_counts k.lent) b k.cuts a k.left → (r, k.told) ≡ turns_told a k.lent → CallStopped
      unfolding turns_told
      stops (Err lack) A e = record {
        lack = lack;
        number = ap (λ (p : ℕ × List ℕ). p.0) e;
        advances = subst (λ (z : Counts). Advances k.most z b k.cuts (Err lack) k.left) C.counted A;
      }
      stops (Ok a) A e = let z : r ≡ 0 = ap (λ (p : ℕ × List ℕ). p.0) e in absurd (omega (arith, z, some))

      call_stopped : CallStopped
      call_stopped = let T = turned r other C in stops T.answer T.advances T.tells

  -- ---- one behind another
  -- the cut lists count by their slots alone
  with_cuts : (most : ℕ) (counts : Counts) (b : Slices) (c c₁ : Cuts) (r : Result Advanced Lack) (b' : Slices) → length c₁.pts ≡ length c.pts → Advances most counts b c₁ r b' → Advances most counts b c r b'
  with_cuts most counts b c c₁ r b' h A =
      let windows = capacity_of (length b.words) (length b.reals) in
      record {
        bounded = A.bounded;
        advances = λ triangles F past s S.
            subst
            (λ (x : ℕ).
            FieldEnds limit v triangles n (past ++ advance_candidates x windows limit vw v triangles most s) (snapshot_at counts b) (advanced_end r b') (advance_of x windows limit vw v triangles most s)
            × StepsTold r (steps_of x windows limit vw v triangles most s))
            h (A.advances triangles F past s S);
      }

  module _ (c : Cuts) (cut : length c.pts ≡ slots) where
    pub calls_advance : (counts : Counts) (b : Slices) (ks : List Call) → counts.made ≤ capacity_of (length b.words) (length b.reals) → CalledAll limit n v buffer vw round er tw tr slots counts b ks
        → Advances (turns_asked ks) counts b c (Ok (record { counts = last_counts counts ks; steps = steps_of_calls ks })) (last_left b ks)
    unfolding turns_asked steps_of_calls last_counts last_left CalledAll
    calls_advance counts b [] fits C = advances_not limit n v buffer vw round er tw tr counts b c fits
    calls_advance counts b (k ∷ ks) fits C =
        let A = with_cuts k.most counts b c k.cuts (Ok (record { counts = told_counts k.told; steps = get_or k.told 2 0 })) k.left (C.0.cut_slots ∙ sym cut) (call_advances counts b k C.0) in
        let long = C.0.long in
        let here = subst (λ (z : ℕ). (told_counts k.told).made ≤ z) (λ i. capacity_of (sym long.words i) (sym long.reals i)) A.bounded in
        advances_then limit n v buffer vw round er tw tr k.most (turns_asked ks) counts (told_counts k.told) (get_or k.told 2 0) b k.left c c long refl A
        (Ok (record { counts = last_counts (told_counts k.told) ks; steps = steps_of_calls ks })) (last_left k.left ks) (calls_advance (told_counts k.told) k.left ks here C.1)

    pub calls_long : (counts : Counts) (b : Slices) (ks : List Call) → CalledAll limit n v buffer vw round er tw tr slots counts b ks → AsLong b (last_left b ks)
    unfolding last_left CalledAll
    calls_long counts b [] C = record { edges = refl; words = refl; reals = refl; keys = refl; events = refl }
    calls_long counts b (k ∷ ks) C =
        let g = C.0.long in
        let h = calls_long (told_counts k.told) k.left ks C.1 in
        record { edges = h.edges ∙ g.edges; words = h.words ∙ g.words; reals = h.reals ∙ g.reals; keys = h.keys ∙ g.keys; events = h.events ∙ g.events }

    -- and then one that is refused
    pub calls_stopped : (counts : Counts) (b : Slices) (ks : List Call) (k : Call) (r : ℕ) → counts.made ≤ capacity_of (length b.words) (length b.reals)
        → CalledAll limit n v buffer vw round er tw tr slots counts b ks → 0 < r → (r ≡ 20 → ⊥) → Called limit n v buffer vw round er tw tr slots (last_counts counts ks) (last_left b ks) k r
        → StoppedBy r (λ (lack : Lack). Advances (turns_asked ks + k.most) counts b c (Err lack) k.left)
    calls_stopped counts b ks k r fits C some other D =
        let stop = call_stopped (last_counts counts ks) (last_left b ks) k r some other D in
        record {
          lack = stop.lack;
          number = stop.number;
          advances = advances_then limit n v buffer vw round er tw tr (turns_asked ks) k.most counts (last_counts counts ks) (steps_of_calls ks) b (last_left b ks) c k.cuts (calls_long counts b ks C) (D.cut_slots ∙ sym cut)
              (calls_advance counts b ks fits C) (Err stop.lack) k.left stop.advances;
        }
