-- The loop over the run, turn by turn. Assumes nothing.
use Prim.Native.Nat.{ℕ, suc, ◌≤◌}
use mathlib.Core.Bool.{true, false}
use mathlib.Core.List.{List, [], ◌∷◌, ◌++◌, append_assoc}
use mathlib.Core.Path.{◌≡◌, refl, sym, ap, ◌∙◌, subst}
use native.Mathlib.Omega.{arith}
use lib.ListN.{length}
use lib.Ieee.{Float}
use Rattle.buffers.specs.declared.Lack.{Lack}
use Rattle.buffers.specs.Lack.{lack_number}
use Rattle.float64.specs.Notation.{◌⊕◌}
use Rattle.trim_split.specs.of_better.Stretches.{Interval, better_of}
use Rattle.trim_split.specs.of_better.Buffers.{pairs}
use Rattle.windows.specs.declared.WindowRecord.{WindowRecord}
use Rattle.chains.specs.Chains.{first_link}
use Rattle.actions.specs.Actions.{Action, wins_after, play}
use Rattle.actions.proofs.Play.{play_stop_append}
use Rattle.trim_split.specs.of_trim_model.Windows.{Window}
use Rattle.trim_split.specs.of_trim_model.Add.{Walk, starts_before, visit, visits}
use Rattle.trim_split.proofs.laws_of_trim_model.Turns.{take_yes, take_no, take_nil}
use Rattle.trim_split.specs.of_trim_state.State.{put}
use Rattle.trim_split.specs.of_trim_state.Trace.{visiting, visitings}
use Rattle.trim_split.specs.of_live_windows.Live.{HoldsWindows, nums, last_link, live_of, LinkFollows, Loads}
use Rattle.trim_split.specs.declared.Counts.{Counts}
use Rattle.trim_split.specs.Running.{Snapshot, stock_of, End, stopped, at, Performed, Does}
use Rattle.trim_split.proofs.laws_of_live_windows.Lists.{put_here}
use Rattle.trim_split.proofs.Edges.{holds_equal}
use Rattle.trim_split.proofs.Running.{ran_none, does_then, does_as}
use Rattle.trim_visit.specs.declared.Visited.{Visited}
use Rattle.std.specs.Prelude.{Result, Ok, Err}
use Rattle.trim_visit.specs.Visiting.{from, Kept, Keeps, Visits1, run_onward, walked, VisitsAll}
use Rattle.trim_visit.proofs.Walks.{turn_survivors, turn_keep, turn_made, turn_actions}

-- the first link of a list, by its first window
no_first : (u : Window) (us : List Window) → 0 ≡ first_link (nums (u ∷ us)) → ⊥
unfolding nums first_link
no_first u us h = omega arith

first_num : (i : ℕ) (u : Window) (us : List Window) → suc i ≡ first_link (nums (u ∷ us)) → i ≡ u.num
unfolding nums first_link
first_num i u us h = omega arith

no_last : (i : ℕ) → suc i ≡ first_link (nums []) → ⊥
unfolding nums first_link
no_last i h = omega arith

module _ (cuts windows : ℕ) (limit : Float) (flags : List ℕ) (e : ℕ) (t : Float) (w : Window) (keep : List Interval) (p : Snapshot) where
  abbrev Goal : List Window → Result Visited Lack → End → List Float → Type 0
  Goal zs r end keep' = Does cuts windows limit flags e (visitings e t w (run_onward t w zs) (from keep p.made)) (run_onward t w zs) (walked t w keep p.made zs).survivors p end × Keeps cuts r keep' (walked t w keep p.made zs)

  -- nothing is left to visit
  module _ (c : Counts) (k : ℕ) (keep' : List Float) (isKeep : pairs k keep' ≡ keep) (few : k ≤ cuts) (isMade : c.made ≡ p.made) (fits : p.made ≤ windows) (linked : p.last ≤ p.made) where
    done : (zs : List Window) → run_onward t w zs ≡ [] → Goal zs (Ok (record { counts = c; last = p.last; kept = k })) (at p) keep'
    done zs h =
        subst (λ (l : List Window). Does cuts windows limit flags e (visitings e t w l (from keep p.made)) l (visits better_of t w l (from keep p.made)).survivors p (at p) × Kept cuts c.made k keep' (visits better_of t w l (from keep p.made))) (sym h) nothing
      where
        nothing : Does cuts windows limit flags e (visitings e t w [] (from keep p.made)) [] (visits better_of t w [] (from keep p.made)).survivors p (at p) × Kept cuts c.made k keep' (visits better_of t w [] (from keep p.made))
        nothing = unfold visitings visits in (ran_none cuts windows limit flags e p fits linked, record { count = isMade; keep = isKeep; few = few })

    pub all_spent : VisitsAll cuts windows limit flags e t w (λ zs. length zs ≤ 0) keep p (Ok (record { counts = c; last = p.last; kept = k })) (at p) keep'
    all_spent wins live xs [] n l h = done [] (take_nil (starts_before (w.b1 ⊕ t)))
    all_spent wins live xs (u ∷ us) n l h = let z : ⊥ = omega arith in absurd z

    module _ (left r : ℕ) (follows : LinkFollows p.made p.links e p.last r) where
      pub all_end : r ≡ 0 → VisitsAll cuts windows limit flags e t w (λ zs. length zs ≤ left) keep p (Ok (record { counts = c; last = p.last; kept = k })) (at p) keep'
      all_end z wins live xs [] n l h = done [] (take_nil (starts_before (w.b1 ⊕ t)))
      all_end z wins live xs (u ∷ us) n l h = absurd (no_first u us (sym z ∙ follows.first wins p.reals (put e (xs ++ (u ∷ us)) live) xs (u ∷ us) h (put_here e (xs ++ (u ∷ us)) live) l))

      -- the next window starts behind the new one's end
      pub all_over : (i : ℕ) → r ≡ suc i → (x : WindowRecord) → Loads p.links.words p.reals i x → starts_before (w.b1 ⊕ t) (live_of x i) ≡ false → VisitsAll cuts windows limit flags e t w (λ zs. length zs ≤ left) keep p (Ok (record { counts = c; last = p.last; kept = k })) (at p) keep'
      all_over i z x loads b wins live xs [] n l h = absurd (no_last i (sym z ∙ follows.first wins p.reals (put e (xs ++ []) live) xs [] h (put_here e (xs ++ []) live) l))
      all_over i z x loads b wins live xs (u ∷ us) n l h =
          let f = first_num i u us (sym z ∙ follows.first wins p.reals (put e (xs ++ (u ∷ us)) live) xs (u ∷ us) h (put_here e (xs ++ (u ∷ us)) live) l) in
          let v = (loads.live p.made wins p.links.edges e (put e (xs ++ (u ∷ us)) live) xs u us h (put_here e (xs ++ (u ∷ us)) live) f).0 in
          done (u ∷ us) (take_no (starts_before (w.b1 ⊕ t)) u us (subst (λ (y : Window). starts_before (w.b1 ⊕ t) y ≡ false) v b))

  -- a window is visited
  module _ (left r : ℕ) (follows : LinkFollows p.made p.links e p.last r) (i : ℕ) (z : r ≡ suc i) (x : WindowRecord) (loads : Loads p.links.words p.reals i x) (b : starts_before (w.b1 ⊕ t) (live_of x i) ≡ true) where
    abbrev u : Window
    u = live_of x i

    abbrev turned : Walk
    turned = visit better_of t w u (from keep p.made)

    -- what is known of the list, and so of what stands there
    module _ (r' : Result Visited Lack) (end : End) (keep' : List Float) (each : (wins : List WindowRecord) (live : ℕ → List Window) (xs zs : List Window) → length (u ∷ zs) ≤ left → p.last ≡ last_link xs → HoldsWindows p.made wins p.links p.reals (put e (xs ++ (u ∷ zs)) live) → Goal (u ∷ zs) r' end keep') where
      pub all_there : VisitsAll cuts windows limit flags e t w (λ zs. length zs ≤ left) keep p r' end keep'
      all_there wins live xs [] n l h = absurd (no_last i (sym z ∙ follows.first wins p.reals (put e (xs ++ []) live) xs [] h (put_here e (xs ++ []) live) l))
      all_there wins live xs (v ∷ zs) n l h =
          let f = first_num i v zs (sym z ∙ follows.first wins p.reals (put e (xs ++ (v ∷ zs)) live) xs (v ∷ zs) h (put_here e (xs ++ (v ∷ zs)) live) l) in
          let s = (loads.live p.made wins p.links.edges e (put e (xs ++ (v ∷ zs)) live) xs v zs h (put_here e (xs ++ (v ∷ zs)) live) f).0 in
          subst (λ (y : Window). Goal (y ∷ zs) r' end keep') s
          (each wins live xs zs n l (subst (λ (y : Window). HoldsWindows p.made wins p.links p.reals (put e (xs ++ (y ∷ zs)) live)) (sym s) h))

    first_of : (zs : List Window) → run_onward t w (u ∷ zs) ≡ u ∷ run_onward t w zs
    first_of zs = take_yes (starts_before (w.b1 ⊕ t)) u zs b

    -- it is stopped there
    pub all_stop : (n : Lack) (keep' : List Float) → Visits1 cuts windows limit flags e t w keep u p (stopped (lack_number n)) → VisitsAll cuts windows limit flags e t w (λ zs. length zs ≤ left) keep p (Err n) (stopped (lack_number n)) keep'
    all_stop n keep' d = all_there (Err n) (stopped (lack_number n)) keep'
        (λ wins live xs zs q l h. (ap (λ (ys : List Window). play cuts windows limit flags (visitings e t w ys (from keep p.made)) (stock_of p)) (first_of zs) ∙ ap (λ (ys : List Action). play cuts windows limit flags ys (stock_of p)) (turn_actions e t w u (run_onward t w zs) keep p.made) ∙ play_stop_append cuts windows limit flags (visiting e t w u (from keep p.made)) (visitings e t w (run_onward t w zs) (from turned.keep turned.made)) (stock_of p) (lack_number n) d, tt))

    -- it goes on from there
    module _ (p1 : Snapshot) (ran : Performed cuts windows limit flags e (visiting e t w u (from keep p.made)) (u ∷ []) turned.survivors p p1) (isMade : p1.made ≡ turned.made) (keep1 : List Interval) (isKeep : keep1 ≡ turned.keep)
        (left1 : ℕ) (less : left ≡ suc left1) (r' : Result Visited Lack) (end : End) (keep' : List Float) (rest : VisitsAll cuts windows limit flags e t w (λ zs. length zs ≤ left1) keep1 p1 r' end keep') where
      restart : (zs : List Window) → Does cuts windows limit flags e (visitings e t w (run_onward t w zs) (from keep1 p1.made)) (run_onward t w zs) (walked t w keep1 p1.made zs).survivors p1 end × Keeps cuts r' keep' (walked t w keep1 p1.made zs)
          → Does cuts windows limit flags e (visitings e t w (run_onward t w zs) (from turned.keep turned.made)) (run_onward t w zs) (walked t w turned.keep turned.made zs).survivors p1 end × Keeps cuts r' keep' (walked t w turned.keep turned.made zs)
      restart zs = subst (λ (s : Walk). Does cuts windows limit flags e (visitings e t w (run_onward t w zs) (from keep1 p1.made)) (run_onward t w zs) (walked t w keep1 p1.made zs).survivors p1 end × Keeps cuts r' keep' (walked t w keep1 p1.made zs) → Does cuts windows limit flags e (visitings e t w (run_onward t w zs) s) (run_onward t w zs) (visits better_of t w (run_onward t w zs) s).survivors p1 end × Keeps cuts r' keep' (visits better_of t w (run_onward t w zs) s)) same (λ d. d)
        where
          same : from keep1 p1.made ≡ from turned.keep turned.made
          same = rw (isKeep, isMade)

      keeps_on : (us : List Window) → Keeps cuts r' keep' (visits better_of t w us (from turned.keep turned.made)) → Keeps cuts r' keep' (visits better_of t w (u ∷ us) (from keep p.made))
      keeps_on us = on r'
        where
          on : (v : Result Visited Lack) → Keeps cuts v keep' (visits better_of t w us (from turned.keep turned.made)) → Keeps cuts v keep' (visits better_of t w (u ∷ us) (from keep p.made))
          on (Err n) d = tt
          on (Ok v) d = record { count = d.count ∙ sym (turn_made e t w u us keep p.made); keep = d.keep ∙ sym (turn_keep e t w u us keep p.made); few = d.few }

      joined : (zs : List Window) → Does cuts windows limit flags e (visitings e t w (run_onward t w zs) (from turned.keep turned.made)) (run_onward t w zs) (walked t w turned.keep turned.made zs).survivors p1 end × Keeps cuts r' keep' (walked t w turned.keep turned.made zs) → Goal (u ∷ zs) r' end keep'
      joined zs d =
          let us = run_onward t w zs in
          subst (λ (l : List Window). Does cuts windows limit flags e (visitings e t w l (from keep p.made)) l (visits better_of t w l (from keep p.made)).survivors p end × Keeps cuts r' keep' (visits better_of t w l (from keep p.made))) (sym (first_of zs)) (
            does_as cuts windows limit flags e p end (sym (turn_actions e t w u us keep p.made)) refl (sym (turn_survivors e t w u us keep p.made))
                (does_then cuts windows limit flags e (visiting e t w u (from keep p.made)) (visitings e t w us (from turned.keep turned.made)) (u ∷ []) us turned.survivors (walked t w turned.keep turned.made zs).survivors p p1 ran end d.0),
            keeps_on us d.1,
          )

      pub all_turn : VisitsAll cuts windows limit flags e t w (λ zs. length zs ≤ left) keep p r' end keep'
      all_turn = all_there r' end keep'
          (λ wins live xs zs n l h. joined zs (restart zs (rest (wins_after (visiting e t w u (from keep p.made)) wins) live (xs ++ turned.survivors) zs (omega arith) (ran.after xs l)
          (holds_equal p1.made (wins_after (visiting e t w u (from keep p.made)) wins) p1.links p1.reals e (xs ++ (turned.survivors ++ zs)) ((xs ++ turned.survivors) ++ zs) live (sym (append_assoc xs turned.survivors zs)) (ran.holds wins live xs zs l h)))))
