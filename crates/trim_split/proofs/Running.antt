-- Parts of `add` one after the other. Assumes nothing.
use Prim.Native.Nat.{ℕ, ◌≤◌}
use mathlib.Core.List.{List, [], ◌++◌, append_assoc, append-nil}
use mathlib.Core.Path.{◌≡◌, sym, ap, ◌∙◌, subst}
use lib.Ieee.{Float}
use Rattle.windows.specs.declared.WindowRecord.{WindowRecord}
use Rattle.actions.specs.Actions.{Action, wins_after}
use Rattle.actions.proofs.Play.{wins_none, wins_append, play_nil, play_go_append}
use Rattle.cut_lists.specs.of_trim_model.Windows.{Window}
use Rattle.live_windows.specs.of_trim_state.State.{put}
use Rattle.live_windows.specs.Live.{HoldsWindows, last_link}
use Rattle.trim_split.specs.Running.{Snapshot, stock_of, End, stopped, at, Performed, Does}
use Rattle.trim_split.proofs.Edges.{holds_equal}
use Rattle.trim_split.proofs.Untouched.{untouched_same, untouched_then}

-- old windows between the first and the rest, and what stands for them
regroup : (xs n o zs : List Window) → xs ++ (n ++ (o ++ zs)) ≡ (xs ++ n) ++ (o ++ zs)
regroup xs n o zs = sym (append_assoc xs n (o ++ zs))

module _ (cuts windows : ℕ) (limit : Float) (flags : List ℕ) (e : ℕ) where
  abbrev Runs : List Action → List Window → List Window → Snapshot → Snapshot → Type 0
  Runs = Performed cuts windows limit flags e

  -- nothing is done
  pub ran_none : (p : Snapshot) → p.made ≤ windows → p.last ≤ p.made → Runs [] [] [] p p
  ran_none p i l = record {
    fits = i;
    linked = l;
    plays = play_nil cuts windows limit flags (stock_of p);
    holds = λ wins live xs zs k h. subst (λ (ws : List WindowRecord). HoldsWindows p.made ws p.links p.reals (put e (xs ++ zs) live)) (sym (wins_none wins)) h;
    untouched = untouched_same (λ k. k ≡ e) p p.queued p.last p.queue p.vertex;
    after = λ xs k. k ∙ ap last_link (sym (append-nil xs));
  }

  module _ (us vs : List Action) (o1 o2 n1 n2 : List Window) (p p1 : Snapshot) (first : Runs us o1 n1 p p1) where
    pub ran_then : (p2 : Snapshot) → Runs vs o2 n2 p1 p2 → Runs (us ++ vs) (o1 ++ o2) (n1 ++ n2) p p2
    ran_then p2 second = record {
      fits = second.fits;
      linked = second.linked;
      plays = play_go_append cuts windows limit flags us vs (stock_of p) (stock_of p1) first.plays ∙ second.plays;
      holds = λ wins live xs zs k h.
          let a = holds_equal p.made wins p.links p.reals e (xs ++ ((o1 ++ o2) ++ zs)) (xs ++ (o1 ++ (o2 ++ zs))) live (ap (λ (l : List Window). xs ++ l) (append_assoc o1 o2 zs)) h in
          let b = holds_equal p1.made (wins_after us wins) p1.links p1.reals e (xs ++ (n1 ++ (o2 ++ zs))) ((xs ++ n1) ++ (o2 ++ zs)) live (regroup xs n1 o2 zs) (first.holds wins live xs (o2 ++ zs) k a) in
          subst (λ (ws : List WindowRecord). HoldsWindows p2.made ws p2.links p2.reals (put e (xs ++ ((n1 ++ n2) ++ zs)) live)) (sym (wins_append us vs wins))
          (holds_equal p2.made (wins_after vs (wins_after us wins)) p2.links p2.reals e ((xs ++ n1) ++ (n2 ++ zs)) (xs ++ ((n1 ++ n2) ++ zs)) live (append_assoc xs n1 (n2 ++ zs) ∙ ap (λ (l : List Window). xs ++ l) (sym (append_assoc n1 n2 zs)))
          (second.holds (wins_after us wins) live (xs ++ n1) zs (first.after xs k) b));
      untouched = untouched_then (λ k. k ≡ e) p p1 p2 first.untouched second.untouched;
      after = λ xs k. second.after (xs ++ n1) (first.after xs k) ∙ ap last_link (append_assoc xs n1 n2);
    }

    pub does_then : (end : End) → Does cuts windows limit flags e vs o2 n2 p1 end → Does cuts windows limit flags e (us ++ vs) (o1 ++ o2) (n1 ++ n2) p end
    does_then (stopped n) h = play_go_append cuts windows limit flags us vs (stock_of p) (stock_of p1) first.plays ∙ h
    does_then (at p2) h = ran_then p2 h

  -- the same, told otherwise
  pub does_as : {us vs : List Action} {old old' new new' : List Window} (p : Snapshot) (end : End) → us ≡ vs → old ≡ old' → new ≡ new' → Does cuts windows limit flags e us old new p end → Does cuts windows limit flags e vs old' new' p end
  does_as {us} {vs} {old} {old'} {new} {new'} p end h i j d =
      subst (λ (l : List Action). Does cuts windows limit flags e l old' new' p end) h
      (subst (λ (l : List Window). Does cuts windows limit flags e us l new' p end) i
      (subst (λ (l : List Window). Does cuts windows limit flags e us old l p end) j d))
