-- One turn of the walk: the ways that it can go. Assumes nothing.
use Prim.Native.Nat.{ℕ, suc, ◌+◌, ◌≤◌, ◌<◌, pred}
use mathlib.Core.Bool.{Bool, true, false}
use mathlib.Core.List.{List, [], ◌∷◌, ◌++◌, map}
use mathlib.Core.Logic.{inl, inr}
use mathlib.Core.Path.{◌≡◌, refl, sym, ap, ◌∙◌, subst}
use native.Mathlib.Decide.{dec_le}
use native.Mathlib.Nat.{le_refl}
use native.Mathlib.Omega.{arith}
use lib.ListN.{length}
use lib.Ieee.{Float, le}
use borrow.Author.Tests.{le-leb, lt-leb}
use Rattle.trim_split.specs.of_better.Points.{pts_of, walk_of}
use Rattle.trim_split.specs.of_better.Stretches.{Interval, better_of}
use Rattle.trim_split.specs.of_better.Buffers.{pairs}
use Rattle.trim_split.specs.of_better.Claim.{All}
use Rattle.actions.specs.Actions as actions
use Rattle.windows.specs.declared.WindowRecord.{WindowRecord}
use Rattle.actions.specs.Actions.{Action, list, wins_after, Stock, act, play}
use Rattle.actions.proofs.Play.{wins_none, play_nil, play_stop, play_go}
use Rattle.trim_split.specs.of_trim_model.Intervals.{width, next, pieces}
use Rattle.trim_split.specs.of_trim_model.Windows.{Window, split}
use Rattle.trim_split.specs.of_trim_model.Add.{Walk, shared_lo, shared_hi, meet, visit}
use Rattle.trim_split.specs.of_trim_model.Claim.{Any}
use Rattle.trim_split.proofs.laws_of_trim_model.Turns.{visit_untouched, visit_meet, meet_none, meet_some}
use Rattle.trim_split.specs.of_trim_state.State.{put}
use Rattle.trim_split.specs.of_trim_state.Trace.{splitting, losing, visiting}
use Rattle.trim_split.proofs.laws_of_trim_state.Turns.{visiting_untouched, visiting_met, losing_none, losing_some}
use Rattle.trim_split.specs.of_live_windows.Live.{HoldsWindows, last_link}
use Rattle.trim_split.specs.of_cut_lists.Cut.{loss_lengths, lengths}
use Rattle.trim_split.specs.Running.{Snapshot, stock_of, End, stopped, at, Performed, Does}
use Rattle.trim_split.proofs.laws_of_live_windows.Lists.{last_snoc}
use Rattle.trim_split.proofs.Untouched.{untouched_same}
use Rattle.trim_visit.specs.Visiting.{from, Kept}

-- lists that come to so many entries
abbrev lists : List ℕ → List Action
lists = map list

module _ (cuts windows : ℕ) (limit : Float) (flags : List ℕ) (s : Stock) where
  abbrev played : List Action → actions.Outcome
  played todo = play cuts windows limit flags todo s

  list_go : (n : ℕ) (rest : List Action) → n ≤ cuts → played (list n ∷ rest) ≡ played rest
  list_go n rest h = play_go cuts windows limit flags (list n) rest s s go
    where
      go : act cuts windows limit flags (list n) s ≡ actions.went s
      go = unfold act in rw (le-leb n cuts h)

  list_stop : (n : ℕ) (rest : List Action) → cuts < n → played (list n ∷ rest) ≡ actions.stopped 14
  list_stop n rest h = play_stop cuts windows limit flags (list n) rest s 14 stop
    where
      stop : act cuts windows limit flags (list n) s ≡ actions.stopped 14
      stop = unfold act in rw (lt-leb n cuts h)

  -- all fit
  lists_go : (ns : List ℕ) (rest : List Action) → All (λ (n : ℕ). n ≤ cuts) ns → played (lists ns ++ rest) ≡ played rest
  lists_go [] rest h = refl
  lists_go (n ∷ ns) rest h = list_go n (lists ns ++ rest) h.0 ∙ lists_go ns rest h.1

  -- some does not
  lists_stop : (ns : List ℕ) (rest : List Action) → Any (λ (n : ℕ). cuts < n) ns → played (lists ns ++ rest) ≡ actions.stopped 14
  lists_stop [] rest x' = elim x' [ ]
  lists_stop (n ∷ ns) rest (inl h) = list_stop n (lists ns ++ rest) h
  lists_stop (n ∷ ns) rest (inr h) = elim (dec_le n cuts) [
    | yes i ↦ list_go n (lists ns ++ rest) i ∙ lists_stop ns rest h
    | no i ↦ list_stop n (lists ns ++ rest) (omega arith)
  ]

-- lists that grow change no window
lists_wins : (ns : List ℕ) (rest : List Action) (wins : List WindowRecord) → wins_after (lists ns ++ rest) wins ≡ wins_after rest wins
unfolding wins_after
lists_wins [] rest wins = refl
lists_wins (n ∷ ns) rest wins = lists_wins ns rest wins

-- what is done to u where there are stretches
unfoldable lost : ℕ → Window → ℕ → Float → List Interval → List Action
lost e u n t [] = []
lost e u n t (g ∷ gs) = splitting e u n (pieces t u.b0 u.b1 (g ∷ gs))

losing_lists : (e : ℕ) (t : Float) (u : Window) (n : ℕ) (gs : List Interval) → losing e t u n gs ≡ lists (loss_lengths u.b0 u.b1 t gs) ++ lost e u n t gs
unfolding loss_lengths lost
losing_lists e t u n [] = losing_none e t u n
losing_lists e t u n (g ∷ gs) = losing_some e t u n g gs

-- u is cut, or it is not, by whether there are stretches
abbrev left_of : Window → ℕ → Float → List Interval → List Window
left_of u n t [] = u ∷ []
left_of u n t (g ∷ gs) = split u n (pieces t u.b0 u.b1 (g ∷ gs))

abbrev count_of : Window → ℕ → Float → List Interval → ℕ
count_of u n t [] = n
count_of u n t (g ∷ gs) = n + pred (length (pieces t u.b0 u.b1 (g ∷ gs)))

meet_survivors : (t : Float) (u : Window) (lo hi : Float) (gs : List Interval) (keep : List Interval) (made : ℕ) → (meet t u lo hi gs (from keep made)).survivors ≡ left_of u made t gs
meet_survivors t u lo hi [] keep made = ap (λ (s : Walk). s.survivors) (meet_none t u lo hi (from keep made))
meet_survivors t u lo hi (g ∷ gs) keep made = ap (λ (s : Walk). s.survivors) (meet_some t u lo hi g gs (from keep made))

meet_made : (t : Float) (u : Window) (lo hi : Float) (gs : List Interval) (keep : List Interval) (made : ℕ) → (meet t u lo hi gs (from keep made)).made ≡ count_of u made t gs
meet_made t u lo hi [] keep made = ap (λ (s : Walk). s.made) (meet_none t u lo hi (from keep made))
meet_made t u lo hi (g ∷ gs) keep made = ap (λ (s : Walk). s.made) (meet_some t u lo hi g gs (from keep made))

meet_keep : (t : Float) (u : Window) (lo hi : Float) (gs : List Interval) (keep : List Interval) (made : ℕ) → (meet t u lo hi gs (from keep made)).keep ≡ next lo hi gs keep
meet_keep t u lo hi [] keep made = ap (λ (s : Walk). s.keep) (meet_none t u lo hi (from keep made))
meet_keep t u lo hi (g ∷ gs) keep made = ap (λ (s : Walk). s.keep) (meet_some t u lo hi g gs (from keep made))

-- no window is lost
grows : (u : Window) (n : ℕ) (t : Float) (gs : List Interval) → n ≤ count_of u n t gs
grows u n t [] = le_refl n
grows u n t (g ∷ gs) = omega arith

pub visit_grows : (t : Float) (w u : Window) (keep : List Interval) (made : ℕ) → made ≤ (visit better_of t w u (from keep made)).made
visit_grows t w u keep made = cases (le (width (shared_lo w u) (shared_hi w u)) t) refl
  where
    cases : (b : Bool) → le (width (shared_lo w u) (shared_hi w u)) t ≡ b → made ≤ (visit better_of t w u (from keep made)).made
    cases true h = subst (λ (n : ℕ). made ≤ n) (sym (ap (λ (s : Walk). s.made) (visit_untouched better_of t w u (from keep made) h))) (le_refl made)
    cases false h =
        let gs = better_of w.src u.src (shared_lo w u) (shared_hi w u) in
        subst (λ (n : ℕ). made ≤ n) (sym (ap (λ (s : Walk). s.made) (visit_meet better_of t w u (from keep made) h) ∙ meet_made t u (shared_lo w u) (shared_hi w u) gs keep made)) (grows u made t gs)

-- a window that stays as it is
module _ (cuts windows : ℕ) (limit : Float) (flags : List ℕ) (e : ℕ) (p : Snapshot) (u : Window) (inside : u.num < p.made) (fits : p.made ≤ windows) where
  abbrev passed : Snapshot
  passed = record { made = p.made; queued = p.queued; last = suc u.num; links = p.links; reals = p.reals; queue = p.queue; vertex = p.vertex }

  pub pass_ran : (todo : List Action) → play cuts windows limit flags todo (stock_of p) ≡ actions.went (stock_of p) → ((wins : List WindowRecord) → wins_after todo wins ≡ wins) → Performed cuts windows limit flags e todo (u ∷ []) (u ∷ []) p passed
  pass_ran todo h same = record {
    fits = fits;
    linked = inside;
    plays = h;
    holds = λ wins live xs zs l k. subst (λ (ws : List WindowRecord). HoldsWindows p.made ws p.links p.reals (put e (xs ++ (u ∷ zs)) live)) (sym (same wins)) k;
    untouched = untouched_same (λ k. k ≡ e) p p.queued (suc u.num) p.queue p.vertex;
    after = λ xs l. sym (last_snoc xs u);
  }

module _ (cuts windows : ℕ) (limit : Float) (flags : List ℕ) (e : ℕ) (t : Float) (w u : Window) (keep : List Interval) (p : Snapshot) where
  abbrev Turn : End → Type 0
  Turn = Does cuts windows limit flags e (visiting e t w u (from keep p.made)) (u ∷ []) (visit better_of t w u (from keep p.made)).survivors p

  abbrev lo : Float
  lo = shared_lo w u

  abbrev hi : Float
  hi = shared_hi w u

  abbrev gs : List Interval
  gs = better_of w.src u.src lo hi

  abbrev counts : List ℕ
  counts = lengths w.src u.src lo hi u.b0 u.b1 t keep

  -- what they share is no wider than tiny
  module _ (h : le (width lo hi) t ≡ true) where
    pub turn_untouched : (inside : u.num < p.made) (fits : p.made ≤ windows) → Turn (at (passed cuts windows limit flags e p u inside fits))
    turn_untouched inside fits =
        subst (λ (l : List Action). Does cuts windows limit flags e l (u ∷ []) (visit better_of t w u (from keep p.made)).survivors p (at (passed cuts windows limit flags e p u inside fits))) (sym (visiting_untouched e t w u (from keep p.made) h))
        (subst (λ (l : List Window). Does cuts windows limit flags e [] (u ∷ []) l p (at (passed cuts windows limit flags e p u inside fits))) (sym (ap (λ (s : Walk). s.survivors) (visit_untouched better_of t w u (from keep p.made) h)))
        (pass_ran cuts windows limit flags e p u inside fits [] (play_nil cuts windows limit flags (stock_of p)) wins_none))

    pub kept_untouched : (k : ℕ) (l : List Float) → k ≤ cuts → pairs k l ≡ keep → Kept cuts p.made k l (visit better_of t w u (from keep p.made))
    kept_untouched k l i j =
        let v = visit_untouched better_of t w u (from keep p.made) h in
        record { count = sym (ap (λ (s : Walk). s.made) v); keep = j ∙ sym (ap (λ (s : Walk). s.keep) v); few = i }

  -- it is wider
  module _ (h : le (width lo hi) t ≡ false) where
    met_actions : visiting e t w u (from keep p.made) ≡ lists counts ++ lost e u p.made t gs
    unfolding lengths
    met_actions = visiting_met e t w u (from keep p.made) h ∙ ap (λ (l : List Action). list (length (walk_of w.src u.src (pts_of w.src u.src lo hi))) ∷ list (length gs) ∷ list (length (next lo hi gs keep)) ∷ l) (losing_lists e t u p.made gs)

    met_is : visit better_of t w u (from keep p.made) ≡ meet t u lo hi gs (from keep p.made)
    met_is = visit_meet better_of t w u (from keep p.made) h

    met_left : (visit better_of t w u (from keep p.made)).survivors ≡ left_of u p.made t gs
    met_left = ap (λ (s : Walk). s.survivors) met_is ∙ meet_survivors t u lo hi gs keep p.made

    met_count : (visit better_of t w u (from keep p.made)).made ≡ count_of u p.made t gs
    met_count = ap (λ (s : Walk). s.made) met_is ∙ meet_made t u lo hi gs keep p.made

    met_keep : (visit better_of t w u (from keep p.made)).keep ≡ next lo hi gs keep
    met_keep = ap (λ (s : Walk). s.keep) met_is ∙ meet_keep t u lo hi gs keep p.made

    -- a list outgrew its buffer
    pub turn_full : Any (λ (n : ℕ). cuts < n) counts → Turn (stopped 14)
    turn_full a = ap (λ (l : List Action). play cuts windows limit flags l (stock_of p)) met_actions ∙ lists_stop cuts windows limit flags (stock_of p) counts (lost e u p.made t gs) a

    module _ (fit : All (λ (n : ℕ). n ≤ cuts) counts) where
      played_rest : play cuts windows limit flags (visiting e t w u (from keep p.made)) (stock_of p) ≡ play cuts windows limit flags (lost e u p.made t gs) (stock_of p)
      played_rest = ap (λ (l : List Action). play cuts windows limit flags l (stock_of p)) met_actions ∙ lists_go cuts windows limit flags (stock_of p) counts (lost e u p.made t gs) fit

      wins_rest : (wins : List WindowRecord) → wins_after (visiting e t w u (from keep p.made)) wins ≡ wins_after (lost e u p.made t gs) wins
      wins_rest wins = ap (λ (l : List Action). wins_after l wins) met_actions ∙ lists_wins counts (lost e u p.made t gs) wins

      -- the new window is nowhere shorter
      pub turn_none : length gs ≡ 0 → (inside : u.num < p.made) (fits : p.made ≤ windows) → Turn (at (passed cuts windows limit flags e p u inside fits))
      turn_none z inside fits =
          subst (λ (l : List Window). Does cuts windows limit flags e (visiting e t w u (from keep p.made)) (u ∷ []) l p (at (passed cuts windows limit flags e p u inside fits))) (sym (met_left ∙ whole gs z))
          (pass_ran cuts windows limit flags e p u inside fits (visiting e t w u (from keep p.made)) (played_rest ∙ ap (λ (l : List Action). play cuts windows limit flags l (stock_of p)) (nothing gs z) ∙ play_nil cuts windows limit flags (stock_of p)) (λ wins. wins_rest wins ∙ ap (λ (l : List Action). wins_after l wins) (nothing gs z) ∙ wins_none wins))
        where
          whole : (l : List Interval) → length l ≡ 0 → left_of u p.made t l ≡ u ∷ []
          whole [] y = refl
          whole (g ∷ l) y = let c : ⊥ = omega arith in absurd c

          nothing : (l : List Interval) → length l ≡ 0 → lost e u p.made t l ≡ []
          nothing [] y = unfold lost in refl
          nothing (g ∷ l) y = let c : ⊥ = omega arith in absurd c

      pub kept_none : length gs ≡ 0 → (k : ℕ) (l : List Float) → k ≤ cuts → pairs k l ≡ next lo hi gs keep → Kept cuts p.made k l (visit better_of t w u (from keep p.made))
      kept_none z k l i j = record { count = sym (met_count ∙ same gs z); keep = j ∙ sym met_keep; few = i }
        where
          same : (l : List Interval) → length l ≡ 0 → count_of u p.made t l ≡ p.made
          same [] y = refl
          same (g ∷ l) y = let c : ⊥ = omega arith in absurd c

      -- it is: u is split
      lost_some : (l : List Interval) → 0 < length l → lost e u p.made t l ≡ splitting e u p.made (pieces t u.b0 u.b1 l)
      unfolding lost
      lost_some [] y = let c : ⊥ = omega arith in absurd c
      lost_some (g ∷ l) y = refl

      pub turn_split : (ps : List Interval) → ps ≡ pieces t u.b0 u.b1 gs → 0 < length gs → (end : End) → Does cuts windows limit flags e (splitting e u p.made ps) (u ∷ []) (split u p.made ps) p end → Turn end
      turn_split ps is z (stopped n) d = played_rest ∙ ap (λ (l : List Action). play cuts windows limit flags l (stock_of p)) (lost_some gs z ∙ ap (splitting e u p.made) (sym is)) ∙ d
      turn_split ps is z (at p') d = record {
        fits = d.fits;
        linked = d.linked;
        plays = played_rest ∙ ap (λ (l : List Action). play cuts windows limit flags l (stock_of p)) (lost_some gs z ∙ ap (splitting e u p.made) (sym is)) ∙ d.plays;
        holds = λ wins live xs zs l k.
            let ws : wins_after (visiting e t w u (from keep p.made)) wins ≡ wins_after (splitting e u p.made ps) wins = wins_rest wins ∙ ap (λ (l : List Action). wins_after l wins) (lost_some gs z ∙ ap (splitting e u p.made) (sym is)) in
            subst (λ (vs : List WindowRecord). HoldsWindows p'.made vs p'.links p'.reals (put e (xs ++ ((visit better_of t w u (from keep p.made)).survivors ++ zs)) live)) (sym ws)
            (subst (λ (ys : List Window). HoldsWindows p'.made (wins_after (splitting e u p.made ps) wins) p'.links p'.reals (put e (xs ++ (ys ++ zs)) live)) (sym same) (d.holds wins live xs zs l k));
        untouched = d.untouched;
        after = λ xs l. d.after xs l ∙ ap (λ (ys : List Window). last_link (xs ++ ys)) (sym same);
      }
        where
          parts : (l : List Interval) → 0 < length l → left_of u p.made t l ≡ split u p.made (pieces t u.b0 u.b1 l)
          parts [] y = let c : ⊥ = omega arith in absurd c
          parts (g ∷ l) y = refl

          same : (visit better_of t w u (from keep p.made)).survivors ≡ split u p.made ps
          same = met_left ∙ parts gs z ∙ ap (split u p.made) (sym is)

      pub kept_split : (ps : List Interval) → ps ≡ pieces t u.b0 u.b1 gs → 0 < length gs → (made' k : ℕ) (l : List Float) → made' ≡ p.made + pred (length ps) → k ≤ cuts → pairs k l ≡ next lo hi gs keep → Kept cuts made' k l (visit better_of t w u (from keep p.made))
      kept_split ps is z made' k l c i j = record { count = c ∙ ap (λ (x : List Interval). p.made + pred (length x)) is ∙ sym (met_count ∙ more gs z); keep = j ∙ sym met_keep; few = i }
        where
          more : (l : List Interval) → 0 < length l → count_of u p.made t l ≡ p.made + pred (length (pieces t u.b0 u.b1 l))
          more [] y = let c : ⊥ = omega arith in absurd c
          more (g ∷ l) y = refl
