-- The parts of `add` put together: past the windows before the run, over the run, and from its start once more to seat the new windows. Assumes nothing.
use Prim.Native.Nat.{ℕ, ◌≤◌, ◌<◌}
use mathlib.Core.List.{List, [], ◌∷◌, ◌++◌}
use mathlib.Core.Path.{◌≡◌, refl, sym, ap, ◌∙◌, subst}
use native.Mathlib.Omega.{arith}
use lib.ListN.{length, length-append}
use lib.Ieee.{Float}
use borrow.Author.Tests.{le-leb, lt-leb}
use Rattle.buffers.specs.declared.Lack.{Lack}
use Rattle.buffers.specs.Lack.{lack_number}
use Rattle.float64.specs.Notation.{◌⊕◌}
use Rattle.trim_visit.specs.of_better.Stretches.{Interval, interval, better_of}
use Rattle.trim_visit.specs.of_better.Buffers.{pairs}
use Rattle.heap.specs.Queue.{Queue}
use Rattle.chains.specs.Chains.{Links, head_of}
use Rattle.actions.specs.Actions as actions
use Rattle.windows.specs.declared.Edge.{Edge}
use Rattle.windows.specs.declared.WindowRecord.{WindowRecord}
use Rattle.actions.specs.Actions.{Action, list, wins_after, Stock, Outcome, act, play}
use Rattle.actions.proofs.Play.{wins_append, play_go, play_stop, play_go_append, play_stop_append}
use Rattle.trim_visit.specs.of_trim_model.Intervals.{tiny_of, wide_of}
use Rattle.trim_visit.specs.of_trim_model.Windows.{Window, fresh, take_while}
use Rattle.trim_visit.specs.of_trim_model.Add.{Walk, starts_before, passes, start, visits, add_to}
use Rattle.trim_visit.proofs.laws_of_trim_model.Ranks.{Nonneg}
use Rattle.trim_visit.proofs.laws_of_trim_model.Windows.{Wide}
use Rattle.trim_visit.proofs.laws_of_trim_model.Lists.{take_drop}
use Rattle.trim_visit.proofs.laws_of_trim_model.Order.{Tidy}
use Rattle.trim_visit.proofs.laws_of_trim_model.Turns.{run_is}
use Rattle.trim_visit.specs.of_trim_model.Seat.{seat_all}
use Rattle.trim_visit.specs.of_trim_state.State as state
use Rattle.trim_visit.specs.of_trim_state.State.{Result, put, finish}
use Rattle.trim_visit.specs.of_trim_state.Trace.{visitings, keeping, adding}
use Rattle.trim_visit.proofs.laws_of_trim_state.Turns.{adding_is}
use Rattle.trim_visit.proofs.laws_of_trim_state.Seated.{passed, reached, beyond, walked, walk_seated}
use Rattle.trim_visit.specs.of_live_windows.Live.{HoldsWindows, nums, last_link}
use Rattle.trim_visit.proofs.laws_of_live_windows.Places.{short}
use Rattle.trim_visit.specs.of_trim_split.Running.{Snapshot, snapshot, stock_of, End, stopped, at, Performed, Untouched}
use Rattle.trim_visit.specs.of_trim_split.declared.Counts.{Counts}
use Rattle.trim_visit.proofs.laws_of_trim_split.Edges.{holds_put, holds_equal}
use Rattle.trim_visit.proofs.laws_of_trim_split.Untouched.{untouched_then}
use Rattle.std.specs.Prelude.{Ok, Err}
use Rattle.trim_visit.specs.Visiting.{VisitsAll, Kept}
use Rattle.trim_keep.specs.Keeping.{Seats, SeatsAmong}
use Rattle.trim.specs.Adding.{LeavesState, SaysResult}

-- ---- lists
nums_length : (us : List Window) → length (nums us) ≡ length us
unfolding nums
nums_length [] = refl
nums_length (u ∷ us) = omega (arith, nums_length us)

part_few : (xs zs us : List Window) (n : ℕ) → xs ++ zs ≡ us → length us ≤ n → length zs ≤ n
part_few xs zs us n h i = omega (arith, length-append xs zs, ap length h, i)

module _ (cuts windows : ℕ) (limit : Float) (flags : List ℕ) (e : Edge) (w : Window) (made queued : ℕ) (lk : Links) (f : List Float) (q : Queue) (vertex : List Float) where
  abbrev t : Float
  t = tiny_of e.len

  abbrev id : ℕ
  id = e.id.0

  abbrev stock₀ : Stock
  stock₀ = actions.stock made queued q vertex

  abbrev played : List Action → Stock → Outcome
  played = play cuts windows limit flags

  list_go : (rest : List Action) → 0 < cuts → played (list 1 ∷ rest) stock₀ ≡ played rest stock₀
  list_go rest h = play_go cuts windows limit flags (list 1) rest stock₀ stock₀ go
    where
      go : act cuts windows limit flags (list 1) stock₀ ≡ actions.went stock₀
      go = unfold act in rw (le-leb 1 cuts h)

  list_stop : (rest : List Action) → cuts ≡ 0 → played (list 1 ∷ rest) stock₀ ≡ actions.stopped 14
  list_stop rest h = play_stop cuts windows limit flags (list 1) rest stock₀ 14 stop
    where
      stop : act cuts windows limit flags (list 1) stock₀ ≡ actions.stopped 14
      stop = unfold act in rw (lt-leb 1 cuts (omega (arith, h)))

  module _ (wins : List WindowRecord) (live : ℕ → List Window) (hold : HoldsWindows made wins lk f live) (t0 : Nonneg t) (W : Wide t w) (tidy : Tidy t (live id)) where
    abbrev front : List Window
    front = passed t w (live id) made

    abbrev rest : List Window
    rest = reached t w (live id) made

    abbrev tail : List Window
    tail = beyond t w (live id) made

    abbrev walk : Walk
    walk = walked t w (live id) made

    abbrev visiting : List Action
    visiting = visitings id t w (take_while (starts_before (w.b1 ⊕ t)) rest) (start w made)

    abbrev kept : ℕ → List Interval → List Action
    kept n ks = keeping e w n (wide_of t ks)

    abbrev after : ℕ → List Window
    after e' = put id (add_to better_of t w (live id) made).live live e'

    abbrev result : Result
    result = finish (wins_after (adding e w (live id) made) wins) after (played (adding e w (live id) made) stock₀)

    todo_is : adding e w (live id) made ≡ list 1 ∷ (visiting ++ kept walk.made walk.keep)
    todo_is = adding_is e w (live id) made tidy ∙ ap (λ (us : List Window). list 1 ∷ (visiting ++ kept (visits better_of t w us (start w made)).made (visits better_of t w us (start w made)).keep)) (run_is t w (live id) tidy)

    stop : (n : ℕ) → played (adding e w (live id) made) stock₀ ≡ actions.stopped n → result ≡ state.stopped n
    unfolding finish
    stop n h = ap (finish (wins_after (adding e w (live id) made) wins) after) h

    leave : (p : Snapshot) → played (adding e w (live id) made) stock₀ ≡ actions.went (stock_of p) → HoldsWindows p.made (wins_after (adding e w (live id) made) wins) p.links p.reals after → (last : ℕ) → Untouched (λ k. k ≡ id) (snapshot made queued last lk f q vertex) p → LeavesState id (snapshot made queued last lk f q vertex) p result
    unfolding finish
    leave p h k last u = record { wins = wins_after (adding e w (live id) made) wins; live = after; is = ap (finish (wins_after (adding e w (live id) made) wins) after) h; holds = k; untouched = u }

    pub no_cuts : cuts ≡ 0 → result ≡ state.stopped 14
    no_cuts z = stop 14 (ap (λ (l : List Action). played l stock₀) todo_is ∙ list_stop (visiting ++ kept walk.made walk.keep) z)

    parts : front ++ rest ≡ live id
    parts = take_drop (passes t w.b0) (live id)

    few : length rest ≤ made
    few =
        let s = hold.on_edge id in
        part_few front rest (live id) made parts (subst (λ (n : ℕ). n ≤ made) (nums_length (live id)) (short made lk.words id (head_of lk.edges id) (nums (live id)) s.chain.path s.chain.belong))

    stand : HoldsWindows made wins lk f (put id (front ++ rest) live)
    stand = holds_put made wins lk f id (front ++ rest) live (sym parts) hold

    module _ (some : 0 < cuts) (before : ℕ) (link : before ≡ last_link front) where
      played_one : played (adding e w (live id) made) stock₀ ≡ played (visiting ++ kept walk.made walk.keep) stock₀
      played_one = ap (λ (l : List Action). played l stock₀) todo_is ∙ list_go (visiting ++ kept walk.made walk.keep) some

      abbrev Few : List Window → Type 0
      Few zs = length zs ≤ made

      abbrev first : List Interval
      first = interval w.b0 w.b1 ∷ []

      abbrev start₀ : Snapshot
      start₀ = snapshot made queued before lk f q vertex

      pub visit_stopped : (n : Lack) (keep' : List Float) → VisitsAll cuts windows limit flags id t w Few first start₀ (Err n) (stopped (lack_number n)) keep' → result ≡ state.stopped (lack_number n)
      visit_stopped n keep' d = stop (lack_number n) (played_one ∙ play_stop_append cuts windows limit flags visiting (kept walk.made walk.keep) stock₀ (lack_number n) (d wins live front rest few link stand).0)

      module _ (c : Counts) (last k : ℕ) (lk' : Links) (f' : List Float) (q' : Queue) (keep' : List Float)
          (d : VisitsAll cuts windows limit flags id t w Few first start₀ (Ok (record { counts = c; last = last; kept = k })) (at (snapshot c.made c.queued last lk' f' q' vertex)) keep') where
        abbrev there₁ : Snapshot
        there₁ = snapshot c.made c.queued before lk' f' q' vertex

        ran : Performed cuts windows limit flags id visiting (take_while (starts_before (w.b1 ⊕ t)) rest) walk.survivors start₀ (snapshot c.made c.queued last lk' f' q' vertex)
        ran = (d wins live front rest few link stand).0

        keeps : Kept cuts c.made k keep' walk
        keeps = (d wins live front rest few link stand).1

        held : HoldsWindows c.made (wins_after visiting wins) lk' f' (put id (front ++ (walk.survivors ++ tail)) live)
        held = ran.holds wins live front tail link
            (holds_equal made wins lk f id (front ++ rest) (front ++ (take_while (starts_before (w.b1 ⊕ t)) rest ++ tail)) live (ap (λ (l : List Window). front ++ l) (sym (take_drop (starts_before (w.b1 ⊕ t)) rest))) stand)

        kept_is : kept c.made (pairs k keep') ≡ kept walk.made walk.keep
        kept_is = ap (λ (n : ℕ). kept n (pairs k keep')) keeps.count ∙ ap (kept walk.made) keeps.keep

        news_is : fresh w c.made (wide_of t (pairs k keep')) ≡ fresh w walk.made (wide_of t walk.keep)
        news_is = ap (λ (n : ℕ). fresh w n (wide_of t (pairs k keep'))) keeps.count ∙ ap (λ (ks : List Interval). fresh w walk.made (wide_of t ks)) keeps.keep

        played_all : (o : Outcome) → played (kept c.made (pairs k keep')) (stock_of there₁) ≡ o → played (adding e w (live id) made) stock₀ ≡ o
        played_all o h =
            played_one
            ∙ play_go_append cuts windows limit flags visiting (kept walk.made walk.keep) stock₀ (stock_of there₁) ran.plays
            ∙ ap (λ (l : List Action). played l (stock_of there₁)) (sym kept_is)
            ∙ h

        -- the walk's last link is of no use any more
        around : Untouched (λ k. k ≡ id) start₀ there₁
        around = let u = ran.untouched in record { more = u.more; edges = u.edges; words = u.words; reals = u.reals }

        -- the windows made in both parts
        wins_all : wins_after (kept c.made (pairs k keep')) (wins_after visiting wins) ≡ wins_after (adding e w (live id) made) wins
        unfolding wins_after
        wins_all =
            ap (λ (l : List Action). wins_after l (wins_after visiting wins)) kept_is
            ∙ sym (wins_append visiting (kept walk.made walk.keep) wins)
            ∙ sym (ap (λ (l : List Action). wins_after l wins) todo_is)

        seated : (end : End) → SeatsAmong cuts windows limit flags e w (wins_after visiting wins) live front (walk.survivors ++ tail) (wide_of t (pairs k keep')) there₁ end → SaysResult id start₀ end result
        seated (stopped n) h = stop n (played_all (actions.stopped n) h)
        seated (at p) h = leave p (played_all (actions.went (stock_of p)) h.plays)
            (subst (λ (ws : List WindowRecord). HoldsWindows p.made ws p.links p.reals after) wins_all
            (holds_equal p.made (wins_after (kept c.made (pairs k keep')) (wins_after visiting wins)) p.links p.reals id (seat_all (fresh w c.made (wide_of t (pairs k keep'))) front (walk.survivors ++ tail)) (add_to better_of t w (live id) made).live live
            (ap (λ (us : List Window). seat_all us front (walk.survivors ++ tail)) news_is ∙ sym (walk_seated t w (live id) made t0 W tidy))
            h.holds))
            before
            (untouched_then (λ k. k ≡ id) start₀ there₁ p around h.untouched)

        pub all_seated : (end : End) → Seats cuts windows limit flags e w (wide_of t (pairs k keep')) there₁ end → SaysResult id start₀ end result
        all_seated end s = seated end (s (wins_after visiting wins) live front (walk.survivors ++ tail) link held)
