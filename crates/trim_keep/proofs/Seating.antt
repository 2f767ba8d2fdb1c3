-- The loop over `keep`, turn by turn. Assumes nothing.
use Prim.Native.Nat.{ℕ, suc}
use mathlib.Core.Bool.{Bool, true, false}
use mathlib.Core.List.{List, [], ◌∷◌, ◌++◌, append_assoc}
use mathlib.Core.Path.{◌≡◌, refl, sym, ap, ◌∙◌, subst}
use lib.Ieee.{Float, le}
use Rattle.trim_split.specs.of_better.Stretches.{Interval}
use Rattle.heap.specs.Queue.{Queue}
use Rattle.actions.specs.Actions as actions
use Rattle.float64.specs.Scalar.{zero64}
use Rattle.float64.specs.Notation.{◌⊖◌, ◌⊗◌}
use Rattle.source.specs.Distance.{eval_of}
use Rattle.windows.specs.declared.Edge.{Edge}
use Rattle.windows.specs.declared.WindowRecord.{WindowRecord}
use Rattle.actions.specs.Actions.{Action, touch, wins_with, wins_after, play}
use Rattle.actions.proofs.Play.{wins_none, wins_append, play_nil, play_stop_append, play_go_append}
use Rattle.trim_split.specs.of_trim_model.Intervals.{width, push_if, wide_of}
use Rattle.trim_split.specs.of_trim_model.Windows.{Window, part, fresh, take_while, drop_while}
use Rattle.trim_split.specs.of_trim_model.Seat.{starts_under, seat_front, seat_rest, seat_all}
use Rattle.trim_split.proofs.laws_of_trim_model.Seat.{seat_all_nil, seat_all_next}
use Rattle.trim_split.specs.of_trim_state.State.{put}
use Rattle.trim_split.specs.of_trim_state.Trace.{near, win_of, making, touching, keeping}
use Rattle.trim_split.proofs.laws_of_trim_state.Turns.{wide_skip, wide_end, keeping_none, keeping_some}
use Rattle.trim_split.specs.of_live_windows.Live.{HoldsWindows, last_link, sorts_before, Walked}
use Rattle.trim_split.proofs.laws_of_live_windows.Seats.{seat_split}
use Rattle.trim_split.specs.Running.{Snapshot, snapshot, stock_of, End, stopped, at, Performed, Untouched}
use Rattle.trim_split.proofs.laws_of_live_windows.Lists.{put_here}
use Rattle.trim_split.proofs.Edges.{holds_equal}
use Rattle.trim_split.proofs.Untouched.{untouched_same, untouched_then}
use Rattle.trim_keep.specs.Keeping.{Seats}

fresh_none : (w : Window) (n : ℕ) → fresh w n [] ≡ []
unfolding fresh
fresh_none w n = refl

fresh_some : (w : Window) (n : ℕ) (k : Interval) (ks : List Interval) → fresh w n (k ∷ ks) ≡ part w k.from k.to n ∷ fresh w (suc n) ks
unfolding fresh
fresh_some w n k ks = refl

touch_wins : (c d : Bool) (t v : Action) (wins : List WindowRecord) → wins_with t wins ≡ wins → wins_with v wins ≡ wins → wins_after (push_if c t ++ push_if d v) wins ≡ wins
unfolding wins_after
touch_wins false false t v wins h g = refl
touch_wins false true t v wins h g = g
touch_wins true false t v wins h g = h
touch_wins true true t v wins h g = ap (wins_with v) h ∙ g

touching_wins : (e : Edge) (n : Window) (wins : List WindowRecord) → wins_after (touching e n) wins ≡ wins
unfolding touching wins_with
touching_wins e n wins = touch_wins (le n.b0 (near ⊗ e.len)) (le (e.len ⊖ near ⊗ e.len) n.b1) (touch e.a.0 (eval_of (win_of n) zero64 zero64)) (touch e.b.0 (eval_of (win_of n) e.len zero64)) wins refl refl

module _ (cuts windows : ℕ) (limit : Float) (flags : List ℕ) (e : Edge) (w : Window) where
  abbrev Does : List Interval → Snapshot → End → Type 0
  Does = Seats cuts windows limit flags e w

  -- none is left
  pub seats_end : (p : Snapshot) → Does [] p (at p)
  seats_end p wins live xs zs l h = record {
    plays = ap (λ (todo : List Action). play cuts windows limit flags todo (stock_of p)) (keeping_none e w p.made) ∙ play_nil cuts windows limit flags (stock_of p);
    untouched = untouched_same (λ k. k ≡ e.id.0) p p.queued p.last p.queue p.vertex;
    holds =
        subst (λ (ws : List WindowRecord). HoldsWindows p.made ws p.links p.reals (put e.id.0 (seat_all (fresh w p.made []) xs zs) live)) (sym (ap (λ (todo : List Action). wins_after todo wins) (keeping_none e w p.made) ∙ wins_none wins))
        (holds_equal p.made wins p.links p.reals e.id.0 (xs ++ zs) (seat_all (fresh w p.made []) xs zs) live (sym (ap (λ (ns : List Window). seat_all ns xs zs) (fresh_none w p.made) ∙ seat_all_nil xs zs)) h);
  }

  -- one that is not wide is passed over
  pub seats_skip : (t : Float) (k : Interval) (ks : List Interval) → le (width k.from k.to) t ≡ true → (p : Snapshot) (end : End) → Does (wide_of t ks) p end → Does (wide_of t (k ∷ ks)) p end
  seats_skip t k ks h p end d = subst (λ (l : List Interval). Does l p end) (sym (wide_skip t k ks h)) d

  pub seats_none : (t : Float) (p : Snapshot) → Does (wide_of t []) p (at p)
  seats_none t p = subst (λ (l : List Interval). Does l p (at p)) (sym (wide_end t)) (seats_end p)

  module _ (k : Interval) (ks : List Interval) (p : Snapshot) where
    abbrev n : Window
    n = part w k.from k.to p.made

    actions_are : keeping e w p.made (k ∷ ks) ≡ making e.id.0 w p.made k ++ (touching e n ++ keeping e w (suc p.made) ks)
    actions_are = keeping_some e w p.made k ks

    -- it is stopped as the window is made, or as the ends are touched
    pub seats_full : (c : ℕ) → play cuts windows limit flags (making e.id.0 w p.made k) (stock_of p) ≡ actions.stopped c → Does (k ∷ ks) p (stopped c)
    seats_full c h wins live xs zs l g = ap (λ (todo : List Action). play cuts windows limit flags todo (stock_of p)) actions_are ∙ play_stop_append cuts windows limit flags (making e.id.0 w p.made k) (touching e n ++ keeping e w (suc p.made) ks) (stock_of p) c h

    -- it is made behind link r, where it belongs
    module _ (r : ℕ) (seated : Walked (sorts_before k.from) p.made p.links p.reals e.id.0 p.last r) (p1 : Snapshot)
        (ran : Performed cuts windows limit flags e.id.0 (making e.id.0 w p.made k) [] (n ∷ []) (snapshot p.made p.queued r p.links p.reals p.queue p.vertex) p1) where
      pub seats_stop : (c : ℕ) → play cuts windows limit flags (touching e n) (stock_of p1) ≡ actions.stopped c → Does (k ∷ ks) p (stopped c)
      seats_stop c h wins live xs zs l g =
          ap (λ (todo : List Action). play cuts windows limit flags todo (stock_of p)) actions_are
          ∙ play_go_append cuts windows limit flags (making e.id.0 w p.made k) (touching e n ++ keeping e w (suc p.made) ks) (stock_of p) (stock_of p1) ran.plays
          ∙ play_stop_append cuts windows limit flags (touching e n) (keeping e w (suc p.made) ks) (stock_of p1) c h

      -- and the ends are touched; then the others follow
      module _ (queued : ℕ) (q : Queue) (vertex : List Float) (touched : play cuts windows limit flags (touching e n) (stock_of p1) ≡ actions.went (stock_of (snapshot p1.made queued p1.last p1.links p1.reals q vertex))) (isMade : p1.made ≡ suc p.made) where
        abbrev p2 : Snapshot
        p2 = snapshot p1.made queued p1.last p1.links p1.reals q vertex

        start : play cuts windows limit flags (keeping e w p.made (k ∷ ks)) (stock_of p) ≡ play cuts windows limit flags (keeping e w p1.made ks) (stock_of p2)
        start =
            ap (λ (todo : List Action). play cuts windows limit flags todo (stock_of p)) actions_are
            ∙ play_go_append cuts windows limit flags (making e.id.0 w p.made k) (touching e n ++ keeping e w (suc p.made) ks) (stock_of p) (stock_of p1) ran.plays
            ∙ play_go_append cuts windows limit flags (touching e n) (keeping e w (suc p.made) ks) (stock_of p1) (stock_of p2) touched
            ∙ ap (λ (x : ℕ). play cuts windows limit flags (keeping e w x ks) (stock_of p2)) (sym isMade)

        news : (xs zs : List Window) → seat_all (fresh w p1.made ks) (seat_front n xs zs) (seat_rest n zs) ≡ seat_all (fresh w p.made (k ∷ ks)) xs zs
        news xs zs =
            ap (λ (x : ℕ). seat_all (fresh w x ks) (seat_front n xs zs) (seat_rest n zs)) isMade
            ∙ sym (ap (λ (l : List Window). seat_all l xs zs) (fresh_some w p.made k ks) ∙ seat_all_next n (fresh w (suc p.made) ks) xs zs)

        -- the list once n stands in it
        there : (wins : List WindowRecord) (live : ℕ → List Window) (xs zs : List Window) → p.last ≡ last_link xs → HoldsWindows p.made wins p.links p.reals (put e.id.0 (xs ++ zs) live)
            → (p1.last ≡ last_link (seat_front n xs zs)) × HoldsWindows p1.made (wins_after (making e.id.0 w p.made k) wins) p1.links p1.reals (put e.id.0 (seat_front n xs zs ++ seat_rest n zs) live)
        there wins live xs zs l h =
            let ys = take_while (starts_under n) zs in
            let rs = drop_while (starts_under n) zs in
            let r-is = seated.last wins (put e.id.0 (xs ++ zs) live) xs zs h (put_here e.id.0 (xs ++ zs) live) l in
            let g = ran.holds wins live (xs ++ ys) rs r-is (holds_equal p.made wins p.links p.reals e.id.0 (xs ++ zs) ((xs ++ ys) ++ rs) live (seat_split (starts_under n) xs zs) h) in (
              ran.after (xs ++ ys) r-is ∙ ap last_link (append_assoc xs ys (n ∷ [])),
              holds_equal p1.made (wins_after (making e.id.0 w p.made k) wins) p1.links p1.reals e.id.0 ((xs ++ ys) ++ (n ∷ rs)) (seat_front n xs zs ++ seat_rest n zs) live
                  (append_assoc xs ys (n ∷ rs) ∙ sym (append_assoc xs (ys ++ (n ∷ [])) rs ∙ ap (λ (v : List Window). xs ++ v) (append_assoc ys (n ∷ []) rs))) g,
            )

        seated_on : Untouched (λ k. k ≡ e.id.0) p p2
        seated_on = let u = ran.untouched in record { more = u.more; edges = u.edges; words = u.words; reals = u.reals }

        -- the touches change no window
        wins_on_lem : (wins : List WindowRecord) → wins_after (keeping e w p.made (k ∷ ks)) wins ≡ wins_after (keeping e w p1.made ks) (wins_after (making e.id.0 w p.made k) wins)
        wins_on_lem wins =
            ap (λ (todo : List Action). wins_after todo wins) actions_are
            ∙ wins_append (making e.id.0 w p.made k) (touching e n ++ keeping e w (suc p.made) ks) wins
            ∙ wins_append (touching e n) (keeping e w (suc p.made) ks) (wins_after (making e.id.0 w p.made k) wins)
            ∙ ap (wins_after (keeping e w (suc p.made) ks)) (touching_wins e n (wins_after (making e.id.0 w p.made k) wins))
            ∙ ap (λ (x : ℕ). wins_after (keeping e w x ks) (wins_after (making e.id.0 w p.made k) wins)) (sym isMade)

        pub seats_turn : (end : End) → Does ks p2 end → Does (k ∷ ks) p end
        seats_turn (stopped c) d wins live xs zs l h =
            let x = there wins live xs zs l h in
            start ∙ d (wins_after (making e.id.0 w p.made k) wins) live (seat_front n xs zs) (seat_rest n zs) x.0 x.1
        seats_turn (at p') d wins live xs zs l h =
            let x = there wins live xs zs l h in
            let ws = wins_after (making e.id.0 w p.made k) wins in
            let y = d ws live (seat_front n xs zs) (seat_rest n zs) x.0 x.1 in
            record {
              plays = start ∙ y.plays;
              untouched = untouched_then (λ k. k ≡ e.id.0) p p2 p' seated_on y.untouched;
              holds =
                  subst (λ (vs : List WindowRecord). HoldsWindows p'.made vs p'.links p'.reals (put e.id.0 (seat_all (fresh w p.made (k ∷ ks)) xs zs) live)) (sym (wins_on_lem wins))
                  (holds_equal p'.made (wins_after (keeping e w p1.made ks) ws) p'.links p'.reals e.id.0 (seat_all (fresh w p1.made ks) (seat_front n xs zs) (seat_rest n zs)) (seat_all (fresh w p.made (k ∷ ks)) xs zs) live (news xs zs) y.holds);
            }
