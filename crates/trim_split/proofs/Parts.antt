-- A part of a window is made: the ways that it can go. Assumes nothing.
use Prim.Native.Nat.{ℕ, suc, ◌≤◌, ◌<◌}
use mathlib.Core.Bool.{Bool, true, false}
use mathlib.Core.List.{List, [], ◌∷◌, ◌++◌, append-nil}
use mathlib.Core.Path.{◌≡◌, refl, sym, ap, ◌∙◌, subst}
use native.Mathlib.Omega.{arith}
use lib.Ieee.{Float}
use borrow.Author.Tests.{lt-ltb, le-ltb}
use Rattle.buffers.specs.declared.EdgeId.{EdgeId}
use Rattle.source.specs.Distance.{lowest_of}
use Rattle.cut_lists.specs.of_better.Stretches.{Interval, interval}
use Rattle.heap.specs.declared.Event.{Event}
use Rattle.std.specs.Prelude.{Err, Ok}
use Rattle.buffers.specs.declared.Lack.{Lack}
use Rattle.buffers.specs.Lack.{lack_number}
use Rattle.heap.specs.Queue.{Queue, pushing}
use Rattle.windows.specs.declared.WindowRecord.{WindowRecord}
use Rattle.windows.specs.Windows.{trimmed, dead, adjust}
use Rattle.chains.specs.Chains.{Links}
use Rattle.actions.specs.Actions as actions
use Rattle.actions.specs.Actions.{Action, make, trim, kill, push, wins_after, stock, act, play, queueing}
use Rattle.actions.proofs.Play.{play_nil, play_stop, play_go, play_stop_append}
use Rattle.actions.proofs.Queueing.{push_is}
use Rattle.cut_lists.specs.of_trim_model.Intervals.{push_if}
use Rattle.cut_lists.specs.of_trim_model.Windows.{Window, part, fresh, split}
use Rattle.live_windows.specs.of_trim_state.State.{put}
use Rattle.live_windows.specs.of_trim_state.Trace.{window_event, record_of, making, makings, splitting}
use Rattle.live_windows.specs.Live.{HoldsWindows, last_link, live_of, window_of, ranged, Makes, Trims, Kills}
use Rattle.trim_split.specs.Running.{Snapshot, snapshot, stock_of, End, stopped, at, Performed, Does}
use Rattle.live_windows.proofs.Lists.{put_here, last_snoc}
use Rattle.trim_split.proofs.Edges.{holds_again}
use Rattle.trim_split.proofs.Untouched.{untouched_made, untouched_killed, untouched_trimmed}
use Rattle.trim_split.proofs.Running.{ran_none, does_then}

module _ (cuts windows : ℕ) (limit : Float) (flags : List ℕ) (made queued : ℕ) (q : Queue) (vertex : List Float) where
  abbrev played : List Action → actions.Outcome
  played todo = play cuts windows limit flags todo (stock made queued q vertex)

  -- the window buffer has no slot
  make_none : (x : WindowRecord) → windows ≤ made → (rest : List Action) → played (make x ∷ rest) ≡ actions.stopped 12
  make_none x h rest = play_stop cuts windows limit flags (make x) rest (stock made queued q vertex) 12 none
    where
      none : act cuts windows limit flags (make x) (stock made queued q vertex) ≡ actions.stopped 12
      none = unfold act in rw (le-ltb made windows h)

  make_one : (x : WindowRecord) → made < windows → (rest : List Action) → played (make x ∷ rest) ≡ play cuts windows limit flags rest (stock (suc made) queued q vertex)
  make_one x h rest = play_go cuts windows limit flags (make x) rest (stock made queued q vertex) (stock (suc made) queued q vertex) one
    where
      one : act cuts windows limit flags (make x) (stock made queued q vertex) ≡ actions.went (stock (suc made) queued q vertex)
      one = unfold act in rw (lt-ltb made windows h)

  -- what a push at the end answers
  push_full : (e : Event) (q' : Queue) (l : Lack) → (Err l, q') ≡ pushing q queued e → played (push e ∷ []) ≡ actions.stopped (lack_number l)
  push_full e q' l h = play_stop cuts windows limit flags (push e) [] (stock made queued q vertex) (lack_number l) (push_is cuts windows limit flags made queued q vertex e (Err l, q') h ∙ full)
    where
      full : queueing made vertex (Err l, q') ≡ actions.stopped (lack_number l)
      full = unfold queueing in refl

  push_one : (e : Event) (n : ℕ) (q' : Queue) → (Ok n, q') ≡ pushing q queued e → played (push e ∷ []) ≡ actions.went (stock made n q' vertex)
  push_one e n q' h =
      play_go cuts windows limit flags (push e) [] (stock made queued q vertex) (stock made n q' vertex) (push_is cuts windows limit flags made queued q vertex e (Ok n, q') h ∙ one)
      ∙ play_nil cuts windows limit flags (stock made n q' vertex)
    where
      one : queueing made vertex (Ok n, q') ≡ actions.went (stock made n q' vertex)
      one = unfold queueing in refl

-- the window that was made is the part
made_is : (e : EdgeId) (x : WindowRecord) (k n : ℕ) (b0 b1 low : Float) → low ≡ lowest_of x.win.src b0 b1
    → window_of e x.carried 0 (record { b0 = b0; b1 = b1; low = low; src = x.win.src }) ≡ record_of e.0 (part (live_of x k) b0 b1 n)
made_is e x k n b0 b1 low h =
    ap (λ (y : Float). window_of e x.carried 0 (record { b0 = b0; b1 = b1; low = y; src = x.win.src })) h

-- a part that is made is one window more
making_wins : (e : ℕ) (u : Window) (n : ℕ) (p : Interval) (wins : List WindowRecord) → wins_after (making e u n p) wins ≡ wins ++ (record_of e (part u p.from p.to n) ∷ [])
unfolding wins_after
making_wins e u n p wins = go u.carried.queued where
  go : (c : Bool) → wins_after (make (record_of e (part u p.from p.to n)) ∷ push_if c (push (window_event (lowest_of u.src p.from p.to) n))) wins ≡ wins ++ (record_of e (part u p.from p.to n) ∷ [])
  go true = refl
  go false = refl

module _ (cuts windows : ℕ) (limit : Float) (flags : List ℕ) (e : EdgeId) (x : WindowRecord) (k : ℕ) (b0 b1 : Float) (made queued last : ℕ) (b : Links) (f : List Float) (q : Queue) (vertex : List Float) where
  abbrev todo : List Action
  todo = making e.0 (live_of x k) made (interval b0 b1)

  -- the window that is made
  abbrev new : WindowRecord
  new = record_of e.0 (part (live_of x k) b0 b1 made)

  abbrev DoesPart : End → Type 0
  DoesPart = Does cuts windows limit flags e.0 todo [] (part (live_of x k) b0 b1 made ∷ []) (snapshot made queued last b f q vertex)

  pub part_none : windows ≤ made → DoesPart (stopped 12)
  part_none h = make_none cuts windows limit flags made queued q vertex new h (push_if x.carried.queued (push (window_event (lowest_of x.win.src b0 b1) made)))

  module _ (room : made < windows) (low : Float) (isLow : low ≡ lowest_of x.win.src b0 b1) (b' : Links) (f' : List Float)
      (makes : Makes made b b' f f' e.0 last (window_of e x.carried 0 (record { b0 = b0; b1 = b1; low = low; src = x.win.src }))) where
    ran : (n : ℕ) (q' : Queue) → play cuts windows limit flags todo (stock made queued q vertex) ≡ actions.went (stock (suc made) n q' vertex) → DoesPart (at (snapshot (suc made) n (suc made) b' f' q' vertex))
    ran n q' h = record {
      fits = room;
      linked = omega arith;
      plays = h;
      holds = λ wins live xs zs l hs.
          let y = window_of e x.carried 0 (record { b0 = b0; b1 = b1; low = low; src = x.win.src }) in
          let g = makes.holds wins (put e.0 (xs ++ zs) live) xs zs hs (put_here e.0 (xs ++ zs) live) l in
          let h1 = holds_again (suc made) (wins ++ (y ∷ [])) b' f' e.0 (xs ++ (live_of y made ∷ zs)) (xs ++ zs) live g in
          subst (λ (ws : List WindowRecord). HoldsWindows (suc made) ws b' f' (put e.0 (xs ++ (part (live_of x k) b0 b1 made ∷ zs)) live)) (sym (making_wins e.0 (live_of x k) made (interval b0 b1) wins))
          (subst (λ (v : WindowRecord). HoldsWindows (suc made) (wins ++ (v ∷ [])) b' f' (put e.0 (xs ++ (live_of v made ∷ zs)) live)) (made_is e x k made b0 b1 low isLow) h1);
      untouched = untouched_made e.0 made queued last b f q vertex b' f' (window_of e x.carried 0 (record { b0 = b0; b1 = b1; low = low; src = x.win.src })) makes n (suc made) q';
      after = λ xs l. sym (last_snoc xs (part (live_of x k) b0 b1 made));
    }

    module _ (n1 : ℕ) (next : n1 ≡ suc made) where
      as_next : (n : ℕ) (q' : Queue) → DoesPart (at (snapshot (suc made) n (suc made) b' f' q' vertex)) → DoesPart (at (snapshot n1 n n1 b' f' q' vertex))
      as_next n q' = subst (λ (j : ℕ). DoesPart (at (snapshot j n j b' f' q' vertex))) (sym next)

    pub part_quiet : (n1 : ℕ) → n1 ≡ suc made → x.carried.queued ≡ false → DoesPart (at (snapshot n1 queued n1 b' f' q vertex))
    part_quiet n1 next h = as_next n1 next queued q (ran queued q (make_one cuts windows limit flags made queued q vertex new room (push_if x.carried.queued (push (window_event (lowest_of x.win.src b0 b1) made))) ∙ rw h (play_nil cuts windows limit flags (stock (suc made) queued q vertex))))

    module _ (h : x.carried.queued ≡ true) (ev : Event) (isEvent : ev ≡ window_event low made) (q' : Queue) where
      start : play cuts windows limit flags todo (stock made queued q vertex) ≡ play cuts windows limit flags (push ev ∷ []) (stock (suc made) queued q vertex)
      start = make_one cuts windows limit flags made queued q vertex new room (push_if x.carried.queued (push (window_event (lowest_of x.win.src b0 b1) made))) ∙ rw (h, isEvent, isLow) refl

      pub part_full : (l : Lack) → (Err l, q') ≡ pushing q queued ev → DoesPart (stopped (lack_number l))
      part_full l p = start ∙ push_full cuts windows limit flags (suc made) queued q vertex ev q' l p

      pub part_queued : (n1 : ℕ) → n1 ≡ suc made → (n : ℕ) → (Ok n, q') ≡ pushing q queued ev → DoesPart (at (snapshot n1 n n1 b' f' q' vertex))
      part_queued n1 next n p = as_next n1 next n q' (ran n q' (start ∙ push_one cuts windows limit flags (suc made) queued q vertex ev n q' p))

-- ---- parts one behind the other
module _ (cuts windows : ℕ) (limit : Float) (flags : List ℕ) (e : ℕ) (u : Window) where
  abbrev DoesParts : ℕ → List Interval → Snapshot → End → Type 0
  DoesParts n l = Does cuts windows limit flags e (makings e u n l) [] (fresh u n l)

  module _ (n : ℕ) (i : Interval) (rest : List Interval) (p : Snapshot) where
    pub parts_turn : (n1 : ℕ) → n1 ≡ suc n → (p1 : Snapshot) → Performed cuts windows limit flags e (making e u n i) [] (part u i.from i.to n ∷ []) p p1 → (end : End) → DoesParts n1 rest p1 end → DoesParts n (i ∷ rest) p end
    unfolding makings fresh
    parts_turn n1 c p1 h end r =
        does_then cuts windows limit flags e (making e u n i) (makings e u (suc n) rest) [] [] (part u i.from i.to n ∷ []) (fresh u (suc n) rest) p p1 h end
        (subst (λ (k : ℕ). DoesParts k rest p1 end) c r)

    pub parts_stop : (k : ℕ) → play cuts windows limit flags (making e u n i) (stock_of p) ≡ actions.stopped k → DoesParts n (i ∷ rest) p (stopped k)
    unfolding makings
    parts_stop k h = play_stop_append cuts windows limit flags (making e u n i) (makings e u (suc n) rest) (stock_of p) k h

  pub parts_end : (n : ℕ) (p : Snapshot) → p.made ≤ windows → p.last ≤ p.made → DoesParts n [] p (at p)
  unfolding makings fresh
  parts_end n p i l = ran_none cuts windows limit flags e p i l

-- ---- the pieces of a window
module _ (cuts windows : ℕ) (limit : Float) (flags : List ℕ) (e : ℕ) (x : WindowRecord) (id made queued last : ℕ) (b : Links) (f : List Float) (q : Queue) (vertex : List Float) where
  abbrev DoesSplit : List Interval → End → Type 0
  DoesSplit ps = Does cuts windows limit flags e (splitting e (live_of x id) made ps) (live_of x id ∷ []) (split (live_of x id) made ps) (snapshot made queued last b f q vertex)

  -- an action that takes no slot
  still : (a : Action) → act cuts windows limit flags a (stock made queued q vertex) ≡ actions.went (stock made queued q vertex) → play cuts windows limit flags (a ∷ []) (stock made queued q vertex) ≡ actions.went (stock made queued q vertex)
  still a h = play_go cuts windows limit flags a [] (stock made queued q vertex) (stock made queued q vertex) h ∙ play_nil cuts windows limit flags (stock made queued q vertex)

  -- there is none: it is taken out
  pub split_none : made ≤ windows → last ≤ made → (b' : Links) → Kills made b b' e last id → DoesSplit [] (at (snapshot made queued last b' f q vertex))
  unfolding splitting split wins_after act
  split_none i l b' kills = record {
    fits = i;
    linked = l;
    plays = still (kill id) refl;
    holds = λ wins live xs zs k h.
        holds_again made (adjust id dead wins) b' f e (xs ++ zs) (xs ++ (live_of x id ∷ zs)) live
        (kills.holds wins f (put e (xs ++ (live_of x id ∷ zs)) live) xs (live_of x id) zs h (put_here e (xs ++ (live_of x id ∷ zs)) live) k refl);
    untouched = untouched_killed e made queued last b f q vertex b' id kills;
    after = λ xs k. k ∙ ap last_link (sym (append-nil xs));
  }

  -- it is trimmed to the first piece
  module _ (i : made ≤ windows) (in-made : id < made) (p0 : Interval) (low : Float) (isLow : low ≡ lowest_of x.win.src p0.from p0.to) (f' : List Float) (trims : Trims f f' id p0.from p0.to low) where
    abbrev trimmed_place : Snapshot
    trimmed_place = snapshot made queued (suc id) b f' q vertex

    abbrev first : Window
    first = part (live_of x id) p0.from p0.to id

    abbrev trimming : List Action
    trimming = trim id p0.from p0.to (lowest_of x.win.src p0.from p0.to) ∷ []

    trim_ran : Performed cuts windows limit flags e trimming (live_of x id ∷ []) (first ∷ []) (snapshot made queued last b f q vertex) trimmed_place
    unfolding wins_after act
    trim_ran = record {
      fits = i;
      linked = in-made;
      plays = still (trim id p0.from p0.to (lowest_of x.win.src p0.from p0.to)) refl;
      holds = λ wins live xs zs k h.
          let g = trims.holds made wins b e (put e (xs ++ (live_of x id ∷ zs)) live) xs (live_of x id) zs h (put_here e (xs ++ (live_of x id ∷ zs)) live) refl in
          subst (λ (y : Float). HoldsWindows made (adjust id (λ v. trimmed v p0.from p0.to y) wins) b f' (put e (xs ++ (ranged (live_of x id) p0.from p0.to y ∷ zs)) live)) isLow
          (holds_again made (adjust id (λ v. trimmed v p0.from p0.to low) wins) b f' e (xs ++ (ranged (live_of x id) p0.from p0.to low ∷ zs)) (xs ++ (live_of x id ∷ zs)) live g);
      untouched = untouched_trimmed e made queued last b f q vertex f' id p0.from p0.to low in-made trims (suc id);
      after = λ xs k. sym (last_snoc xs first);
    }

    pub split_some : (rest : List Interval) (end : End) (at1 : ℕ) → at1 ≡ suc id → Does cuts windows limit flags e (makings e (live_of x id) made rest) [] (fresh (live_of x id) made rest) (snapshot made queued at1 b f' q vertex) end → DoesSplit (p0 ∷ rest) end
    unfolding splitting split
    split_some rest end at1 is h' =
        let h = subst (λ (j : ℕ). Does cuts windows limit flags e (makings e (live_of x id) made rest) [] (fresh (live_of x id) made rest) (snapshot made queued j b f' q vertex) end) is h' in
        does_then cuts windows limit flags e trimming (makings e (live_of x id) made rest) (live_of x id ∷ []) [] (first ∷ []) (fresh (live_of x id) made rest) (snapshot made queued last b f q vertex) trimmed_place trim_ran end h
