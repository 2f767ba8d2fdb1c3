-- What a pop leaves of the windows that stand in the buffers. Assumes nothing.
use Prim.Native.Nat.{ℕ, ◌+◌, ◌*◌, ◌≤◌, ◌<◌}
use native.Mathlib.Omega.{arith}
use native.Mathlib.Decide.{ℕ_discrete}
use mathlib.Core.Bool.{Bool, true, false, cond}
use mathlib.Core.List.{List, [], ◌∷◌}
use mathlib.Core.Path.{◌≡◌, refl, sym, ap, subst, ◌∙◌}
use borrow.Author.Tests.{eq-eqb, ne_eqb, lt-ltb, le-ltb}
use native.Mathlib.Decide.{dec_le}
use lib.Dec.{T, eqb}
use lib.ListN.{length, drop}
use lib.Seq.{drop-set-lt}
use lib.Ieee.{Float}
use Rattle.layout.specs.Layout.{words_per_window, window_flags, alive_flag, queued_flag}
use Rattle.windows.specs.declared.WindowRecord.{WindowRecord}
use Rattle.windows.specs.Windows.{has_flag, flags_at, window_at, flags_with, reflagged, relinked, unqueued_record, adjust, capacity_of}
use Rattle.windows.proofs.WindowList.{counted}
use Rattle.chains.specs.Chains.{links, AllBelong}
use Rattle.better.specs.Claim.{All}
use Rattle.heap.specs.declared.Item.{Item}
use Rattle.heap.specs.declared.Item.TheVariants.{Window as Item-as-Window, Vertex}
use Rattle.trim_model.proofs.Lists.{all_map}
use Rattle.trim_model.specs.Windows.{Window, unqueued}
use Rattle.live_windows.specs.Live.{nums, Alive, Stands, HoldsWindows, bare, wins_of, unqueued_in}
use Rattle.live_windows.proofs.Stored.{adjust_out, adjust_same, adjust_as, wins_at, length_wins}
use Rattle.live_windows.proofs.Changed.{unqueue_done}
use Rattle.pop.specs.Words.{is_pending, claimed, item_claimed}
use Rattle.pop.specs.State.{claimed_win, wins_claimed, live_claimed}

-- ---- windows that a pop of the event of window i leaves as they are
abbrev Kept : ℕ → Window → Type 0
Kept i u = u.num ≡ i → unqueued u ≡ u

kept : (i : ℕ) (us : List Window) → All (Kept i) us → unqueued_in i us ≡ us
unfolding unqueued_in
kept i [] a = refl
kept i (u ∷ us) a = ap (λ (l : List Window). cond (eqb u.num i) (unqueued u) u ∷ l) (kept i us a.1) ∙ ap (λ (v : Window). v ∷ us) (go (ℕ_discrete u.num i)) where
  go : Dec (u.num ≡ i) → cond (eqb u.num i) (unqueued u) u ≡ u
  go (yes d) = rw (eq-eqb u.num i d) (a.0 d)
  go (no d) = rw (ne_eqb u.num i d)

-- those of the first n windows, where i is none of them
far_kept : (i n : ℕ) (w : List ℕ) (e : ℕ) (us : List Window) → n ≤ i → AllBelong n w e (nums us) → All (Kept i) us
unfolding nums
far_kept i n w e [] h b = tt
far_kept i n w e (u ∷ us) h b = let l = b.0.made in ((λ d. absurd (omega (arith, h, l, d))), far_kept i n w e us h b.1)

contradiction : {A : Type 0} (b : Bool) → b ≡ true → b ≡ false → A
contradiction b p q = absurd (subst T (sym p ∙ q) tt)

-- window i is dead
dead_kept : (w : List ℕ) (f : List Float) (i : ℕ) → has_flag (flags_at w i) alive_flag ≡ false → (u : Window) → Alive w f u → Kept i u
unfolding window_at
dead_kept w f i h u a d = contradiction (has_flag (flags_at w u.num) alive_flag) a.alive (ap (λ (n : ℕ). has_flag (flags_at w n) alive_flag) d ∙ h)

-- or is not queued
idle_kept : (w : List ℕ) (f : List Float) (i : ℕ) → has_flag (flags_at w i) queued_flag ≡ false → (u : Window) → Alive w f u → Kept i u
unfolding window_at
idle_kept w f i h u a d =
    let q : u.carried.queued ≡ false = ap (λ (v : Window). v.carried.queued) (sym a.same) ∙ ap (λ (n : ℕ). has_flag (flags_at w n) queued_flag) d ∙ h in
    ap (λ (b : Bool). record { b0 = u.b0; b1 = u.b1; low = u.low; src = u.src; carried = record { into = u.carried.into; queued = b }; num = u.num }) (sym q)

-- ---- and the list of all windows
claim_dead : (x : WindowRecord) → x.alive ≡ false → claimed_win x ≡ x
claim_dead x h = ap (λ (b : Bool). cond b (unqueued_record x) x) h

claim_idle : (x : WindowRecord) → x.carried.queued ≡ false → claimed_win x ≡ x
unfolding reflagged
claim_idle x h = go x.alive refl where
  go : (b : Bool) → x.alive ≡ b → cond b (unqueued_record x) x ≡ x
  go true a = ap (λ (q : Bool). record { edge = x.edge; carried = record { into = x.carried.into; queued = q }; alive = x.alive; link = x.link; win = x.win }) (sym h)
  go false a = refl

claim_live : (x : WindowRecord) → x.alive ≡ true → claimed_win x ≡ unqueued_record x
claim_live x h = ap (λ (b : Bool). cond b (unqueued_record x) x) h

bare_alive : (w : List ℕ) (f : List Float) (i : ℕ) → (bare (window_at w f i)).alive ≡ has_flag (flags_at w i) alive_flag
unfolding bare relinked window_at
bare_alive w f i = refl

bare_queued : (w : List ℕ) (f : List Float) (i : ℕ) → (bare (window_at w f i)).carried.queued ≡ has_flag (flags_at w i) queued_flag
unfolding bare relinked window_at
bare_queued w f i = refl

module _ (made : ℕ) (w : List ℕ) (f : List Float) (edges : List ℕ) (wins : List WindowRecord) (live : ℕ → List Window) (H : HoldsWindows made wins (links edges w) f live) where
  -- no window is changed
  same : (i : ℕ) → ((e : ℕ) → All (Kept i) (live e)) → adjust i claimed_win wins ≡ wins → HoldsWindows made (adjust i claimed_win wins) (links edges w) f (λ e. unqueued_in i (live e))
  same i k h = record {
    on_edge = λ e. subst (λ (us : List Window). Stands made (links edges w) f e us) (sym (kept i (live e) (k e))) (H.on_edge e);
    all = H.all ∙ sym h;
    flags = H.flags;
  }

  -- window i is not one of them
  claim_far : (i : ℕ) → made ≤ i → HoldsWindows made (adjust i claimed_win wins) (links edges w) f (λ e. unqueued_in i (live e))
  claim_far i h = same i (λ e. far_kept i made w e (live e) h (H.on_edge e).chain.belong)
      (adjust_out claimed_win i wins (subst (λ (l : List WindowRecord). length l ≤ i) H.all (subst (λ (n : ℕ). n ≤ i) (sym (length_wins made w f)) h)))

  -- it is, and its element is not changed
  unchanged : (i : ℕ) → i < made → claimed_win (bare (window_at w f i)) ≡ bare (window_at w f i) → adjust i claimed_win wins ≡ wins
  unchanged i l h = subst (λ (ws : List WindowRecord). adjust i claimed_win ws ≡ ws) H.all (adjust_same claimed_win i (wins_of made w f) (bare (window_at w f i)) (wins_at made w f i (bare (window_at w f i)) l) h)

  claim_not_alive : (i : ℕ) → i < made → has_flag (flags_at w i) alive_flag ≡ false → HoldsWindows made (adjust i claimed_win wins) (links edges w) f (λ e. unqueued_in i (live e))
  claim_not_alive i l h = same i (λ e. all_map {P = Alive w f} {Q = Kept i} (dead_kept w f i h) (live e) (H.on_edge e).windows) (unchanged i l (claim_dead (bare (window_at w f i)) (bare_alive w f i ∙ h)))

  claim_not_queued : (i : ℕ) → i < made → has_flag (flags_at w i) queued_flag ≡ false → HoldsWindows made (adjust i claimed_win wins) (links edges w) f (λ e. unqueued_in i (live e))
  claim_not_queued i l h = same i (λ e. all_map {P = Alive w f} {Q = Kept i} (idle_kept w f i h) (live e) (H.on_edge e).windows) (unchanged i l (claim_idle (bare (window_at w f i)) (bare_queued w f i ∙ h)))

  -- it is alive and queued
  claim_done : (i : ℕ) → i < made → words_per_window * i + words_per_window ≤ length w → has_flag (flags_at w i) alive_flag ≡ true → HoldsWindows made (adjust i claimed_win wins) (links edges (flags_with w i true false)) f (λ e. unqueued_in i (live e))
  claim_done i l there h =
      let u = unqueue_done w i true there (sym h) (flags_with w i true false) refl in
      subst (λ (ws : List WindowRecord). HoldsWindows made ws (links edges (flags_with w i true false)) f (λ e. unqueued_in i (live e)))
      (subst (λ (ws : List WindowRecord). adjust i unqueued_record ws ≡ adjust i claimed_win ws) H.all
      (adjust_as unqueued_record claimed_win i (wins_of made w f) (bare (window_at w f i)) (wins_at made w f i (bare (window_at w f i)) l) (sym (claim_live (bare (window_at w f i)) (bare_alive w f i ∙ h)))))
      (u.holds made wins edges f live H)

  claim_holds : (i : ℕ) → made ≤ capacity_of (length w) (length f) → HoldsWindows made (adjust i claimed_win wins) (links edges (claimed made w i)) f (λ e. unqueued_in i (live e))
  claim_holds i fits = go (dec_le made i) (has_flag (flags_at w i) alive_flag) refl (has_flag (flags_at w i) queued_flag) refl where
    Goal : List ℕ → Type 0
    Goal v = HoldsWindows made (adjust i claimed_win wins) (links edges v) f (λ e. unqueued_in i (live e))

    go : Dec (made ≤ i) → (a : Bool) → has_flag (flags_at w i) alive_flag ≡ a → (q : Bool) → has_flag (flags_at w i) queued_flag ≡ q → Goal (claimed made w i)
    go (yes d) a ha q hq = rw (le-ltb i made d) (claim_far i d)
    go (no d) false ha q hq = let l : i < made = omega (arith, d) in rw (lt-ltb i made l, ha) (claim_not_alive i l ha)
    go (no d) true ha false hq = let l : i < made = omega (arith, d) in rw (lt-ltb i made l, ha, hq) (claim_not_queued i l hq)
    go (no d) true ha true hq =
        let l : i < made = omega (arith, d) in
        let there = (counted i (length w) (length f) (omega (arith, l, fits))).0 in
        rw (lt-ltb i made l, ha, hq) (claim_done i l there ha)

  -- an event's item
  pub item_holds : (x : Item) → made ≤ capacity_of (length w) (length f) → HoldsWindows made (wins_claimed x wins) (links edges (item_claimed made w x)) f (λ e. live_claimed x (live e))
  unfolding wins_claimed item_claimed live_claimed
  item_holds (Item-as-Window id) fits = claim_holds id.0 fits
  item_holds (Vertex v) fits = H

-- the words past the windows made stay
pub item_words : (made : ℕ) (w : List ℕ) (x : Item) → drop (words_per_window * made) (item_claimed made w x) ≡ drop (words_per_window * made) w
unfolding item_claimed
item_words made w (Vertex v) = refl
item_words made w (Item-as-Window id) = go (dec_le made id.0) where
  rest : (a : Bool) → id.0 < made → drop (words_per_window * made) (cond a (flags_with w id.0 true false) w) ≡ drop (words_per_window * made) w
  rest true l = unfold flags_with in drop-set-lt (words_per_window * made) w (words_per_window * id.0 + window_flags) _ (omega arith)
  rest false l = refl

  go : Dec (made ≤ id.0) → drop (words_per_window * made) (claimed made w id.0) ≡ drop (words_per_window * made) w
  go (yes d) = rw (le-ltb id.0 made d)
  go (no d) = rest (is_pending made w id.0) (omega (arith, d))
