-- A window is read, trimmed, or no more queued. Assumes nothing.
use Prim.Native.Nat.{ℕ, ◌+◌, ◌*◌, ◌≤◌, ◌<◌}
use native.Mathlib.Omega.{arith}
use native.Mathlib.Decide.{ℕ_discrete}
use mathlib.Core.Bool.{Bool, true, false, cond}
use mathlib.Core.Path.{◌≡◌, refl, sym, ap, subst, ◌∙◌}
use mathlib.Core.List.{List, [], ◌∷◌, ◌++◌}
use mathlib.Core.Logic.{◌≢◌}
use borrow.Author.Tests.{eq-eqb, ne_eqb}
use lib.Dec.{eqb}
use lib.ListN.{length, get_or, drop}
use lib.Seq.{drop-set-lt}
use lib.Ieee.{Float}
use Rattle.layout.specs.Layout.{words_per_window, window_flags, alive_flag, reals_per_window}
use Rattle.windows.specs.declared.WindowRecord.{WindowRecord}
use Rattle.windows.specs.Windows.{has_flag, window_at, range_with, flags_with, trimmed_win, trimmed, reflagged, relinked, unqueued_record, adjust}
use Rattle.windows.proofs.WindowList.{edge_is, trim_same, trim_other, flags_same, flags_other}
use Rattle.chains.specs.Chains.{Links, links, Out, Belongs, OnEdge}
use Rattle.chains.proofs.OnEdges.{flags_frame}
use Rattle.better.specs.Claim.{All}
use Rattle.trim_model.specs.Windows.{Window, unqueued}
use Rattle.trim_state.specs.State.{put}
use Rattle.live_windows.specs.Live.{live_of, nums, Alive, Complete, Stands, HoldsWindows, bare, ranged, unqueued_in, Loads, Trims}
use Rattle.live_windows.proofs.Places.{nums_cons}
use Rattle.live_windows.proofs.Stored.{Same, same_alive, others, wins_adjust}
use Rattle.live_windows.proofs.Standing.{at_edge, stands_put, stands_both, around, not_there, complete_at}
use Rattle.live_windows.proofs.Few.{few_flags}
use Rattle.buffers.proofs.Strides.{fill_outside}

-- ---- a window is read
pub loaded : (w : List ℕ) (f : List Float) (i : ℕ) (x : WindowRecord) → x ≡ window_at w f i → Loads w f i x
loaded w f i x h = record { is = h; live = λ n wins edges e live xs u zs H d g. go n edges e xs u zs (at_edge n wins (links edges w) f live e (xs ++ u ∷ zs) H d) g } where
  go : (n : ℕ) (edges : List ℕ) (e : ℕ) (xs : List Window) (u : Window) (zs : List Window) → Stands n (links edges w) f e (xs ++ u ∷ zs) → i ≡ u.num → (live_of x i ≡ u) × ((x.edge.0 ≡ e) × (x.alive ≡ true))
  go n edges e xs u zs s g =
      let a = around n (links edges w) f e xs u zs s in
      let y : x ≡ window_at w f u.num = h ∙ ap (window_at w f) g in (
        ap (λ z. live_of z i) y ∙ ap (live_of (window_at w f u.num)) g ∙ a.here.same,
        (ap (λ z. z.edge.0) y ∙ edge_is w f u.num ∙ a.belongs.edge, ap (λ z. z.alive) y ∙ a.here.alive),
      )

-- ---- a window is trimmed
-- edges and flags are in the words
reals_complete : (n : ℕ) (w : List ℕ) (f f' : List Float) (e : ℕ) (is : List ℕ) → Complete n w f e is → Complete n w f' e is
unfolding window_at
reals_complete n w f f' e is c = c

module _ (f : List Float) (i : ℕ) (b0 b1 low : Float) (there : reals_per_window * i + reals_per_window ≤ length f) where
  abbrev f1 : List Float
  f1 = range_with f i b0 b1 low

  trim_others : (w : List ℕ) (j : ℕ) → i ≢ j → Same w f w f1 j
  trim_others w j ne = ap bare (trim_other w f i b0 b1 low j ne)

  trim_here : (w : List ℕ) → bare (window_at w f1 i) ≡ trimmed (bare (window_at w f i)) b0 b1 low
  unfolding bare relinked trimmed
  trim_here w = ap bare (trim_same w f i b0 b1 low there)

  trim_alive : (w : List ℕ) (u : Window) → i ≡ u.num → Alive w f u → Alive w f1 (ranged u b0 b1 low)
  unfolding trimmed trimmed_win
  trim_alive w u g a =
      let t : window_at w f1 u.num ≡ trimmed (window_at w f u.num) b0 b1 low = subst (λ k. window_at w f1 k ≡ trimmed (window_at w f k) b0 b1 low) g (trim_same w f i b0 b1 low there) in
      record { alive = ap (λ x. x.alive) t ∙ a.alive; same = ap (λ x. live_of x u.num) t ∙ ap (λ v. ranged v b0 b1 low) a.same }

  trim_edge : (n : ℕ) (b : Links) (e : ℕ) (xs : List Window) (u : Window) (zs : List Window) → i ≡ u.num → Stands n b f e (xs ++ u ∷ zs) → Stands n b f1 e (xs ++ ranged u b0 b1 low ∷ zs)
  trim_edge n b e xs u zs g s =
      let w = b.words in
      let a = around n b f e xs u zs s in
      let out = subst (λ k. Out k (nums xs)) (sym g) a.out_front in
      let out' = subst (λ k. Out k (nums zs)) (sym g) a.out_rest in
      stands_both n b f1 e xs (ranged u b0 b1 low ∷ zs)
      (subst (λ l. OnEdge n b e (nums xs ++ l)) (sym (nums_cons (ranged u b0 b1 low) zs)) a.chain)
      (others w f w f1 i xs out (trim_others w) a.front)
      (trim_alive w u g a.here, others w f w f1 i zs out' (trim_others w) a.rest)
      (subst (λ l. Complete n w f1 e (nums xs ++ l)) (sym (nums_cons (ranged u b0 b1 low) zs)) (reals_complete n w f f1 e (nums xs ++ u.num ∷ nums zs) a.complete))

  pub trim_done : (f' : List Float) → f' ≡ f1 → Trims f f' i b0 b1 low
  unfolding range_with
  trim_done f' h = subst (λ z. Trims f z i b0 b1 low) (sym h) (record {
    reals = λ n l. fill_outside reals_per_window n (b0 ∷ b1 ∷ low ∷ []) f i 0 l (omega arith);
    holds = λ n wins b e live xs u zs H d g. go n wins b e live xs u zs H g (at_edge n wins b f live e (xs ++ u ∷ zs) H d);
  }) where
    go : (n : ℕ) (wins : List WindowRecord) (b : Links) (e : ℕ) (live : ℕ → List Window) (xs : List Window) (u : Window) (zs : List Window) → HoldsWindows n wins b f live → i ≡ u.num → Stands n b f e (xs ++ u ∷ zs)
        → HoldsWindows n (adjust i (λ x. trimmed x b0 b1 low) wins) b f1 (put e (xs ++ ranged u b0 b1 low ∷ zs) live)
    go n wins b e live xs u zs H g s =
        let w = b.words in
        let a = around n b f e xs u zs s in
        record {
          on_edge = stands_put n b f1 live e (xs ++ ranged u b0 b1 low ∷ zs) (trim_edge n b e xs u zs g s)
              (λ x ne. record {
                chain = (H.on_edge x).chain;
                windows = others w f w f1 i (live x) (not_there n b f e x i (live x) ne (subst (Belongs n w e) (sym g) a.belongs) (H.on_edge x)) (trim_others w) (H.on_edge x).windows;
                complete = reals_complete n w f f1 x (nums (live x)) (H.on_edge x).complete;
              });
          all = wins_adjust n w f w f1 i (λ x. trimmed x b0 b1 low) (trim_others w) (trim_here w) ∙ ap (adjust i (λ x. trimmed x b0 b1 low)) H.all;
          flags = H.flags;
        }

-- ---- a window is no more queued
nums_unqueued : (i : ℕ) (us : List Window) → nums (unqueued_in i us) ≡ nums us
unfolding nums unqueued_in
nums_unqueued i [] = refl
nums_unqueued i (u ∷ us) = head (eqb u.num i) ∙ ap (λ l. u.num ∷ l) (nums_unqueued i us) where
  head : (c : Bool) → (cond c (unqueued u) u).num ∷ nums (unqueued_in i us) ≡ u.num ∷ nums (unqueued_in i us)
  head true = refl
  head false = refl

-- window i, on whatever edge or on none, is no more queued
pub record Unqueues (w w' : List ℕ) (i : ℕ) : Type 0 where
  pub words : (n : ℕ) → i < n → drop (words_per_window * n) w' ≡ drop (words_per_window * n) w
  pub holds : (n : ℕ) (wins : List WindowRecord) (edges : List ℕ) (f : List Float) (live : ℕ → List Window) → HoldsWindows n wins (links edges w) f live
      → HoldsWindows n (adjust i unqueued_record wins) (links edges w') f (λ e. unqueued_in i (live e))

module _ (w : List ℕ) (i : ℕ) (alive : Bool) (there : words_per_window * i + words_per_window ≤ length w) (is : alive ≡ has_flag (get_or w (words_per_window * i + window_flags) 0) alive_flag) where
  abbrev w1 : List ℕ
  w1 = flags_with w i alive false

  alive_is : (f : List Float) → alive ≡ (window_at w f i).alive
  unfolding window_at
  alive_is f = is

  pop_others : (f : List Float) (j : ℕ) → i ≢ j → Same w f w1 f j
  pop_others f j ne = ap bare (flags_other w f i alive false j ne)

  pop_is : (f : List Float) → window_at w1 f i ≡ unqueued_record (window_at w f i)
  pop_is f = flags_same w f i alive false there ∙ ap (λ a. reflagged (window_at w f i) a false) (alive_is f)

  pop_here : (f : List Float) → bare (window_at w1 f i) ≡ unqueued_record (bare (window_at w f i))
  unfolding bare relinked reflagged
  pop_here f = ap bare (pop_is f)

  pop_alive : (f : List Float) (u : Window) → u.num ≡ i → Alive w f u → Alive w1 f (unqueued u)
  unfolding reflagged
  pop_alive f u g a =
      let t : window_at w1 f u.num ≡ unqueued_record (window_at w f u.num) = subst (λ k. window_at w1 f k ≡ unqueued_record (window_at w f k)) (sym g) (pop_is f) in
      record { alive = ap (λ x. x.alive) t ∙ a.alive; same = ap (λ x. live_of x u.num) t ∙ ap unqueued a.same }

  pop_all : (f : List Float) (us : List Window) → All (Alive w f) us → All (Alive w1 f) (unqueued_in i us)
  unfolding unqueued_in
  pop_all f [] a = tt
  pop_all f (u ∷ us) a = (go (ℕ_discrete u.num i), pop_all f us a.1) where
    go : Dec (u.num ≡ i) → Alive w1 f (cond (eqb u.num i) (unqueued u) u)
    go (yes d) = rw (eq-eqb u.num i d) (pop_alive f u d a.0)
    go (no d) = rw (ne_eqb u.num i d) (same_alive w f w1 f u (pop_others f u.num (λ z. d (sym z))) a.0)

  pop_complete : (n : ℕ) (f : List Float) (e : ℕ) (is : List ℕ) → Complete n w f e is → Complete n w1 f e is
  unfolding reflagged
  pop_complete n f e is c = complete_at n w f w1 f i e is (pop_others f) c (λ l g a. c i l (sym (ap (λ x. x.edge.0) (pop_is f)) ∙ g) (sym (ap (λ x. x.alive) (pop_is f)) ∙ a))

  pub unqueue_done : (w' : List ℕ) → w' ≡ w1 → Unqueues w w' i
  unfolding flags_with
  unqueue_done w' h = subst (λ z. Unqueues w z i) (sym h) (record {
    words = λ n l. drop-set-lt (words_per_window * n) w (words_per_window * i + window_flags) _ (omega arith);
    holds = λ n wins edges f live H. record {
      on_edge = λ e. record {
        chain = subst (OnEdge n (links edges w1) e) (sym (nums_unqueued i (live e))) (flags_frame n (links edges w) i alive false e (nums (live e)) (H.on_edge e).chain);
        windows = pop_all f (live e) (H.on_edge e).windows;
        complete = subst (Complete n w1 f e) (sym (nums_unqueued i (live e))) (pop_complete n f e (nums (live e)) (H.on_edge e).complete);
      };
      all = wins_adjust n w f w1 f i unqueued_record (pop_others f) (pop_here f) ∙ ap (adjust i unqueued_record) H.all;
      flags = few_flags n w i alive false there H.flags;
    };
  })
