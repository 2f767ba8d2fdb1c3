-- Additions and pops keep the list of all windows as the live windows have it, and `low` right of every window made, dead ones too. Assumes nothing.
use Prim.Native.Nat.{ℕ, zero, suc, ◌+◌}
use native.Mathlib.Omega.{arith}
use mathlib.Core.Bool.{Bool, cond}
use mathlib.Core.List.{List, [], ◌∷◌, ◌++◌, append-nil}
use mathlib.Core.Path.{◌≡◌, refl, sym, ap, subst, ◌∙◌}
use lib.Dec.{eqb}
use lib.ListN.{length, length-append}
use lib.Ieee.{Float}
use Rattle.source.specs.declared.Src.{Src}
use Rattle.source.specs.declared.Win.{Win}
use Rattle.source.specs.Distance.{lowest_of}
use Rattle.pop.specs.of_better.Claim.{All}
use Rattle.pop.specs.of_better.Stretches.{better_of}
use Rattle.heap.specs.declared.Item.{Item}
use Rattle.heap.specs.declared.Item.TheVariants.{Window as Item-as-Window, Vertex}
use Rattle.std.specs.Prelude.{None, Some}
use Rattle.heap.specs.Queue.{Queue, Popped}
use Rattle.windows.specs.declared.WindowRecord.{WindowRecord}
use Rattle.windows.specs.Windows.{reflagged, unqueued_record, adjust}
use Rattle.actions.specs.Actions.{Stock, stock, wins_after, play}
use Rattle.pop.specs.of_trim_model.Intervals.{tiny_of}
use Rattle.pop.specs.of_trim_model.Windows.{Window, unqueued}
use Rattle.pop.specs.of_trim_model.Add.{add_to}
use Rattle.pop.specs.of_trim_model.Model.{Candidate, as_window, admits}
use Rattle.pop.proofs.laws_of_trim_model.Ranks.{by_cases}
use Rattle.pop.specs.of_trim_state.Trace.{adding}
use Rattle.pop.specs.of_trim_state.State as state
use Rattle.pop.specs.of_trim_state.State.{State, EdgeData, edge_in, put, admit_of, add_of}
use Rattle.pop.proofs.laws_of_trim_state.Made.{After, finish_after}
use Rattle.pop.specs.of_live_windows.Live.{unqueued_in}
use Rattle.pop.specs.State.{claimed_win, wins_claimed, live_claimed, after_pop}
use Rattle.last_pass.specs.Finished.{LowIs, sources_of, Sourced, Recorded}
use Rattle.last_pass.proofs.Sources.{made_by_all, sources_adjust, sources_after, length_sources, count_play, grow_all, add_sourced}
use Rattle.last_pass.proofs.Lows.{adjust_lows, lows_after, adding_right}

-- at first there are no windows
pub recorded_none : (s : State) → s.wins ≡ [] → ((e : ℕ) → s.live e ≡ []) → s.stock.made ≡ 0 → Recorded s
recorded_none s w l m = record {
  count = m ∙ ap length (sym w);
  sources = λ e. subst (All (Sourced (sources_of s.wins))) (sym (l e)) tt;
  lows = subst (All LowIs) (sym w) tt;
}

-- nothing but the queue and the vertices changes
pub recorded_stock : (s : State) → Recorded s → (k : Stock) → k.made ≡ s.stock.made → Recorded (record { wins = s.wins; live = s.live; stock = k })
recorded_stock s R k h = record { count = h ∙ R.count; sources = R.sources; lows = R.lows }

-- ---- an addition
module _ (cuts windows : ℕ) (limit : Float) (flags : List ℕ) (mesh : EdgeData) (c : Candidate) (s : State) (R : Recorded s) where
  admit_recorded : After cuts windows limit flags Recorded (admit_of cuts windows limit flags mesh c s)
  unfolding admit_of
  admit_recorded =
      let e = c.edge in
      let S = sources_of s.wins in
      let todo = adding (edge_in mesh e) (as_window c) (s.live e) s.stock.made in
      let wins = wins_after todo s.wins in
      let l = (add_to better_of (tiny_of (mesh.len e)) (as_window c) (s.live e) s.stock.made).live in
      let all : S ++ made_by_all todo ≡ sources_of wins = sym (sources_after todo s.wins) in
      let count : s.stock.made ≡ length S = R.count ∙ sym (length_sources s.wins) in
      let size : s.stock.made + length (made_by_all todo) ≡ length wins = omega (arith, count, length-append S (made_by_all todo), ap length all, length_sources wins) in
      let here : All (Sourced (sources_of wins)) l = subst (λ (z : List Src). All (Sourced z) l) all (add_sourced (edge_in mesh e) (as_window c) (s.live e) s.stock.made S count (R.sources e)) in
      let there : (f : ℕ) → All (Sourced (sources_of wins)) (s.live f) = λ f. subst (λ (z : List Src). All (Sourced z) (s.live f)) all (grow_all S (made_by_all todo) (s.live f) (R.sources f)) in
      finish_after cuts windows limit flags Recorded wins (put e l s.live) (s.stock.made + length (made_by_all todo)) (play cuts windows limit flags todo s.stock) (count_play cuts windows limit flags todo s.stock)
      (λ k i. record {
        count = i ∙ size;
        sources = λ f. by_cases (λ (b : Bool). All (Sourced (sources_of wins)) (cond b l (s.live f))) (eqb f e) (λ y. here) (λ n. there f);
        lows = lows_after todo s.wins S [] (sym (append-nil S)) (adding_right S (edge_in mesh e) (as_window c) (s.live e) s.stock.made (R.sources e)) R.lows;
      })

  add_recorded : After cuts windows limit flags Recorded (add_of cuts windows limit flags mesh c s)
  unfolding add_of
  add_recorded = by_cases (λ (b : Bool). After cuts windows limit flags Recorded (cond b (admit_of cuts windows limit flags mesh c s) (state.went s))) (admits limit mesh.len c) (λ y. admit_recorded) (λ n. R)

  -- one that goes through
  pub recorded_add : (t : State) → add_of cuts windows limit flags mesh c s ≡ state.went t → Recorded t
  recorded_add t h = subst (After cuts windows limit flags Recorded) h add_recorded

-- ---- a pop
length_adjust : {A : Type 0} (g : A → A) (i : ℕ) (l : List A) → length (adjust i g l) ≡ length l
unfolding adjust
length_adjust g i [] = refl
length_adjust g zero (x ∷ l) = refl
length_adjust g (suc i) (x ∷ l) = ap suc (length_adjust g i l)

claimed_win_lem : (x : WindowRecord) → (claimed_win x).win ≡ x.win
unfolding reflagged
claimed_win_lem x = by_cases (λ (b : Bool). (cond b (unqueued_record x) x).win ≡ x.win) x.alive (λ y. refl) (λ n. refl)

unqueued_sourced : (S : List Src) (i : ℕ) (us : List Window) → All (Sourced S) us → All (Sourced S) (unqueued_in i us)
unfolding unqueued_in
unqueued_sourced S i [] a = tt
unqueued_sourced S i (u ∷ us) a =
    (by_cases (λ (b : Bool). Sourced S (cond b (unqueued u) u)) (eqb u.num i) (λ y. record { made = a.0.made; source = a.0.source }) (λ n. a.0), unqueued_sourced S i us a.1)

claimed_recorded : (s : State) → Recorded s → (x : Item) (k : Stock) → k.made ≡ s.stock.made → Recorded (record { wins = wins_claimed x s.wins; live = λ (e : ℕ). live_claimed x (s.live e); stock = k })
unfolding wins_claimed live_claimed
claimed_recorded s R (Vertex v) k h = record { count = h ∙ R.count; sources = R.sources; lows = R.lows }
claimed_recorded s R (Item-as-Window id) k h =
    let same : sources_of (adjust id.0 claimed_win s.wins) ≡ sources_of s.wins = sources_adjust claimed_win (λ x i. (claimed_win_lem x i).src) id.0 s.wins in
    record {
      count = h ∙ R.count ∙ sym (length_adjust claimed_win id.0 s.wins);
      sources = λ e. unqueued_sourced (sources_of (adjust id.0 claimed_win s.wins)) id.0 (s.live e) (subst (λ (z : List Src). All (Sourced z) (s.live e)) (sym same) (R.sources e));
      lows = adjust_lows claimed_win (λ x l. subst (λ (w : Win). w.low ≡ lowest_of w.src w.b0 w.b1) (sym (claimed_win_lem x)) l) id.0 s.wins R.lows;
    }

pub recorded_pop : (s : State) → Recorded s → (x : Popped × Queue) → Recorded (after_pop s x)
unfolding after_pop
recorded_pop s R (None, q) = R
recorded_pop s R (Some (x, n), q) = claimed_recorded s R x.item (stock s.stock.made n q s.stock.vertex) refl
