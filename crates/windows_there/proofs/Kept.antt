-- Additions and pops keep all windows there: there_add, there_all (candidates one after the other), there_pop; there_stock (nothing but the queue and the vertices changes), there_none. Assumes nothing.
use Prim.Native.Nat.{ℕ, zero, suc, ◌<◌}
use native.Mathlib.Omega.{arith}
use mathlib.Core.Bool.{Bool, true, false, cond}
use mathlib.Core.List.{List, [], ◌∷◌}
use mathlib.Core.Path.{◌≡◌, refl, sym, subst}
use borrow.Author.Tests.{eqb-true}
use lib.Dec.{eqb}
use lib.ListN.{length, get_or}
use lib.Ieee.{Float}
use Rattle.pop.specs.of_better.Claim.{All}
use Rattle.pop.specs.of_better.Stretches.{better_of}
use Rattle.heap.specs.declared.Item.{Item}
use Rattle.heap.specs.declared.Item.TheVariants.{Window as Item-as-Window, Vertex}
use Rattle.std.specs.Prelude.{None, Some}
use Rattle.heap.specs.Queue.{Queue, Popped}
use Rattle.windows.specs.declared.WindowRecord.{WindowRecord}
use Rattle.windows.specs.Windows.{trimmed, reflagged, relinked, dead, unqueued_record, adjust}
use Rattle.actions.specs.Actions as actions
use Rattle.actions.specs.Actions.{Action, list, make, trim, kill, push, touch, wins_with, wins_after, Stock, stock, Outcome, play}
use Rattle.pop.specs.of_trim_model.Intervals.{tiny_of}
use Rattle.pop.specs.of_trim_model.Windows.{Window, unqueued}
use Rattle.pop.specs.of_trim_model.Add.{add_to}
use Rattle.pop.specs.of_trim_model.Model.{Candidate, as_window, admits}
use Rattle.pop.proofs.laws_of_trim_model.Ranks.{by_cases}
use Rattle.pop.proofs.laws_of_trim_model.Lists.{all_append}
use Rattle.pop.specs.of_trim_state.Trace.{adding}
use Rattle.pop.specs.of_trim_state.State as state
use Rattle.pop.specs.of_trim_state.State.{State, Result, EdgeData, edge_in, put, finish, admit_of, add_of}
use Rattle.pop.proofs.laws_of_trim_state.Made.{After}
use Rattle.pop.specs.of_live_windows.Live.{unqueued_in}
use Rattle.pop.specs.State.{claimed_win, wins_claimed, live_claimed, after_pop}
use Rattle.spread_offers.specs.of_offers.Offers.{and_next, add_all}
use Rattle.windows_there.specs.There.{RecordThere, LiveThere, CandidateThere, WindowsThere}
use Rattle.windows_there.proofs.Added.{MakesThere, left_there, adding_there}

module _ (P : ℕ → ℕ → Type 0) where
  -- at first there are no windows
  pub there_none : (s : State) → s.wins ≡ [] → ((e : ℕ) → s.live e ≡ []) → WindowsThere P s
  there_none s w l = record { wins = subst (All (RecordThere P)) (sym w) tt; live = λ e. subst (All (LiveThere P e)) (sym (l e)) tt }

  pub there_stock : (s : State) → WindowsThere P s → (k : Stock) → WindowsThere P (record { wins = s.wins; live = s.live; stock = k })
  there_stock s T k = record { wins = T.wins; live = T.live }

  -- ---- the list of all windows
  adjust_there : (g : WindowRecord → WindowRecord) → ((x : WindowRecord) → RecordThere P x → RecordThere P (g x)) → (i : ℕ) (wins : List WindowRecord) → All (RecordThere P) wins → All (RecordThere P) (adjust i g wins)
  unfolding adjust
  adjust_there g h i [] a = tt
  adjust_there g h zero (x ∷ wins) a = (h x a.0, a.1)
  adjust_there g h (suc i) (x ∷ wins) a = (a.0, adjust_there g h i wins a.1)

  with_there : (Q : ℕ → Type 0) (a : Action) (wins : List WindowRecord) → MakesThere P Q a → All (RecordThere P) wins → All (RecordThere P) (wins_with a wins)
  unfolding wins_with trimmed relinked reflagged
  with_there Q (list n) wins m h = h
  with_there Q (make x) wins m h = all_append (RecordThere P) wins (x ∷ []) h (m, tt)
  with_there Q (trim i b0 b1 low) wins m h = adjust_there (λ x. trimmed x b0 b1 low) (λ x k. k) i wins h
  with_there Q (kill i) wins m h = adjust_there dead (λ x k. k) i wins h
  with_there Q (push e) wins m h = h
  with_there Q (touch v d) wins m h = h

  after_there : (Q : ℕ → Type 0) (todo : List Action) (wins : List WindowRecord) → All (MakesThere P Q) todo → All (RecordThere P) wins → All (RecordThere P) (wins_after todo wins)
  unfolding wins_after
  after_there Q [] wins m h = h
  after_there Q (a ∷ rest) wins m h = after_there Q rest (wins_with a wins) m.1 (with_there Q a wins m.0 h)

  -- ---- additions
  module _ (cuts windows : ℕ) (limit : Float) (flags : List ℕ) (mesh : EdgeData) where
    abbrev Then : Result → Type 0
    Then = After cuts windows limit flags (WindowsThere P)

    finish_there : (wins : List WindowRecord) (live : ℕ → List Window) (o : Outcome) → All (RecordThere P) wins → ((e : ℕ) → All (LiveThere P e) (live e)) → Then (finish wins live o)
    unfolding finish
    finish_there wins live (actions.stopped n) a l = tt
    finish_there wins live (actions.went k) a l = record { wins = a; live = l }

    module _ (c : Candidate) (there : CandidateThere P c) (s : State) (T : WindowsThere P s) where
      abbrev e : ℕ
      e = c.edge

      abbrev list_after : List Window
      list_after = (add_to better_of (tiny_of (mesh.len e)) (as_window c) (s.live e) s.stock.made).live

      edges_there : (f : ℕ) → All (LiveThere P f) (put e list_after s.live f)
      edges_there f = go (eqb f e) refl where
        go : (b : Bool) → eqb f e ≡ b → All (LiveThere P f) (cond b list_after (s.live f))
        go true h = subst (λ (k : ℕ). All (LiveThere P k) list_after) (sym (eqb-true f e h)) (left_there P e (tiny_of (mesh.len e)) (as_window c) there (s.live e) s.stock.made (T.live e))
        go false h = T.live f

      admit_there : Then (admit_of cuts windows limit flags mesh c s)
      unfolding admit_of
      admit_there =
          let todo = adding (edge_in mesh e) (as_window c) (s.live e) s.stock.made in
          finish_there (wins_after todo s.wins) (put e list_after s.live) (play cuts windows limit flags todo s.stock)
          (after_there (λ k. Unit {0}) todo s.wins (adding_there P (λ k. Unit {0}) (edge_in mesh e) tt tt (as_window c) there (s.live e) s.stock.made (T.live e)) T.wins) edges_there

      add_there : Then (add_of cuts windows limit flags mesh c s)
      unfolding add_of
      add_there = by_cases (λ (b : Bool). Then (cond b (admit_of cuts windows limit flags mesh c s) (state.went s))) (admits limit mesh.len c) (λ y. admit_there) (λ n. T)

      -- one that goes through
      pub there_add : (t : State) → add_of cuts windows limit flags mesh c s ≡ state.went t → WindowsThere P t
      there_add t h = subst Then h add_there

    next_there : (r : Result) (f : State → Result) → Then r → ((t : State) → WindowsThere P t → Then (f t)) → Then (and_next r f)
    unfolding and_next
    next_there (state.stopped n) f h g = tt
    next_there (state.went t) f h g = g t h

    all_there : (cs : List Candidate) → All (CandidateThere P) cs → (s : State) → WindowsThere P s → Then (add_all cuts windows limit flags mesh cs s)
    unfolding add_all
    all_there [] a s T = T
    all_there (c ∷ cs) a s T = next_there (add_of cuts windows limit flags mesh c s) (add_all cuts windows limit flags mesh cs) (add_there c a.0 s T) (all_there cs a.1)

    -- one after the other
    pub there_all : (cs : List Candidate) → All (CandidateThere P) cs → (s : State) → WindowsThere P s → (t : State) → add_all cuts windows limit flags mesh cs s ≡ state.went t → WindowsThere P t
    there_all cs a s T t h = subst Then h (all_there cs a s T)

  -- ---- a pop
  claimed_there : (x : WindowRecord) → RecordThere P x → RecordThere P (claimed_win x)
  unfolding reflagged
  claimed_there x h = by_cases (λ (b : Bool). RecordThere P (cond b (unqueued_record x) x)) x.alive (λ y. h) (λ n. h)

  unqueued_there : (e i : ℕ) (us : List Window) → All (LiveThere P e) us → All (LiveThere P e) (unqueued_in i us)
  unfolding unqueued_in
  unqueued_there e i [] a = tt
  unqueued_there e i (u ∷ us) a = (by_cases (λ (b : Bool). LiveThere P e (cond b (unqueued u) u)) (eqb u.num i) (λ y. a.0) (λ n. a.0), unqueued_there e i us a.1)

  claim_there : (s : State) → WindowsThere P s → (x : Item) (k : Stock) → WindowsThere P (record { wins = wins_claimed x s.wins; live = λ (e : ℕ). live_claimed x (s.live e); stock = k })
  unfolding wins_claimed live_claimed
  claim_there s T (Vertex v) k = record { wins = T.wins; live = T.live }
  claim_there s T (Item-as-Window id) k = record { wins = adjust_there claimed_win claimed_there id.0 s.wins T.wins; live = λ e. unqueued_there e id.0 (s.live e) (T.live e) }

  pub there_pop : (s : State) → WindowsThere P s → (x : Popped × Queue) → WindowsThere P (after_pop s x)
  unfolding after_pop
  there_pop s T (None, q) = T
  there_pop s T (Some (x, n), q) = claim_there s T x.item (stock s.stock.made n q s.stock.vertex)

  -- ---- the window of a number
  all_at : (l : List WindowRecord) → All (RecordThere P) l → (i : ℕ) (d : WindowRecord) → i < length l → RecordThere P (get_or l i d)
  all_at [] a i d q = absurd (omega (arith, q))
  all_at (x ∷ l) a zero d q = a.0
  all_at (x ∷ l) a (suc i) d q = all_at l a.1 i d (omega (arith, q))

  pub there_at : (s : State) → WindowsThere P s → (i : ℕ) (d : WindowRecord) → i < length s.wins → RecordThere P (get_or s.wins i d)
  there_at s T i d l = all_at s.wins T.wins i d l
