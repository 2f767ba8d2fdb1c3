-- Additions and pops keep every live window on its edge, from 0 to the length: inside_add, inside_pop. Assumes nothing.
use Prim.Native.Nat.{ℕ}
use mathlib.Core.Bool.{Bool, true, false, cond}
use mathlib.Core.List.{List, [], ◌∷◌}
use mathlib.Core.Path.{◌≡◌, refl, sym, subst}
use borrow.Author.Tests.{eqb-true}
use lib.Dec.{T, eqb}
use lib.Ieee.{Float}
use Rattle.last_pass.specs.of_better.Claim.{All}
use Rattle.last_pass.specs.of_better.Stretches.{better_of}
use Rattle.heap.specs.declared.Item.{Item}
use Rattle.heap.specs.declared.Item.TheVariants.{Window as Item-as-Window, Vertex as Item-as-Vertex}
use Rattle.std.specs.Prelude.{None, Some}
use Rattle.heap.specs.Queue.{Queue, Popped}
use Rattle.windows.specs.declared.WindowRecord.{WindowRecord}
use Rattle.actions.specs.Actions as actions
use Rattle.actions.specs.Actions.{wins_after, Outcome, play}
use Rattle.last_pass.specs.of_trim_model.Intervals.{tiny_of}
use Rattle.last_pass.specs.of_trim_model.Windows.{Window, unqueued}
use Rattle.last_pass.specs.of_trim_model.Add.{add_to}
use Rattle.last_pass.specs.of_trim_model.Model.{Candidate, as_window, admits}
use Rattle.last_pass.specs.of_trim_model.Claim.{AdmittedProper}
use Rattle.last_pass.proofs.laws_of_trim_model.Ranks.{by_cases}
use Rattle.last_pass.specs.of_trim_state.Trace.{adding}
use Rattle.last_pass.specs.of_trim_state.State as state
use Rattle.last_pass.specs.of_trim_state.State.{State, EdgeData, edge_in, put, finish, admit_of, add_of}
use Rattle.last_pass.specs.of_trim_state.Follows.{Follows}
use Rattle.last_pass.proofs.laws_of_trim_state.Follows.{follows_tidy}
use Rattle.last_pass.specs.of_live_windows.Live.{unqueued_in}
use Rattle.last_pass.specs.of_pop.State.{live_claimed, after_pop}
use Rattle.inside_edges.specs.Inside.{AdmittedInside, OnLength}
use Rattle.inside_edges.proofs.Live.{added_on}
use Rattle.work_laws.specs.Kept.{EndsIn}

module _ (len : ℕ → Float) where
  abbrev pub OnEdges : State → Type 0
  OnEdges s = (e : ℕ) → All (OnLength (len e)) (s.live e)

  -- ---- a pop
  unqueued_on : (l : Float) (i : ℕ) (us : List Window) → All (OnLength l) us → All (OnLength l) (unqueued_in i us)
  unfolding unqueued_in
  unqueued_on l i [] a = tt
  unqueued_on l i (u ∷ us) a = (by_cases (λ (b : Bool). OnLength l (cond b (unqueued u) u)) (eqb u.num i) (λ y. a.0) (λ n. a.0), unqueued_on l i us a.1)

  claimed_on : (l : Float) (x : Item) (us : List Window) → All (OnLength l) us → All (OnLength l) (live_claimed x us)
  unfolding live_claimed
  claimed_on l (Item-as-Window id) us a = unqueued_on l id.0 us a
  claimed_on l (Item-as-Vertex v) us a = a

  pub inside_pop : (s : State) → OnEdges s → (p : Popped × Queue) → OnEdges (after_pop s p)
  unfolding after_pop
  inside_pop s h (None, q) = h
  inside_pop s h (Some (x, n), q) = λ e. claimed_on (len e) x.item (s.live e) (h e)

-- ---- an addition
module _ (cuts windows : ℕ) (limit : Float) (flags : List ℕ) (mesh : EdgeData) {past : List Candidate} (c : Candidate) (s : State) (F : Follows limit mesh.len past s.stock.made s.live)
    (p : AdmittedProper limit mesh.len c) (i : AdmittedInside limit mesh.len c) (h : OnEdges mesh.len s) where
  abbrev e : ℕ
  e = c.edge

  abbrev here : List Window
  here = (add_to better_of (tiny_of (mesh.len e)) (as_window c) (s.live e) s.stock.made).live

  finish_inside : (wins : List WindowRecord) (live : ℕ → List Window) → ((g : ℕ) → All (OnLength (mesh.len g)) (live g)) → (o : Outcome) → EndsIn (OnEdges mesh.len) (finish wins live o)
  unfolding finish
  finish_inside wins live a (actions.stopped n) = tt
  finish_inside wins live a (actions.went k) = a

  put_inside : T (admits limit mesh.len c) → (g : ℕ) → All (OnLength (mesh.len g)) (put e here s.live g)
  put_inside y g = go (eqb g e) refl where
    go : (b : Bool) → eqb g e ≡ b → All (OnLength (mesh.len g)) (cond b here (s.live g))
    go true z = subst (λ (k : ℕ). All (OnLength (mesh.len k)) here) (sym (eqb-true g e z)) (added_on limit mesh.len c (p y) (i y) y s.stock.made (s.live e) (follows_tidy F e).wides (h e))
    go false z = h g

  admit_inside : T (admits limit mesh.len c) → EndsIn (OnEdges mesh.len) (admit_of cuts windows limit flags mesh c s)
  unfolding admit_of
  admit_inside y =
      let todo = adding (edge_in mesh e) (as_window c) (s.live e) s.stock.made in
      finish_inside (wins_after todo s.wins) (put e here s.live) (put_inside y) (play cuts windows limit flags todo s.stock)

  pub inside_add : EndsIn (OnEdges mesh.len) (add_of cuts windows limit flags mesh c s)
  unfolding add_of
  inside_add =
      by_cases (λ (b : Bool). EndsIn (OnEdges mesh.len) (cond b (admit_of cuts windows limit flags mesh c s) (state.went s))) (admits limit mesh.len c) (λ y. admit_inside y) (λ n. h)
