-- The ends of the edge that a new window reaches. Assumes nothing.
use Prim.Native.Nat.{ℕ}
use mathlib.Core.Bool.{Bool, true, false, cond}
use mathlib.Core.List.{List, [], ◌∷◌, ◌++◌}
use mathlib.Core.Path.{◌≡◌, refl, sym, ap, ◌∙◌}
use lib.Dec.{not_T}
use lib.Ieee.{Float, lt, le, is_nan}
use Rattle.float64.specs.Scalar.{zero64, min_of}
use Rattle.float64.specs.Notation.{◌⊖◌, ◌⊗◌}
use lib.Ieee.Bits.{is_false}
use Rattle.nat_laws.proofs.Tests.{by_cases}
use Rattle.float_laws.proofs.Order.{lt_irrefl}
use Rattle.source.specs.declared.Win.{Win}
use Rattle.source.specs.Distance.{eval_of}
use Rattle.windows.specs.declared.Edge.{Edge}
use Rattle.windows.specs.declared.WindowRecord.{WindowRecord}
use Rattle.std.specs.Prelude.{Err, Ok}
use Rattle.buffers.specs.declared.Lack.{Lack}
use Rattle.buffers.specs.Lack.{lack_number}
use Rattle.heap.specs.Queue.{Queue, Pushed}
use Rattle.actions.specs.Actions as actions
use Rattle.actions.specs.Actions.{Action, touch, Stock, stock, act, and_then, play, queueing, distance_of}
use Rattle.actions.proofs.Play.{play_nil, play_stop_append, play_go_append}
use Rattle.trim_split.specs.of_trim_model.Intervals.{push_if}
use Rattle.trim_split.specs.of_trim_model.Windows.{part}
use Rattle.trim_split.specs.of_trim_state.Trace.{near, touching}
use Rattle.trim_split.specs.of_live_windows.Live.{live_of}

-- what a queue answers, at the end
pub queue_full : (made : ℕ) (vertex : List Float) (l : Lack) (q : Queue) → queueing made vertex (Err l, q) ≡ actions.stopped (lack_number l)
unfolding queueing
queue_full made vertex l q = refl

pub queue_more : (made n : ℕ) (vertex : List Float) (q : Queue) → queueing made vertex (Ok n, q) ≡ actions.went (stock made n q vertex)
unfolding queueing
queue_more made n vertex q = refl

module _ (cuts windows : ℕ) (limit : Float) (flags : List ℕ) where
  abbrev played : List Action → Stock → actions.Outcome
  played = play cuts windows limit flags

  then_done : (made : ℕ) (vertex : List Float) (x : Pushed × Queue) → and_then (queueing made vertex x) (played []) ≡ queueing made vertex x
  unfolding and_then queueing
  then_done made vertex (Err l, q) = refl
  then_done made vertex (Ok n, q) = play_nil cuts windows limit flags (stock made n q vertex)

  one : (t : Action) (s : Stock) → played (t ∷ []) s ≡ and_then (act cuts windows limit flags t s) (played [])
  unfolding play
  one t s = refl

  -- no vertex is touched by its own distance, so the lesser of that and d touches it as d does
  not_touched : (v : ℕ) (s : Stock) (d : Float) → lt d (distance_of s.vertex v) ≡ false → act cuts windows limit flags (touch v d) s ≡ actions.went s
  unfolding act
  not_touched v s d h = rw h

  pub nearer_touches : (v : ℕ) (s : Stock) (d : Float) → act cuts windows limit flags (touch v (min_of (distance_of s.vertex v) d)) s ≡ act cuts windows limit flags (touch v d) s
  unfolding min_of
  nearer_touches v s d =
      let x : Float = distance_of s.vertex v in
      by_cases (λ b. act cuts windows limit flags (touch v (cond b d (cond (lt d x) d x))) s ≡ act cuts windows limit flags (touch v d) s) (is_nan x) (λ n. refl)
      (λ n. by_cases (λ b. act cuts windows limit flags (touch v (cond b d x)) s ≡ act cuts windows limit flags (touch v d) s) (lt d x) (λ h. refl)
      (λ h. not_touched v s x (is_false (lt x x) (not_T (lt x x) (lt_irrefl x))) ∙ sym (not_touched v s d (is_false (lt d x) h))))

  -- the end is reached, or it is not
  pub touched_yes : (c : Bool) → c ≡ true → (v : ℕ) (d : Float) (s : Stock) (made : ℕ) (vertex : List Float) (x : Pushed × Queue) → act cuts windows limit flags (touch v d) s ≡ queueing made vertex x → played (push_if c (touch v d)) s ≡ queueing made vertex x
  touched_yes c y v d s made vertex x h = rw y (one (touch v d) s ∙ ap (λ (o : actions.Outcome). and_then o (played [])) h ∙ then_done made vertex x)

  pub touched_no : (c : Bool) → c ≡ false → (v : ℕ) (d : Float) (made n : ℕ) (q : Queue) (vertex : List Float) → played (push_if c (touch v d)) (stock made n q vertex) ≡ queueing made vertex (Ok n, q)
  touched_no c y v d made n q vertex = rw y (play_nil cuts windows limit flags (stock made n q vertex) ∙ sym (queue_more made n vertex q))

  -- one end after the other
  pub ends_full : (us vs : List Action) (s : Stock) (made : ℕ) (vertex : List Float) (l : Lack) (q : Queue) (vertex' : List Float) (q' : Queue) → played us s ≡ queueing made vertex (Err l, q) → played (us ++ vs) s ≡ queueing made vertex' (Err l, q')
  ends_full us vs s made vertex l q vertex' q' h = play_stop_append cuts windows limit flags us vs s (lack_number l) (h ∙ queue_full made vertex l q) ∙ sym (queue_full made vertex' l q')

  pub ends_on : (us vs : List Action) (s : Stock) (made n : ℕ) (vertex : List Float) (q : Queue) → played us s ≡ queueing made vertex (Ok n, q) → (o : actions.Outcome) → played vs (stock made n q vertex) ≡ o → played (us ++ vs) s ≡ o
  ends_on us vs s made n vertex q h o k = play_go_append cuts windows limit flags us vs s (stock made n q vertex) (h ∙ queue_more made n vertex q) ∙ k

-- the new window is a part of x
module _ (cuts windows : ℕ) (limit : Float) (flags : List ℕ) (e : Edge) (x : WindowRecord) (b0 b1 : Float) (k j : ℕ) where
  abbrev win : Win
  win = record { b0 = b0; b1 = b1; low = x.win.low; src = x.win.src }

  abbrev first_end : List Action
  first_end = push_if (le b0 (near ⊗ e.len)) (touch e.a.0 (eval_of win zero64 zero64))

  abbrev other_end : List Action
  other_end = push_if (le (e.len ⊖ near ⊗ e.len) b1) (touch e.b.0 (eval_of win e.len zero64))

  touching_is : touching e (part (live_of x k) b0 b1 j) ≡ first_end ++ other_end
  unfolding touching eval_of
  touching_is = refl

  module _ (made n : ℕ) (q : Queue) (vertex : List Float) where
    pub touching_full : (l : Lack) (vertex' : List Float) (q' : Queue) → play cuts windows limit flags first_end (stock made n q vertex) ≡ queueing made vertex' (Err l, q') → play cuts windows limit flags (touching e (part (live_of x k) b0 b1 j)) (stock made n q vertex) ≡ queueing made vertex' (Err l, q')
    touching_full l vertex' q' h = ap (λ (todo : List Action). play cuts windows limit flags todo (stock made n q vertex)) touching_is ∙ ends_full cuts windows limit flags first_end other_end (stock made n q vertex) made vertex' l q' vertex' q' h

    pub touching_on : (m : ℕ) (vertex' : List Float) (q' : Queue) → play cuts windows limit flags first_end (stock made n q vertex) ≡ queueing made vertex' (Ok m, q') → (o : actions.Outcome) → play cuts windows limit flags other_end (stock made m q' vertex') ≡ o → play cuts windows limit flags (touching e (part (live_of x k) b0 b1 j)) (stock made n q vertex) ≡ o
    touching_on m vertex' q' h o g = ap (λ (l : List Action). play cuts windows limit flags l (stock made n q vertex)) touching_is ∙ ends_on cuts windows limit flags first_end other_end (stock made n q vertex) made m vertex' q' h o g
