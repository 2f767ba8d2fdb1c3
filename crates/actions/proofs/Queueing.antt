-- A push and the ways that a touch can go, by what the queue answers.
use Prim.Native.Nat.{ℕ, ◌+◌, ◌*◌}
use mathlib.Core.Bool.{Bool, true, false}
use mathlib.Core.List.{List}
use mathlib.Core.Path.{◌≡◌, ap, sym, ◌∙◌}
use lib.Dec.{eqb}
use lib.ListN.{get_or}
use lib.Ieee.{Float, lt, le}
use Rattle.layout.specs.Layout.{words_per_vertex, vertex_flag}
use Rattle.heap.specs.declared.Event.{Event}
use Rattle.std.specs.Prelude.{Ok}
use Rattle.heap.specs.declared.Item.TheVariants.{Vertex}
use Rattle.heap.specs.Queue.{Queue, pushing, Pushed}
use Rattle.actions.specs.Actions.{push, touch, stock, distance_of, with_distance, queueing, act}

module _ (cuts windows : ℕ) (limit : Float) (flags : List ℕ) (made n : ℕ) (q : Queue) (vertex : List Float) where
  -- what `heap::push` ensures
  pub push_is : (e : Event) (p : Pushed × Queue) → p ≡ pushing q n e → act cuts windows limit flags (push e) (stock made n q vertex) ≡ queueing made vertex p
  unfolding act
  push_is e p h = ap (queueing made vertex) (sym h)

  module _ (v : ℕ) (d r : Float) (is_read : r ≡ distance_of vertex v) where
    pub touch_longer : lt d r ≡ false → act cuts windows limit flags (touch v d) (stock made n q vertex) ≡ queueing made vertex (Ok n, q)
    unfolding act queueing
    touch_longer h = let k : lt d (distance_of vertex v) ≡ false = ap (lt d) (sym is_read) ∙ h in rw k

    module _ (shorter : lt d r ≡ true) (vertex' : List Float) (is_written : vertex' ≡ with_distance vertex v d) (f : Bool) (isFlag : f ≡ eqb (get_or flags (words_per_vertex * v + vertex_flag) 0) 1) where
      pub touch_unflagged : f ≡ false → act cuts windows limit flags (touch v d) (stock made n q vertex) ≡ queueing made vertex' (Ok n, q)
      unfolding act queueing
      touch_unflagged h =
          let k : lt d (distance_of vertex v) ≡ true = ap (lt d) (sym is_read) ∙ shorter in
          let u : eqb (get_or flags (words_per_vertex * v + vertex_flag) 0) 1 ≡ false = sym isFlag ∙ h in
          rw (k, u, is_written)

      pub touch_beyond : f ≡ true → le d limit ≡ false → act cuts windows limit flags (touch v d) (stock made n q vertex) ≡ queueing made vertex' (Ok n, q)
      unfolding act queueing
      touch_beyond h b =
          let k : lt d (distance_of vertex v) ≡ true = ap (lt d) (sym is_read) ∙ shorter in
          let u : eqb (get_or flags (words_per_vertex * v + vertex_flag) 0) 1 ≡ true = sym isFlag ∙ h in
          rw (k, u, b, is_written)

      pub touch_queued : f ≡ true → le d limit ≡ true → (e : Event) → e ≡ record { key = d; item = Vertex (record { 0 = v }) } → (p : Pushed × Queue) → p ≡ pushing q n e
          → act cuts windows limit flags (touch v d) (stock made n q vertex) ≡ queueing made vertex' p
      unfolding act
      touch_queued h b e isEvent p isPushed =
          let k : lt d (distance_of vertex v) ≡ true = ap (lt d) (sym is_read) ∙ shorter in
          let u : eqb (get_or flags (words_per_vertex * v + vertex_flag) 0) 1 ≡ true = sym isFlag ∙ h in
          rw (k, u, b, is_written, isPushed, isEvent)
