-- The turn of an event as the code computes it. Assumes nothing.
use Rattle.std.specs.declared.option.Option.{Option}
use Rattle.std.specs.declared.option.Option.TheVariants.{None, Some}
use Prim.Native.Nat.{ℕ, ◌≤◌, ◌<◌}
use mathlib.Core.Bool.{Bool, true, false, cond}
use mathlib.Core.List.{List}
use mathlib.Core.Path.{◌≡◌, refl, sym, ap, subst, ◌∙◌}
use borrow.Author.Tests.{lt-ltb, le-ltb}
use lib.Dec.{ltb}
use lib.Ieee.{Float}
use Rattle.buffers.specs.declared.VertexId.{VertexId}
use Rattle.buffers.specs.declared.WindowId.{WindowId}
use Rattle.heap.specs.declared.Item.{Item}
use Rattle.heap.specs.declared.Item.TheVariants.{Window as Item-as-Window, Vertex as Item-as-Vertex}
use Rattle.windows.specs.declared.WindowRecord.{WindowRecord}
use Rattle.windows.specs.Windows.{window_at}
use Rattle.actions.specs.Actions.{distance_of}
use Rattle.field_tests.specs.Tests.{emits_of, goes_on_of, emitted_of}
use Rattle.spread.specs.of_spread_offers.declared.Spread.TheVariants.{Window, Vertex}
use Rattle.spread.specs.of_spread_offers.declared.Spread.{Spread}
use Rattle.field_step.specs.Step.{vertex_turn, window_turn}
use Rattle.field_step.specs.Contract.{turn_at, SlotFor}

-- ---- of a vertex
module _ (n : ℕ) (vertex : List Float) (k : VertexId) (key : Float) where
  pub vertex_far : n ≤ k.0 → None ≡ cond (ltb k.0 n) (vertex_turn vertex k.0 key) None
  unfolding vertex_turn
  vertex_far h = rw (le-ltb k.0 n h) refl

  module _ (l : k.0 < n) (d : Float) (isD : d ≡ distance_of vertex k.0) (m : Float) (isM : m ≡ emitted_of vertex k.0) (b : Bool) (is : b ≡ emits_of d key m) where
    emits_is : (c : Bool) → b ≡ c → emits_of (distance_of vertex k.0) key (emitted_of vertex k.0) ≡ c
    emits_is c h = (λ i. emits_of (sym isD i) key (sym isM i)) ∙ sym is ∙ h

    pub vertex_emits : b ≡ true → Some (Vertex k d) ≡ cond (ltb k.0 n) (vertex_turn vertex k.0 key) None
    unfolding vertex_turn
    vertex_emits h = rw (lt-ltb k.0 n l, emits_is true h) (ap (λ (x : Float). Some (Vertex k x)) isD)

    pub vertex_rests : b ≡ false → None ≡ cond (ltb k.0 n) (vertex_turn vertex k.0 key) None
    unfolding vertex_turn
    vertex_rests h = rw (lt-ltb k.0 n l, emits_is false h) refl

-- ---- of a window
module _ (limit : Float) (x : WindowRecord) (b : Bool) (is : b ≡ goes_on_of x.carried.into x.win.b0 x.win.b1 x.win.src limit) where
  pub window_goes : b ≡ true → Some (Window x.edge x.carried.into x.win.b0 x.win.b1 x.win.src) ≡ window_turn limit x
  unfolding window_turn
  window_goes h = rw (sym is ∙ h) refl

  pub window_stays : b ≡ false → None ≡ window_turn limit x
  unfolding window_turn
  window_stays h = rw (sym is ∙ h) refl

-- ---- of an event
module _ (limit : Float) (n : ℕ) (words : List ℕ) (reals vertex : List Float) (item : Item) (key : Float) (pending : Bool) where
  module _ (id : WindowId) (h : item ≡ Item-as-Window id) where
    pub slot_window : (windows : ℕ) → SlotFor windows item pending → pending ≡ true → id.0 < windows
    unfolding SlotFor
    slot_window windows s = subst (λ (z : Item). SlotFor windows z pending) h s

    pub turn_pending : pending ≡ true → (r : Option Spread) → r ≡ window_turn limit (window_at words reals id.0) → r ≡ turn_at limit n words reals vertex item key pending
    unfolding turn_at
    turn_pending p r e = rw (h, p) e

    pub turn_past : pending ≡ false → None ≡ turn_at limit n words reals vertex item key pending
    unfolding turn_at
    turn_past p = rw (h, p) refl

  pub turn_vertex : (k : VertexId) → item ≡ Item-as-Vertex k → (r : Option Spread) → r ≡ cond (ltb k.0 n) (vertex_turn vertex k.0 key) None → r ≡ turn_at limit n words reals vertex item key pending
  unfolding turn_at
  turn_vertex k h r e = rw h e
