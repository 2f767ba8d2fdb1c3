-- What is read of a popped event is what the state says of it, and what it passes on is of the mesh: turn_held, turn_there. Assumes nothing.
use Rattle.std.specs.declared.option.Option.{Option}
use Rattle.std.specs.declared.option.Option.TheVariants.{None, Some}
use Prim.Native.Nat.{ℕ, ◌≤◌, ◌<◌}
use native.Mathlib.Decide.{dec_le}
use native.Mathlib.Omega.{arith}
use mathlib.Core.Bool.{Bool, true, false, cond, not, ◌&&◌}
use mathlib.Core.List.{List}
use mathlib.Core.Logic.{⊎_elim}
use mathlib.Core.Path.{◌≡◌, refl, sym, ap, subst, ◌∙◌}
use borrow.Author.Tests.{eqb-false, lt-ltb, le-ltb}
use lib.Dec.{T, eqb}
use lib.ListN.{length, get_or, get_or-eq_default}
use lib.Ieee.{Float, le}
use Rattle.layout.specs.Layout.{alive_flag, queued_flag}
use Rattle.job_checks.specs.Sound.{ValidTriangles}
use Rattle.topology.specs.Edges.{no_face}
use Rattle.source.specs.Distance.{lowest_of}
use Rattle.heap.specs.declared.Item.{Item}
use Rattle.heap.specs.declared.Item.TheVariants.{Window as Item-as-Window, Vertex as Item-as-Vertex}
use Rattle.windows.specs.declared.WindowRecord.{WindowRecord}
use Rattle.windows.specs.Windows.{has_flag, flags_at, window_at, capacity_of}
use Rattle.chains.specs.Chains.{links}
use Rattle.actions.specs.Actions.{distance_of}
use Rattle.field_tests.specs.Tests.{emits_of, goes_on_of, emitted_of}
use Rattle.windows_there.proofs.laws_of_trim_model.Ranks.{by_cases}
use Rattle.windows_there.specs.of_trim_state.State.{State}
use Rattle.windows_there.specs.of_live_windows.Live.{HoldsWindows}
use Rattle.windows_there.proofs.laws_of_live_windows.Stored.{length_wins}
use Rattle.windows_there.specs.of_pop.Words.{is_pending, claimed, item_pending, item_claimed}
use Rattle.windows_there.proofs.laws_of_pop.Pending.{SameWindow, pending_past, pending_is, claimed_is}
use Rattle.spread.specs.of_spread_offers.declared.Spread.TheVariants.{Window, Vertex}
use Rattle.spread.specs.of_spread_offers.Spreading.{SpreadOf}
use Rattle.windows_there.specs.There.{GoesInto, RecordThere, WindowsThere, ItemThere}
use Rattle.windows_there.proofs.Kept.{there_at}
use Rattle.windows_there.proofs.Sides.{face_there}
use Rattle.spread.specs.of_spread_offers.declared.Spread.{Spread}
use Rattle.field_step.specs.Step.{no_window, vertex_turn, window_turn, turn_of}
use Rattle.field_step.specs.Contract.{turn_at, SlotFor}

-- ---- a window that is pending has a slot
pub slot_there : (made : ℕ) (w : List ℕ) (windows : ℕ) → made ≤ windows → (x : Item) (pending : Bool) → pending ≡ item_pending made w x → SlotFor windows x pending
unfolding SlotFor item_pending
slot_there made w windows fits (Item-as-Vertex k) pending is = tt
slot_there made w windows fits (Item-as-Window id) pending is = λ h. go h (dec_le made id.0) where
  go : pending ≡ true → Dec (made ≤ id.0) → id.0 < windows
  go h (yes d) = absurd (subst T (sym h ∙ is ∙ ap (λ (b : Bool). b && (has_flag (flags_at w id.0) alive_flag && has_flag (flags_at w id.0) queued_flag)) (le-ltb id.0 made d)) tt)
  go h (no d) = omega (arith, d, fits)

-- ---- a turn does not depend on the link nor on the flags
same_turn : (limit : Float) (x y : WindowRecord) → SameWindow x y → window_turn limit x ≡ window_turn limit y
unfolding window_turn
same_turn limit x y S =
    λ i. cond (goes_on_of (S.into i) (S.win i).b0 (S.win i).b1 (S.win i).src limit) (Some (Window (S.edge i) (S.into i) (S.win i).b0 (S.win i).b1 (S.win i).src)) None

module _ (limit : Float) (n : ℕ) (made : ℕ) (w : List ℕ) (f vertex : List Float) (edges : List ℕ) (s : State) (H : HoldsWindows made s.wins (links edges w) f s.live) (same : s.stock.vertex ≡ vertex) (fits : made ≤ capacity_of (length w) (length f)) where
  count : length s.wins ≡ made
  count = ap length (sym H.all) ∙ length_wins made w f

  abbrev win : ℕ → WindowRecord
  win i = get_or s.wins i no_window

  past_turn : (i : ℕ) → made ≤ i → cond (is_pending made w i) (window_turn limit (window_at (claimed made w i) f i)) None ≡ cond ((win i).alive && (win i).carried.queued) (window_turn limit (win i)) None
  past_turn i d =
      let none : win i ≡ no_window = get_or-eq_default s.wins no_window {n = i} (omega (arith, d, count)) in
      ap (λ (b : Bool). cond b (window_turn limit (window_at (claimed made w i) f i)) None) (pending_past made w f edges s.wins s.live H i d)
      ∙ sym (ap (λ (x : WindowRecord). cond (x.alive && x.carried.queued) (window_turn limit x) None) none)

  made_turn : (i : ℕ) → i < made → cond (is_pending made w i) (window_turn limit (window_at (claimed made w i) f i)) None ≡ cond ((win i).alive && (win i).carried.queued) (window_turn limit (win i)) None
  made_turn i l =
      let p = pending_is made w f edges s.wins s.live H i no_window l in
      let q = same_turn limit (window_at (claimed made w i) f i) (win i) (claimed_is made w f edges s.wins s.live H i no_window l fits) in
      λ t. cond (p t) (q t) None

  -- of an event's item, once it is popped
  pub turn_held : (x : Item) → ItemThere (λ k. k < n) x → (key : Float) → turn_at limit n (item_claimed made w x) f vertex x key (item_pending made w x) ≡ turn_of limit x key s
  unfolding turn_at turn_of item_pending item_claimed
  turn_held (Item-as-Vertex k) there key = ap (λ (b : Bool). cond b (vertex_turn vertex k.0 key) None) (lt-ltb k.0 n there) ∙ ap (λ (l : List Float). vertex_turn l k.0 key) (sym same)
  turn_held (Item-as-Window id) there key = go (dec_le made id.0) where
    go : Dec (made ≤ id.0) → cond (is_pending made w id.0) (window_turn limit (window_at (claimed made w id.0) f id.0)) None ≡ cond ((win id.0).alive && (win id.0).carried.queued) (window_turn limit (win id.0)) None
    go (yes d) = past_turn id.0 d
    go (no d) = made_turn id.0 (omega (arith, d))

-- ---- what is passed on is of the mesh
abbrev TurnThere : List ℕ → ℕ → Option Spread → Type 0
TurnThere triangles n None = Unit {0}
TurnThere triangles n (Some c) = SpreadOf triangles n c

module _ (triangles : List ℕ) (n : ℕ) (valid : ValidTriangles triangles n) (limit : Float) where
  vertex_there : (vertex : List Float) (k : ℕ) → k < n → (key : Float) → TurnThere triangles n (vertex_turn vertex k key)
  unfolding vertex_turn
  vertex_there vertex k l key = by_cases (λ (b : Bool). TurnThere triangles n (cond b (Some (Vertex (record { 0 = k }) (distance_of vertex k))) None)) (emits_of (distance_of vertex k) key (emitted_of vertex k)) (λ y. l) (λ y. tt)

  window_there : (x : WindowRecord) → RecordThere (GoesInto triangles) x → TurnThere triangles n (window_turn limit x)
  unfolding window_turn goes_on_of
  window_there x t = go (eqb x.carried.into.0 no_face) refl (le (lowest_of x.win.src x.win.b0 x.win.b1) limit) where
    go : (b : Bool) → eqb x.carried.into.0 no_face ≡ b → (e : Bool) → TurnThere triangles n (cond (not b && e) (Some (Window x.edge x.carried.into x.win.b0 x.win.b1 x.win.src)) None)
    go true h e = tt
    go false h false = tt
    go false h true = (t.0, ⊎_elim (λ of. face_there triangles n valid x.edge.0 t.0 x.carried.into.0 of) (λ q. absurd (eqb-false x.carried.into.0 no_face h q)) t.1)

  item_there : (s : State) → WindowsThere (GoesInto triangles) s → (x : Item) → ItemThere (λ k. k < n) x → (key : Float) → TurnThere triangles n (turn_of limit x key s)
  unfolding turn_of
  item_there s T (Item-as-Vertex k) there key = vertex_there s.stock.vertex k.0 there key
  item_there s T (Item-as-Window id) there key = go (dec_le (length s.wins) id.0) where
    Goal : WindowRecord → Type 0
    Goal x = TurnThere triangles n (cond (x.alive && x.carried.queued) (window_turn limit x) None)

    go : Dec (length s.wins ≤ id.0) → Goal (get_or s.wins id.0 no_window)
    go (yes d) = subst Goal (sym (get_or-eq_default s.wins no_window {n = id.0} d)) tt
    go (no d) =
        let x = get_or s.wins id.0 no_window in
        by_cases (λ (b : Bool). TurnThere triangles n (cond b (window_turn limit x) None)) (x.alive && x.carried.queued) (λ y. window_there x (there_at (GoesInto triangles) s T id.0 no_window (omega (arith, d)))) (λ y. tt)

  pub turn_there : (s : State) → WindowsThere (GoesInto triangles) s → (x : Item) → ItemThere (λ k. k < n) x → (key : Float) (t : Option Spread) → t ≡ turn_of limit x key s → TurnThere triangles n t
  turn_there s T x there key t h = subst (TurnThere triangles n) (sym h) (item_there s T x there key)
