-- The window that an event names: what the buffers say of it is what the list of all windows says, and one that is alive stands on its edge. Assumes nothing.
use Prim.Native.Nat.{ℕ, ◌≤◌, ◌<◌}
use native.Mathlib.Omega.{arith}
use mathlib.Core.Bool.{Bool, true, false, cond, ◌&&◌}
use mathlib.Core.List.{List, ◌∷◌, ◌++◌}
use mathlib.Core.Path.{◌≡◌, refl, sym, ap, subst, ◌∙◌}
use borrow.Author.Tests.{lt-ltb, le-ltb}
use lib.ListN.{length, get_or}
use lib.Ieee.{Float}
use Rattle.layout.specs.Layout.{alive_flag, queued_flag}
use Rattle.buffers.specs.declared.EdgeId.{EdgeId}
use Rattle.windows.specs.declared.WindowRecord.{WindowRecord}
use Rattle.windows.specs.Windows.{has_flag, flags_at, window_at, flags_with, reflagged, relinked, capacity_of}
use Rattle.windows.proofs.WindowList.{counted, flags_same}
use Rattle.chains.specs.Chains.{links}
use Rattle.trim_model.specs.Windows.{Window}
use Rattle.live_windows.specs.Live.{live_of, HoldsWindows, bare}
use Rattle.live_windows.proofs.Stored.{wins_at}
use Rattle.live_windows.proofs.Standing.{at_edge, around}
use Rattle.live_windows.proofs.Fronts.{find}
use Rattle.pop.specs.Words.{is_pending, claimed}

-- two windows that differ at most in the link and in whether they are queued
pub record SameWindow (x y : WindowRecord) : Type 0 where
  pub edge : x.edge ≡ y.edge
  pub into : x.carried.into ≡ y.carried.into
  pub alive : x.alive ≡ y.alive
  pub win : x.win ≡ y.win

bare_same : (x y : WindowRecord) → bare x ≡ y → SameWindow x y
unfolding bare relinked
bare_same x y h = record {
  edge = ap (λ (z : WindowRecord). z.edge) h;
  into = ap (λ (z : WindowRecord). z.carried.into) h;
  alive = ap (λ (z : WindowRecord). z.alive) h;
  win = ap (λ (z : WindowRecord). z.win) h;
}

flags_read : (w : List ℕ) (f : List Float) (i : ℕ) → (has_flag (flags_at w i) alive_flag && has_flag (flags_at w i) queued_flag) ≡ ((bare (window_at w f i)).alive && (bare (window_at w f i)).carried.queued)
unfolding bare relinked window_at
flags_read w f i = refl

both_left : (a b : Bool) → (a && b) ≡ true → a ≡ true
both_left true b h = refl
both_left false b h = h

-- a window that stands in the list of its edge
pub record InList (live : ℕ → List Window) (i : ℕ) (x : WindowRecord) : Type 0 where
  pub front : List Window
  pub rest : List Window
  pub is : live x.edge.0 ≡ front ++ live_of x i ∷ rest

module _ (made : ℕ) (w : List ℕ) (f : List Float) (edges : List ℕ) (wins : List WindowRecord) (live : ℕ → List Window) (H : HoldsWindows made wins (links edges w) f live) where
  -- no window past those made is pending
  pub pending_past : (i : ℕ) → made ≤ i → is_pending made w i ≡ false
  pending_past i h = rw (le-ltb i made h) refl

  module _ (i : ℕ) (d : WindowRecord) (l : i < made) where
    wins_is : get_or wins i d ≡ bare (window_at w f i)
    wins_is = subst (λ (ws : List WindowRecord). get_or ws i d ≡ bare (window_at w f i)) H.all (wins_at made w f i d l)

    -- the Rust's `w.alive && w.queued` of `wins[id]`
    pub pending_is : is_pending made w i ≡ ((get_or wins i d).alive && (get_or wins i d).carried.queued)
    pending_is = rw (lt-ltb i made l) (flags_read w f i ∙ ap (λ (x : WindowRecord). x.alive && x.carried.queued) (sym wins_is))

    -- the window as the buffers have it
    pub window_is : SameWindow (window_at w f i) (get_or wins i d)
    window_is = bare_same (window_at w f i) (get_or wins i d) (sym wins_is)

    -- and once its event is popped
    pub claimed_is : made ≤ capacity_of (length w) (length f) → SameWindow (window_at (claimed made w i) f i) (get_or wins i d)
    unfolding reflagged
    claimed_is fits = go (is_pending made w i) refl where
      same : (get_or wins i d).alive ≡ true → SameWindow (window_at (flags_with w i true false) f i) (get_or wins i d)
      same h =
          let e = flags_same w f i true false (counted i (length w) (length f) (omega (arith, l, fits))).0 in
          record {
            edge = ap (λ (x : WindowRecord). x.edge) e ∙ window_is.edge;
            into = ap (λ (x : WindowRecord). x.carried.into) e ∙ window_is.into;
            alive = ap (λ (x : WindowRecord). x.alive) e ∙ sym h;
            win = ap (λ (x : WindowRecord). x.win) e ∙ window_is.win;
          }

      go : (b : Bool) → is_pending made w i ≡ b → SameWindow (window_at (cond b (flags_with w i true false) w) f i) (get_or wins i d)
      go true h = same (both_left (get_or wins i d).alive (get_or wins i d).carried.queued (sym pending_is ∙ h))
      go false h = window_is

    -- a window that is alive stands on its edge
    pub alive_stands : (get_or wins i d).alive ≡ true → InList live i (get_or wins i d)
    unfolding bare relinked
    alive_stands h =
        let x = get_or wins i d in
        let e = x.edge.0 in
        let edge : (window_at w f i).edge.0 ≡ e = ap (λ (z : EdgeId). z.0) window_is.edge in
        let d = find (live e) i ((H.on_edge e).complete i l edge (window_is.alive ∙ h)) in
        let u = d.it in
        let a = (around made (links edges w) f e d.front u d.rest (at_edge made wins (links edges w) f live e (d.front ++ u ∷ d.rest) H d.is)).here in
        let same : u ≡ live_of x i = sym a.same ∙ ap (λ (k : ℕ). live_of (window_at w f k) k) d.number ∙ ap (λ (z : WindowRecord). live_of z i) (sym wins_is) in
        record { front = d.front; rest = d.rest; is = d.is ∙ ap (λ (v : Window). d.front ++ v ∷ d.rest) same }
