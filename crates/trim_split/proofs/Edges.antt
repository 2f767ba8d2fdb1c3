-- The list of an edge replaced. Assumes nothing.
use Prim.Native.Nat.{ℕ}
use mathlib.Core.List.{List}
use mathlib.Core.Path.{◌≡◌, sym, subst}
use lib.Ieee.{Float}
use Rattle.windows.specs.declared.WindowRecord.{WindowRecord}
use Rattle.chains.specs.Chains.{Links}
use Rattle.cut_lists.specs.of_trim_model.Windows.{Window}
use Rattle.live_windows.specs.of_trim_state.State.{put}
use Rattle.live_windows.specs.Live.{HoldsWindows}
use Rattle.live_windows.proofs.Lists.{put_twice, put_same}

module _ (n : ℕ) (wins : List WindowRecord) (b : Links) (f : List Float) where
  -- the list of edge e, as put there
  pub holds_put : (e : ℕ) (l : List Window) (live : ℕ → List Window) → live e ≡ l → HoldsWindows n wins b f live → HoldsWindows n wins b f (put e l live)
  holds_put e l live h = subst (HoldsWindows n wins b f) (sym (put_same e l live h))

  pub holds_again : (e : ℕ) (l k : List Window) (live : ℕ → List Window) → HoldsWindows n wins b f (put e l (put e k live)) → HoldsWindows n wins b f (put e l live)
  holds_again e l k live = subst (HoldsWindows n wins b f) (put_twice e l k live)

  pub holds_equal : (e : ℕ) (l k : List Window) (live : ℕ → List Window) → l ≡ k → HoldsWindows n wins b f (put e l live) → HoldsWindows n wins b f (put e k live)
  holds_equal e l k live h = subst (λ (x : List Window). HoldsWindows n wins b f (put e x live)) h
