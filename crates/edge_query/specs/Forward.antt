-- The same in one walk along the list from its start. Definitions only: `forward_is` in proofs/Forward.antt says that it is the same.
-- `min_of` gives the first of the least operands in whatever way they are put together (`min_assoc`), and passes over a NaN: so values are put together as they are met, each
-- before those that were met earlier. A window that ends short of x is kept by its link, since only the last of them is evaluated.
use Prim.Native.Nat.{ℕ, zero, suc}
use mathlib.Core.List.{List, [], ◌∷◌}
use Rattle.std.specs.Prelude.{Float, if◌then◌else◌}
use Rattle.std.specs.Float.{nan}
use Rattle.std.specs.Float.Ieee.{lt, le}
use Rattle.float64.specs.Scalar.{zero64, min_of}
use Rattle.source.specs.declared.Win.{Win}
use Rattle.source.specs.Distance.{eval_of}
use Rattle.windows.specs.Windows.{window_at}
use Rattle.edge_query.specs.declared.Passed.{Passed}

module _ (w : List ℕ) (f : List Float) (x : Float) where
  abbrev pub win_of_number : ℕ → Win
  win_of_number i = (window_at w f i).win

  -- the value of the window of a link, a NaN of none
  unfoldable pub value_of : ℕ → Float
  value_of zero = nan
  value_of (suc i) = eval_of (win_of_number i) x zero64

  -- what the windows passed so far come to
  abbrev pub passed_value : Passed → Float
  passed_value p = min_of p.least (value_of p.short)

  -- window i is passed
  unfoldable pub past_of : Passed → ℕ → Passed
  unfolding value_of
  past_of p i =
      if lt (win_of_number i).b1 x then record { least = nan; short = suc i } else
      record { least = min_of (value_of (suc i)) p.least; short = p.short }

  -- the least of d and of what the windows of these numbers come to, with those passed before them
  unfoldable pub forward : Float → Passed → List ℕ → Float
  unfolding value_of past_of
  forward d p [] = min_of d (passed_value p)
  forward d p (i ∷ is) = if le (win_of_number i).b0 x then forward d (past_of p i) is else min_of (min_of d (value_of (suc i))) (passed_value p)

-- none is passed yet
abbrev pub no_windows_passed : Passed
no_windows_passed = record { least = nan; short = 0 }
