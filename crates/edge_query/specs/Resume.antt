-- Walks along the chain of an edge that begin where an earlier one has been. Definitions only: `walks_on` in proofs/Resume.antt says that a walk leaves such a place.
-- Of the windows up to the last that ends short of x only that one counts. It ends short of every later place too, so behind it a walk for a later place comes to what it comes
-- to from the head. No order of the windows is asked for: the bound of what was passed is kept.
use Rattle.std.specs.Prelude.{ℕ, ◌+◌, ◌-◌, ◌*◌, ◌≤◌, not, List, ◌≡◌, T, eqb, Float, get_or, if◌then◌else◌}
use Rattle.std.specs.Float.{nan}
use Rattle.std.specs.Float.Ieee.{lt, is_nan}
use Rattle.float64.specs.Scalar.{zero64, max_of}
use Rattle.layout.specs.Layout.{reals_per_window, window_b1}
use Rattle.buffers.specs.declared.EdgeId.{EdgeId}
use Rattle.chains.specs.Chains.{Links}
use Rattle.last_pass.specs.Buffers.{chain_behind}
use Rattle.edge_query.specs.declared.Cursor.{Cursor}
use Rattle.edge_query.specs.Forward.{forward, no_windows_passed}

module _ (made : ℕ) (b : Links) (f : List Float) where
  -- what a walk along the chain of edge e comes to from its head
  abbrev pub from_head : ℕ → Float → Float → Float
  from_head e x d = forward b.words f x d no_windows_passed (chain_behind made b e made 0)

  -- what one from a cursor comes to is the same at x
  abbrev pub ResumesAt : Cursor → Float → Type 0
  ResumesAt c x = (d : Float) → forward b.words f x d (record { least = nan; short = c.link }) (chain_behind made b c.edge c.left c.link) ≡ from_head c.edge x d

  -- and at every place past the cursor's
  pub record Resumes (c : Cursor) : Type 0 where
    pub number : T (not (is_nan c.place))
    pub link_made : c.link ≤ made
    pub left_made : c.left ≤ made
    pub past_place : (x : Float) → T (lt c.place x) → ResumesAt c x

abbrev pub head_cursor : EdgeId → ℕ → Cursor
head_cursor e made = record { edge = e.0; place = zero64; link = 0; left = made }

-- the cursor from which the walk for x on edge e begins
unfoldable pub cursor_for : Cursor → EdgeId → ℕ → Float → Cursor
cursor_for c e made x = if eqb c.edge e.0 then (if lt c.place x then c else head_cursor e made) else head_cursor e made

-- the window of link l is passed by the walk for x, with so many links left behind it; none that was passed starts past the bound
unfoldable pub cursor_past : List Float → Float → Cursor → ℕ → ℕ → Float → Cursor
cursor_past f x c l left bound =
    let end = get_or f (reals_per_window * (l - 1) + window_b1) nan in
    if lt end x then record { edge = c.edge; place = max_of bound end; link = l; left = left } else c
