-- The live windows of an edge as a list, numbered and sorted as the Rust does it. Definitions only.
use Rattle.std.specs.Prelude.{ℕ, suc, Bool, true, false, ◌&&◌, Float, if◌then◌else◌}
use mathlib.Core.List.{List, [], ◌∷◌}
use Rattle.nat_laws.specs.Lists.{insert_by, sort_by}
use Rattle.float64.specs.TotalOrder.{total_less}
use Rattle.source.specs.declared.Src.{Src}
use Rattle.windows.specs.declared.Carried.{Carried}
use Rattle.source.specs.Distance.{lowest_of}
use Rattle.better.specs.Stretches.{Interval}

-- what demand 3 compares of a live window, its ends, lowest value, source and number; and what it carries along: the Rust's `into`, the face that it goes into, and `queued`
pub record Window : Type 0 where
  pub b0 : Float
  pub b1 : Float
  pub low : Float
  pub src : Src
  pub carried : Carried
  pub num : ℕ

-- the Rust's `Win { b0, b1, ..u }`, as number n, with its lowest value, which the Rust sets when a field is done
abbrev pub part : Window → Float → Float → ℕ → Window
part u b0 b1 n = record { b0 = b0; b1 = b1; low = lowest_of u.src b0 b1; src = u.src; carried = u.carried; num = n }

-- intervals as parts of u, numbered from n on
unfoldable pub fresh : Window → ℕ → List Interval → List Window
fresh u n [] = []
fresh u n (p ∷ ps) = part u p.from p.to n ∷ fresh u (suc n) ps

-- the pieces of u as windows: the first keeps u's number
unfoldable pub split : Window → ℕ → List Interval → List Window
unfolding fresh
split u n [] = []
split u n (p ∷ rest) = part u p.from p.to u.num ∷ fresh u n rest

abbrev pub unqueued_carried : Carried → Carried
unqueued_carried c = record { into = c.into; queued = false }

-- a window whose event was popped: nothing else of it changes
abbrev pub unqueued : Window → Window
unqueued u = record { b0 = u.b0; b1 = u.b1; low = u.low; src = u.src; carried = unqueued_carried u.carried; num = u.num }

-- `sort_by` of the starts with `total_cmp`, which is stable
abbrev pub insert : Window → List Window → List Window
insert u l = insert_by (λ v w. total_less v.b0 w.b0) u l

abbrev pub sorted : List Window → List Window
sorted l = sort_by (λ v w. total_less v.b0 w.b0) l

module _ {A : Type 0} (p : A → Bool) where
  -- the leading elements that pass, and the others
  unfoldable pub take_while : List A → List A
  take_while [] = []
  take_while (u ∷ us) = if p u then u ∷ take_while us else []

  unfoldable pub drop_while : List A → List A
  drop_while [] = []
  drop_while (u ∷ us) = if p u then drop_while us else u ∷ us

  unfoldable pub all : List A → Bool
  all [] = true
  all (u ∷ us) = p u && all us

  -- the last elements that pass, as many as stand together, and the others
  unfoldable pub take_while_end : List A → List A
  unfolding all
  take_while_end [] = []
  take_while_end (u ∷ us) = if all (u ∷ us) then u ∷ us else take_while_end us

  unfoldable pub drop_while_end : List A → List A
  unfolding all
  drop_while_end [] = []
  drop_while_end (u ∷ us) = if all (u ∷ us) then [] else u ∷ drop_while_end us
