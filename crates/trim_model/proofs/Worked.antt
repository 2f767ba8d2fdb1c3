-- The model worked out on small lists, with a `better` that names all of [lo, hi] or nothing: what is asked of `better` can be met, windows are split and numbered as the Rust does it,
-- and slivers are dropped and noted. Assumes nothing.
use Prim.Native.Nat.{ℕ}
use mathlib.Core.Bool.{Bool, true, false}
use mathlib.Core.List.{List, [], ◌∷◌}
use mathlib.Core.Path.{◌≡◌, refl}
use lib.Dec.{T}
use lib.Ieee.{Float, binary64, add, sub, mul, lt, le, eq, is_nan, round, of_bits}
use Rattle.nat_laws.specs.Lists.{insert_by, sort_by}
use Rattle.float64.specs.Scalar.{min_of, max_of, negative}
use Rattle.float64.specs.TotalOrder.{total_less}
use Rattle.float_laws.proofs.Order.{le_refl, finite_number}
use Rattle.source.specs.declared.Src.{Src}
use Rattle.source.specs.declared.Src.TheVariants.{Point, Line}
use Rattle.source.specs.Distance.{lowest_of, edge_of}
use Rattle.better.specs.Stretches.{Interval, interval}
use Rattle.trim_model.specs.Intervals.{tiny_of, push_if, sliver, cuts_within, next_of, next, pieces, piece_slivers, wide_of, keep_slivers}
use Rattle.trim_model.specs.Windows.{Window, fresh, split, take_while, drop_while, all, take_while_end, drop_while_end}
use Rattle.trim_model.specs.Add.{Better, meet, visit, visits, add_to, met_bound, met_bounds}
use Rattle.trim_model.specs.Model.{Candidate, Model, empty, admit, step, steps, step_bound, steps_bound}
use Rattle.better.specs.Claim as claim
use Rattle.better.specs.Claim.{All, Pairs, Stretch, Separates}

-- a level source: the same distance all along the edge
level : Float → Src
level c = Line (of_bits binary64 0) (of_bits binary64 0) c

constant : Src → Float
constant (Point x y s) = s
constant (Line ux uy c) = c

lower : Better
lower p q lo hi = push_if (lt (constant p) (constant q)) (interval lo hi)

lower_is_separate : Separates lower
unfolding lower
lower_is_separate = record {
  within = λ p q lo hi gl gh h. within (lt (constant p) (constant q)) lo hi gl gh h;
  apart = λ p q lo hi gl gh h. apart (lt (constant p) (constant q)) lo hi;
}
  where
    within : (b : Bool) (lo hi : Float) → claim.Point lo → claim.Point hi → T (lt lo hi) → All (Stretch lo hi) (push_if b (interval lo hi))
    within true lo hi gl gh h = (record { point0 = gl; point1 = gh; above = le_refl lo (finite_number lo gl.number); rises = h; below = le_refl hi (finite_number hi gh.number) }, tt)
    within false lo hi gl gh h = tt

    apart : (b : Bool) (lo hi : Float) → Pairs (λ (g h : Interval). T (lt g.to h.from)) (push_if b (interval lo hi))
    apart true lo hi = (tt, tt)
    apart false lo hi = tt

-- whole numbers, and 2 ^ -40, which is less than 1e-11
n : ℕ → Float
n k = round binary64 false k 1

small : Float
small = round binary64 false 1 1099511627776

-- edge 0 has the length 4, and the limit is 10
candidate : Float → Float → Float → Candidate
candidate a b c = record { edge = 0; b0 = a; b1 = b; src = level c; carried = record { into = record { 0 = 7 }; queued = true } }

-- a part of such a candidate, with its number
abbrev window : Float → Float → Float → ℕ → Window
window a b c k = record { b0 = a; b1 = b; low = lowest_of (level c) a b; src = level c; carried = record { into = record { 0 = 7 }; queued = true }; num = k }

after : List Candidate → Model
after cs = steps lower (n 10) (λ (e : ℕ). n 4) cs empty

bound : List Candidate → ℕ
bound cs = steps_bound lower (n 10) (λ (e : ℕ). n 4) 0 cs empty

-- a lower source in the middle: the window there loses it, its first piece keeps the number, and the new window comes last
splits : ((after (candidate (n 0) (n 4) (n 2) ∷ candidate (n 1) (n 3) (n 1) ∷ [])).edge 0).live ≡ window (n 0) (n 1) (n 2) 0 ∷ window (n 1) (n 3) (n 1) 2 ∷ window (n 3) (n 4) (n 2) 1 ∷ []
unfolding after bound candidate n small level constant lower min_of max_of total_less negative sliver cuts_within next_of next pieces piece_slivers wide_of keep_slivers take_while drop_while all drop_while_end take_while_end fresh split insert_by sort_by meet visit visits add_to met_bound met_bounds admit step steps step_bound steps_bound lowest_of edge_of lt le eq is_nan of_bits add sub mul round
splits = refl

-- what is left of a window is at most tiny: it dies, and a sliver is noted
drops : ((after (candidate (n 0) (n 4) (n 2) ∷ candidate small (n 4) (n 1) ∷ [])).edge 0 ≡ record { live = window small (n 4) (n 1) 1 ∷ []; admitted = interval (n 0) (n 4) ∷ interval small (n 4) ∷ []; slivers = interval (n 0) small ∷ [] }) × (bound (candidate (n 0) (n 4) (n 2) ∷ candidate small (n 4) (n 1) ∷ []) ≡ 8)
unfolding after bound candidate n small level constant lower min_of max_of total_less negative sliver cuts_within next_of next pieces piece_slivers wide_of keep_slivers take_while drop_while all drop_while_end take_while_end fresh split insert_by sort_by meet visit visits add_to met_bound met_bounds admit step steps step_bound steps_bound lowest_of edge_of lt le eq is_nan of_bits add sub mul round
drops = (refl, refl)

-- a source that is lower nowhere is admitted, and makes no window
loses : (((after (candidate (n 0) (n 4) (n 1) ∷ candidate (n 0) (n 4) (n 1) ∷ [])).edge 0).live ≡ window (n 0) (n 4) (n 1) 0 ∷ []) × ((after (candidate (n 0) (n 4) (n 1) ∷ candidate (n 0) (n 4) (n 1) ∷ [])).made ≡ 1)
unfolding after bound candidate n small level constant lower min_of max_of total_less negative sliver cuts_within next_of next pieces piece_slivers wide_of keep_slivers take_while drop_while all drop_while_end take_while_end fresh split insert_by sort_by meet visit visits add_to met_bound met_bounds admit step steps step_bound steps_bound lowest_of edge_of lt le eq is_nan of_bits add sub mul round
loses = (refl, refl)

-- at the limit it is admitted, above it or at width tiny not
admitted : ((after (candidate (n 0) (n 4) (n 10) ∷ [])).made ≡ 1) × ((after (candidate (n 0) (n 4) (n 11) ∷ candidate (n 0) (tiny_of (n 4)) (n 1) ∷ [])).made ≡ 0)
unfolding after bound candidate n small level constant lower min_of max_of total_less negative sliver cuts_within next_of next pieces piece_slivers wide_of keep_slivers take_while drop_while all drop_while_end take_while_end fresh split insert_by sort_by meet visit visits add_to met_bound met_bounds admit step steps step_bound steps_bound lowest_of edge_of lt le eq is_nan of_bits add sub mul round
admitted = (refl, refl)
