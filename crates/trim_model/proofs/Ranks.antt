-- The points of an edge by rank: a natural number that orders them, so that `omega` can reason about intervals; and when an interval is wider than t. Assumes nothing.
--     order        lt_yes, lt_no, le_yes, le_no (from a test to ranks), rank_le, rank_lt (back), total_yes, total_no (of `total_cmp`)
--     min, max     max_point, max_rank, min_point, min_rank
--     width        wide_mono, wide_pos, wide_no, slim_no, slim, width_pos; run_left, run_right (the ends of the run); tiny_nonneg
use Prim.Native.Nat.{ℕ, ◌≤◌, ◌<◌, min, max}
use mathlib.Core.Path.{◌≡◌}
use mathlib.Core.Bool.{not}
use native.Mathlib.Decide.{dec_le}
use native.Mathlib.Omega.{arith}
use lib.Dec.{T, T_not}
use lib.Ieee.{Float, binary64, add, sub, lt, le, of_bits}
use lib.Ieee.Scale.{finite}
use Rattle.float64.specs.Scalar.{zero64, min_of, max_of}
use Rattle.float64.specs.TotalOrder.{total_less}
use Rattle.float_laws.proofs.Order.{Number, lt_le, not_lt_le, not_le_lt, lt_not_le, le_number_r, le_trans, lt_le_trans, le_lt_trans}
use Rattle.float_laws.proofs.Total.{total_le, not_total_le}
use Rattle.float_laws.proofs.Rank as laws
use Rattle.float_laws.proofs.Rank.{Held, held_finite}
use Rattle.float_laws.proofs.MinMax.{max_keeps, min_keeps, rank_max, rank_min}
use Rattle.float_laws.proofs.Sum.{sub_mono, sub_number, sub_nonpos, sub_pos, sub_below, add_above}
use Rattle.float_laws.proofs.Product.{mul_nonneg}
use Rattle.trim_model.specs.Intervals.{width, tiny_of}
use Rattle.better.specs.Claim.{Point}
use Rattle.better.proofs.Stretches.{number}
pub use Rattle.nat_laws.proofs.Tests.{by_cases}

unfoldable pub rank : Float → ℕ
rank x = laws.rank binary64 x

held : {x : Float} → Point x → Held binary64 x
held {x} g = held_finite binary64 x g.number g.double

module _ {x y : Float} (g : Point x) (k : Point y) where
  pub le_yes : T (le x y) → rank x ≤ rank y
  unfolding rank
  le_yes h = laws.le_rank binary64 x y (held g) (held k) h

  pub rank_le : rank x ≤ rank y → T (le x y)
  unfolding rank
  rank_le h = laws.rank_le binary64 x y (held g) (held k) h

  pub lt_yes : T (lt x y) → rank x < rank y
  unfolding rank
  lt_yes h = laws.lt_rank binary64 x y (held g) (held k) h

  pub rank_lt : rank x < rank y → T (lt x y)
  unfolding rank
  rank_lt h = laws.rank_lt binary64 x y (held g) (held k) h

  pub max_point : Point (max_of x y)
  max_point = max_keeps Point x y g k

  pub max_rank : rank (max_of x y) ≡ max (rank x) (rank y)
  unfolding rank
  max_rank = rank_max binary64 x y (held g) (held k)

  pub min_point : Point (min_of x y)
  min_point = min_keeps Point x y g k

  pub min_rank : rank (min_of x y) ≡ min (rank x) (rank y)
  unfolding rank
  min_rank = rank_min binary64 x y (held g) (held k)

  pub width_number : Number (width x y)
  width_number = sub_number binary64 y x k.number g.number

  pub width_pos : rank x < rank y → T (lt zero64 (width x y))
  width_pos h = sub_pos binary64 x y g.number k.number g.double k.double (rank_lt h)

module _ {x y : Float} (g : Point x) (k : Point y) where
  pub lt_no : T (not (lt x y)) → rank y ≤ rank x
  lt_no h = le_yes k g (not_lt_le x y (number x g) (number y k) h)

  pub le_no : T (not (le x y)) → rank y < rank x
  le_no h = lt_yes k g (not_le_lt x y (number x g) (number y k) h)

  pub total_yes : T (total_less x y) → rank x ≤ rank y
  total_yes h = le_yes g k (total_le x y (number y k) h)

  pub total_no : T (not (total_less x y)) → rank y ≤ rank x
  total_no h = le_yes k g (not_total_le x y (number x g) (number y k) h)

-- not below zero
pub record Nonneg (t : Float) : Type 0 where
  pub nonneg : T (le zero64 t)

module _ {t : Float} (t0 : Nonneg t) where
  t_number : Number t
  t_number = le_number_r zero64 t t0.nonneg

  module _ {x y : Float} (g : Point x) (k : Point y) where
    pub wide_pos : T (lt t (width x y)) → rank x < rank y
    wide_pos w = elim (dec_le (rank y) (rank x)) [
      | no f ↦ omega arith
      | yes i ↦ absurd (lt_not_le t (width x y) w (le_trans (width x y) zero64 t (sub_nonpos binary64 x y g.number k.number (rank_le k g i)) t0.nonneg))
    ]

    pub wide_no : T (not (le (width x y) t)) → T (lt t (width x y))
    wide_no w = not_le_lt (width x y) t (width_number g k) t_number w

    pub slim_no : T (not (lt t (width x y))) → T (le (width x y) t)
    slim_no w = not_lt_le t (width x y) t_number (width_number g k) w

    pub run_left : T (not (lt (sub binary64 x t) y)) → rank y ≤ rank x
    run_left i = elim (dec_le (rank y) (rank x)) [ yes j ↦ j | no f ↦ absurd (T_not (lt (sub binary64 x t) y) i (le_lt_trans (sub binary64 x t) x y (sub_below binary64 x t g.number g.double t0.nonneg) (rank_lt g k (omega arith)))) ]

    pub run_right : T (not (lt y (add binary64 x t))) → rank x ≤ rank y
    run_right i = elim (dec_le (rank x) (rank y)) [ yes j ↦ j | no f ↦ absurd (T_not (lt y (add binary64 x t)) i (lt_le_trans y x (add binary64 x t) (rank_lt k g (omega arith)) (add_above binary64 x t g.number g.double t0.nonneg))) ]

  pub wide_mono : {x y x' y' : Float} → Point x → Point y → Point x' → Point y' → rank x' ≤ rank x → rank y ≤ rank y' → T (lt t (width x y)) → T (lt t (width x' y'))
  wide_mono {x} {y} {x'} {y'} gx gy gx' gy' i j w = lt_le_trans t (width x y) (width x' y') w (sub_mono binary64 y y' x x' gy.number gy'.number gx.number gx'.number (rank_le gy gy' j) (rank_le gx' gx i))

  pub slim : {x y : Float} → Point x → Point y → T (le (width x y) t) → T (lt t (width x y)) → ⊥
  slim {x} {y} g k i w = lt_not_le t (width x y) w i

-- ---- tiny
eleventh : T (finite (of_bits binary64 0x3da5_fd7f_e179_6495)) × T (le zero64 (of_bits binary64 0x3da5_fd7f_e179_6495))
unfolding of_bits le
eleventh = (tt, tt)

pub tiny_nonneg : (len : Float) → Point len → T (lt zero64 len) → Nonneg (tiny_of len)
tiny_nonneg len g h = record { nonneg = mul_nonneg binary64 (of_bits binary64 0x3da5_fd7f_e179_6495) len eleventh.0 g.number eleventh.1 (lt_le zero64 len h) }
