-- Demand 3 for the reference model, in terms of floats: what `Model` says by ranks, read back. Assumes nothing.
use Prim.Native.Nat.{ℕ, ◌≤◌, ◌<◌}
use mathlib.Core.List.{List, [], ◌∷◌}
use mathlib.Core.Logic.{inl, inr, ⊎_elim}
use native.Mathlib.Nat.{le_refl}
use native.Mathlib.Omega.{arith}
use lib.Dec.{T}
use lib.Ieee.{Float, lt, le}
use Rattle.float64.specs.Scalar.{min_of, max_of}
use Rattle.float_laws.proofs.Order.{le_or_lt, lt_number_l}
use Rattle.better.specs.Stretches.{Interval}
use Rattle.trim_model.specs.Intervals.{width, tiny_of}
use Rattle.trim_model.specs.Windows.{Window}
use Rattle.trim_model.specs.Add.{Better}
use Rattle.trim_model.specs.Model.{EdgeState, empty, steps, steps_bound}
use Rattle.better.specs.Claim.{All, Pairs, Point, Stretch, Separates}
use Rattle.trim_model.specs.Claim.{Trimmed, ModelDemand3}
use Rattle.trim_model.proofs.Ranks.{rank, le_yes, rank_le, lt_yes, rank_lt, max_point, max_rank, min_point, min_rank, width_number}
use Rattle.trim_model.proofs.Count.{has, has_yes}
use Rattle.trim_model.proofs.Lists.{all_map, all_map2, any_of}
use Rattle.trim_model.proofs.Intervals.{Rise, Gaps}
use Rattle.trim_model.proofs.Windows.{wcount, counted, Steps, Ordered, steps_all, Wide}
use Rattle.trim_model.proofs.Run.{Spaced, Stretches}
use Rattle.trim_model.proofs.Order.{Lone}
use Rattle.trim_model.proofs.Model.{EdgeOk, model_ok}
use Rattle.better.specs.Stretches.{better_of}
use Rattle.better.proofs.Stretches.{better_separates}

-- ---- `better`, by ranks
module _ {lo hi : Float} (gl : Point lo) (gh : Point hi) where
  rise_of : (gs : List Interval) → All (Stretch lo hi) gs → Pairs (λ (g h : Interval). T (lt g.to h.from)) gs → (p : ℕ) → p ≤ rank hi → All (λ (g : Interval). p ≤ rank g.from) gs → Rise p gs (rank hi)
  rise_of [] w a p i b = i
  rise_of (g ∷ gs) w a p i b =
      let x = w.0 in (
        record { point0 = x.point0; point1 = x.point1; above = b.0; rises = lt_yes x.point0 x.point1 x.rises },
        rise_of gs w.1 a.1 (rank g.to) (le_yes x.point1 gh x.below) (all_map2 (λ h k c. let y = lt_yes x.point1 k.point0 c in omega arith) gs w.1 a.0),
      )

  gaps_of : (p : ℕ) (gs : List Interval) → All (Stretch lo hi) gs → Pairs (λ (g h : Interval). T (lt g.to h.from)) gs → All (λ (g : Interval). p < rank g.from) gs → Gaps p gs
  gaps_of p [] w a b = tt
  gaps_of p (g ∷ gs) w a b = (b.0, gaps_of (rank g.to) gs w.1 a.1 (all_map2 (λ h k c. lt_yes w.0.point1 k.point0 c) gs w.1 a.0))

  spaced_of : (gs : List Interval) → All (Stretch lo hi) gs → Pairs (λ (g h : Interval). T (lt g.to h.from)) gs → Spaced gs
  spaced_of [] w a = tt
  spaced_of (g ∷ gs) w a = gaps_of (rank g.to) gs w.1 a.1 (all_map2 (λ h k c. lt_yes w.0.point1 k.point0 c) gs w.1 a.0)

pub stretches : {better : Better} → Separates better → Stretches better
stretches {better} N = record {
  rising = λ p q lo hi gl gh z.
      let w = N.within p q lo hi gl gh (rank_lt gl gh z) in
      rise_of gl gh (better p q lo hi) w (N.apart p q lo hi gl gh (rank_lt gl gh z)) (rank lo) (omega arith) (all_map (λ g k. le_yes gl k.point0 k.above) (better p q lo hi) w);
  spaced = λ p q lo hi gl gh z. spaced_of gl gh (better p q lo hi) (N.within p q lo hi gl gh (rank_lt gl gh z)) (N.apart p q lo hi gl gh (rank_lt gl gh z));
}

-- ---- from ranks back to floats
module _ (t : Float) where
  tail_ordered : (u : Window) (us : List Window) → Steps u us → Ordered us
  tail_ordered u [] o = tt
  tail_ordered u (v ∷ vs) o = o.2

  order_of : (l : List Window) → All (Wide t) l → Ordered l → Pairs (λ (u v : Window). T (lt u.b0 v.b0) × T (lt u.b1 v.b1)) l
  order_of [] s o = tt
  order_of (u ∷ us) s o = (all_map2 (λ v k c. (rank_lt s.0.point0 k.point0 c.0, rank_lt s.0.point1 k.point1 c.1)) us s.1 (steps_all u us o), order_of us s.1 (tail_ordered u us o))

  -- both windows hold what they share: if it were wider than t, it would be held twice
  shares_of : (l : List Window) → All (Wide t) l → Lone t l → Pairs (λ (u v : Window). T (le (width (max_of u.b0 v.b0) (min_of u.b1 v.b1)) t)) l
  unfolding wcount
  shares_of [] s a = tt
  shares_of (u ∷ us) s a = (all_map2 (λ (v : Window) (k : Wide t v) (c : (X Y : ℕ) → has X Y (rank v.b0) (rank v.b1) ≤ wcount X Y us). one v k c) us s.1 (counted us us (λ X Y. le_refl (wcount X Y us))), shares_of us s.1 (λ x y gx gy w. omega (arith, a x y gx gy w)))
    where
      one : (v : Window) → Wide t v → ((X Y : ℕ) → has X Y (rank v.b0) (rank v.b1) ≤ wcount X Y us) → T (le (width (max_of u.b0 v.b0) (min_of u.b1 v.b1)) t)
      one v k c =
          let x = max_of u.b0 v.b0 in
          let y = min_of u.b1 v.b1 in
          let gx = max_point s.0.point0 k.point0 in
          let gy = min_point s.0.point1 k.point1 in
          let ex = max_rank s.0.point0 k.point0 in
          let ey = min_rank s.0.point1 k.point1 in
          let u0 : rank u.b0 ≤ rank x = omega arith in
          let v0 : rank v.b0 ≤ rank x = omega arith in
          let u1 : rank y ≤ rank u.b1 = omega arith in
          let v1 : rank y ≤ rank v.b1 = omega arith in
          elim (le_or_lt (width x y) t (width_number gx gy) (lt_number_l t (width u.b0 u.b1) s.0.wide)) [
            | inl i ↦ i
            | inr i ↦ let z : ⊥ = omega (arith, a x y gx gy i, c (rank x) (rank y), has_yes (rank x) (rank y) u0 u1, has_yes (rank x) (rank y) v0 v1) in absurd z
          ]

trimmed : (t : Float) (n : ℕ) (s : EdgeState) → EdgeOk t n s → Trimmed t n s
trimmed t n s k =
    let y = k.tidy in
    record {
      order = order_of t s.live y.wides y.ordered;
      widths = all_map (λ u i. i.wide) s.live y.wides;
      shares = shares_of t s.live y.wides y.lone;
      cover = λ x g a. ⊎_elim
          (λ b. inl (any_of (λ u p i. (rank_le p.point0 g i.0, rank_le g p.point1 i.1)) s.live y.wides b))
          (λ b. inr (any_of (λ q p i. (rank_le p.point0 g i.0, rank_le g p.point1 i.1)) s.slivers k.narrow b))
          (k.cover (rank x) (any_of (λ q p i. (le_yes p.0 g i.0, le_yes g p.1 i.1)) s.admitted k.ranges a));
      narrow = all_map (λ q p. (p.positive, p.narrow)) s.slivers k.narrow;
      count = k.few;
    }

-- whatever the limit and the lengths
pub demand3 : (better : Better) → Separates better → (limit : Float) (len : ℕ → Float) → ModelDemand3 better limit len
demand3 better N limit len cs p e = trimmed (tiny_of (len e)) (steps_bound better limit len e cs empty) ((steps better limit len cs empty).edge e) (model_ok (stretches N) limit len cs p e)

-- of the model with the `better` that the port has
pub demand3_of_better : (limit : Float) (len : ℕ → Float) → ModelDemand3 better_of limit len
demand3_of_better limit len = demand3 better_of better_separates limit len
