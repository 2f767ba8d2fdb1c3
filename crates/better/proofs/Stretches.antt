-- The stretches that `better` names lie in [lo, hi], rise, and do not touch, whatever the sources. Assumes nothing.
-- While the points are walked, every stretch in `out` ends at or before the point x0 that is reached, and there is a gap between each two. The next, [x0, x1],
-- starts at x0: it continues the last one where that ends at x0, and otherwise the last one ends before x0.
--     better_separates     what the trimming of windows asks of `better_of`
use Rattle.std.specs.Prelude.{if◌then◌else◌}
use mathlib.Core.Logic.{inl, inr}
use mathlib.Core.List.{List, [], ◌∷◌}
use mathlib.Core.Bool.{Bool, true, false, not}
use lib.Dec.{T, T_not}
use lib.Ieee.{Float, lt, le, eq}
use Rattle.nat_laws.proofs.Lists.{all_map}
use Rattle.nat_laws.proofs.Tests.{branch}
use Rattle.float_laws.proofs.Order.{Number, finite_number, le_refl, le_trans, lt_trans, lt_le_trans, le_antisym, le_or_lt, not_le_lt}
use Rattle.float64.specs.Scalar.{two}
use Rattle.float64.specs.Notation.{◌⊕◌, ◌⊘◌}
use Rattle.source.specs.declared.Src.{Src}
use Rattle.source.specs.Distance.{edge_of}
use Rattle.better.specs.Cutting.{shorter}
use Rattle.better.specs.Points.{pts_of, walk_of}
use Rattle.better.specs.Stretches.{Interval, interval, joined, shorter_between, stretches, out_of, better_of}
use Rattle.better.specs.Claim.{All, Pairs, Point, Stretch, Separates}
use Rattle.better.proofs.Points.{Rising, Le, Rises, Inside, pts_all, pts_rises, walk_all, walk_rises}

abbrev Apart : Interval → Interval → Type 0
Apart g h = T (lt g.to h.from)

pub number : (x : Float) → Point x → Number x
number x g = finite_number x g.number

before : (x y : Float) → Number x → Number y → T (le x y) → T (not (eq x y)) → T (lt x y)
before x y a b h n = elim (le_or_lt y x b a) [ inl k ↦ absurd (T_not (eq x y) n (le_antisym x y h k)) | inr k ↦ k ]

-- a stretch that ends at or before x0 ends at or before what is behind x0
later : (lo x0 x1 : Float) → T (le x0 x1) → (out : List Interval) → All (Stretch lo x0) out → All (Stretch lo x1) out
later lo x0 x1 h out a = all_map {P = Stretch lo x0} {Q = Stretch lo x1}
    (λ g s. record { point0 = s.point0; point1 = s.point1; above = s.above; rises = s.rises; below = le_trans g.to x0 x1 s.below h }) out a

module _ (lo x0 x1 : Float) (above : T (le lo x0)) (P : Point x0) (Q : Point x1) (rise : T (lt x0 x1)) where
  joined_all : (R : Interval → Type 0) → R (interval x0 x1) → ((g : Interval) → R g → R (interval g.from x1)) → (out : List Interval) → All R out → All R (joined out x0 x1)
  unfolding joined
  joined_all R i f [] a = (i, tt)
  joined_all R i f (g ∷ []) a = branch (All R) (eq g.to x0) (λ t. (f g a.0, tt)) (λ t. (a.0, (i, tt)))
  joined_all R i f (g ∷ h ∷ out) a = (a.0, joined_all R i f (h ∷ out) a.1)

  joined_within : (out : List Interval) → All (Stretch lo x1) out → All (Stretch lo x1) (joined out x0 x1)
  joined_within out a =
      let e = le_refl x1 (number x1 Q) in
      joined_all (Stretch lo x1) (record { point0 = P; point1 = Q; above = above; rises = rise; below = e })
      (λ g s. record { point0 = s.point0; point1 = Q; above = s.above; rises = lt_le_trans g.from g.to x1 s.rises s.below; below = e }) out a

  joined_apart : (out : List Interval) → All (Stretch lo x0) out → Pairs Apart out → Pairs Apart (joined out x0 x1)
  unfolding joined
  joined_apart [] a r = (tt, tt)
  joined_apart (g ∷ []) a r =
      let s = a.0 in
      branch (Pairs Apart) (eq g.to x0) (λ t. (tt, tt)) (λ t. ((before g.to x0 (number g.to s.point1) (number x0 P) s.below t, tt), (tt, tt)))
  joined_apart (g ∷ h ∷ out) a r =
      let s = a.1.0 in
      let i : T (lt g.to x0) = lt_le_trans g.to h.to x0 (lt_trans g.to h.from h.to r.0.0 s.rises) s.below in
      (joined_all (Apart g) i (λ k t. t) (h ∷ out) r.0, joined_apart (h ∷ out) a.1 r.1)

-- the stretches found when x is reached
pub record Found (lo x : Float) (out : List Interval) : Type 0 where
  pub within : All (Stretch lo x) out
  pub apart : Pairs Apart out

shorter_rises : (p q : Src) (x0 x1 : Float) → T (shorter_between p q x0 x1) → T (not (le x1 x0))
unfolding shorter_between
shorter_rises p q x0 x1 = go (le x1 x0)
  where
    go : (b : Bool) → T (if b then false else shorter (edge_of p ((x0 ⊕ x1) ⊘ two)) (edge_of q ((x0 ⊕ x1) ⊘ two))) → T (not b)
    go true t = absurd t
    go false t = tt

module _ (p q : Src) (lo hi : Float) where
  stretch_found : (x0 x1 : Float) (out : List Interval) → Inside lo hi x0 → Inside lo hi x1 → T (le x0 x1) → Found lo x0 out → Found lo x1 (if shorter_between p q x0 x1 then joined out x0 x1 else out)
  stretch_found x0 x1 out g k h s =
      let w = later lo x0 x1 h out s.within in
      branch (Found lo x1) (shorter_between p q x0 x1)
      (λ t.
      let rise = not_le_lt x1 x0 (number x1 k.point) (number x0 g.point) (shorter_rises p q x0 x1 t) in
      record {
        within = joined_within lo x0 x1 g.above g.point k.point rise out w;
        apart = joined_apart lo x0 x1 g.above g.point k.point rise out s.within s.apart;
      })
      (λ t. record { within = w; apart = s.apart })

  stretches_found : (x0 : Float) (xs : List Float) (out : List Interval) → Inside lo hi x0 → All (Inside lo hi) xs → Rising Le x0 xs → Found lo x0 out → Found lo hi (stretches p q x0 xs out)
  unfolding stretches
  stretches_found x0 [] out g a r s = record { within = later lo x0 hi g.below out s.within; apart = s.apart }
  stretches_found x0 (x1 ∷ xs) out g a r s = stretches_found x1 xs (if shorter_between p q x0 x1 then joined out x0 x1 else out) a.0 a.1 r.1 (stretch_found x0 x1 out g a.0 r.0 s)

  pub out_found : (xs : List Float) → All (Inside lo hi) xs → Rises xs → Found lo hi (out_of p q xs)
  unfolding out_of
  out_found [] a r = record { within = tt; apart = tt }
  out_found (x0 ∷ xs) a r = stretches_found x0 xs [] a.0 a.1 r (record { within = tt; apart = tt })

pub better_found : (p q : Src) (lo hi : Float) → Point lo → Point hi → T (lt lo hi) → Found lo hi (better_of p q lo hi)
unfolding better_of
better_found p q lo hi L H h =
    let pts = pts_of p q lo hi in
    out_found p q lo hi (walk_of p q pts) (walk_all lo hi L H h p q pts (pts_all lo hi L H h p q)) (walk_rises p q pts (pts_rises lo hi L H h p q))

pub better_separates : Separates better_of
better_separates = record {
  within = λ p q lo hi L H h. (better_found p q lo hi L H h).within;
  apart = λ p q lo hi L H h. (better_found p q lo hi L H h).apart;
}
