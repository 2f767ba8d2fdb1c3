-- What is computed where a new window meets an existing one, in buffers of a fixed size. Definitions only.
use Rattle.std.specs.Prelude.{ℕ, ◌+◌, ◌≤◌, ◌<◌, List, [], ◌∷◌, ◌≡◌, Float, Option, Some, None}
use Rattle.std.proofs.Math.ListN.{length}
use Rattle.source.specs.declared.Src.{Src}
use Rattle.better.specs.Points.{pts_of, walk_of}
use Rattle.better.specs.Stretches.{Interval, better_of}
use Rattle.better.specs.Buffers.{pairs}
use Rattle.better.specs.Claim.{All}
use Rattle.trim_model.specs.Intervals.{next, pieces}
use Rattle.trim_model.specs.Claim.{Any}
use Rattle.cut_lists.specs.declared.CutCounts.{CutCounts}

-- the buffers of the lists have so many slots each, two numbers to a slot but for `pts`
pub record Sizes (size : ℕ) (out keep next : List Float) : Type 0 where
  pub outs : length out ≡ size + size
  pub keeps : length keep ≡ size + size
  pub nexts : length next ≡ size + size

-- how many entries the list `pieces` comes to, if it is made
unfoldable pub loss_lengths : Float → Float → Float → List Interval → List ℕ
loss_lengths b0 b1 tiny [] = []
loss_lengths b0 b1 tiny (g ∷ better) = length (pieces tiny b0 b1 (g ∷ better)) ∷ []

-- the new window's source p, the other's q, what they share, and the other's ends
module _ (p q : Src) (lo hi b0 b1 tiny : Float) where
  -- how many entries the lists come to, in the Rust's order: `pts`, `out`, `next` and `pieces`
  unfoldable pub lengths : List Interval → List ℕ
  unfolding loss_lengths
  lengths keep =
      let better = better_of p q lo hi in
      length (walk_of p q (pts_of p q lo hi)) ∷ length better ∷ length (next lo hi better keep) ∷ loss_lengths b0 b1 tiny better

  -- k intervals kept, m stretches, n pieces
  pub record LeavesLists (size : ℕ) (keep : List Interval) (k m n : ℕ) (keep' next' : List Float) : Type 0 where
    pub fits : All (λ (l : ℕ). l ≤ size) (lengths keep)
    pub few : k ≤ size
    pub kept : pairs k keep' ≡ next lo hi (better_of p q lo hi) keep
    pub lost : length (better_of p q lo hi) ≡ m
    pub rest : 0 < m → (n ≤ size) × (pairs n next' ≡ pieces tiny b0 b1 (better_of p q lo hi))

  -- 01's refusal 14, or what is left
  abbrev pub Meets : ℕ → List Interval → Option CutCounts → List Float → List Float → Type 0
  Meets size keep None keep' next' = Any (λ (l : ℕ). size < l) (lengths keep)
  Meets size keep (Some c) keep' next' = LeavesLists size keep c.kept c.lost c.pieces keep' next'
