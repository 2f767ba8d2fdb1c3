-- The ways that a cut can go. Assumes nothing.
use Rattle.std.specs.Prelude.{Some, None}
use Prim.Native.Nat.{ℕ, ◌+◌, ◌≤◌, ◌<◌}
use mathlib.Core.List.{List, [], ◌∷◌}
use mathlib.Core.Logic.{inl, inr, ⊎_elim}
use mathlib.Core.Path.{◌≡◌, sym, ap, ◌∙◌}
use native.Mathlib.Omega.{arith}
use lib.ListN.{length}
use lib.Ieee.{Float}
use Rattle.source.specs.declared.Src.{Src}
use Rattle.better.specs.Points.{pts_of, walk_of}
use Rattle.better.specs.Stretches.{Interval, better_of}
use Rattle.better.specs.Buffers.{pairs, Answers, HoldsPairs}
use Rattle.better.specs.Claim.{All}
use Rattle.better.proofs.Pairs.{pairs_length}
use Rattle.trim_model.specs.Intervals.{next, pieces}
use Rattle.trim_model.specs.Claim.{Any}
use Rattle.cut_lists.specs.Cut.{loss_lengths, lengths, LeavesLists}

-- intervals that a buffer of so many slots holds, or does not
few : (l : List Float) (size n : ℕ) → length l ≡ size + size → n + n ≤ length l → n ≤ size
few l size n e h = omega arith

many : (l : List Float) (size n : ℕ) → length l ≡ size + size → length l < n + n → size < n
many l size n e h = omega arith

pairs_count : (m : ℕ) (l : List Float) (gs : List Interval) → pairs m l ≡ gs → length gs ≡ m
pairs_count m l gs h = ap length (sym h) ∙ pairs_length m l

-- the pieces are made where there are stretches
loss_full : (b0 b1 tiny : Float) (size : ℕ) (gs : List Interval) → 0 < length gs → size < length (pieces tiny b0 b1 gs) → Any (λ (l : ℕ). size < l) (loss_lengths b0 b1 tiny gs)
unfolding loss_lengths
loss_full b0 b1 tiny size [] h b = let z : ⊥ = omega arith in absurd z
loss_full b0 b1 tiny size (g ∷ gs) h b = inl b

loss_fits : (b0 b1 tiny : Float) (size : ℕ) (gs : List Interval) → (0 < length gs → length (pieces tiny b0 b1 gs) ≤ size) → All (λ (l : ℕ). l ≤ size) (loss_lengths b0 b1 tiny gs)
unfolding loss_lengths
loss_fits b0 b1 tiny size [] b = tt
loss_fits b0 b1 tiny size (g ∷ gs) b = (b (omega arith), tt)

module _ (p q : Src) (lo hi b0 b1 tiny : Float) (size : ℕ) (keep : List Interval) where
  abbrev points : List Float
  points = walk_of p q (pts_of p q lo hi)

  abbrev better : List Interval
  better = better_of p q lo hi

  abbrev TooLong : Type 0
  TooLong = Any (λ (l : ℕ). size < l) (lengths p q lo hi b0 b1 tiny keep)

  pub full_better : (out : List Float) → length out ≡ size + size → Answers None size out points better → TooLong
  unfolding lengths
  full_better out e h = ⊎_elim (λ a. inl a) (λ b. inr (inl (many out size (length better) e b))) h

  -- the stretches stand in `out`
  module _ (out : List Float) (m : ℕ) (answer : Answers (Some m) size out points better) where
    module _ (l : List Float) (e : length l ≡ size + size) where
      pub full_next : HoldsPairs None l (next lo hi (pairs m out) keep) → TooLong
      unfolding lengths
      full_next h = inr (inr (inl (many l size (length (next lo hi better keep)) e (rw answer.1.1 at h))))

      pub full_pieces : 0 < m → HoldsPairs None l (pieces tiny b0 b1 (pairs m out)) → TooLong
      unfolding lengths
      full_pieces z h =
          let g = pairs_count m out better answer.1.1 in
          inr (inr (inr (loss_full b0 b1 tiny size better (omega arith) (many l size (length (pieces tiny b0 b1 better)) e (rw answer.1.1 at h)))))

    -- the new `keep` stood in `next`, and is copied
    module _ (e : length out ≡ size + size) (l keep' : List Float) (el : length l ≡ size + size) (k : ℕ) (isNext : HoldsPairs (Some k) l (next lo hi (pairs m out) keep)) (isKeep : pairs k keep' ≡ pairs k l) where
      kept : pairs k keep' ≡ next lo hi better keep
      kept = isKeep ∙ (rw answer.1.1 at isNext.1)

      pub none_lost : m ≡ 0 → (next' : List Float) → LeavesLists p q lo hi b0 b1 tiny size keep k 0 0 keep' next'
      unfolding lengths
      none_lost z next' =
          let g = pairs_count m out better answer.1.1 in
          let a = answer.0 in
          let n = pairs_count k keep' (next lo hi better keep) kept in
          let i = few l size k el isNext.0 in
          record {
            fits = (a, (omega arith, (omega arith, loss_fits b0 b1 tiny size better (λ x. let y : ⊥ = omega arith in absurd y))));
            few = i;
            kept = kept;
            lost = g ∙ z;
            rest = λ x. let y : ⊥ = omega arith in absurd y;
          }

      pub some_lost : (l' : List Float) → length l' ≡ size + size → (n : ℕ) → HoldsPairs (Some n) l' (pieces tiny b0 b1 (pairs m out)) → LeavesLists p q lo hi b0 b1 tiny size keep k m n keep' l'
      unfolding lengths
      some_lost l' el' n isPieces =
          let g = pairs_count m out better answer.1.1 in
          let a = answer.0 in
          let i = few l size k el isNext.0 in
          let ps : pairs n l' ≡ pieces tiny b0 b1 better = rw answer.1.1 at isPieces.1 in
          let j = few l' size n el' isPieces.0 in
          let nk = pairs_count k keep' (next lo hi better keep) kept in
          let np = pairs_count n l' (pieces tiny b0 b1 better) ps in
          let f = few out size m e answer.1.0 in
          record {
            fits = (a, (omega arith, (omega arith, loss_fits b0 b1 tiny size better (λ x. omega arith))));
            few = i;
            kept = kept;
            lost = g;
            rest = λ x. (j, ps);
          }
