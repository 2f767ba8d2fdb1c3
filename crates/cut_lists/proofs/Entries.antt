-- The intervals of a buffer, one after the other. Assumes nothing.
--     pairs_at       interval i of the n in front of a buffer
--     pairs_from     from interval i on they are that one and those behind it; pairs_past, where there is none
use Prim.Native.Nat.{ℕ, zero, suc, ◌+◌, ◌≤◌, ◌<◌}
use native.Mathlib.Omega.{arith}
use native.Mathlib.Decide.{dec_le}
use mathlib.Core.Path.{◌≡◌, ap, ◌∙◌}
use mathlib.Core.List.{List, [], ◌∷◌, ◌++◌}
use lib.ListN.{drop, get_or, drop_of_length-le, get_or-append}
use lib.Seq.{drop-cons, get_or_at}
use lib.Ieee.{Float, nan}
use Rattle.better.specs.Stretches.{Interval, interval}
use Rattle.better.specs.Buffers.{pairs}
use Rattle.better.proofs.Pairs.{pairs_length}

module _ (b : List Float) where
  -- interval i of a buffer
  abbrev pub entry : ℕ → Interval
  entry i = interval (get_or b (i + i) nan) (get_or b (suc (i + i)) nan)

  pub pairs_at : (n i : ℕ) (d : Interval) → i < n → get_or (pairs n b) i d ≡ entry i
  pairs_at zero i d h = let y : ⊥ = omega arith in absurd y
  pairs_at (suc n) i d h = go (λ k. pairs_at n i d k) (dec_le n i) where
    go : (i < n → get_or (pairs n b) i d ≡ entry i) → Dec (n ≤ i) → get_or (pairs n b ++ (entry n ∷ [])) i d ≡ entry i
    go f (yes k) =
        let e : i ≡ n = omega arith in
        rw e (get_or_at (pairs n b) (entry n) [] d n (pairs_length n b))
    go f (no k) = get_or-append (pairs n b) (entry n ∷ []) d i (omega (arith, pairs_length n b)) ∙ f (omega arith)

  pub pairs_from : (n i : ℕ) → i < n → drop i (pairs n b) ≡ entry i ∷ drop (suc i) (pairs n b)
  pairs_from n i h =
      drop-cons (pairs n b) i (entry i) (omega (arith, pairs_length n b)) ∙ ap (λ (g : Interval). g ∷ drop (suc i) (pairs n b)) (pairs_at n i (entry i) h)

  pub pairs_past : (n i : ℕ) → n ≤ i → drop i (pairs n b) ≡ []
  pairs_past n i h = drop_of_length-le (pairs n b) {i = i} (omega (arith, pairs_length n b))
