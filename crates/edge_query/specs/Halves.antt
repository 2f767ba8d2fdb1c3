-- The search by halves that Rust's `partition_point` is (`slice::binary_search_by`, which no answer `Equal` ends here). Definitions only: `halves_is` in proofs/Halves.antt says that it finds
-- `partition_point` where starts rise.
use Prim.Native.Nat.{ℕ, zero, suc, ◌+◌, ◌-◌, ◌/◌}
use Rattle.std.specs.Prelude.{Bool, false, List, [], ◌∷◌, T, ltb, Float, if◌then◌else◌}
use Rattle.std.proofs.Math.Dec.{eqb}
use Rattle.std.specs.Float.Ieee.{lt, le}
use Rattle.source.specs.declared.Win.{Win}

-- `pred` tests the element of a number
module _ (pred : ℕ → Bool) where
  -- `while size > 1 { let half = size / 2; let mid = base + half; if pred(mid) { base = mid; } size -= half; }`; as many turns as there are elements are enough
  unfoldable pub halving : ℕ → ℕ → ℕ → ℕ
  halving zero base size = base
  halving (suc turns) base size = if ltb 1 size then halving turns (if pred (base + size / 2) then base + size / 2 else base) (size - size / 2) else base

  -- `if size == 0 { return 0; }`, then the halving, then `base + pred(base) as usize`
  unfoldable pub by_halves : ℕ → ℕ
  unfolding halving
  by_halves size =
      let base = halving size 0 size in
      if eqb size 0 then 0 else (if pred base then suc base else base)

-- the test of `edge_at`: window k starts at x or before it
unfoldable pub starts_by : Float → List Win → ℕ → Bool
starts_by x [] k = false
starts_by x (w ∷ ws) zero = le w.b0 x
starts_by x (w ∷ ws) (suc k) = starts_by x ws k

-- the starts rise
unfoldable pub Rising : List Win → Type 0
Rising [] = Unit {0}
Rising (w ∷ []) = Unit {0}
Rising (w ∷ v ∷ ws) = T (lt w.b0 v.b0) × Rising (v ∷ ws)
