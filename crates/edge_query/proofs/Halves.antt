-- A search by halves finds the one number before which the test holds and from which it fails; where starts rise that is `partition_point`. Assumes nothing.
-- The number sought stays between `base` and `base + size`: the upper half is taken where the test holds in the middle, and the lower one reaches the middle.
use Prim.Native.Nat.{ℕ, zero, suc, ◌+◌, ◌-◌, ◌/◌, ◌≤◌, ◌<◌}
use mathlib.Core.Bool.{Bool, true, false, cond}
use mathlib.Core.List.{List, [], ◌∷◌}
use mathlib.Core.Path.{◌≡◌, refl}
use native.Mathlib.Decide.{dec_le}
use native.Mathlib.Omega.{arith}
use borrow.Author.Tests.{lt-ltb, le-ltb, eq-eqb, ne_eqb}
use lib.Dec.{T, not_T}
use lib.Ieee.{Float, le}
use lib.Ieee.Bits.{is_false}
use lib.ListN.{length}
use Rattle.float_laws.proofs.Order.{le_trans, lt_le}
use Rattle.source.specs.declared.Win.{Win}
use Rattle.edge_query.specs.EdgeDistance.{partition_point}
use Rattle.edge_query.specs.Halves.{halving, by_halves, starts_by, Rising}

module _ (pred : ℕ → Bool) (c n : ℕ) (before : (k : ℕ) → k < c → pred k ≡ true) (from : (k : ℕ) → c ≤ k → k < n → pred k ≡ false) where
  abbrev Near : ℕ → Type 0
  Near r = (r ≤ c) × ((c ≤ r + 1) × (r < n))

  halved : (turns base size : ℕ) → 1 ≤ size → size ≤ turns → base ≤ c → c ≤ base + size → base + size ≤ n → Near (halving pred turns base size)
  unfolding halving
  halved zero base size o f l h t = absurd (omega (arith, o, f))
  halved (suc turns) base size o f l h t = elim (dec_le 2 size) [
    | no d ↦ rw (le-ltb 1 size (omega (arith, d))) (l, (omega (arith, d, h), omega (arith, o, t)))
    | yes d ↦ rw (lt-ltb 1 size (omega (arith, d))) (elim (dec_le c (base + size / 2)) [
      | yes m ↦ rw (from (base + size / 2) m (omega (arith, d, t))) (halved turns base (size - size / 2) (omega (arith, d)) (omega (arith, d, f)) l (omega (arith, d, m)) (omega (arith, t)))
      | no m ↦ rw (before (base + size / 2) (omega (arith, m))) (halved turns (base + size / 2) (size - size / 2) (omega (arith, d)) (omega (arith, d, f)) (omega (arith, m)) (omega (arith, h)) (omega (arith, t)))
    ])
  ]

  pub found : c ≤ n → by_halves pred n ≡ c
  unfolding by_halves
  found top = elim (dec_le 1 n) [
    | no z ↦ rw (eq-eqb n 0 (omega (arith, z))) (omega (arith, z, top))
    | yes o ↦
        let r = halving pred n 0 n in
        let b = halved n 0 n o (omega arith) (omega arith) (omega (arith, top)) (omega arith) in
        rw (ne_eqb n 0 (λ e. omega (arith, o, e))) (elim (dec_le c r) [
          | yes m ↦ rw (from r m b.1.1) (omega (arith, m, b.0))
          | no m ↦ rw (before r (omega (arith, m))) (omega (arith, m, b.1.0))
        ])
  ]

-- ---- of starts that rise
rising_tail : (w : Win) (ws : List Win) → Rising (w ∷ ws) → Rising ws
unfolding Rising
rising_tail w [] r = tt
rising_tail w (v ∷ ws) r = r.1

module _ (x : Float) where
  starts_before_lem : (ws : List Win) (k : ℕ) → k < partition_point x ws → starts_by x ws k ≡ true
  unfolding partition_point starts_by
  starts_before_lem [] k h = absurd (omega (arith, h))
  starts_before_lem (w ∷ ws) k h = go (starts_before_lem ws) (le w.b0 x) refl k h where
    go : ((i : ℕ) → i < partition_point x ws → starts_by x ws i ≡ true) → (t : Bool) → le w.b0 x ≡ t → (k : ℕ) → k < cond t (suc (partition_point x ws)) 0 → starts_by x (w ∷ ws) k ≡ true
    go on false e k h = absurd (omega (arith, h))
    go on true e zero h = e
    go on true e (suc k) h = on k (omega (arith, h))

  -- behind a window that starts past x all do
  past_all : (w : Win) (ws : List Win) → Rising (w ∷ ws) → le w.b0 x ≡ false → (k : ℕ) → starts_by x (w ∷ ws) k ≡ false
  unfolding starts_by Rising
  past_all w ws r e zero = e
  past_all w [] r e (suc k) = refl
  past_all w (v ∷ ws) r e (suc k) = past_all v ws r.1 (is_false (le v.b0 x) (not_T (le v.b0 x) (λ t. no_longer (le_trans w.b0 v.b0 x (lt_le w.b0 v.b0 r.0) t)))) k where
    no_longer : T (le w.b0 x) → ⊥
    no_longer t = rw e at t

  starts_from : (ws : List Win) → Rising ws → (k : ℕ) → partition_point x ws ≤ k → starts_by x ws k ≡ false
  unfolding partition_point starts_by Rising
  starts_from [] r k h = refl
  starts_from (w ∷ ws) r k h = go (starts_from ws (rising_tail w ws r)) (le w.b0 x) refl k h where
    go : ((i : ℕ) → partition_point x ws ≤ i → starts_by x ws i ≡ false) → (t : Bool) → le w.b0 x ≡ t → (k : ℕ) → cond t (suc (partition_point x ws)) 0 ≤ k → starts_by x (w ∷ ws) k ≡ false
    go on false e k h = past_all w ws r e k
    go on true e zero h = absurd (omega (arith, h))
    go on true e (suc k) h = on k (omega (arith, h))

  point_within : (ws : List Win) → partition_point x ws ≤ length ws
  unfolding partition_point
  point_within [] = omega arith
  point_within (w ∷ ws) = go (point_within ws) (le w.b0 x) where
    go : partition_point x ws ≤ length ws → (t : Bool) → cond t (suc (partition_point x ws)) 0 ≤ suc (length ws)
    go h true = omega (arith, h)
    go h false = omega arith

  pub halves_is : (ws : List Win) → Rising ws → by_halves (starts_by x ws) (length ws) ≡ partition_point x ws
  halves_is ws r = found (starts_by x ws) (partition_point x ws) (length ws) (starts_before_lem ws) (λ k h m. starts_from ws r k h) (point_within ws)
