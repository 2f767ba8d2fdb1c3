-- Slots written one after the other, each with its row: what they hold, what stays, and the turns of a loop that writes them. Assumes nothing.
use Prim.Native.Nat.{ℕ, zero, suc, ◌+◌, ◌*◌, ◌<◌, ◌≤◌}
use mathlib.Core.Path.{◌≡◌, refl, sym, ap, subst, ◌∙◌}
use mathlib.Core.List.{List, [], ◌∷◌}
use mathlib.Core.Logic.{⊎_elim}
use native.Mathlib.Nat.{le_of_suc-le-suc, not-suc-le-zero, eq-or-lt_of_le, mul-suc}
use native.Mathlib.Numerals.{add-one}
use native.Mathlib.Omega.{arith}
use lib.ListN.{length, get_or, set, replicate}
use lib.Ieee.{Float, nan}
use Rattle.layout.specs.Layout.{reals_per_normal}
use Rattle.vec3.specs.declared.Vec3.{Vec3}
use Rattle.buffers.specs.Slots.{slot, fill}
use Rattle.buffers.specs.Zero.{zero_from}
use Rattle.buffers.proofs.Strides.{slot_at, length_fill, fill_same, fill_other}
use Rattle.buffers.proofs.Zeroing.{zero_whole}
use Rattle.frames.specs.Stored.{normal_at, fill_three, with_rows, row3}

module _ (s : ℕ) (row : ℕ → List Float) where
  pub rows_start : (r : List Float) → r ≡ with_rows s row 0 r
  unfolding with_rows
  rows_start r = refl

  -- the next slot written
  pub rows_turn : (r₀ r r' vs : List Float) (k n : ℕ) → n ≡ k + 1 → r' ≡ fill s r k 0 vs → vs ≡ row k → r ≡ with_rows s row k r₀ → r' ≡ with_rows s row n r₀
  unfolding with_rows
  rows_turn r₀ r r' vs k n next stored is so_far = rw (next, add-one k) (stored ∙ (λ i. fill s (so_far i) k 0 (is i)))

  -- the next three slots written
  pub rows_turn_three : (r₀ r r' a b c : List Float) (k n : ℕ) → n ≡ k + 3 → r' ≡ fill_three s r k a b c → a ≡ row k → b ≡ row (k + 1) → c ≡ row (k + 2) → r ≡ with_rows s row k r₀ → r' ≡ with_rows s row n r₀
  rows_turn_three r₀ r r' a b c k n next stored p q t so_far =
      let first = rows_turn r₀ r (fill s r k 0 a) a k (k + 1) refl refl p so_far in
      let second = rows_turn r₀ (fill s r k 0 a) (fill s (fill s r k 0 a) (k + 1) 0 b) b (k + 1) (k + 2) (omega arith) refl q first in
      rows_turn r₀ (fill s (fill s r k 0 a) (k + 1) 0 b) r' c (k + 2) n (omega arith) stored t second

  pub rows_done : (r₀ r : List Float) (k n : ℕ) → r ≡ with_rows s row k r₀ → k ≤ n → n ≤ k → r ≡ with_rows s row n r₀
  rows_done r₀ r k n so_far l m = so_far ∙ ap (λ (i : ℕ). with_rows s row i r₀) (let g : k ≡ n = omega arith in g)

-- three slots stored one after the other
pub three_stored : (s k : ℕ) (r r₁ r₂ r₃ a a' b b' c c' : List Float) → r₁ ≡ fill s r k 0 a → r₂ ≡ fill s r₁ (k + 1) 0 b → r₃ ≡ fill s r₂ (k + 2) 0 c → a ≡ a' → b ≡ b' → c ≡ c' → r₃ ≡ fill_three s r k a' b' c'
three_stored s k r r₁ r₂ r₃ a a' b b' c c' e₁ e₂ e₃ p q t =
    e₃ ∙ (λ i. fill s ((e₂ ∙ (λ j. fill s ((e₁ ∙ (λ l. fill s r k 0 (p l))) j) (k + 1) 0 (q j))) i) (k + 2) 0 (t i))

-- rows that are the same below n
pub rows_same : (s : ℕ) (row row' : ℕ → List Float) (n : ℕ) (r : List Float) → ((k : ℕ) → k < n → row k ≡ row' k) → with_rows s row n r ≡ with_rows s row' n r
unfolding with_rows
rows_same s row row' zero r same = refl
rows_same s row row' (suc n) r same = λ i. fill s (rows_same s row row' n r (λ k l. same k (omega arith)) i) n 0 (same n (omega arith) i)

module _ (s : ℕ) (row : ℕ → List Float) (whole : (k : ℕ) → length (row k) ≡ s) where
  pub length_rows : (n : ℕ) (r : List Float) → length (with_rows s row n r) ≡ length r
  unfolding with_rows
  length_rows zero r = refl
  length_rows (suc n) r = length_fill s (row n) (with_rows s row n r) n 0 ∙ length_rows n r

  -- each has its row
  rows_slot : (n : ℕ) (r : List Float) (k : ℕ) → k < n → s * n ≤ length r → slot s (with_rows s row n r) k ≡ row k
  unfolding with_rows
  rows_slot zero r k l m = absurd (not-suc-le-zero l)
  rows_slot (suc n) r k l m =
      ⊎_elim (λ q. subst (λ (i : ℕ). slot s (fill s (with_rows s row n r) n 0 (row n)) i ≡ row i) (sym q) (fill_same s (with_rows s row n r) n (row n) (whole n) (omega (arith, length_rows n r, mul-suc s n))))
      (λ l'. fill_other s (row n) (with_rows s row n r) n k 0 (λ e. omega arith) (omega (arith, whole n)) ∙ rows_slot n r k l' (omega (arith, mul-suc s n)))
      (eq-or-lt_of_le (le_of_suc-le-suc l))

  -- the others are as they were
  rows_past : (n : ℕ) (r : List Float) (k : ℕ) → n ≤ k → slot s (with_rows s row n r) k ≡ slot s r k
  unfolding with_rows
  rows_past zero r k l = refl
  rows_past (suc n) r k l = fill_other s (row n) (with_rows s row n r) n k 0 (λ e. omega arith) (omega (arith, whole n)) ∙ rows_past n r k (omega arith)

  pub rows_at : (n : ℕ) (r : List Float) (k a : ℕ) → k < n → s * n ≤ length r → a < s → get_or (with_rows s row n r) (s * k + a) nan ≡ get_or (row k) a nan
  rows_at n r k a l m b = sym (slot_at s (with_rows s row n r) k a nan b) ∙ ap (λ (x : List Float). get_or x a nan) (rows_slot n r k l m)

  rows_past_at : (n : ℕ) (r : List Float) (k a : ℕ) → n ≤ k → a < s → get_or (with_rows s row n r) (s * k + a) nan ≡ get_or r (s * k + a) nan
  rows_past_at n r k a l b = sym (slot_at s (with_rows s row n r) k a nan b) ∙ (ap (λ (x : List Float). get_or x a nan) (rows_past n r k l) ∙ slot_at s r k a nan b)

-- vectors in slots of three
module _ (of : ℕ → Vec3) where
  abbrev three : ℕ → List Float
  three h = row3 (of h)

  pub vectors_at : (n : ℕ) (r : List Float) (h : ℕ) → h < n → reals_per_normal * n ≤ length r → normal_at (with_rows reals_per_normal three n r) h ≡ of h
  vectors_at n r h l m =
      λ i. record {
        x = rows_at reals_per_normal three (λ k. refl) n r h 0 l m (omega arith) i;
        y = rows_at reals_per_normal three (λ k. refl) n r h 1 l m (omega arith) i;
        z = rows_at reals_per_normal three (λ k. refl) n r h 2 l m (omega arith) i;
      }

  pub vectors_past : (n : ℕ) (r : List Float) (h : ℕ) → n ≤ h → normal_at (with_rows reals_per_normal three n r) h ≡ normal_at r h
  vectors_past n r h l =
      λ i. record {
        x = rows_past_at reals_per_normal three (λ k. refl) n r h 0 l (omega arith) i;
        y = rows_past_at reals_per_normal three (λ k. refl) n r h 1 l (omega arith) i;
        z = rows_past_at reals_per_normal three (λ k. refl) n r h 2 l (omega arith) i;
      }

module _ {A : Type 0} (z : A) where
  zero_past_set : (k : ℕ) (l : List A) (v : A) → zero_from z (suc k) (set l k v) ≡ set (zero_from z k l) k v
  unfolding zero_from
  zero_past_set zero [] v = refl
  zero_past_set zero (x ∷ l) v = refl
  zero_past_set (suc k) [] v = refl
  zero_past_set (suc k) (x ∷ l) v = ap (λ t. x ∷ t) (zero_past_set k l v)

  zero_past_fill : (s : ℕ) (vs l : List A) (i a : ℕ) → zero_from z (s * i + (a + length vs)) (fill s l i a vs) ≡ fill s (zero_from z (s * i + a) l) i a vs
  unfolding fill
  zero_past_fill s [] l i a = let e : s * i + (a + 0) ≡ s * i + a = omega arith in rw e refl
  zero_past_fill s (v ∷ vs) l i a =
      let e : s * i + (a + suc (length vs)) ≡ s * i + (suc a + length vs) = omega arith in
      let f : s * i + suc a ≡ suc (s * i + a) = omega arith in
      ap (λ (k : ℕ). zero_from z k (fill s (set l (s * i + a) v) i (suc a) vs)) e
      ∙ zero_past_fill s vs (set l (s * i + a) v) i (suc a)
      ∙ ap (λ (k : ℕ). fill s (zero_from z k (set l (s * i + a) v)) i (suc a) vs) f
      ∙ ap (λ (t : List A). fill s t i (suc a) vs) (zero_past_set (s * i + a) l v)

-- slots written and the rest then zeroed are the slots written into zeros: what is written over need not be zeroed first
pub zero_past_rows : (z : Float) (s : ℕ) (row : ℕ → List Float) → ((k : ℕ) → length (row k) ≡ s) → (n : ℕ) (r : List Float) → zero_from z (s * n) (with_rows s row n r) ≡ with_rows s row n (replicate (length r) z)
unfolding with_rows
zero_past_rows z s row whole zero r = let e : s * 0 ≡ 0 = omega arith in rw e (zero_whole z r)
zero_past_rows z s row whole (suc n) r =
    let e : s * suc n ≡ s * n + (0 + length (row n)) = omega (arith, mul-suc s n, whole n) in
    let f : s * n + 0 ≡ s * n = omega arith in
    ap (λ (k : ℕ). zero_from z k (fill s (with_rows s row n r) n 0 (row n))) e
    ∙ zero_past_fill z s (row n) (with_rows s row n r) n 0
    ∙ ap (λ (k : ℕ). fill s (zero_from z k (with_rows s row n r)) n 0 (row n)) f
    ∙ ap (λ (t : List Float). fill s t n 0 (row n)) (zero_past_rows z s row whole n r)
