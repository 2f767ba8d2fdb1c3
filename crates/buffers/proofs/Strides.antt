-- Reading a strided slice after a write, over any stride and any field.
use Prim.Native.Nat.{ℕ, suc, ◌+◌, ◌*◌, ◌-◌, ◌/◌, ◌^◌, ◌<◌, ◌≤◌}
use native.Mathlib.Nat.{add-suc, mul-le-mul_left, mul-div-le}
use native.Mathlib.Decide.{ℕ_discrete, dec_le}
use native.Mathlib.Omega.{arith}
use mathlib.Core.Path.{◌≡◌, refl, sym, ap, ◌∙◌}
use mathlib.Core.List.{List, [], ◌∷◌, ◌++◌, append-nil}
use mathlib.Core.Logic.{◌≢◌}
use lib.ListN.{length, get_or, take, drop, set, length-drop, drop_of_length-le}
use lib.Seq.{sets, length-sets, sets-eq, get_or-take, get_or-drop, get_or-set_other, drop-set-lt, drop-set-add, take-set-le, take-set-lt, length-take-le}
use Rattle.nat_laws.proofs.Ring.{run_within}
use Rattle.buffers.specs.Slots.{slot, fill, slots_of}

-- elements of different slots stand apart
pub apart : (s i j a b : ℕ) → i ≢ j → a < s → b < s → s * i + a ≢ s * j + b
apart s i j a b ne ha hb e = go (dec_le i j) where
  go : Dec (i ≤ j) → ⊥
  go (yes h) = let k : i < j = omega arith in omega (arith, run_within s k)
  go (no h) = let k : j < i = omega arith in omega (arith, run_within s k)

-- a slot that is counted lies in the slice
pub in_slots : (n s i : ℕ) → i < slots_of n s → s * i + s ≤ n
in_slots n s i h =
    let k : i < n / s = omega arith in
    omega (arith, run_within s k, mul-div-le n s)

-- the index of a field fits 64 bits, whatever 32-bit numbers make it
pub index_fits : (s i a : ℕ) → s < 2 ^ 32 → i < 2 ^ 32 → a < 2 ^ 32 → s * i + a < 2 ^ 64
index_fits s i a hs hi ha =
    let p : s * i ≤ s * 4294967295 = mul-le-mul_left s (omega arith) in
    omega arith

module _ {A : Type 0} (s : ℕ) (l : List A) where
  -- a field of a slot is an element of the slice
  pub slot_at : (i a : ℕ) (d : A) → a < s → get_or (slot s l i) a d ≡ get_or l (s * i + a) d
  unfolding slot
  slot_at i a d h = rw (get_or-take, get_or-drop)

  -- a read after a write to another field of the slot, or to another slot
  pub other_field : (i a b : ℕ) (x d : A) → a ≢ b → get_or (set l (s * i + a) x) (s * i + b) d ≡ get_or l (s * i + b) d
  other_field i a b x d ne = get_or-set_other l (s * i + a) (s * i + b) x d (omega arith)

  pub other_slot : (i j a b : ℕ) (x d : A) → i ≢ j → a < s → b < s → get_or (set l (s * i + a) x) (s * j + b) d ≡ get_or l (s * j + b) d
  other_slot i j a b x d ne ha hb = get_or-set_other l (s * i + a) (s * j + b) x d (λ e. apart s i j a b ne ha hb (sym e))

  -- a read of another field, of whatever slot
  pub other_fields : (i j a b : ℕ) (x d : A) → a ≢ b → a < s → b < s → get_or (set l (s * i + a) x) (s * j + b) d ≡ get_or l (s * j + b) d
  other_fields i j a b x d ne ha hb = go (ℕ_discrete i j) where
    go : Dec (i ≡ j) → get_or (set l (s * i + a) x) (s * j + b) d ≡ get_or l (s * j + b) d
    go (yes e) = rw e (other_field j a b x d ne)
    go (no e) = other_slot i j a b x d e ha hb

  -- a write to a field: its slot has it, and the others are as they were
  pub slot_set_same : (i a : ℕ) (x : A) → a < s → slot s (set l (s * i + a) x) i ≡ set (slot s l i) a x
  unfolding slot
  slot_set_same i a x h = rw (drop-set-add, take-set-lt)

  pub slot_set_other : (i j a : ℕ) (x : A) → i ≢ j → a < s → slot s (set l (s * i + a) x) j ≡ slot s l j
  unfolding slot
  slot_set_other i j a x ne h = go (dec_le i j) where
    go : Dec (i ≤ j) → take s (drop (s * j) (set l (s * i + a) x)) ≡ take s (drop (s * j) l)
    go (yes le) =
        let k : i < j = omega arith in
        let b : s * i + a < s * j = omega (arith, run_within s k) in
        ap (take s) (drop-set-lt (s * j) l (s * i + a) x b)
    go (no nle) =
        let k : j < i = omega arith in
        let e : s * i + a ≡ s * j + (s * i + a - s * j) = omega (arith, run_within s k) in
        let b : s ≤ s * i + a - s * j = omega (arith, run_within s k) in
        ap (λ n. take s (drop (s * j) (set l n x))) e
        ∙ ap (take s) (drop-set-add (s * j) l (s * i + a - s * j) x)
        ∙ take-set-le s (drop (s * j) l) (s * i + a - s * j) x b

-- a whole slot is written: it has the fields, and the others are as they were
module _ {A : Type 0} (s : ℕ) where
  pub fill_is : (vs l : List A) (i a : ℕ) → fill s l i a vs ≡ sets l (s * i + a) vs
  unfolding fill
  fill_is [] l i a = refl
  fill_is (v ∷ vs) l i a = fill_is vs (set l (s * i + a) v) i (suc a) ∙ ap (λ k. sets (set l (s * i + a) v) k vs) (add-suc (s * i) a)

  pub length_fill : (vs l : List A) (i a : ℕ) → length (fill s l i a vs) ≡ length l
  length_fill vs l i a = ap length (fill_is vs l i a) ∙ length-sets l (s * i + a) vs

  pub fill_sets : (vs l : List A) (i a : ℕ) → a + length vs ≤ s → slot s (fill s l i a vs) i ≡ sets (slot s l i) a vs
  unfolding fill
  fill_sets [] l i a h = refl
  fill_sets (v ∷ vs) l i a h =
      fill_sets vs (set l (s * i + a) v) i (suc a) (omega arith) ∙ ap (λ p. sets p (suc a) vs) (slot_set_same s l i a v (omega arith))

  pub length_slot : (l : List A) (i : ℕ) → s * i + s ≤ length l → length (slot s l i) ≡ s
  unfolding slot
  length_slot l i h = length-take-le s (drop (s * i) l) (simp length-drop (omega arith))

  pub fill_same : (l : List A) (i : ℕ) (vs : List A) → length vs ≡ s → s * i + s ≤ length l → slot s (fill s l i 0 vs) i ≡ vs
  fill_same l i vs e h =
      let n : length (slot s l i) ≡ s = length_slot l i h in
      fill_sets vs l i 0 (omega arith)
      ∙ sets-eq vs (slot s l i) 0 (omega arith)
      ∙ ap (λ t. vs ++ t) (drop_of_length-le (slot s l i) {i = 0 + length vs} (omega arith))
      ∙ append-nil vs

  pub fill_other : (vs l : List A) (i j a : ℕ) → i ≢ j → a + length vs ≤ s → slot s (fill s l i a vs) j ≡ slot s l j
  unfolding fill
  fill_other [] l i j a ne h = refl
  fill_other (v ∷ vs) l i j a ne h =
      fill_other vs (set l (s * i + a) v) i j (suc a) ne (omega arith) ∙ slot_set_other s l i j a v ne (omega arith)

  -- slots from n on are as they were where a slot before them is written
  pub fill_outside : (n : ℕ) (vs l : List A) (i a : ℕ) → i < n → a + length vs ≤ s → drop (s * n) (fill s l i a vs) ≡ drop (s * n) l
  unfolding fill
  fill_outside n [] l i a h g = refl
  fill_outside n (v ∷ vs) l i a h g =
      fill_outside n vs (set l (s * i + a) v) i (suc a) h (omega arith) ∙ drop-set-lt (s * n) l (s * i + a) v (omega (arith, run_within s h))
