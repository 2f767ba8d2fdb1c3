-- Laws of buffers read field by field: what a write leaves, and the list that the fields make. Assumes nothing.
use Prim.Native.Nat.{ℕ, ◌+◌, ◌*◌, ◌/◌, ◌%◌, ◌<◌, ◌≤◌}
use mathlib.Core.Path.{◌≡◌, sym, ap, ◌∙◌}
use mathlib.Core.List.{List}
use native.Mathlib.Decide.{ℕ_discrete, dec_le}
use native.Mathlib.Nat.{mod-lt, div-add-mod, mul-add-div, mul-add-mod_self_left, div-eq_of_lt, mod-eq_of_lt}
use native.Mathlib.Omega.{arith}
use lib.ListN.{length, get_or, set, get_or-eq_default}
use lib.Seq.{ext_get_or, get_or-set_same, get_or-set_other}
use Rattle.nat_laws.proofs.Lists.{length_list_of, get_d_list_of}
use Rattle.buffers.specs.Slots.{fill}
use Rattle.buffers.proofs.Strides.{apart, slot_at, fill_same, fill_other}
use Rattle.edge_table.specs.Words.{slot_words}
use Rattle.edge_table.specs.Sides.{HoldsWords}

module _ (n s : ℕ) (word : ℕ → ℕ → ℕ) where
  pub length_words : length (slot_words n s word) ≡ n
  unfolding slot_words
  length_words = length_list_of n (λ (p : ℕ). word (p / s) (p % s))

  -- a field of the list that the fields make
  pub words_at : (i a : ℕ) → a < s → s * i + a < n → get_or (slot_words n s word) (s * i + a) 0 ≡ word i a
  unfolding slot_words
  words_at i a l m =
      let k : 0 < s = omega arith in
      let d : (s * i + a) / s ≡ i = mul-add-div k i a ∙ omega (arith, div-eq_of_lt l) in
      let r : (s * i + a) % s ≡ a = mul-add-mod_self_left s i a ∙ mod-eq_of_lt l in
      get_d_list_of n (λ (p : ℕ). word (p / s) (p % s)) (s * i + a) 0 m ∙ (ap (λ (z : ℕ). word z ((s * i + a) % s)) d ∙ ap (word i) r)

  -- a field that is zero, whether or not the list has it
  pub words_zero : (i a : ℕ) → a < s → word i a ≡ 0 → get_or (slot_words n s word) (s * i + a) 0 ≡ 0
  words_zero i a l z = go (dec_le n (s * i + a)) where
    go : Dec (n ≤ s * i + a) → get_or (slot_words n s word) (s * i + a) 0 ≡ 0
    go (yes p) = get_or-eq_default (slot_words n s word) 0 (rw length_words p)
    go (no p) = words_at i a l (omega arith) ∙ z

  -- a buffer that holds the fields is that list
  pub words_are : (l : List ℕ) → 0 < s → length l ≡ n → HoldsWords s l word → l ≡ slot_words n s word
  unfolding slot_words
  words_are l k e holds =
      ext_get_or 0 l (slot_words n s word) (e ∙ sym length_words) (λ p m.
      ap (λ (z : ℕ). get_or l z 0) (sym (div-add-mod p s)) ∙ (holds (p / s) (p % s) (mod-lt p k) ∙ sym (get_d_list_of n (λ (q : ℕ). word (q / s) (q % s)) p 0 (omega arith))))

module _ (s : ℕ) (l : List ℕ) (F G : ℕ → ℕ → ℕ) (holds : HoldsWords s l F) (i : ℕ) where
  -- one field is written
  pub holds_set : (a x : ℕ) → a < s → s * i + a < length l → G i a ≡ x → ((j b : ℕ) → b < s → (j ≡ i → b ≡ a → ⊥) → G j b ≡ F j b) → HoldsWords s (set l (s * i + a) x) G
  holds_set a x la m e rest j b lb = go (ℕ_discrete j i) (ℕ_discrete b a) where
    off : j ≡ i → s * j + b ≡ s * i + a → b ≡ a
    off p z = let y : s * j ≡ s * i = ap (λ (k : ℕ). s * k) p in omega arith

    go : Dec (j ≡ i) → Dec (b ≡ a) → get_or (set l (s * i + a) x) (s * j + b) 0 ≡ G j b
    go (yes p) (yes q) = rw (p, q) (get_or-set_same l (s * i + a) x 0 m ∙ sym e)
    go (yes p) (no q) = get_or-set_other l (s * i + a) (s * j + b) x 0 (λ z. q (off p z)) ∙ (holds j b lb ∙ sym (rest j b lb (λ _ z. q z)))
    go (no p) q = get_or-set_other l (s * i + a) (s * j + b) x 0 (apart s j i b a p lb la) ∙ (holds j b lb ∙ sym (rest j b lb (λ z _. p z)))

  -- a whole slot is written
  pub holds_fill : (vs : List ℕ) → length vs ≡ s → s * i + s ≤ length l → ((a : ℕ) → a < s → G i a ≡ get_or vs a 0) → ((j b : ℕ) → b < s → (j ≡ i → ⊥) → G j b ≡ F j b) → HoldsWords s (fill s l i 0 vs) G
  holds_fill vs e m here rest j b lb = go (ℕ_discrete j i) where
    go : Dec (j ≡ i) → get_or (fill s l i 0 vs) (s * j + b) 0 ≡ G j b
    go (yes p) = rw p (sym (slot_at s (fill s l i 0 vs) i b 0 lb) ∙ (ap (λ (r : List ℕ). get_or r b 0) (fill_same s l i vs e m) ∙ sym (here b lb)))
    go (no p) =
        sym (slot_at s (fill s l i 0 vs) j b 0 lb)
        ∙ (ap (λ (r : List ℕ). get_or r b 0) (fill_other s vs l i j 0 (λ z. p (sym z)) (omega arith))
        ∙ (slot_at s l j b 0 lb ∙ (holds j b lb ∙ sym (rest j b lb p))))
