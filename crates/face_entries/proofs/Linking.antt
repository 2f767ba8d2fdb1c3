-- Chains of entries where a link changes, and the words of a slot that is stored. Assumes nothing.
use Prim.Native.Nat.{ℕ, zero, suc, ◌+◌, ◌*◌, ◌≤◌, ◌<◌}
use native.Mathlib.Omega.{arith}
use mathlib.Core.List.{List, [], ◌∷◌, ◌++◌}
use mathlib.Core.Logic.{◌≢◌}
use mathlib.Core.Path.{◌≡◌, refl, sym, ap, subst, ◌∙◌}
use lib.ListN.{length, get_or, set, length-set}
use lib.Seq.{get_or-set_other}
use Rattle.nat_laws.specs.Lists.{All}
use Rattle.buffers.specs.Slots.{fill}
use Rattle.buffers.proofs.Strides.{slot_at, fill_same, fill_other, length_fill}
use Rattle.chains.specs.Chains.{first_link}
use Rattle.face_entries.specs.declared.PiecePart.{PiecePart}
use Rattle.layout.specs.Layout.{words_per_triangle, triangle_first_entry, triangle_last_entry, words_per_entry, entry_link}
use Rattle.face_entries.specs.Buffers.{EntryBuffers, part_number, next_entry_of, stored_in, linked_in}
use Rattle.face_entries.specs.Entries.{FaceEntry, HasEntry, StoredFrom, EntryChain, final_link}

-- ---- chains
pub chain_first : (w : List ℕ) (l : ℕ) (is : List ℕ) → EntryChain w l is → l ≡ first_link is
unfolding first_link EntryChain
chain_first w l [] p = p
chain_first w l (i ∷ is) p = p.0

pub chain_same : (w w' : List ℕ) (l : ℕ) (is : List ℕ) → All (λ i. next_entry_of w' i ≡ next_entry_of w i) is → EntryChain w l is → EntryChain w' l is
unfolding EntryChain
chain_same w w' l [] h p = p
chain_same w w' l (i ∷ is) h p = (p.0, subst (λ (m : ℕ). EntryChain w' m is) (sym h.0) (chain_same w w' (next_entry_of w i) is h.1 p.1))

-- the last entry of a chain has none behind it
pub chain_end : (w : List ℕ) (l : ℕ) (is : List ℕ) (k : ℕ) → EntryChain w l is → final_link is ≡ suc k → next_entry_of w k ≡ 0
unfolding EntryChain final_link
chain_end w l [] k p e = absurd (omega (arith, e))
chain_end w l (i ∷ []) k p e = let z : i ≡ k = omega (arith, e) in subst (λ (j : ℕ). next_entry_of w j ≡ 0) z p.1
chain_end w l (i ∷ j ∷ is) k p e = chain_end w (next_entry_of w i) (j ∷ is) k p.1 e

-- entry j is linked behind the last one, k
module _ (w w' : List ℕ) (k j : ℕ) (kept : (i : ℕ) → i < j → i ≢ k → next_entry_of w' i ≡ next_entry_of w i) (points : next_entry_of w' k ≡ suc j) (ends : next_entry_of w' j ≡ 0) (none : next_entry_of w k ≡ 0) where
  pub chain_grown : (l : ℕ) (is : List ℕ) → All (λ i. i < j) is → final_link is ≡ suc k → EntryChain w l is → EntryChain w' l (is ++ (j ∷ []))
  unfolding EntryChain final_link
  chain_grown l [] b e p = absurd (omega (arith, e))
  chain_grown l (i ∷ []) b e p =
      let z : i ≡ k = omega (arith, e) in
      (p.0, (ap (next_entry_of w') z ∙ points, ends))
  chain_grown l (i ∷ h ∷ is) b e p =
      let ne : i ≢ k = λ z. omega (arith, p.1.0, ap (next_entry_of w) z, none) in
      (p.0, subst (λ (m : ℕ). EntryChain w' m (h ∷ (is ++ (j ∷ [])))) (sym (kept i b.0 ne)) (chain_grown (next_entry_of w i) (h ∷ is) b.1 e p.1))

-- ---- a slot is stored
abbrev pub three_words : PiecePart → List ℕ
three_words x = x.piece ∷ part_number x.part ∷ 0 ∷ []

module _ (w : List ℕ) (i : ℕ) (x : PiecePart) where
  pub length_stored : length (stored_in w i x) ≡ length w
  unfolding stored_in
  length_stored = length_fill words_per_entry (three_words x) w i 0

  pub stored_other : (k a : ℕ) → i ≢ k → a < words_per_entry → get_or (stored_in w i x) (words_per_entry * k + a) 0 ≡ get_or w (words_per_entry * k + a) 0
  unfolding stored_in
  stored_other k a ne l =
      sym (slot_at words_per_entry (fill words_per_entry w i 0 (three_words x)) k a 0 l)
      ∙ ap (λ (p : List ℕ). get_or p a 0) (fill_other words_per_entry (three_words x) w i k 0 ne (omega arith))
      ∙ slot_at words_per_entry w k a 0 l

  pub stored_here : (a : ℕ) → a < words_per_entry → words_per_entry * i + words_per_entry ≤ length w → get_or (stored_in w i x) (words_per_entry * i + a) 0 ≡ get_or (three_words x) a 0
  unfolding stored_in
  stored_here a l h =
      sym (slot_at words_per_entry (fill words_per_entry w i 0 (three_words x)) i a 0 l) ∙ ap (λ (p : List ℕ). get_or p a 0) (fill_same words_per_entry w i (three_words x) refl h)

  pub stored_behind : (p : ℕ) → words_per_entry * i + words_per_entry ≤ p → get_or (stored_in w i x) p 0 ≡ get_or w p 0
  unfolding stored_in fill
  stored_behind p h =
      get_or-set_other (set (set w (words_per_entry * i + 0) x.piece) (words_per_entry * i + 1) (part_number x.part)) (words_per_entry * i + 2) p 0 0 (λ z. omega (arith, z, h))
      ∙ get_or-set_other (set w (words_per_entry * i + 0) x.piece) (words_per_entry * i + 1) p (part_number x.part) 0 (λ z. omega (arith, z, h))
      ∙ get_or-set_other w (words_per_entry * i + 0) p x.piece 0 (λ z. omega (arith, z, h))

-- slots that have their entries, where one more has its own
pub stored_snoc : (w w' : List ℕ) (i : ℕ) (xs : List FaceEntry) (y : FaceEntry)
    → ((k a : ℕ) → k < i + length xs → a < entry_link → get_or w' (words_per_entry * k + a) 0 ≡ get_or w (words_per_entry * k + a) 0)
    → HasEntry w' (i + length xs) y.entry → StoredFrom w i xs → StoredFrom w' i (xs ++ (y ∷ []))
unfolding StoredFrom
stored_snoc w w' i [] y kept new h = let e : i + 0 ≡ i = omega arith in (subst (λ (k : ℕ). HasEntry w' k y.entry) e new, tt)
stored_snoc w w' i (x ∷ xs) y kept new h =
    let e : i + suc (length xs) ≡ suc i + length xs = omega arith in (
      (kept i 0 (omega arith) (omega arith) ∙ h.0.0, kept i 1 (omega arith) (omega arith) ∙ h.0.1),
      stored_snoc w w' (suc i) xs y (λ k a l m. kept k a (omega (arith, l)) m) (subst (λ (k : ℕ). HasEntry w' k y.entry) e new) h.1,
    )

-- ---- a link is put behind the last
module _ (b : EntryBuffers) (f : ℕ) where
  -- nothing but the first and the last entry of a triangle changes
  pub linked_others : (last link i : ℕ) → ((g : ℕ) → (i ≢ words_per_triangle * g + triangle_first_entry) × (i ≢ words_per_triangle * g + triangle_last_entry))
      → get_or (linked_in b f last link).triangles i 0 ≡ get_or b.triangles i 0
  unfolding linked_in
  linked_others zero link i ne =
      get_or-set_other (set b.triangles (words_per_triangle * f + triangle_last_entry) link) (words_per_triangle * f + triangle_first_entry) i link 0 (ne f).0
      ∙ get_or-set_other b.triangles (words_per_triangle * f + triangle_last_entry) i link 0 (ne f).1
  linked_others (suc k) link i ne = get_or-set_other b.triangles (words_per_triangle * f + triangle_last_entry) i link 0 (ne f).1

  pub linked_triangles : (last link : ℕ) → length (linked_in b f last link).triangles ≡ length b.triangles
  unfolding linked_in
  linked_triangles zero link =
      length-set (set b.triangles (words_per_triangle * f + triangle_last_entry) link) (words_per_triangle * f + triangle_first_entry) link
      ∙ length-set b.triangles (words_per_triangle * f + triangle_last_entry) link
  linked_triangles (suc k) link = length-set b.triangles (words_per_triangle * f + triangle_last_entry) link

  pub linked_words : (last link : ℕ) → length (linked_in b f last link).words ≡ length b.words
  unfolding linked_in
  linked_words zero link = refl
  linked_words (suc k) link = length-set b.words (words_per_entry * k + entry_link) link

  pub linked_behind : (last link p : ℕ) → words_per_entry * last ≤ p → get_or (linked_in b f last link).words p 0 ≡ get_or b.words p 0
  unfolding linked_in
  linked_behind zero link p h = refl
  linked_behind (suc k) link p h = get_or-set_other b.words (words_per_entry * k + entry_link) p link 0 (λ z. omega (arith, z, h))
