-- The buffers hold the entries of all pushes: at first none, and each that is entered behind the others. Assumes nothing.
use Prim.Native.Nat.{ℕ, zero, suc, ◌+◌, ◌*◌, ◌≤◌, ◌<◌}
use native.Mathlib.Omega.{arith}
use native.Mathlib.Decide.{ℕ_discrete}
use mathlib.Core.Bool.{Bool, true, false, cond}
use mathlib.Core.List.{List, [], ◌∷◌, ◌++◌, append-nil}
use mathlib.Core.Logic.{◌≢◌}
use mathlib.Core.Path.{◌≡◌, refl, sym, ap, subst, ◌∙◌}
use borrow.Author.Tests.{eq-eqb, ne_eqb}
use lib.Dec.{ltb}
use lib.ListN.{length, get_or, set, length-set, length-append}
use lib.Seq.{get_or-set_same}
use Rattle.nat_laws.specs.Lists.{All}
use Rattle.nat_laws.proofs.Lists.{all_map}
use Rattle.buffers.proofs.Strides.{in_slots, other_slot, other_field, other_fields}
use Rattle.chains.specs.Chains.{link_in}
use Rattle.chains.proofs.Turns.{link_in_lem, link_le}
use Rattle.mesh.specs.Topology.{MeshBuffers}
use Rattle.mesh.specs.Held.{Fresh}
use Rattle.face_entries.specs.declared.PiecePart.{PiecePart}
use Rattle.buffers.specs.declared.Lack.{Lack}
use Rattle.buffers.specs.declared.Lack.TheVariants.{Entries}
use Rattle.std.specs.declared.result.Result.{Result}
use Rattle.std.specs.declared.result.Result.TheVariants.{Ok, Err}
use Rattle.layout.specs.Layout.{words_per_triangle, triangle_first_entry, triangle_last_entry, words_per_entry, entry_link}
use Rattle.face_entries.specs.Buffers.{EntryBuffers, entry_buffers, entry_capacity, first_entry_of, last_entry_of, next_entry_of, stored_in, linked_in, entered_in, entering}
use Rattle.face_entries.specs.Entries.{FaceEntry, entry_numbers_from, numbers_of, final_link, EntryChain, HasEntry, StoredFrom, HoldsEntries, HoldsOnly}
use Rattle.face_entries.proofs.Numbers.{Numbered, each_numbered, numbers_snoc, numbers_below, faces_apart, final_in, final_snoc, final_none}
use Rattle.face_entries.proofs.Linking.{chain_same, chain_end, chain_grown, length_stored, stored_other, stored_here, stored_behind, stored_snoc, linked_others, linked_triangles, linked_words, linked_behind}

-- ---- what is so of every call, whatever the buffers hold
module _ (b : EntryBuffers) (count f : ℕ) (x : PiecePart) where
  abbrev stored : EntryBuffers
  stored = entry_buffers b.triangles (stored_in b.words count x)

  pub entered_others : (i : ℕ) → ((g : ℕ) → (i ≢ words_per_triangle * g + triangle_first_entry) × (i ≢ words_per_triangle * g + triangle_last_entry)) → get_or (entered_in b count f x).triangles i 0 ≡ get_or b.triangles i 0
  unfolding entered_in
  entered_others = linked_others stored f (link_in count (last_entry_of b.triangles f)) (suc count)

  pub entered_triangles : length (entered_in b count f x).triangles ≡ length b.triangles
  unfolding entered_in
  entered_triangles = linked_triangles stored f (link_in count (last_entry_of b.triangles f)) (suc count)

  pub entered_words : length (entered_in b count f x).words ≡ length b.words
  unfolding entered_in
  entered_words = linked_words stored f (link_in count (last_entry_of b.triangles f)) (suc count) ∙ length_stored b.words count x

  -- words behind the new slot stay
  pub entered_behind : (p : ℕ) → words_per_entry * suc count ≤ p → get_or (entered_in b count f x).words p 0 ≡ get_or b.words p 0
  unfolding entered_in
  entered_behind p h =
      let last = link_in count (last_entry_of b.triangles f) in
      linked_behind stored f last (suc count) p (omega (arith, h, link_le count (last_entry_of b.triangles f) last refl)) ∙ stored_behind b.words count x p (omega (arith, h))

  -- `enter` writes nothing but the first and the last entry of triangles to their words: field `triangle_words_held` of mesh's `Worked`
  pub enter_others : (i : ℕ) → ((g : ℕ) → (i ≢ words_per_triangle * g + triangle_first_entry) × (i ≢ words_per_triangle * g + triangle_last_entry)) → get_or (entering b count f x).1.triangles i 0 ≡ get_or b.triangles i 0
  unfolding entering
  enter_others i ne = go (ltb count (entry_capacity (length b.words))) where
    go : (c : Bool) → get_or (cond {A = Result ℕ Lack × EntryBuffers} c (Ok (suc count), entered_in b count f x) (Err Entries, b)).1.triangles i 0 ≡ get_or b.triangles i 0
    go true = entered_others i ne
    go false = refl

-- ---- at first there are none
pub none_held : (t w : List ℕ) → ((f : ℕ) → (first_entry_of t f ≡ 0) × (last_entry_of t f ≡ 0)) → HoldsEntries 0 t w []
unfolding StoredFrom EntryChain entry_numbers_from final_link
none_held t w z = record { counted = refl; fits = omega arith; stored = tt; chain = λ f. (z f).0; last = λ f. (z f).1 }

pub none_only : (t w : List ℕ) → ((f : ℕ) → (first_entry_of t f ≡ 0) × (last_entry_of t f ≡ 0)) → ((p : ℕ) → get_or w p 0 ≡ 0) → HoldsOnly t 0 t w []
none_only t w z o = record { holds = none_held t w z; behind = λ p h. o p; same_length = refl; others = λ i ne. refl }

-- a mesh that was made
pub fresh_none : (m : MeshBuffers) → Fresh m → (f : ℕ) → (first_entry_of m.triangle_words_held f ≡ 0) × (last_entry_of m.triangle_words_held f ≡ 0)
fresh_none m h f = (h.no_entries f 3 (omega arith) (omega arith), h.no_entries f 4 (omega arith) (omega arith))

-- ---- one more
module _ (count : ℕ) (t w : List ℕ) (xs : List FaceEntry) (H : HoldsEntries count t w xs) (f : ℕ) (x : PiecePart) where
  abbrev new : FaceEntry
  new = record { face = f; entry = x }

  below : (g : ℕ) → All (λ i. i < count) (numbers_of g xs)
  below g = subst (λ (n : ℕ). All (λ i. i < n) (numbers_of g xs)) H.counted (numbers_below g xs)

  numbers_own : (g : ℕ) → f ≡ g → numbers_of g (xs ++ (new ∷ [])) ≡ numbers_of g xs ++ (count ∷ [])
  numbers_own g e =
      let z : 0 + length xs ≡ count = omega (arith, H.counted) in
      numbers_snoc 0 g xs new ∙ rw (eq-eqb f g e) (ap (λ (k : ℕ). numbers_of g xs ++ (k ∷ [])) z)

  numbers_other : (g : ℕ) → f ≢ g → numbers_of g (xs ++ (new ∷ [])) ≡ numbers_of g xs
  numbers_other g ne = numbers_snoc 0 g xs new ∙ rw (ne_eqb f g ne) (append-nil (numbers_of g xs))

  -- from what changes
  module _ (t' w' : List ℕ) (room : words_per_entry * suc count ≤ length w) (same : length w' ≡ length w)
      (kept : (k a : ℕ) → k < count → a < entry_link → get_or w' (words_per_entry * k + a) 0 ≡ get_or w (words_per_entry * k + a) 0) (has : HasEntry w' count x)
      (own-chain : EntryChain w' (first_entry_of t' f) (numbers_of f xs ++ (count ∷ []))) (own-last : last_entry_of t' f ≡ suc count)
      (others : (g : ℕ) → f ≢ g → (first_entry_of t' g ≡ first_entry_of t g) × (last_entry_of t' g ≡ last_entry_of t g)) (links : (g : ℕ) → f ≢ g → All (λ i. next_entry_of w' i ≡ next_entry_of w i) (numbers_of g xs)) where
    held_chain : (g : ℕ) → Dec (f ≡ g) → EntryChain w' (first_entry_of t' g) (numbers_of g (xs ++ (new ∷ [])))
    held_chain g (yes e) =
        subst (EntryChain w' (first_entry_of t' g)) (sym (numbers_own g e)) (subst (λ (h : ℕ). EntryChain w' (first_entry_of t' h) (numbers_of h xs ++ (count ∷ []))) e own-chain)
    held_chain g (no ne) =
        subst (EntryChain w' (first_entry_of t' g)) (sym (numbers_other g ne))
        (subst (λ (l : ℕ). EntryChain w' l (numbers_of g xs)) (sym (others g ne).0) (chain_same w w' (first_entry_of t g) (numbers_of g xs) (links g ne) (H.chain g)))

    held_last : (g : ℕ) → Dec (f ≡ g) → last_entry_of t' g ≡ final_link (numbers_of g (xs ++ (new ∷ [])))
    held_last g (yes e) = ap (last_entry_of t') (sym e) ∙ own-last ∙ sym (ap final_link (numbers_own g e) ∙ final_snoc (numbers_of g xs) count)
    held_last g (no ne) = (others g ne).1 ∙ H.last g ∙ ap final_link (sym (numbers_other g ne))

    grown : HoldsEntries (suc count) t' w' (xs ++ (new ∷ []))
    grown =
        let z : length xs ≡ count = H.counted in
        record {
          counted = length-append xs (new ∷ []) ∙ omega (arith, z);
          fits = omega (arith, room, same);
          stored = stored_snoc w w' 0 xs new (λ k a l. kept k a (omega (arith, l, z))) (subst (λ (k : ℕ). HasEntry w' k x) (omega (arith, z)) has) H.stored;
          chain = λ g. held_chain g (ℕ_discrete f g);
          last = λ g. held_last g (ℕ_discrete f g);
        }

  module _ (room : words_per_entry * suc count ≤ length w) (there : words_per_triangle * f + triangle_last_entry < length t) where
    abbrev w₁ : List ℕ
    w₁ = stored_in w count x

    slot_fits : words_per_entry * count + words_per_entry ≤ length w
    slot_fits = omega (arith, room)

    -- the first of its face
    first_held : final_link (numbers_of f xs) ≡ 0 → HoldsEntries (suc count) (linked_in (entry_buffers t w₁) f 0 (suc count)).triangles (linked_in (entry_buffers t w₁) f 0 (suc count)).words (xs ++ (new ∷ []))
    unfolding linked_in EntryChain
    first_held z =
        let none : numbers_of f xs ≡ [] = final_none (numbers_of f xs) z in
        let t₁ = set t (words_per_triangle * f + triangle_last_entry) (suc count) in
        let t₂ = set t₁ (words_per_triangle * f + triangle_first_entry) (suc count) in
        let long : words_per_triangle * f + triangle_first_entry < length t₁ = rw (length-set t (words_per_triangle * f + triangle_last_entry) (suc count)) (omega (arith, there)) in
        grown t₂ w₁ room (length_stored w count x) (λ k a l m. stored_other w count x k a (λ e. omega (arith, e, l)) (omega (arith, m)))
        (stored_here w count x 0 (omega arith) slot_fits, stored_here w count x 1 (omega arith) slot_fits)
        (subst (λ (is : List ℕ). EntryChain w₁ (first_entry_of t₂ f) (is ++ (count ∷ []))) (sym none)
        (get_or-set_same t₁ (words_per_triangle * f + triangle_first_entry) (suc count) 0 long, stored_here w count x 2 (omega arith) slot_fits))
        (other_field words_per_triangle t₁ f triangle_first_entry triangle_last_entry (suc count) 0 (λ e. omega (arith, e)) ∙ get_or-set_same t (words_per_triangle * f + triangle_last_entry) (suc count) 0 there)
        (λ g ne. (
          other_slot words_per_triangle t₁ f g triangle_first_entry triangle_first_entry (suc count) 0 ne (omega arith) (omega arith) ∙ other_slot words_per_triangle t f g triangle_last_entry triangle_first_entry (suc count) 0 ne (omega arith) (omega arith),
          other_slot words_per_triangle t₁ f g triangle_first_entry triangle_last_entry (suc count) 0 ne (omega arith) (omega arith) ∙ other_slot words_per_triangle t f g triangle_last_entry triangle_last_entry (suc count) 0 ne (omega arith) (omega arith),
        ))
        (λ g ne. all_map {P = λ i. i < count} {Q = λ i. next_entry_of w₁ i ≡ next_entry_of w i} (λ i l. stored_other w count x i 2 (λ e. omega (arith, e, l)) (omega arith)) (numbers_of g xs) (below g))

    -- behind entry k
    module _ (k : ℕ) (z : final_link (numbers_of f xs) ≡ suc k) where
      abbrev w₂ : List ℕ
      w₂ = set w₁ (words_per_entry * k + entry_link) (suc count)

      abbrev t₃ : List ℕ
      t₃ = set t (words_per_triangle * f + triangle_last_entry) (suc count)

      k_below : k < count
      k_below = final_in (λ i. i < count) (numbers_of f xs) k (below f) z

      k_of_f : Numbered 0 f xs k
      k_of_f = final_in (Numbered 0 f xs) (numbers_of f xs) k (each_numbered 0 f xs) z

      next_kept : (i : ℕ) → i < count → i ≢ k → next_entry_of w₂ i ≡ next_entry_of w i
      next_kept i l ne =
          other_slot words_per_entry w₁ k i entry_link entry_link (suc count) 0 (λ e. ne (sym e)) (omega arith) (omega arith) ∙ stored_other w count x i 2 (λ e. omega (arith, e, l)) (omega arith)

      fields_kept : (i a : ℕ) → i < count → a < entry_link → get_or w₂ (words_per_entry * i + a) 0 ≡ get_or w (words_per_entry * i + a) 0
      fields_kept i a l m =
          other_fields words_per_entry w₁ k i entry_link a (suc count) 0 (λ e. omega (arith, e, m)) (omega arith) (omega (arith, m)) ∙ stored_other w count x i a (λ e. omega (arith, e, l)) (omega (arith, m))

      fields_new : (a : ℕ) → a < words_per_entry → get_or w₂ (words_per_entry * count + a) 0 ≡ get_or w₁ (words_per_entry * count + a) 0
      fields_new a l = other_slot words_per_entry w₁ k count entry_link a (suc count) 0 (λ e. omega (arith, e, k_below)) (omega arith) l

      points : next_entry_of w₂ k ≡ suc count
      points = get_or-set_same w₁ (words_per_entry * k + entry_link) (suc count) 0 (omega (arith, k_below, room, length_stored w count x))

      next_held : HoldsEntries (suc count) (linked_in (entry_buffers t w₁) f (suc k) (suc count)).triangles (linked_in (entry_buffers t w₁) f (suc k) (suc count)).words (xs ++ (new ∷ []))
      unfolding linked_in
      next_held =
          grown t₃ w₂ room (length-set w₁ (words_per_entry * k + entry_link) (suc count) ∙ length_stored w count x) fields_kept
          (fields_new 0 (omega arith) ∙ stored_here w count x 0 (omega arith) slot_fits, fields_new 1 (omega arith) ∙ stored_here w count x 1 (omega arith) slot_fits)
          (subst (λ (l : ℕ). EntryChain w₂ l (numbers_of f xs ++ (count ∷ []))) (sym (other_field words_per_triangle t f triangle_last_entry triangle_first_entry (suc count) 0 (λ e. omega (arith, e))))
          (chain_grown w w₂ k count next_kept points (fields_new 2 (omega arith) ∙ stored_here w count x 2 (omega arith) slot_fits) (chain_end w (first_entry_of t f) (numbers_of f xs) k (H.chain f) z)
          (first_entry_of t f) (numbers_of f xs) (below f) z (H.chain f)))
          (get_or-set_same t (words_per_triangle * f + triangle_last_entry) (suc count) 0 there)
          (λ g ne. (
            other_slot words_per_triangle t f g triangle_last_entry triangle_first_entry (suc count) 0 ne (omega arith) (omega arith),
            other_slot words_per_triangle t f g triangle_last_entry triangle_last_entry (suc count) 0 ne (omega arith) (omega arith),
          ))
          (λ g ne. all_both g (faces_apart f g xs k ne k_of_f) (below g)) where
            both : (is : List ℕ) → All (λ i. i ≢ k) is → All (λ i. i < count) is → All (λ i. next_entry_of w₂ i ≡ next_entry_of w i) is
            both [] p q = tt
            both (i ∷ is) p q = (next_kept i q.0 p.0, both is p.1 q.1)

            all_both : (g : ℕ) → All (λ i. i ≢ k) (numbers_of g xs) → All (λ i. i < count) (numbers_of g xs) → All (λ i. next_entry_of w₂ i ≡ next_entry_of w i) (numbers_of g xs)
            all_both g = both (numbers_of g xs)

    linked_held : (last : ℕ) → final_link (numbers_of f xs) ≡ last → HoldsEntries (suc count) (linked_in (entry_buffers t w₁) f last (suc count)).triangles (linked_in (entry_buffers t w₁) f last (suc count)).words (xs ++ (new ∷ []))
    linked_held zero z = first_held z
    linked_held (suc k) z = next_held k z

    -- the last link is not past the count
    last_read : (last : ℕ) → final_link (numbers_of f xs) ≡ last → link_in count (last_entry_of t f) ≡ last
    last_read zero z = link_in_lem count (last_entry_of t f) (omega (arith, H.last f, z)) ∙ H.last f ∙ z
    last_read (suc k) z = link_in_lem count (last_entry_of t f) (omega (arith, H.last f, z, k_below k z)) ∙ H.last f ∙ z

    pub entered_held : HoldsEntries (suc count) (entered_in (entry_buffers t w) count f x).triangles (entered_in (entry_buffers t w) count f x).words (xs ++ (new ∷ []))
    unfolding entered_in
    entered_held =
        subst (λ (last : ℕ). HoldsEntries (suc count) (linked_in (entry_buffers t w₁) f last (suc count)).triangles (linked_in (entry_buffers t w₁) f last (suc count)).words (xs ++ (new ∷ [])))
        (sym (last_read (final_link (numbers_of f xs)) refl)) (linked_held (final_link (numbers_of f xs)) refl)

-- where there is a slot, and the face has its words
module _ (count : ℕ) (t w : List ℕ) (xs : List FaceEntry) (f : ℕ) (x : PiecePart) (free : count < entry_capacity (length w)) (there : words_per_triangle * f + triangle_last_entry < length t) where
  slot_there : words_per_entry * suc count ≤ length w
  slot_there = omega (arith, in_slots (length w) words_per_entry count free)

  pub enter_held : HoldsEntries count t w xs → HoldsEntries (suc count) (entered_in (entry_buffers t w) count f x).triangles (entered_in (entry_buffers t w) count f x).words (xs ++ (record { face = f; entry = x } ∷ []))
  enter_held h = entered_held count t w xs h f x slot_there there

  pub enter_only : (t₀ : List ℕ) → HoldsOnly t₀ count t w xs → HoldsOnly t₀ (suc count) (entered_in (entry_buffers t w) count f x).triangles (entered_in (entry_buffers t w) count f x).words (xs ++ (record { face = f; entry = x } ∷ []))
  enter_only t₀ h =
      let b = entry_buffers t w in
      record {
        holds = enter_held h.holds;
        behind = λ p l. entered_behind b count f x p l ∙ h.behind p (omega (arith, l));
        same_length = entered_triangles b count f x ∙ h.same_length;
        others = λ i ne. entered_others b count f x i ne ∙ h.others i ne;
      }
