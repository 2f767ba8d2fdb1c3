-- What the buffers hold as a function of the entries, where nothing but entries was written on zeros. Assumes nothing.
use Prim.Native.Nat.{ℕ, suc, ◌+◌, ◌*◌, ◌-◌, ◌/◌, ◌%◌, ◌≤◌, ◌<◌}
use native.Mathlib.Omega.{arith}
use native.Mathlib.Decide.{ℕ_discrete}
use native.Mathlib.Nat.{div-add-mod'}
use mathlib.Core.Bool.{Bool, true, false, cond}
use mathlib.Core.List.{List, [], ◌∷◌, ◌++◌, append_assoc, append-nil}
use mathlib.Core.Logic.{◌≢◌}
use mathlib.Core.Path.{◌≡◌, refl, sym, ap, subst, ◌∙◌}
use borrow.Author.Tests.{eq-eqb, ne_eqb}
use lib.Dec.{eqb}
use lib.ListN.{length, get_or, take, drop, replicate, take-append-drop, length-drop, length-replicate}
use lib.Seq.{take-add, drop-drop, get_or-drop, ext_get_or}
use Rattle.nat_laws.specs.Lists.{All, list_of}
use Rattle.nat_laws.proofs.Lists.{length_list_of, get_d_list_of}
use Rattle.buffers.specs.Slots.{slot}
use Rattle.buffers.proofs.Strides.{slot_at, length_slot}
use Rattle.buffers.proofs.Zeroing.{zero_at}
use Rattle.chains.specs.Chains.{first_link}
use Rattle.face_entries.specs.declared.Part.TheVariants.{EndA, EndB, Whole}
use Rattle.layout.specs.Layout.{words_per_triangle, triangle_first_entry, triangle_last_entry, words_per_entry}
use Rattle.face_entries.specs.Buffers.{EntryBuffers, entry_buffers, entry_capacity, first_entry_of, last_entry_of, part_number, next_entry_of, entered_in}
use Rattle.face_entries.specs.Entries.{FaceEntry, face_entry, entry_numbers_from, numbers_of, final_link, EntryChain, StoredFrom, HoldsEntries, HoldsOnly, entry_words_from, entry_words, word_with, triangles_with}
use Rattle.face_entries.proofs.Linking.{chain_first}
use Rattle.face_entries.proofs.Keeping.{none_only, enter_only, entered_words}

three : (l : List ℕ) → length l ≡ 3 → l ≡ get_or l 0 0 ∷ get_or l 1 0 ∷ get_or l 2 0 ∷ []
three [] h = absurd (omega arith)
three (a ∷ []) h = absurd (omega arith)
three (a ∷ b ∷ []) h = absurd (omega arith)
three (a ∷ b ∷ c ∷ []) h = refl
three (a ∷ b ∷ c ∷ d ∷ l) h = absurd (omega arith)

slot_is : (w : List ℕ) (i : ℕ) → take 3 (drop (3 * i) w) ≡ slot 3 w i
unfolding slot
slot_is w i = refl

-- ---- the link of an entry is that of the next one of its face
own_link : (w : List ℕ) (i : ℕ) (x : FaceEntry) (xs : List FaceEntry) → EntryChain w (first_link (entry_numbers_from i x.face (x ∷ xs))) (entry_numbers_from i x.face (x ∷ xs)) → next_entry_of w i ≡ first_link (entry_numbers_from (suc i) x.face xs)
unfolding entry_numbers_from EntryChain
own_link w i x xs p = go (eqb x.face x.face) (eq-eqb x.face x.face refl) p where
  go : (b : Bool) → b ≡ true → EntryChain w (first_link (cond b (i ∷ entry_numbers_from (suc i) x.face xs) (entry_numbers_from (suc i) x.face xs))) (cond b (i ∷ entry_numbers_from (suc i) x.face xs) (entry_numbers_from (suc i) x.face xs))
      → next_entry_of w i ≡ first_link (entry_numbers_from (suc i) x.face xs)
  go true e q = chain_first w (next_entry_of w i) (entry_numbers_from (suc i) x.face xs) q.1
  go false e q = let z : ◌≡◌ {A = ℕ} 0 1 = cc in absurd (omega (arith, z))

tail_chain : (w : List ℕ) (b : Bool) (i : ℕ) (is : List ℕ) → EntryChain w (first_link (cond b (i ∷ is) is)) (cond b (i ∷ is) is) → EntryChain w (first_link is) is
unfolding EntryChain
tail_chain w true i is p = subst (λ (l : ℕ). EntryChain w l is) (chain_first w (next_entry_of w i) is p.1) p.1
tail_chain w false i is p = p

rest_chain : (w : List ℕ) (i g : ℕ) (x : FaceEntry) (xs : List FaceEntry) → EntryChain w (first_link (entry_numbers_from i g (x ∷ xs))) (entry_numbers_from i g (x ∷ xs)) → EntryChain w (first_link (entry_numbers_from (suc i) g xs)) (entry_numbers_from (suc i) g xs)
unfolding entry_numbers_from
rest_chain w i g x xs p = tail_chain w (eqb x.face g) i (entry_numbers_from (suc i) g xs) p

-- ---- the words of all entries
words_from_lem : (w : List ℕ) (i : ℕ) (xs : List FaceEntry) → words_per_entry * (i + length xs) ≤ length w → StoredFrom w i xs → ((g : ℕ) → EntryChain w (first_link (entry_numbers_from i g xs)) (entry_numbers_from i g xs))
    → take (words_per_entry * length xs) (drop (words_per_entry * i) w) ≡ entry_words_from i xs
unfolding entry_words_from StoredFrom
words_from_lem w i [] h s c = refl
words_from_lem w i (x ∷ xs) h s c =
    let e : 3 * suc (length xs) ≡ 3 + 3 * length xs = omega arith in
    let d : 3 * i + 3 ≡ 3 * suc i = omega arith in
    let fits : 3 * i + 3 ≤ length w = omega (arith, h) in
    let at : (a : ℕ) → a < 3 → get_or (slot 3 w i) a 0 ≡ get_or w (3 * i + a) 0 = λ a l. slot_at 3 w i a 0 l in
    let link : next_entry_of w i ≡ first_link (entry_numbers_from (suc i) x.face xs) = own_link w i x xs (c x.face) in
    let here : take 3 (drop (3 * i) w) ≡ x.entry.piece ∷ part_number x.entry.part ∷ first_link (entry_numbers_from (suc i) x.face xs) ∷ [] =
    slot_is w i
    ∙ three (slot 3 w i) (length_slot 3 w i fits)
    ∙ (λ t. (at 0 (omega arith) ∙ s.0.0) t ∷ (at 1 (omega arith) ∙ s.0.1) t ∷ (at 2 (omega arith) ∙ link) t ∷ []) in
    let rest : take (3 * length xs) (drop 3 (drop (3 * i) w)) ≡ entry_words_from (suc i) xs =
    ap (λ (l : List ℕ). take (3 * length xs) l) (drop-drop 3 (3 * i) w ∙ ap (λ (n : ℕ). drop n w) d) ∙ words_from_lem w (suc i) xs (omega (arith, h)) s.1 (λ g. rest_chain w i g x xs (c g)) in
    ap (λ (n : ℕ). take n (drop (3 * i) w)) e
    ∙ take-add 3 (3 * length xs) (drop (3 * i) w)
    ∙ (λ t. here t ++ rest t)

zeros : (n : ℕ) (w : List ℕ) → ((p : ℕ) → n ≤ p → get_or w p 0 ≡ 0) → drop n w ≡ replicate (length w - n) 0
zeros n w h =
    ext_get_or 0 (drop n w) (replicate (length w - n) 0) (length-drop n w ∙ sym (length-replicate (length w - n) 0))
    (λ i l. get_or-drop n w i 0 ∙ h (n + i) (omega arith) ∙ sym (zero_at 0 (length w - n) i))

module _ (count : ℕ) (t w : List ℕ) (xs : List FaceEntry) (H : HoldsEntries count t w xs) where
  starts : (g : ℕ) → EntryChain w (first_link (numbers_of g xs)) (numbers_of g xs)
  starts g = subst (λ (l : ℕ). EntryChain w l (numbers_of g xs)) (chain_first w (first_entry_of t g) (numbers_of g xs) (H.chain g)) (H.chain g)

  pub entry_words_are : ((p : ℕ) → words_per_entry * count ≤ p → get_or w p 0 ≡ 0) → w ≡ entry_words (length w) xs
  entry_words_are z =
      let n = words_per_entry * length xs in
      let few : words_per_entry * length xs ≤ length w = omega (arith, H.counted, H.fits) in
      sym (take-append-drop n w)
      ∙ (λ s. words_from_lem w 0 xs (omega (arith, few)) H.stored starts s ++ zeros n w (λ p l. z p (omega (arith, l, H.counted))) s)

  module _ (t₀ : List ℕ) (same : length t ≡ length t₀)
      (others : (i : ℕ) → ((f : ℕ) → (i ≢ words_per_triangle * f + triangle_first_entry) × (i ≢ words_per_triangle * f + triangle_last_entry)) → get_or t i 0 ≡ get_or t₀ i 0) where
    word_at : (p : ℕ) → get_or t p 0 ≡ word_with t₀ xs p
    unfolding word_with
    word_at p = go (ℕ_discrete (p % 6) 3) (ℕ_discrete (p % 6) 4) where
      is : p / 6 * 6 + p % 6 ≡ p
      is = div-add-mod' p 6

      go : Dec (p % 6 ≡ 3) → Dec (p % 6 ≡ 4) → get_or t p 0 ≡ cond (eqb (p % 6) 3) (first_link (numbers_of (p / 6) xs)) (cond (eqb (p % 6) 4) (final_link (numbers_of (p / 6) xs)) (get_or t₀ p 0))
      go (yes d) k =
          rw (eq-eqb (p % 6) 3 d)
          (subst (λ (q : ℕ). get_or t q 0 ≡ first_link (numbers_of (p / 6) xs)) (omega (arith, is, d)) (chain_first w (first_entry_of t (p / 6)) (numbers_of (p / 6) xs) (H.chain (p / 6))))
      go (no d) (yes k) =
          rw (ne_eqb (p % 6) 3 d, eq-eqb (p % 6) 4 k) (subst (λ (q : ℕ). get_or t q 0 ≡ final_link (numbers_of (p / 6) xs)) (omega (arith, is, k)) (H.last (p / 6)))
      go (no d) (no k) = rw (ne_eqb (p % 6) 3 d, ne_eqb (p % 6) 4 k) (others p (λ f. (λ z. omega (arith, is, d, z), λ z. omega (arith, is, k, z))))

    pub triangles_are : t ≡ triangles_with t₀ xs
    triangles_are =
        ext_get_or 0 t (triangles_with t₀ xs) (same ∙ sym (length_list_of (length t₀) (word_with t₀ xs)))
        (λ p l. word_at p ∙ sym (get_d_list_of (length t₀) (word_with t₀ xs) p 0 (subst (λ (j : ℕ). p < j) same l)))

-- from zeros the entries determine both lists
pub only_these : (t₀ : List ℕ) (count : ℕ) (t w : List ℕ) (xs : List FaceEntry) → HoldsOnly t₀ count t w xs → (count ≡ length xs) × ((t ≡ triangles_with t₀ xs) × (w ≡ entry_words (length w) xs))
only_these t₀ count t w xs h =
    (sym h.holds.counted, (triangles_are count t w xs h.holds t₀ h.same_length h.others, entry_words_are count t w xs h.holds h.behind))

-- ---- any list of entries for which there is room comes about
unfoldable pub all_entered : EntryBuffers → ℕ → List FaceEntry → EntryBuffers
all_entered b count [] = b
all_entered b count (x ∷ xs) = all_entered (entered_in b count x.face x.entry) (suc count) xs

-- its face has its first and last entry in the triangles' words
abbrev pub FaceThere : List ℕ → FaceEntry → Type 0
FaceThere t x = words_per_triangle * x.face + triangle_last_entry < length t

pub all_only : (t₀ : List ℕ) (b : EntryBuffers) (count : ℕ) (es xs : List FaceEntry) → HoldsOnly t₀ count b.triangles b.words es → count + length xs ≤ entry_capacity (length b.words) → All (FaceThere t₀) xs
    → HoldsOnly t₀ (count + length xs) (all_entered b count xs).triangles (all_entered b count xs).words (es ++ xs)
unfolding all_entered
all_only t₀ b count es [] h room i =
    let e : count ≡ count + 0 = omega arith in
    subst (λ (n : ℕ). HoldsOnly t₀ n b.triangles b.words (es ++ [])) e (subst (HoldsOnly t₀ count b.triangles b.words) (sym (append-nil es)) h)
all_only t₀ b count es (x ∷ xs) h room i =
    let b' = entered_in b count x.face x.entry in
    let e : suc count + length xs ≡ count + suc (length xs) = omega arith in
    let free : count < entry_capacity (length b.words) = omega (arith, room) in
    let there : words_per_triangle * x.face + triangle_last_entry < length b.triangles = omega (arith, i.0, h.same_length) in
    let more : suc count + length xs ≤ entry_capacity (length b'.words) = rw (entered_words b count x.face x.entry) (omega (arith, room)) in
    let r = all_only t₀ b' (suc count) (es ++ (x ∷ [])) xs (enter_only count b.triangles b.words es x.face x.entry free there t₀ h) more i.1 in
    subst (λ (n : ℕ). HoldsOnly t₀ n (all_entered b' (suc count) xs).triangles (all_entered b' (suc count) xs).words (es ++ (x ∷ xs))) e
    (subst (HoldsOnly t₀ (suc count + length xs) (all_entered b' (suc count) xs).triangles (all_entered b' (suc count) xs).words) (append_assoc es (x ∷ []) xs) r)

module _ (t₀ : List ℕ) (n : ℕ) (fresh : (f : ℕ) → (first_entry_of t₀ f ≡ 0) × (last_entry_of t₀ f ≡ 0)) (xs : List FaceEntry) (room : length xs ≤ entry_capacity n) (inside : All (FaceThere t₀) xs) where
  abbrev run : EntryBuffers
  run = all_entered (entry_buffers t₀ (replicate n 0)) 0 xs

  run_only : HoldsOnly t₀ (length xs) run.triangles run.words xs
  run_only =
      let e : 0 + length xs ≡ length xs = omega arith in
      subst (λ (k : ℕ). HoldsOnly t₀ k run.triangles run.words xs) e
      (all_only t₀ (entry_buffers t₀ (replicate n 0)) 0 [] xs (none_only t₀ (replicate n 0) fresh (zero_at 0 n)) (rw (length-replicate {A = ℕ} n 0) (omega (arith, room))) inside)

  length_run : (b : EntryBuffers) (count : ℕ) (ys : List FaceEntry) → length (all_entered b count ys).words ≡ length b.words
  unfolding all_entered
  length_run b count [] = refl
  length_run b count (y ∷ ys) = length_run (entered_in b count y.face y.entry) (suc count) ys ∙ entered_words b count y.face y.entry

  -- the two lists of the content hold the entries
  pub content_only : HoldsOnly t₀ (length xs) (triangles_with t₀ xs) (entry_words n xs) xs
  content_only =
      let c = only_these t₀ (length xs) run.triangles run.words xs run_only in
      let l : length run.words ≡ n = length_run (entry_buffers t₀ (replicate n 0)) 0 xs ∙ length-replicate n 0 in
      let w : run.words ≡ entry_words n xs = c.1.1 ∙ ap (λ (k : ℕ). entry_words k xs) l in
      subst (λ (v : List ℕ). HoldsOnly t₀ (length xs) (triangles_with t₀ xs) v xs) w (subst (λ (v : List ℕ). HoldsOnly t₀ (length xs) v run.words xs) c.1.0 run_only)

-- ---- three pushes, to faces 0, 1 and 0, in buffers of two triangles and four slots
example : List FaceEntry
example = face_entry 0 7 EndA ∷ face_entry 1 8 EndB ∷ face_entry 0 9 Whole ∷ []

example_words : entry_words 12 example ≡ 7 ∷ 0 ∷ 3 ∷ 8 ∷ 1 ∷ 0 ∷ 9 ∷ 2 ∷ 0 ∷ 0 ∷ 0 ∷ 0 ∷ []
unfolding example entry_words_from entry_numbers_from first_link
example_words = refl

example_triangles : triangles_with (4 ∷ 5 ∷ 6 ∷ 0 ∷ 0 ∷ 0 ∷ 4 ∷ 5 ∷ 6 ∷ 0 ∷ 0 ∷ 0 ∷ []) example ≡ 4 ∷ 5 ∷ 6 ∷ 1 ∷ 3 ∷ 0 ∷ 4 ∷ 5 ∷ 6 ∷ 2 ∷ 2 ∷ 0 ∷ []
unfolding example list_of word_with entry_numbers_from first_link final_link
example_triangles = refl
