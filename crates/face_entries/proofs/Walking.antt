-- A walk from a face's first entry along the links reads its entries, in the order of the pushes. Assumes nothing.
use Prim.Native.Nat.{ℕ, zero, suc, ◌≤◌}
use native.Mathlib.Omega.{arith}
use mathlib.Core.Bool.{Bool, true, false, cond}
use mathlib.Core.List.{List, [], ◌∷◌}
use mathlib.Core.Path.{◌≡◌, refl, ap, ◌∙◌}
use lib.Dec.{eqb}
use lib.ListN.{length}
use Rattle.face_entries.specs.declared.Part.{Part}
use Rattle.face_entries.specs.declared.Part.TheVariants.{EndA, EndB, Whole}
use Rattle.face_entries.specs.declared.PiecePart.{PiecePart}
use Rattle.face_entries.specs.Buffers.{part_number, part_of_number, first_entry_of, part_at, next_entry_of}
use Rattle.face_entries.specs.Entries.{FaceEntry, entries_of, entry_numbers_from, numbers_of, EntryChain, HasEntry, StoredFrom, HoldsEntries, entries_from_link}
use Rattle.face_entries.proofs.Numbers.{numbers_few}

pub part_read : (p : Part) → part_of_number (part_number p) ≡ p
unfolding part_of_number
part_read EndA = refl
part_read EndB = refl
part_read Whole = refl

pub entry_read : (w : List ℕ) (i : ℕ) (x : PiecePart) → HasEntry w i x → part_at w i ≡ x
unfolding part_at
entry_read w i x h = λ t. record { piece = h.0 t; part = (ap part_of_number h.1 ∙ part_read x.part) t }

abbrev parts_at : List ℕ → List ℕ → List PiecePart
parts_at w [] = []
parts_at w (i ∷ is) = part_at w i ∷ parts_at w is

walk_chain : (n : ℕ) (w : List ℕ) (l : ℕ) (is : List ℕ) → length is ≤ n → EntryChain w l is → entries_from_link n w l ≡ parts_at w is
unfolding entries_from_link EntryChain
walk_chain zero w l [] h p = refl
walk_chain zero w l (i ∷ is) h p = absurd (omega arith)
walk_chain (suc n) w l [] h p = ap (entries_from_link (suc n) w) p
walk_chain (suc n) w l (i ∷ is) h p = ap (entries_from_link (suc n) w) p.0 ∙ ap (λ (r : List PiecePart). part_at w i ∷ r) (walk_chain n w (next_entry_of w i) is (omega arith) p.1)

parts_are : (w : List ℕ) (i f : ℕ) (xs : List FaceEntry) → StoredFrom w i xs → parts_at w (entry_numbers_from i f xs) ≡ entries_of f xs
unfolding entry_numbers_from entries_of StoredFrom
parts_are w i f [] s = refl
parts_are w i f (x ∷ xs) s = go (eqb x.face f) (parts_are w (suc i) f xs s.1) where
  go : (b : Bool) → parts_at w (entry_numbers_from (suc i) f xs) ≡ entries_of f xs → parts_at w (cond b (i ∷ entry_numbers_from (suc i) f xs) (entry_numbers_from (suc i) f xs)) ≡ cond b (x.entry ∷ entries_of f xs) (entries_of f xs)
  go true e = λ t. entry_read w i x.entry s.0 t ∷ e t
  go false e = e

module _ (count : ℕ) (t w : List ℕ) (xs : List FaceEntry) (H : HoldsEntries count t w xs) where
  -- as many steps as there are entries are enough
  pub walk_entries : (n f : ℕ) → count ≤ n → entries_from_link n w (first_entry_of t f) ≡ entries_of f xs
  walk_entries n f h = walk_chain n w (first_entry_of t f) (numbers_of f xs) (omega (arith, h, numbers_few 0 f xs, H.counted)) (H.chain f) ∙ parts_are w 0 f xs H.stored
