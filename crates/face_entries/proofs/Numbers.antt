-- The numbers of a face's entries, and the link of the last of a list. Assumes nothing.
use Prim.Native.Nat.{ℕ, suc, ◌+◌, ◌≤◌, ◌<◌}
use native.Mathlib.Omega.{arith}
use mathlib.Core.Bool.{Bool, true, false, cond}
use mathlib.Core.List.{List, [], ◌∷◌, ◌++◌}
use mathlib.Core.Logic.{◌≢◌}
use mathlib.Core.Path.{◌≡◌, refl, sym, ap, subst, ◌∙◌}
use borrow.Author.Tests.{eq-eqb, ne_eqb, eqb-true}
use lib.Dec.{eqb}
use lib.ListN.{length}
use Rattle.nat_laws.specs.Lists.{All}
use Rattle.nat_laws.proofs.Lists.{all_map}
use Rattle.face_entries.specs.Entries.{FaceEntry, entry_numbers_from, numbers_of, final_link}

-- ---- one push more
cond_cons : {A : Type 0} (b : Bool) (i : A) (l m k : List A) → l ≡ m ++ k → cond b (i ∷ l) l ≡ cond b (i ∷ m) m ++ k
cond_cons true i l m k e = λ t. i ∷ e t
cond_cons false i l m k e = e

pub numbers_snoc : (i f : ℕ) (xs : List FaceEntry) (x : FaceEntry) → entry_numbers_from i f (xs ++ (x ∷ [])) ≡ entry_numbers_from i f xs ++ cond (eqb x.face f) ((i + length xs) ∷ []) []
unfolding entry_numbers_from
numbers_snoc i f [] x = let e : i ≡ i + 0 = omega arith in ap (λ (j : ℕ). cond (eqb x.face f) (j ∷ []) []) e
numbers_snoc i f (y ∷ xs) x =
    let e : suc i + length xs ≡ i + suc (length xs) = omega arith in
    cond_cons (eqb y.face f) i (entry_numbers_from (suc i) f (xs ++ (x ∷ []))) (entry_numbers_from (suc i) f xs) (cond (eqb x.face f) ((i + suc (length xs)) ∷ []) [])
    (numbers_snoc (suc i) f xs x ∙ ap (λ (j : ℕ). entry_numbers_from (suc i) f xs ++ cond (eqb x.face f) (j ∷ []) []) e)

-- ---- each number is that of one entry, of one face
unfoldable pub face_from : ℕ → List FaceEntry → ℕ → ℕ
face_from i [] k = 0
face_from i (x ∷ xs) k = cond (eqb i k) x.face (face_from (suc i) xs k)

pub record Numbered (i f : ℕ) (xs : List FaceEntry) (k : ℕ) : Type 0 where
  pub low : i ≤ k
  pub high : k < i + length xs
  pub face : face_from i xs k ≡ f

later : (i f : ℕ) (x : FaceEntry) (xs : List FaceEntry) (k : ℕ) → Numbered (suc i) f xs k → Numbered i f (x ∷ xs) k
unfolding face_from
later i f x xs k h = record { low = omega (arith, h.low); high = omega (arith, h.high); face = rw (ne_eqb i k (λ e. omega (arith, e, h.low))) h.face }

here : (i : ℕ) (x : FaceEntry) (xs : List FaceEntry) → Numbered i x.face (x ∷ xs) i
unfolding face_from
here i x xs = record { low = omega arith; high = omega arith; face = rw (eq-eqb i i refl) refl }

pub each_numbered : (i f : ℕ) (xs : List FaceEntry) → All (Numbered i f xs) (entry_numbers_from i f xs)
unfolding entry_numbers_from
each_numbered i f [] = tt
each_numbered i f (x ∷ xs) = go (eqb x.face f) refl (all_map {P = Numbered (suc i) f xs} {Q = Numbered i f (x ∷ xs)} (later i f x xs) (entry_numbers_from (suc i) f xs) (each_numbered (suc i) f xs)) where
  go : (b : Bool) → eqb x.face f ≡ b → All (Numbered i f (x ∷ xs)) (entry_numbers_from (suc i) f xs) → All (Numbered i f (x ∷ xs)) (cond b (i ∷ entry_numbers_from (suc i) f xs) (entry_numbers_from (suc i) f xs))
  go true e r = (subst (λ (g : ℕ). Numbered i g (x ∷ xs) i) (eqb-true x.face f e) (here i x xs), r)
  go false e r = r

pub numbers_below : (f : ℕ) (xs : List FaceEntry) → All (λ k. k < length xs) (numbers_of f xs)
numbers_below f xs = all_map {P = Numbered 0 f xs} {Q = λ k. k < length xs} (λ k h. omega (arith, h.high)) (numbers_of f xs) (each_numbered 0 f xs)

-- numbers of one face are none of another's
pub faces_apart : (f g : ℕ) (xs : List FaceEntry) (k : ℕ) → f ≢ g → Numbered 0 f xs k → All (λ i. i ≢ k) (numbers_of g xs)
faces_apart f g xs k ne h =
    all_map {P = Numbered 0 g xs} {Q = λ i. i ≢ k} (λ i n e. ne (sym h.face ∙ ap (face_from 0 xs) (sym e) ∙ n.face)) (numbers_of g xs) (each_numbered 0 g xs)

pub numbers_few : (i f : ℕ) (xs : List FaceEntry) → length (entry_numbers_from i f xs) ≤ length xs
unfolding entry_numbers_from
numbers_few i f [] = omega arith
numbers_few i f (x ∷ xs) = go (eqb x.face f) (numbers_few (suc i) f xs) where
  go : (b : Bool) → length (entry_numbers_from (suc i) f xs) ≤ length xs → length (cond b (i ∷ entry_numbers_from (suc i) f xs) (entry_numbers_from (suc i) f xs)) ≤ suc (length xs)
  go true h = omega (arith, h)
  go false h = omega (arith, h)

-- ---- the link of the last
pub final_in : (P : ℕ → Type 0) (is : List ℕ) (k : ℕ) → All P is → final_link is ≡ suc k → P k
unfolding final_link
final_in P [] k h e = absurd (omega (arith, e))
final_in P (i ∷ []) k h e = let z : i ≡ k = omega (arith, e) in subst P z h.0
final_in P (i ∷ j ∷ is) k h e = final_in P (j ∷ is) k h.1 e

pub final_snoc : (is : List ℕ) (j : ℕ) → final_link (is ++ (j ∷ [])) ≡ suc j
unfolding final_link
final_snoc [] j = refl
final_snoc (i ∷ []) j = refl
final_snoc (i ∷ h ∷ is) j = final_snoc (h ∷ is) j

final_some : (i : ℕ) (is : List ℕ) → 0 < final_link (i ∷ is)
unfolding final_link
final_some i [] = omega arith
final_some i (j ∷ is) = final_some j is

pub final_none : (is : List ℕ) → final_link is ≡ 0 → is ≡ []
final_none [] e = refl
final_none (i ∷ is) e = absurd (omega (arith, e, final_some i is))
