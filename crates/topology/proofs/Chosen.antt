-- The faces of some of the sides of a mesh, in rising order: one law for the faces of an edge and for those round a vertex. Assumes nothing.
use Prim.Native.Nat.{ℕ, zero, suc, ◌/◌, ◌<◌}
use mathlib.Core.Path.{◌≡◌, refl, sym, subst, ◌∙◌}
use mathlib.Core.Bool.{Bool, true, cond}
use mathlib.Core.List.{List, [], ◌∷◌, ◌++◌}
use mathlib.Core.Logic.{⊎_elim}
use native.Mathlib.Nat.{le_of_suc-le-suc, not-suc-le-zero, eq-or-lt_of_le}
use native.Mathlib.Omega.{arith}
use lib.ListN.{length, get_or, length-append, get_or-append}
use lib.Seq.{get_or-append_seam}
use Rattle.topology.specs.Edges.{no_face}
use Rattle.topology.proofs.Find.{either}

-- Number f stands in a list.
abbrev pub Listed : ℕ → List ℕ → Type 0
Listed f fs = (i : ℕ) × ((i < length fs) × (get_or fs i no_face ≡ f))

pub listed_append : (f x : ℕ) (fs : List ℕ) → Listed f fs → Listed f (fs ++ (x ∷ []))
listed_append f x fs r = (r.0, (omega (arith, length-append fs (x ∷ []), r.1.0), get_or-append fs (x ∷ []) no_face r.0 r.1.0 ∙ r.1.1))

pub listed_last : (f : ℕ) (fs : List ℕ) → Listed f (fs ++ (f ∷ []))
listed_last f fs = (length fs, (omega (arith, length-append fs (f ∷ [])), get_or-append_seam fs f [] no_face))

-- what holds of each number of a list and of one more
each_append : (P : ℕ → Type 0) (fs : List ℕ) (x : ℕ) → ((i : ℕ) → i < length fs → P (get_or fs i no_face)) → P x → (i : ℕ) → i < length (fs ++ (x ∷ [])) → P (get_or (fs ++ (x ∷ [])) i no_face)
each_append P fs x each last i l =
    let l' : i < suc (length fs) = omega (arith, length-append fs (x ∷ []), l) in
    ⊎_elim (λ q. subst (λ (k : ℕ). P (get_or (fs ++ (x ∷ [])) k no_face)) (sym q) (subst P (sym (get_or-append_seam fs x [] no_face)) last))
    (λ m. subst P (sym (get_or-append fs (x ∷ []) no_face i m)) (each i m))
    (eq-or-lt_of_le (le_of_suc-le-suc l'))

-- the same of each two of them
pairs_append : (R : ℕ → ℕ → Type 0) (fs : List ℕ) (x : ℕ) → ((i j : ℕ) → i < j → j < length fs → R (get_or fs i no_face) (get_or fs j no_face)) → ((i : ℕ) → i < length fs → R (get_or fs i no_face) x)
    → (i j : ℕ) → i < j → j < length (fs ++ (x ∷ [])) → R (get_or (fs ++ (x ∷ [])) i no_face) (get_or (fs ++ (x ∷ [])) j no_face)
pairs_append R fs x pairs last i j l m =
    let m' : j < suc (length fs) = omega (arith, length-append fs (x ∷ []), m) in
    let k : i < length fs = omega arith in
    subst (λ (y : ℕ). R y (get_or (fs ++ (x ∷ [])) j no_face)) (sym (get_or-append fs (x ∷ []) no_face i k))
    (⊎_elim (λ q. subst (λ (n : ℕ). R (get_or fs i no_face) (get_or (fs ++ (x ∷ [])) n no_face)) (sym q) (subst (R (get_or fs i no_face)) (sym (get_or-append_seam fs x [] no_face)) (last i k)))
    (λ n. subst (R (get_or fs i no_face)) (sym (get_or-append fs (x ∷ []) no_face j n)) (pairs i j l n))
    (eq-or-lt_of_le (le_of_suc-le-suc m')))

-- the faces of the chosen sides among the first n
unfoldable pub chosen : (ℕ → Bool) → ℕ → List ℕ
chosen p zero = []
chosen p (suc n) = cond (p n) (chosen p n ++ (n / 3 ∷ [])) (chosen p n)

module _ (p : ℕ → Bool) where
  -- the face of each chosen side is listed
  pub chosen_listed : (n h : ℕ) → h < n → p h ≡ true → Listed (h / 3) (chosen p n)
  unfolding chosen
  chosen_listed zero h l q = absurd (not-suc-le-zero l)
  chosen_listed (suc n) h l q =
      ⊎_elim (λ r. rw (subst (λ (k : ℕ). p k ≡ true) r q) (subst (λ (k : ℕ). Listed (k / 3) (chosen p n ++ (n / 3 ∷ []))) (sym r) (listed_last (n / 3) (chosen p n))))
      (λ l'. ⊎_elim (λ s. rw s (listed_append (h / 3) (n / 3) (chosen p n) (chosen_listed n h l' q))) (λ s. rw s (chosen_listed n h l' q)) (either (p n)))
      (eq-or-lt_of_le (le_of_suc-le-suc l))

  -- and no other
  abbrev pub OfChosen : ℕ → ℕ → Type 0
  OfChosen n f = (h : ℕ) × ((h < n) × ((p h ≡ true) × (f ≡ h / 3)))

  wider : (n f : ℕ) → OfChosen n f → OfChosen (suc n) f
  wider n f r = (r.0, (omega (arith, r.1.0), r.1.1))

  pub listed_chosen : (n i : ℕ) → i < length (chosen p n) → OfChosen n (get_or (chosen p n) i no_face)
  unfolding chosen
  listed_chosen zero i l = absurd (not-suc-le-zero l)
  listed_chosen (suc n) i l =
      ⊎_elim (λ s. rw s (each_append (OfChosen (suc n)) (chosen p n) (n / 3) (λ k m. wider n (get_or (chosen p n) k no_face) (listed_chosen n k m)) (n, (omega arith, (s, refl))) i (rw s at l)))
      (λ s. rw s (wider n (get_or (chosen p n) i no_face) (listed_chosen n i (rw s at l))))
      (either (p n))

  -- what holds of the faces of each two chosen sides holds of each two in the list
  pub chosen_pairs : (R : ℕ → ℕ → Type 0) (n : ℕ) → ((h k : ℕ) → h < k → k < n → p h ≡ true → p k ≡ true → R (h / 3) (k / 3)) → (i j : ℕ) → i < j → j < length (chosen p n) → R (get_or (chosen p n) i no_face) (get_or (chosen p n) j no_face)
  unfolding chosen
  chosen_pairs R zero all i j l m = absurd (not-suc-le-zero m)
  chosen_pairs R (suc n) all i j l m =
      ⊎_elim (λ s. rw s (pairs_append R (chosen p n) (n / 3) (chosen_pairs R n (λ h k a b. all h k a (omega arith)))
      (λ k b. let r : OfChosen n (get_or (chosen p n) k no_face) = listed_chosen n k b in subst (λ (y : ℕ). R y (n / 3)) (sym r.1.1.1) (all r.0 n r.1.0 (omega arith) r.1.1.0 s)) i j l (rw s at m)))
      (λ s. rw s (chosen_pairs R n (λ h k a b. all h k a (omega arith)) i j l (rw s at m)))
      (either (p n))
