-- Rows that are read element by element, and compared. Assumes nothing.
use Prim.Native.Nat.{ℕ, zero, suc, ◌+◌, ◌≤◌, ◌<◌}
use native.Mathlib.Omega.{arith}
use native.Mathlib.Decide.{ℕ_discrete}
use mathlib.Core.Bool.{Bool, true, false}
use mathlib.Core.List.{List, [], ◌∷◌}
use mathlib.Core.Path.{◌≡◌, refl, sym, ap, ◌∙◌}
use borrow.Author.Tests.{eq-eqb, ne_eqb}
use lib.ListN.{length, get_or, set, drop}
use lib.Seq.{get_or-set_same, get_or-set_other, ext_get_or}
use Rattle.nat_laws.specs.Lists.{list_of}
use Rattle.nat_laws.proofs.Lists.{length_list_of, get_d_list_of}
use Rattle.stored_numbers.specs.Numbers.{each_is}

-- ---- the first i elements are those of f
module _ {A : Type 0} (d : A) (f : ℕ → A) where
  abbrev pub Written : ℕ → List A → Type 0
  Written i l = (j : ℕ) → j < i → get_or l j d ≡ f j

  pub written_next : (i : ℕ) (l : List A) (v : A) → i < length l → v ≡ f i → Written i l → Written (i + 1) (set l i v)
  written_next i l v h e w j k = go (ℕ_discrete j i) where
    go : Dec (j ≡ i) → get_or (set l i v) j d ≡ f j
    go (yes q) = ap (λ (n : ℕ). get_or (set l i v) n d) q ∙ get_or-set_same l i v d h ∙ e ∙ ap f (sym q)
    go (no q) = get_or-set_other l i j v d q ∙ w j (omega (arith, k, q))

  pub written_all : (l₀ l : List A) (i : ℕ) → length l ≡ length l₀ → length l ≤ i → Written i l → l ≡ list_of (length l₀) f
  written_all l₀ l i e h w =
      ext_get_or d l (list_of (length l₀) f) (e ∙ sym (length_list_of (length l₀) f))
      (λ j k. w j (omega (arith, h, k)) ∙ sym (get_d_list_of (length l₀) f j d (omega (arith, k, e))))

-- ---- the elements from i on, by a function to numbers
module _ {A : Type 0} (d : A) (g : A → ℕ) (x : ℕ) where
  abbrev pub all_from : ℕ → List A → Bool
  all_from i l = each_is g x (drop i l)

  pub from_same : (i : ℕ) (l : List A) → i < length l → g (get_or l i d) ≡ x → all_from i l ≡ all_from (suc i) l
  unfolding each_is
  from_same i [] h e = absurd (omega (arith, h))
  from_same zero (y ∷ l) h e = rw (eq-eqb (g y) x e)
  from_same (suc i) (y ∷ l) h e = from_same i l (omega (arith, h)) e

  pub from_other : (i : ℕ) (l : List A) → i < length l → (g (get_or l i d) ≡ x → ⊥) → all_from i l ≡ false
  unfolding each_is
  from_other i [] h e = absurd (omega (arith, h))
  from_other zero (y ∷ l) h e = rw (ne_eqb (g y) x e)
  from_other (suc i) (y ∷ l) h e = from_other i l (omega (arith, h)) e

  pub from_past : (i : ℕ) (l : List A) → length l ≤ i → all_from i l ≡ true
  unfolding each_is
  from_past i [] h = nil i where
    nil : (j : ℕ) → each_is g x (drop j []) ≡ true
    nil zero = refl
    nil (suc j) = refl
  from_past zero (y ∷ l) h = absurd (omega (arith, h))
  from_past (suc i) (y ∷ l) h = from_past i l (omega (arith, h))
