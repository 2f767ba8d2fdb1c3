-- A row written element by element. Assumes nothing.
--     row_start, row_next, row_length, row_count; row_at (an element written), row_behind (one that is not)
use Prim.Native.Nat.{ℕ, zero, suc, ◌+◌, ◌*◌, ◌≤◌, ◌<◌}
use native.Mathlib.Decide.{ℕ_discrete}
use native.Mathlib.Omega.{arith}
use native.Mathlib.Numerals.{add-one}
use mathlib.Core.List.{List}
use mathlib.Core.Path.{◌≡◌, refl, sym, ap, ◌∙◌, subst}
use lib.ListN.{length, get_or, set, length-set}
use lib.Seq.{get_or-set_same, get_or-set_other}
use Rattle.open_rows.specs.Written.{written_row}

-- element k as a slot of one element
pub one_slot : (k : ℕ) → 1 * k + 0 ≡ k
one_slot k = omega arith

module _ {A : Type 0} (g : ℕ → A) (l : List A) where
  pub row_start : l ≡ written_row g 0 l
  unfolding written_row
  row_start = refl

  pub row_next : (k : ℕ) (l₁ l₂ : List A) (v : A) → l₁ ≡ written_row g k l → l₂ ≡ set l₁ (1 * k + 0) v → v ≡ g k → l₂ ≡ written_row g (k + 1) l
  unfolding written_row
  row_next k l₁ l₂ v h w e = w ∙ rw (add-one k) (λ i. set (h i) (one_slot k i) (e i))

  pub row_length : (k : ℕ) → length (written_row g k l) ≡ length l
  unfolding written_row
  row_length zero = refl
  row_length (suc k) = length-set (written_row g k l) k (g k) ∙ row_length k

  pub row_count : (l' : List A) (c d : ℕ) → l' ≡ written_row g c l → c ≡ d → l' ≡ written_row g d l
  row_count l' c d h e = h ∙ ap (λ (k : ℕ). written_row g k l) e

  pub row_behind : (n k : ℕ) (x : A) → n ≤ k → get_or (written_row g n l) k x ≡ get_or l k x
  unfolding written_row
  row_behind zero k x h = refl
  row_behind (suc n) k x h = get_or-set_other (written_row g n l) n k (g n) x (λ e. omega (arith, h, e)) ∙ row_behind n k x (omega (arith, h))

  pub row_at : (n k : ℕ) (x : A) → k < n → n ≤ length l → get_or (written_row g n l) k x ≡ g k
  unfolding written_row
  row_at zero k x h m = absurd (omega (arith, h))
  row_at (suc n) k x h m = elim (ℕ_discrete k n) [
    | yes e ↦ subst (λ (i : ℕ). get_or (written_row g (suc n) l) i x ≡ g i) (sym e) (get_or-set_same (written_row g n l) n (g n) x (omega (arith, row_length n, m)))
    | no e ↦ get_or-set_other (written_row g n l) n k (g n) x e ∙ row_at n k x (omega (arith, h, e)) (omega (arith, m))
  ]
