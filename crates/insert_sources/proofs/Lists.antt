-- Lists made turn by turn. Assumes nothing.
use Prim.Native.Nat.{ℕ, zero, suc, ◌<◌}
use native.Mathlib.Omega.{arith}
use mathlib.Core.List.{List, [], ◌∷◌, ◌++◌}
use mathlib.Core.Path.{◌≡◌, refl, sym, ap, ◌∙◌}
use lib.ListN.{length, get_or}
use Rattle.nat_laws.specs.Lists.{All, list_of}
use Rattle.nat_laws.proofs.Lists.{length_list_of, get_d_list_of, list_of_same}
use Rattle.insertion.specs.of_source_inserts.declared.Insert.{Insert}
use Rattle.insertion.specs.of_offers.Each.{each_of}

pub each_next : (f : ℕ → List Insert) (k : ℕ) → each_of f (suc k) ≡ each_of f k ++ f k
unfolding each_of
each_next f k = refl

-- of one element a turn
ones_are : (x : ℕ → Insert) (n : ℕ) → each_of (λ (i : ℕ). x i ∷ []) n ≡ list_of n x
unfolding each_of list_of
ones_are x zero = refl
ones_are x (suc n) = ap (λ (l : List Insert). l ++ (x n ∷ [])) (ones_are x n)

-- a list that is made so: its length, its elements, and itself by its elements
module _ (x : ℕ → Insert) (n : ℕ) (l : List Insert) (made : each_of (λ (i : ℕ). x i ∷ []) n ≡ l) (d : Insert) where
  as_list : list_of n x ≡ l
  as_list = sym (ones_are x n) ∙ made

  pub made_length : n ≡ length l
  made_length = sym (length_list_of n x) ∙ ap (λ (z : List Insert). length z) as_list

  pub made_at : (i : ℕ) → i < n → x i ≡ get_or l i d
  made_at i q = sym (get_d_list_of n x i d q) ∙ ap (λ (z : List Insert). get_or z i d) as_list

  pub made_again : each_of (λ (i : ℕ). get_or l i d ∷ []) n ≡ l
  made_again = ones_are (λ (i : ℕ). get_or l i d) n ∙ list_of_same n x (λ (i : ℕ). get_or l i d) (λ i q. sym (made_at i q)) ∙ as_list

pub all_at : (P : Insert → Type 0) (l : List Insert) (d : Insert) (i : ℕ) → All P l → i < length l → P (get_or l i d)
all_at P [] d i a q = absurd (omega (arith, q))
all_at P (x ∷ l) d zero a q = a.0
all_at P (x ∷ l) d (suc i) a q = all_at P l d i a.1 (omega (arith, q))
