-- Laws of a loop's list: each_same, each_all; each_more (n turns more), by_blocks (two loops, one within the other, as one). Assumes nothing.
use Prim.Native.Nat.{ℕ, zero, suc, ◌+◌, ◌*◌, ◌<◌}
use native.Mathlib.Nat.{mul-zero, mul-suc}
use native.Mathlib.Omega.{arith}
use mathlib.Core.List.{List, ◌++◌, append-nil, append_assoc}
use mathlib.Core.Path.{◌≡◌, refl, sym, ap, ◌∙◌}
use Rattle.trim.specs.of_better.Claim.{All}
use Rattle.trim.proofs.laws_of_trim_model.Lists.{all_append}
use Rattle.offers.specs.Each.{each_of}

module _ {A : Type 0} where
  pub each_same : (f g : ℕ → List A) (n : ℕ) → ((i : ℕ) → i < n → f i ≡ g i) → each_of f n ≡ each_of g n
  unfolding each_of
  each_same f g zero h = refl
  each_same f g (suc n) h = λ t. each_same f g n (λ i l. h i (omega (arith, l))) t ++ h n (omega arith) t

  pub each_all : (P : A → Type 0) (f : ℕ → List A) (n : ℕ) → ((i : ℕ) → i < n → All P (f i)) → All P (each_of f n)
  unfolding each_of
  each_all P f zero h = tt
  each_all P f (suc n) h = all_append P (each_of f n) (f n) (each_all P f n (λ i l. h i (omega (arith, l)))) (h n (omega arith))

  pub each_more : (f : ℕ → List A) (m n : ℕ) → each_of f (m + n) ≡ each_of f m ++ each_of (λ i. f (m + i)) n
  unfolding each_of
  each_more f m zero = let z : m + 0 ≡ m = omega arith in ap (each_of f) z ∙ sym (append-nil (each_of f m))
  each_more f m (suc n) =
      let z : m + suc n ≡ suc (m + n) = omega arith in
      ap (each_of f) z
      ∙ ap (λ (l : List A). l ++ f (m + n)) (each_more f m n)
      ∙ append_assoc (each_of f m) (each_of (λ i. f (m + i)) n) (f (m + n))

  -- n blocks of k
  pub by_blocks : (k : ℕ) (f : ℕ → List A) (n : ℕ) → each_of f (k * n) ≡ each_of (λ j. each_of (λ i. f (k * j + i)) k) n
  unfolding each_of
  by_blocks k f zero = ap (each_of f) (mul-zero k)
  by_blocks k f (suc n) = ap (each_of f) (mul-suc k n) ∙ each_more f (k * n) k ∙ ap (λ (l : List A). l ++ each_of (λ i. f (k * n + i)) k) (by_blocks k f n)
