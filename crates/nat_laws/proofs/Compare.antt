-- What `compare` says of two natural numbers, in words of `<` and `≡`. Assumes nothing.
use mathlib.Core.Path.{◌≡◌, refl, subst}
use mathlib.Core.Bool.{not}
use Prim.Native.Nat.{ℕ, ◌≤◌, ◌<◌, compare, Ordering}
use native.Mathlib.Omega.{arith}
use lib.Dec.{T, is_le, compare_is_eq, eqb, leb→le, nleb→lt, eqb→eq, eqb_refl}
use lib.Arith.{lt_of_le-ne}

abbrev pub Cmp : Ordering → ℕ → ℕ → Type 0
Cmp Ordering.lt a b = a < b
Cmp Ordering.eq a b = a ≡ b
Cmp Ordering.gt a b = b < a

pub cmp : (a b : ℕ) → Cmp (compare a b) a b
cmp a b = go (compare a b) (leb→le a b) (nleb→lt a b) (eqb→eq a b) (λ (e : a ≡ b). subst (λ (x : ℕ). T (eqb a x)) e (eqb_refl a))
  where
    go : (o : Ordering) → (T (is_le o) → a ≤ b) → (T (not (is_le o)) → b < a) → (T (compare_is_eq o) → a ≡ b) → (a ≡ b → T (compare_is_eq o)) → Cmp o a b
    go Ordering.lt h k e n = lt_of_le-ne (h tt) n
    go Ordering.eq h k e n = e tt
    go Ordering.gt h k e n = k tt

-- so what is known of the two numbers says what `compare` answers
pub compare_is : (o : Ordering) (a b : ℕ) → Cmp o a b → compare a b ≡ o
compare_is o a b h = go (compare a b) o (cmp a b) h
  where
    go : (p o : Ordering) → Cmp p a b → Cmp o a b → p ≡ o
    go Ordering.lt Ordering.lt c h = refl
    go Ordering.lt Ordering.eq c h = let z : ⊥ = omega arith in absurd z
    go Ordering.lt Ordering.gt c h = let z : ⊥ = omega arith in absurd z
    go Ordering.eq Ordering.lt c h = let z : ⊥ = omega arith in absurd z
    go Ordering.eq Ordering.eq c h = refl
    go Ordering.eq Ordering.gt c h = let z : ⊥ = omega arith in absurd z
    go Ordering.gt Ordering.lt c h = let z : ⊥ = omega arith in absurd z
    go Ordering.gt Ordering.eq c h = let z : ⊥ = omega arith in absurd z
    go Ordering.gt Ordering.gt c h = refl
