-- How a zeroed list is read, and the turns of the loop that makes it.
use Prim.Native.Nat.{ℕ, zero, suc, ◌+◌, ◌<◌, ◌≤◌}
use native.Mathlib.Omega.{arith}
use native.Mathlib.Numerals.{add-one}
use mathlib.Core.Path.{◌≡◌, refl, ap}
use mathlib.Core.List.{List, [], ◌∷◌}
use lib.ListN.{length, get_or, replicate, set}
use Rattle.buffers.specs.Zero.{zero_from}

module _ {A : Type 0} (z : A) where
  pub zero_at : (n p : ℕ) → get_or (replicate n z) p z ≡ z
  zero_at zero p = refl
  zero_at (suc n) zero = refl
  zero_at (suc n) (suc p) = zero_at n p

  pub zero_whole : (l : List A) → zero_from z 0 l ≡ replicate (length l) z
  unfolding zero_from
  zero_whole l = refl

  -- a turn stores z at n and leaves what zeroing from n on would make; past the end there is nothing to zero
  zero_suc : (n : ℕ) (l : List A) → n < length l → zero_from z n l ≡ zero_from z (suc n) (set l n z)
  unfolding zero_from
  zero_suc zero [] h = absurd (omega arith)
  zero_suc zero (x ∷ l) h = refl
  zero_suc (suc n) [] h = absurd (omega arith)
  zero_suc (suc n) (x ∷ l) h = ap (λ t. x ∷ t) (zero_suc n l (omega arith))

  pub zero_more : (n : ℕ) (l : List A) → n < length l → zero_from z n l ≡ zero_from z (n + 1) (set l n z)
  zero_more n l h = rw (add-one n) (zero_suc n l h)

  pub zero_end : (n : ℕ) (l : List A) → length l ≤ n → l ≡ zero_from z n l
  unfolding zero_from
  zero_end zero [] h = refl
  zero_end zero (x ∷ l) h = absurd (omega arith)
  zero_end (suc n) [] h = refl
  zero_end (suc n) (x ∷ l) h = ap (λ t. x ∷ t) (zero_end n l (omega arith))
