-- A slice that is zeroed, whole or from an element on.
use Rattle.std.specs.Prelude.{ℕ, zero, suc, List, [], ◌∷◌, length, replicate}

-- the list with every element from n on replaced by z
unfoldable pub zero_from : {A : Type 0} → A → ℕ → List A → List A
zero_from z zero l = replicate (length l) z
zero_from z (suc n) [] = []
zero_from z (suc n) (x ∷ l) = x ∷ zero_from z n l
