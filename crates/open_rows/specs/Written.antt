-- A row of answers. Definitions only.
use Rattle.std.specs.Prelude.{ℕ, zero, suc, List, set}

-- the first n elements written in turn
unfoldable pub written_row : {A : Type 0} → (ℕ → A) → ℕ → List A → List A
written_row g zero l = l
written_row g (suc k) l = set (written_row g k l) k (g k)
