-- A loop's list: what its turns give, one behind another. Definitions only.
use Rattle.std.specs.Prelude.{ℕ, zero, suc, List, [], ◌++◌}

module _ {A : Type 0} where
  -- the Rust's `for i in 0..n`
  unfoldable pub each_of : (ℕ → List A) → ℕ → List A
  each_of f zero = []
  each_of f (suc n) = each_of f n ++ f n
