-- Laws of records and of the count of those that differ. Assumes nothing.
use mathlib.Core.Path.{◌≡◌, ap, subst}
use Prim.Native.Nat.{ℕ, ◌+◌, ◌*◌, ◌/◌, ◌≤◌}
use native.Mathlib.Nat.{mul_assoc, mul-div-le}
use native.Mathlib.Omega.{arith}
use Rattle.root_vectors.specs.Replay.{arity, numbers_per_record}
use Rattle.root_vectors.specs.declared.Function.{Function}
use Rattle.root_vectors.specs.declared.Function.TheVariants.{Sqrt, Hypot}

pub arity_small : (f : Function) → arity f ≤ 2
arity_small Sqrt = omega arith
arity_small Hypot = omega arith

-- the number at which record k begins, as the code has it
pub begins : {n : ℕ} (f : Function) (k : ℕ) → n ≡ arity f → (n + 1) * k ≡ numbers_per_record f * k
begins f k e = ap (λ (x : ℕ). (x + 1) * k) e

-- n records of 8 * w bytes fit in the length that n was counted from
pub records_fit : (w l : ℕ) → 8 * (w * (l / (8 * w))) ≤ l
records_fit w l = subst (λ (x : ℕ). x ≤ l) (mul_assoc 8 w (l / (8 * w))) (mul-div-le l (8 * w))
