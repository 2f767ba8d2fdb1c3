-- `piece_ends::mix` meets its contract: a product of two numbers below 2^32 fits 64 bits. Assumes nothing.
use Prim.Native.Nat.{ℕ, ◌+◌, ◌*◌, ◌/◌, ◌%◌, ◌<◌, ◌≤◌}
use mathlib.Core.Path.{refl}
use native.Mathlib.Nat.{mod-lt, mul-le-mul_left}
use native.Mathlib.Omega.{arith}
use Rattle.piece_ends.specs.Table.{mixed}
use Rattle.piece_ends.proofs.mix.Goals as goal

product-fits : (a b : ℕ) → a < 4294967296 → b < 4294967296 → a * b < 18446744073709551616
product-fits a b l m = let h : a * b ≤ a * 4294967295 = mul-le-mul_left a (omega arith) in omega arith

halves-fit : (p : ℕ) → p < 18446744073709551616 → p / 4294967296 + p % 4294967296 < 18446744073709551616
halves-fit p l = omega arith

pub overflow_mul-product : goal.overflow_mul-product
overflow_mul-product c = record { fits = product-fits _ _ (mod-lt _ (omega arith)) (mod-lt _ (omega arith)) }

pub overflow_add-result : goal.overflow_add-result
overflow_add-result c = record { fits = halves-fit _ (product-fits _ _ (mod-lt _ (omega arith)) (mod-lt _ (omega arith))) }

pub returns : goal.returns
unfolding mixed
returns c = rw c.bits-b.ensures refl
