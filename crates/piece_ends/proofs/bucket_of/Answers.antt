-- `piece_ends::bucket_of` meets its contract: a product of two numbers below 2^32 fits 64 bits. Assumes nothing.
use Prim.Native.Nat.{ℕ, ◌*◌, ◌/◌, ◌<◌, ◌≤◌}
use mathlib.Core.Path.{◌≡◌, ap, ◌∙◌}
use native.Mathlib.Nat.{mul-le-mul_left}
use native.Mathlib.Omega.{arith}
use borrow.Author.Rules.{rules}
use Rattle.vec3.specs.declared.Vec3.{Vec3}
use Rattle.piece_ends.specs.Table.{golden, mixed, point_bucket}
use Rattle.piece_ends.proofs.bucket_of.Goals as goal

scaled : (p : Vec3) (h₁ h₂ h₃ : ℕ) → h₁ ≡ mixed golden p.x → h₂ ≡ mixed h₁ p.y → h₃ ≡ mixed h₂ p.z → (size : ℕ) → h₃ * size / 4294967296 ≡ point_bucket size p
unfolding point_bucket
scaled p h₁ h₂ h₃ e₁ e₂ e₃ size = ap (λ (k : ℕ). k * size / 4294967296) (e₃ ∙ ap (λ (k : ℕ). mixed k p.z) (e₂ ∙ ap (λ (k : ℕ). mixed k p.y) e₁))

product-fits : (a b : ℕ) → a < 4294967296 → b < 4294967296 → a * b < 18446744073709551616
product-fits a b l m = let h : a * b ≤ a * 4294967295 = mul-le-mul_left a (omega arith) in omega arith

pub overflow_mul-scaled : goal.overflow_mul-scaled
overflow_mul-scaled c = record { fits = product-fits _ _ (search rules) (search rules) }

pub overflow_cast-result : goal.overflow_cast-result
overflow_cast-result c = let a = c.args in omega (arith, product-fits c.mix-h.result a.size (search rules) (search rules))

pub returns : goal.returns
returns c =
    scaled c.args.p _ _ _ c.mix.ensures c.mix-2.ensures c.mix-h.ensures c.args.size
