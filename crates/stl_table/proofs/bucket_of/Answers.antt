-- `stl_table::bucket_of` meets its contract. Assumes nothing.
use Prim.Native.Nat.{ℕ, ◌/◌}
use mathlib.Core.Path.{ap, ◌∙◌}
use Rattle.stl_table.specs.Keys.{mixed_key, key_bucket}
use borrow.Author.Rules.{rules}
use Rattle.stl_table.proofs.bucket_of.Goals as goal

pub returns : goal.returns
unfolding key_bucket
returns c =
    let k = c.args.k in
    (ap (λ (m : ℕ). m / 32768) (c.mix-3.ensures ∙ ap (λ (m : ℕ). mixed_key m k.z) (c.mix-2.ensures ∙ ap (λ (m : ℕ). mixed_key m k.y) c.mix.ensures)), search rules)
