-- `stl_table::key_at` meets its contract. Assumes nothing.
use Prim.Native.Nat.{ℕ, ◌+◌}
use mathlib.Core.Path.{ap, ◌∙◌}
use Rattle.little_endian.specs.Bytes.{number_from}
use Rattle.stl_table.specs.Keys.{zero_unsigned, key_at}
use Rattle.stl_table.proofs.key_at.Goals as goal

pub returns : goal.returns
unfolding key_at
returns c =
    let s = c.args.s.now in
    let e = c.point_from-i.ensures in
    λ i. record {
      x = (c.key_word.ensures ∙ ap (λ (j : ℕ). zero_unsigned (number_from s j)) e) i;
      y = (c.key_word-2.ensures ∙ ap (λ (j : ℕ). zero_unsigned (number_from s (j + 4))) e) i;
      z = (c.key_word-3.ensures ∙ ap (λ (j : ℕ). zero_unsigned (number_from s (j + 8))) e) i;
    }
