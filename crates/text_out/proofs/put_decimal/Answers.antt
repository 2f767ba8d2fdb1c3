-- `text_out::put_decimal` meets its contract. Assumes nothing.
use Rattle.text_out.proofs.put_decimal.Goals as goal
use Rattle.text_out.proofs.Digits.{digits_are, at_most_all, at_most_20}
use Prim.Native.Nat.{suc}
use Rattle.text_out.specs.Text.{decimal}
use mathlib.Core.Path.{◌∙◌}
use native.Mathlib.Omega.{arith}

pub put_text-requires : goal.put_text-requires
put_text-requires c =
    let most = at_most_20 c.decimal-k.result c.args.n (omega arith) c.decimal-k.ensures.len in omega (arith, most, c.decimal-k.ensures.in_bounds.1)

pub returns : goal.returns
unfolding decimal
returns c =
    let fewest = c.decimal-k.ensures.len in
    let k = c.decimal-k.result in
    let n = c.args.n in
    let most = at_most_20 k n (omega arith) fewest in
    let put = c.put_text.ensures in
    (rw (c.decimal-k.ensures.digits ∙ digits_are k (suc n) n (at_most_all k n fewest) fewest) at put, omega (arith, most, put.ends, c.decimal-k.ensures.in_bounds.1))
