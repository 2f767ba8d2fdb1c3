-- `stored_numbers::read_numbers` meets its contract. Assumes nothing.
use Prim.Native.Nat.{◌+◌}
use lib.ListN.{length-set}
use mathlib.Core.Path.{refl, ◌∙◌}
use native.Mathlib.Omega.{arith}
use Rattle.stored_numbers.specs.Numbers.{stored_number}
use Rattle.stored_numbers.proofs.Rows.{written_next, written_all}
use Rattle.stored_numbers.proofs.read_numbers.Goals as goal

pub loop-i-init : goal.loop-i-init
loop-i-init c = (refl, λ j h. absurd (omega (arith, h)))

pub loop-i-preserved : goal.loop-i-preserved
loop-i-preserved c =
    let number = c.number in
    let loop-test = c.loop-i-test in
    let loop = c.loop-i in
    let a = c.args in (
      length-set loop.to loop.i number.result ∙ loop.invariant.0,
      written_next 0 (λ j. stored_number a.s.now (a.k + j)) loop.i
          loop.to number.result (omega (arith, loop-test.true, loop.invariant.0)) number.ensures loop.invariant.1,
    )

pub returns : goal.returns
returns c = let a = c.args in written_all 0 (λ j. stored_number a.s.now (a.k + j)) a.to.now c.loop-i.to c.loop-i.i c.loop-i.invariant.0 (omega (arith, c.loop-i-test.false, c.loop-i.invariant.0)) c.loop-i.invariant.1
