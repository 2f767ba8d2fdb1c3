-- `stored_numbers::read_bytes` meets its contract. Assumes nothing.
use Prim.Native.Nat.{ℕ, ◌+◌, ◌%◌}
use lib.ListN.{length-set}
use mathlib.Core.Path.{refl, ap, ◌∙◌}
use native.Mathlib.Omega.{arith}
use Rattle.stored_numbers.specs.Numbers.{stored_number}
use Rattle.stored_numbers.proofs.Rows.{written_next, written_all}
use Rattle.stored_numbers.proofs.read_bytes.Goals as goal

pub loop-i-init : goal.loop-i-init
loop-i-init c = (refl, λ j h. absurd (omega (arith, h)))

pub loop-i-preserved : goal.loop-i-preserved
loop-i-preserved c =
    let number = c.number in
    let loop-test = c.loop-i-test in
    let loop = c.loop-i in
    let a = c.args in (
      length-set loop.to loop.i (number.result % 256) ∙ loop.invariant.0,
      written_next 0 (λ j. stored_number a.s.now (a.k + j) % 256) loop.i loop.to (number.result % 256) (omega (arith, loop-test.true, loop.invariant.0))
          (ap (λ (n : ℕ). n % 256) number.ensures) loop.invariant.1,
    )

pub returns : goal.returns
returns c = let a = c.args in written_all 0 (λ j. stored_number a.s.now (a.k + j) % 256) a.to.now c.loop-i.to c.loop-i.i c.loop-i.invariant.0 (omega (arith, c.loop-i-test.false, c.loop-i.invariant.0)) c.loop-i.invariant.1
