-- `print_out::live_count` meets its contract. Assumes nothing.
use Rattle.print_out.specs.PrintOut.{live_count}
use mathlib.Core.Path.{◌≡◌, refl}
use native.Mathlib.Numerals.{add-one}
use native.Mathlib.Omega.{arith}
use Rattle.print_out.proofs.live_count.Goals as goal

pub loop-k-init : goal.loop-k-init
unfolding live_count
loop-k-init c = (omega arith, (omega arith, refl))

pub loop-k-preserved : goal.loop-k-preserved
unfolding live_count
loop-k-preserved c =
    (omega arith, (omega arith, rw (add-one, c.one_if-live.ensures.0, c.is_live.ensures, c.loop-k.invariant.1.1)))

pub returns : goal.returns
returns c =
    let a = c.args in
    let e : c.loop-k.k ≡ a.n = omega (arith, c.loop-k-test.false, c.loop-k.invariant.0) in rw e at c.loop-k.invariant.1.1
