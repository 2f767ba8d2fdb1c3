-- `groups::put_groups` meets its contract. Assumes nothing.
use mathlib.Core.Path.{refl, ◌∙◌}
use native.Mathlib.Omega.{arith}
use Rattle.text_out.proofs.Puts.{puts_length}
use Rattle.groups.proofs.Putting.{none_put, one_put, all_put, still_near}
use Rattle.groups.proofs.put_groups.Goals as goal

pub loop-rest-init : goal.loop-rest-init
loop-rest-init c = (refl, none_put _ _ _ (omega arith))

pub put_one-at-requires : goal.put_one-at-requires
put_one-at-requires c = (omega (arith, still_near c.loop-rest.invariant.1), omega arith)

pub loop-rest-smaller : goal.loop-rest-smaller
loop-rest-smaller c = omega arith

pub loop-rest-preserved : goal.loop-rest-preserved
loop-rest-preserved c =
    let put = c.put_one-at.ensures.0 in
    (puts_length put ∙ c.loop-rest.invariant.0, one_put c.loop-rest.invariant.1 c.loop-rest-test.true put)

pub put_one-requires : goal.put_one-requires
put_one-requires c = (omega (arith, still_near c.loop-rest.invariant.1), omega arith)

pub returns : goal.returns
returns c =
    let put = c.put_one.ensures in
    (all_put c.loop-rest.invariant.1 (omega arith) put.0, omega (arith, put.1, still_near c.loop-rest.invariant.1))
