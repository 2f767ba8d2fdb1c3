-- `cut_lists::pieces` meets its contract. The invariant: what the loop comes to from here is what it came to at first. Assumes nothing.
use Rattle.std.specs.Prelude.{None}
use mathlib.Core.Path.{refl, ap, ◌∙◌}
use native.Mathlib.Omega.{arith}
use lib.ListN.{length}
use Rattle.better.specs.Buffers.{pairs}
use Rattle.trim_model.specs.Intervals.{pieces}
use Rattle.float64.specs.Scalar.{max_of}
use Rattle.better.proofs.Stored.{numbered}
use Rattle.cut_lists.proofs.Pushes.{pieces_turn, pieces_full, pieces_done}
use Rattle.cut_lists.proofs.pieces.Goals as goal

pub loop-i-init : goal.loop-i-init
loop-i-init c = (omega arith, refl, refl)

pub shape_of-out-in_err-n : goal.shape_of-out-in_err-n
shape_of-out-in_err-n c =
    c.push_if.auto.out ∙ c.loop-i.invariant.1

pub returns-in_err-n : goal.returns-in_err-n
returns-in_err-n c =
    let a = c.args in
    let gs = pairs c.loop-i.n c.loop-i.out in
    let h = rw (c.from_of-g0.ensures) at c.in_err-n.ensures in
    let told-all = numbered None a.out.now c.push_if.new.out (pieces a.tiny a.b0 a.b1 (pairs a.m a.better.now)) (c.push_if.auto.out ∙ c.loop-i.invariant.1)
    (rw c.loop-i.invariant.2 (pieces_full a.better.now a.m c.loop-i.i gs a.tiny c.loop-i.at a.b1 (length c.push_if.new.out) c.loop-i-test.true h)) in
    rw c.from_residual.ensures (record { holds_pairs = told-all.0; result_value = told-all.1 })

pub loop-i-preserved : goal.loop-i-preserved
loop-i-preserved c =
    let a = c.args in
    let gs = pairs c.loop-i.n c.loop-i.out in
    let at = c.max-at.ensures ∙ ap (max_of c.loop-i.at) c.to_of.ensures in
    let h = rw (c.from_of-g0.ensures) at c.in_ok-n.ensures in (
      h.0,
      c.push_if.auto.out ∙ c.loop-i.invariant.1,
      c.loop-i.invariant.2
          ∙ pieces_turn a.better.now a.m c.loop-i.i gs a.tiny c.loop-i.at a.b1 c.loop-i-test.true
          ∙ rw (at, h.1),
    )

pub shape_of-out : goal.shape_of-out
shape_of-out c =
    c.push_if-2.auto.out ∙ c.loop-i.invariant.1

pub returns : goal.returns
returns c =
    let a = c.args in
    let gs = pairs c.loop-i.n c.loop-i.out in
    let told-all = numbered c.push_if-2.result a.out.now c.push_if-2.new.out (pieces a.tiny a.b0 a.b1 (pairs a.m a.better.now)) (c.push_if-2.auto.out ∙ c.loop-i.invariant.1)
    (rw (c.loop-i.invariant.2, pieces_done a.better.now a.m c.loop-i.i gs a.tiny c.loop-i.at a.b1 c.loop-i-test.false) c.push_if-2.ensures) in
    record { holds_pairs = told-all.0; result_value = told-all.1 }
