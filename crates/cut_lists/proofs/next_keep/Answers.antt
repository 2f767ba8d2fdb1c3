-- `cut_lists::next_keep` meets its contract. The invariant: what the loop comes to from here is what it came to at first. Assumes nothing.
use Rattle.std.specs.Prelude.{Some, None}
use Prim.Native.Nat.{◌+◌}
use mathlib.Core.Path.{refl, sym, ap, ◌∙◌}
use mathlib.Core.List.{List, ◌++◌}
use native.Mathlib.Omega.{arith}
use lib.ListN.{length, drop}
use Rattle.better.specs.Stretches.{Interval}
use Rattle.better.specs.Buffers.{pairs}
use Rattle.trim_model.specs.Intervals.{next}
use Rattle.better.proofs.Stored.{numbered}
use Rattle.cut_lists.proofs.Pushes.{next_turn, next_full, next_done}
use Rattle.cut_lists.proofs.next_keep.Goals as goal

pub loop-i-init : goal.loop-i-init
loop-i-init c = (omega arith, refl, refl)

pub shape_of-out-in_err-n : goal.shape_of-out-in_err-n
shape_of-out-in_err-n c =
    c.push_next.auto.out ∙ c.loop-i.invariant.1

pub returns-in_err-n : goal.returns-in_err-n
returns-in_err-n c =
    let a = c.args in
    let gs = pairs c.loop-i.n c.loop-i.out in
    let better = pairs a.m a.better.now in
    let h = rw (c.to_of.ensures, c.from_of.ensures) at c.in_err-n.ensures in
    let told-all = numbered None a.out.now c.push_next.new.out (next a.lo a.hi better (pairs a.k a.keep.now)) (c.push_next.auto.out ∙ c.loop-i.invariant.1)
    (rw c.loop-i.invariant.2 (next_full a.keep.now a.k c.loop-i.i gs a.lo a.hi better (length c.push_next.new.out) c.loop-i-test.true h)) in
    rw c.from_residual.ensures (record { holds_pairs = told-all.0; result_value = told-all.1 })

pub loop-i-preserved : goal.loop-i-preserved
loop-i-preserved c =
    let a = c.args in
    let gs = pairs c.loop-i.n c.loop-i.out in
    let better = pairs a.m a.better.now in
    let h = rw (c.to_of.ensures, c.from_of.ensures) at c.in_ok-n.ensures in (
      h.0,
      c.push_next.auto.out ∙ c.loop-i.invariant.1,
      c.loop-i.invariant.2
          ∙ next_turn a.keep.now a.k c.loop-i.i gs a.lo a.hi better c.loop-i-test.true
          ∙ ap (λ (hs : List Interval). hs ++ next a.lo a.hi better (drop (c.loop-i.i + 1) (pairs a.k a.keep.now))) (sym h.1),
    )

pub shape_of-out : goal.shape_of-out
shape_of-out c = c.loop-i.invariant.1

pub returns : goal.returns
returns c =
    let a = c.args in
    let better = pairs a.m a.better.now in
    let told-all = numbered (Some c.loop-i.n) a.out.now c.loop-i.out (next a.lo a.hi better (pairs a.k a.keep.now)) c.loop-i.invariant.1
    (c.loop-i.invariant.0, sym (c.loop-i.invariant.2 ∙ next_done a.keep.now a.k c.loop-i.i (pairs c.loop-i.n c.loop-i.out) a.lo a.hi better c.loop-i-test.false)) in
    record { holds_pairs = told-all.0; result_value = told-all.1 }
