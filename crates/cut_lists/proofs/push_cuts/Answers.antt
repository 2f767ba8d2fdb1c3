-- `cut_lists::push_cuts` meets its contract. The invariant: what the loop comes to from here is what it came to at first. Assumes nothing.
use Prim.Native.Nat.{◌+◌}
use mathlib.Core.Path.{refl, sym, ap, ◌∙◌}
use mathlib.Core.List.{List, ◌++◌}
use native.Mathlib.Omega.{arith}
use lib.ListN.{length, drop}
use Rattle.better.specs.Stretches.{Interval}
use Rattle.better.specs.Buffers.{pairs}
use Rattle.trim_model.specs.Intervals.{cuts_within}
use Rattle.cut_lists.proofs.Pushes.{cuts_turn, cuts_full, cuts_done}
use Rattle.cut_lists.proofs.push_cuts.Goals as goal

pub loop-i-init : goal.loop-i-init
loop-i-init c = (omega arith, refl, refl)

pub shape_of-out-in_err-k : goal.shape_of-out-in_err-k
shape_of-out-in_err-k c =
    c.push_if.auto.out ∙ c.loop-i.invariant.1

pub returns-in_err-k : goal.returns-in_err-k
returns-in_err-k c =
    let a = c.args in
    let gs = pairs c.loop-i.k c.loop-i.out in
    let h = rw (c.min-c1.ensures, c.max-c0.ensures, c.to_of.ensures, c.from_of.ensures) at c.in_err-k.ensures in
    rw (c.from_residual.ensures, c.loop-i.invariant.2) (cuts_full a.better.now a.m c.loop-i.i gs a.o0 a.o1 (length c.push_if.new.out) c.loop-i-test.true h)

pub loop-i-preserved : goal.loop-i-preserved
loop-i-preserved c =
    let a = c.args in
    let gs = pairs c.loop-i.k c.loop-i.out in
    let h = rw (c.min-c1.ensures, c.max-c0.ensures, c.to_of.ensures, c.from_of.ensures) at c.in_ok-k.ensures in (
      h.0,
      c.push_if.auto.out ∙ c.loop-i.invariant.1,
      c.loop-i.invariant.2
          ∙ cuts_turn a.better.now a.m c.loop-i.i gs a.o0 a.o1 c.loop-i-test.true
          ∙ ap (λ (hs : List Interval). hs ++ cuts_within a.o0 a.o1 (drop (c.loop-i.i + 1) (pairs a.m a.better.now))) (sym h.1),
    )

pub shape_of-out : goal.shape_of-out
shape_of-out c = c.loop-i.invariant.1

pub returns : goal.returns
returns c =
    let a = c.args in
    (c.loop-i.invariant.0, sym (c.loop-i.invariant.2 ∙ cuts_done a.better.now a.m c.loop-i.i (pairs c.loop-i.k c.loop-i.out) a.o0 a.o1 c.loop-i-test.false))
