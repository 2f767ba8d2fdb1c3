-- `range_test::better` meets its contract. Assumes nothing.
use Rattle.std.specs.Prelude.{Some}
use native.Mathlib.Omega.{arith}
use lib.ListN.{length}
use Rattle.better.specs.Points.{pts_of, walk_of}
use Rattle.better.specs.Stretches.{better_of}
use Rattle.better.proofs.Stored.{said}
use Rattle.range_test.proofs.Ranges.{answer_none, answer_whole}
use Rattle.range_test.proofs.better.Goals as goal

pub returns-in-NeverShorter : goal.returns-in-NeverShorter
returns-in-NeverShorter c =
    let a = c.args in
    let pts = walk_of a.p a.q (pts_of a.p a.q a.lo a.hi) in
    let gs = better_of a.p a.q a.lo a.hi in
    let h = rw c.in-NeverShorter.is at c.compare_ranges-told.ensures in
    let told-all = said (Some 0) (length a.pts.now) a.out.now a.out.now pts gs (answer_none (length a.pts.now) a.out.now pts gs (omega (arith, c.if-pts-lt4.false)) h.0 h.1) in
    record { out_after = told-all.0; result_value = told-all.1 }

pub returns-in-AlwaysShorter : goal.returns-in-AlwaysShorter
returns-in-AlwaysShorter c =
    let a = c.args in
    let pts = walk_of a.p a.q (pts_of a.p a.q a.lo a.hi) in
    let gs = better_of a.p a.q a.lo a.hi in
    let h = rw c.in-AlwaysShorter.is at c.compare_ranges-told.ensures in
    let w = c.list_whole in
    let told-all = said w.result (length a.pts.now) a.out.now w.new.out pts gs
    (answer_whole (length a.pts.now) a.out.now pts gs (omega (arith, c.if-pts-lt4.false)) h.0 a.lo a.hi w.result w.new.out h.1 w.ensures)
    in
    record { out_after = told-all.0; result_value = told-all.1 }
