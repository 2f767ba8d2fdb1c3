-- `stl_table::build` meets its contract. The invariant: the table is that of the points so far. Assumes nothing.
use Prim.Native.Nat.{ℕ, ◌+◌}
use mathlib.Core.Path.{refl, ap, ◌∙◌}
use native.Mathlib.Omega.{arith}
use lib.ListN.{length, length-replicate}
use Rattle.stl_table.specs.Keys.{same_at}
use Rattle.stl_table.specs.Table.{is_new}
use Rattle.stl_table.proofs.Entering.{none_entered, none_first, points_more, built_all, built_many}
use Rattle.stl_table.proofs.build.Goals as goal

pub loop-h-init : goal.loop-h-init
loop-h-init c =
    let a = c.args in
    let e = c.zero_u32.ensures in
    let long = ap length e ∙ length-replicate {A = ℕ} (length a.heads.now) 0 in
    (omega arith, (refl, (refl, (refl, (omega arith, (none_entered a.s.now _ a.links.now a.firsts.now (omega (arith, long, c.requires.1.0)) c.requires.1.1.0 c.requires.1.1.1 (length a.heads.now) e, none_first (same_at a.s.now) a.firsts.now))))))

pub enter-count-requires : goal.enter-count-requires
enter-count-requires c =
    (c.requires.0 c.loop-h.h c.loop-h-test.true, (c.loop-h.invariant.1.1.1.1.0, c.loop-h.invariant.1.1.1.1.1.0))

pub returns-then-count-gt65535 : goal.returns-then-count-gt65535
returns-then-count-gt65535 c =
    let a = c.args in
    let i = c.loop-h.invariant.1.1.1.1 in
    let r = c.enter-count.ensures in
    let e = points_more (same_at a.s.now) c.loop-h.firsts c.loop-h.count c.loop-h.h (omega (arith, i.0, i.1.0.firsts_fit)) i.1.1 (is_new a.s.now c.loop-h.firsts c.loop-h.count c.loop-h.h) _ _ refl r.counted r.points in
    built_many a.s.now a.points (c.loop-h.h + 1) _ _ _ _ r.table e (omega (arith, c.loop-h-test.true)) c.if-count-gt65535.true

pub loop-h-preserved : goal.loop-h-preserved
loop-h-preserved c =
    let a = c.args in
    let inv = c.loop-h.invariant in
    let i = inv.1.1.1.1 in
    let r = c.enter-count.ensures in
    let e = points_more (same_at a.s.now) c.loop-h.firsts c.loop-h.count c.loop-h.h (omega (arith, i.0, i.1.0.firsts_fit)) i.1.1 (is_new a.s.now c.loop-h.firsts c.loop-h.count c.loop-h.h) _ _ refl r.counted r.points in
    (omega (arith, c.loop-h-test.true), (c.enter-count.auto.heads ∙ inv.1.0, (c.enter-count.auto.links ∙ inv.1.1.0, (c.enter-count.auto.firsts ∙ inv.1.1.1.0, (c.if-count-gt65535.false, (r.table, e))))))

pub returns : goal.returns
returns c =
    let a = c.args in
    let i = c.loop-h.invariant.1.1.1.1 in
    built_all a.s.now a.points c.loop-h.h c.loop-h.count _ _ _ i.1.0 i.1.1 (omega (arith, c.loop-h-test.false, c.loop-h.invariant.0)) i.0
