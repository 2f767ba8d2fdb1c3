-- `source_vectors::differences` meets its contract. Assumes nothing.
use mathlib.Core.Path.{◌≡◌, refl, sym, ap, ◌∙◌}
use Prim.Native.Nat.{◌+◌, ◌*◌, ◌≤◌}
use native.Mathlib.Nat.{le_trans}
use native.Mathlib.Omega.{arith}
use lib.ListN.{length, length-take, length-drop}
use Rattle.source_vectors.specs.Replay.{holds_for, record_at, leaf_records}
use Rattle.vectors.specs.Records.{failing}
use Rattle.vectors.proofs.Laws.{same_count, one_more}
use Rattle.nat_laws.proofs.Ring.{run_within}
use Rattle.source_vectors.proofs.Laws.{part_is}
use Rattle.source_vectors.proofs.differences.Goals as goal
use Rattle.source_vectors.proofs.differences.Goals.{then-not-holds, else-not-holds}

pub loop-k-init : goal.loop-k-init
unfolding failing
loop-k-init c = (omega arith, refl)

pub overflow_mul-i : goal.overflow_mul-i
overflow_mul-i c =
    let inside : c.size-z.result * c.loop-k.k + c.size-z.result ≤ length c.args.s.now = let a = c in
    le_trans (run_within a.size-z.result {k = c.loop-k.k} {n = a.records-n.result} (omega arith)) (rw a.size-z.ensures a.records-n.ensures.1) in
    omega (arith, inside)

pub overflow_add-i : goal.overflow_add-i
overflow_add-i c =
    let inside : c.size-z.result * c.loop-k.k + c.size-z.result ≤ length c.args.s.now = let a = c in
    le_trans (run_within a.size-z.result {k = c.loop-k.k} {n = a.records-n.result} (omega arith)) (rw a.size-z.ensures a.records-n.ensures.1) in
    omega (arith, inside)

pub slice_bounds-holds-count : goal.slice_bounds-holds-count
slice_bounds-holds-count c = omega arith

pub slice_bounds-holds-start : goal.slice_bounds-holds-start
slice_bounds-holds-start c =
    let inside : c.size-z.result * c.loop-k.k + c.size-z.result ≤ length c.args.s.now = let a = c in
    le_trans (run_within a.size-z.result {k = c.loop-k.k} {n = a.records-n.result} (omega arith)) (rw a.size-z.ensures a.records-n.ensures.1) in
    omega (arith, inside)

pub slice_bounds-holds-end : goal.slice_bounds-holds-end
slice_bounds-holds-end c =
    let inside : c.size-z.result * c.loop-k.k + c.size-z.result ≤ length c.args.s.now = let a = c in
    le_trans (run_within a.size-z.result {k = c.loop-k.k} {n = a.records-n.result} (omega arith)) (rw a.size-z.ensures a.records-n.ensures.1) in
    omega (arith, inside)

pub holds-requires : goal.holds-requires
holds-requires c =
    let inside : c.size-z.result * c.loop-k.k + c.size-z.result ≤ length c.args.s.now = let a = c in
    le_trans (run_within a.size-z.result {k = c.loop-k.k} {n = a.records-n.result} (omega arith)) (rw a.size-z.ensures a.records-n.ensures.1) in
    simp (length-take, length-drop) (omega (arith, inside, c.size-z.ensures))

pub overflow_add-count : goal.overflow_add-count
overflow_add-count c = omega arith

pub loop-k-preserved : goal.loop-k-preserved
loop-k-preserved c =
    let answered : c.holds.result ≡ holds_for c.args.f (record_at c.args.f c.args.s.now c.loop-k.k) = c.holds.ensures ∙ ap (holds_for _) (part_is _ _ _ _ c.size-z.ensures) in
    let h = answered in
    elim c.if-not-holds.branch [ then-not-holds w ↦ (omega arith, w.count-is ∙ one_more _ _ _ c.loop-k.invariant.1 (sym h ∙ w.if-not-holds.true)) | else-not-holds w ↦ (omega arith, w.count-is ∙ same_count _ _ _ c.loop-k.invariant.1 (sym h ∙ w.if-not-holds.false)) ]

pub returns : goal.returns
returns c =
    let e : c.loop-k.k ≡ leaf_records c.args.f c.args.s.now = omega (arith, c.records-n.ensures.0) in
    rw e at c.loop-k.invariant.1
