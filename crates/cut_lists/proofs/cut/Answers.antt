-- `cut_lists::cut` meets its contract. Assumes nothing.
use mathlib.Core.Path.{◌∙◌}
use native.Mathlib.Omega.{arith}
use lib.ListN.{length}
use Rattle.better.specs.Buffers.{pairs}
use Rattle.cut_lists.proofs.Cutting.{full_better, full_next, full_pieces, none_lost, some_lost}
use Rattle.better.proofs.Stored.{answers_of}
use Rattle.cut_lists.proofs.cut.Goals as goal

pub shape_of-pts-in_err-lost : goal.shape_of-pts-in_err-lost
shape_of-pts-in_err-lost c = c.better.auto.pts

pub shape_of-out-in_err-lost : goal.shape_of-out-in_err-lost
shape_of-out-in_err-lost c = c.better.auto.out

pub returns-in_err-lost : goal.returns-in_err-lost
returns-in_err-lost c =
    let a = c.args in
    rw c.from_residual.ensures
    (full_better a.p a.q a.lo a.hi a.b0 a.b1 a.tiny (length a.pts.now) (pairs a.k a.keep.now) c.better.new.out
    (omega (arith, c.better.auto.out, c.requires.0.outs)) (answers_of _ _ _ _ _ _ c.in_err-lost.ensures.out_after))

pub next_keep-requires : goal.next_keep-requires
next_keep-requires c =
    let h = (answers_of _ _ _ _ _ _ c.in_ok-lost.ensures.out_after) in
    (omega (arith, c.requires.0.keeps, c.requires.1), h.1.0)

pub shape_of-pts-in_err-kept : goal.shape_of-pts-in_err-kept
shape_of-pts-in_err-kept c =
    c.better.auto.pts

pub shape_of-out-in_err-kept : goal.shape_of-out-in_err-kept
shape_of-out-in_err-kept c =
    c.better.auto.out

pub shape_of-next-in_err-kept : goal.shape_of-next-in_err-kept
shape_of-next-in_err-kept c = c.next_keep.auto.out

pub returns-in_err-kept : goal.returns-in_err-kept
returns-in_err-kept c =
    let a = c.args in
    rw c.from_residual-in_err-kept.ensures
    (full_next a.p a.q a.lo a.hi a.b0 a.b1 a.tiny (length a.pts.now) (pairs a.k a.keep.now) c.better.new.out c.in_ok-lost.lost
    (answers_of _ _ _ _ _ _ c.in_ok-lost.ensures.out_after) c.next_keep.new.out (omega (arith, c.next_keep.auto.out, c.requires.0.nexts))
    (c.in_err-kept.ensures.holds_pairs))

pub copy-requires : goal.copy-requires
copy-requires c =
    let next = c.next_keep in
    let h = (c.in_ok-kept.ensures.holds_pairs) in
    let g = h.0 in
    (g, omega (arith, g, next.auto.out, c.requires.0.nexts, c.requires.0.keeps))

pub shape_of-pts-then-lost-eq0 : goal.shape_of-pts-then-lost-eq0
shape_of-pts-then-lost-eq0 c =
    c.better.auto.pts

pub shape_of-out-then-lost-eq0 : goal.shape_of-out-then-lost-eq0
shape_of-out-then-lost-eq0 c =
    c.better.auto.out

pub shape_of-keep-then-lost-eq0 : goal.shape_of-keep-then-lost-eq0
shape_of-keep-then-lost-eq0 c = c.copy.auto.to

pub shape_of-next-then-lost-eq0 : goal.shape_of-next-then-lost-eq0
shape_of-next-then-lost-eq0 c =
    c.next_keep.auto.out

pub returns-then-lost-eq0 : goal.returns-then-lost-eq0
returns-then-lost-eq0 c =
    let a = c.args in
    none_lost a.p a.q a.lo a.hi a.b0 a.b1 a.tiny (length a.pts.now) (pairs a.k a.keep.now) c.better.new.out c.in_ok-lost.lost
    (answers_of _ _ _ _ _ _ c.in_ok-lost.ensures.out_after) (omega (arith, c.better.auto.out, c.requires.0.outs)) c.next_keep.new.out c.copy.new.to
    (omega (arith, c.next_keep.auto.out, c.requires.0.nexts)) c.in_ok-kept.kept (c.in_ok-kept.ensures.holds_pairs) c.copy.ensures c.if-lost-eq0.true c.next_keep.new.out

pub pieces-requires : goal.pieces-requires
pieces-requires c =
    let h = (answers_of _ _ _ _ _ _ c.in_ok-lost.ensures.out_after) in
    h.1.0

pub shape_of-pts-in_err-pieces : goal.shape_of-pts-in_err-pieces
shape_of-pts-in_err-pieces c =
    c.better.auto.pts

pub shape_of-out-in_err-pieces : goal.shape_of-out-in_err-pieces
shape_of-out-in_err-pieces c =
    c.better.auto.out

pub shape_of-keep-in_err-pieces : goal.shape_of-keep-in_err-pieces
shape_of-keep-in_err-pieces c =
    c.copy.auto.to

pub shape_of-next-in_err-pieces : goal.shape_of-next-in_err-pieces
shape_of-next-in_err-pieces c =
    c.pieces.auto.out ∙ c.next_keep.auto.out

pub returns-in_err-pieces : goal.returns-in_err-pieces
returns-in_err-pieces c =
    let a = c.args in
    rw c.from_residual-in_err-pieces.ensures
    (full_pieces a.p a.q a.lo a.hi a.b0 a.b1 a.tiny (length a.pts.now) (pairs a.k a.keep.now) c.better.new.out c.in_ok-lost.lost
    (answers_of _ _ _ _ _ _ c.in_ok-lost.ensures.out_after) c.pieces.new.out
    (omega (arith, c.pieces.auto.out, c.next_keep.auto.out, c.requires.0.nexts)) (omega (arith, c.if-lost-eq0.false)) (c.in_err-pieces.ensures.holds_pairs))

pub shape_of-pts : goal.shape_of-pts
shape_of-pts c =
    c.better.auto.pts

pub shape_of-out : goal.shape_of-out
shape_of-out c =
    c.better.auto.out

pub shape_of-keep : goal.shape_of-keep
shape_of-keep c =
    c.copy.auto.to

pub shape_of-next : goal.shape_of-next
shape_of-next c =
    c.pieces.auto.out ∙ c.next_keep.auto.out

pub returns : goal.returns
returns c =
    let a = c.args in
    some_lost a.p a.q a.lo a.hi a.b0 a.b1 a.tiny (length a.pts.now) (pairs a.k a.keep.now) c.better.new.out c.in_ok-lost.lost
    (answers_of _ _ _ _ _ _ c.in_ok-lost.ensures.out_after) (omega (arith, c.better.auto.out, c.requires.0.outs)) c.next_keep.new.out c.copy.new.to
    (omega (arith, c.next_keep.auto.out, c.requires.0.nexts)) c.in_ok-kept.kept (c.in_ok-kept.ensures.holds_pairs) c.copy.ensures c.pieces.new.out
    (omega (arith, c.pieces.auto.out, c.next_keep.auto.out, c.requires.0.nexts)) c.in_ok-pieces.pieces (c.in_ok-pieces.ensures.holds_pairs)
