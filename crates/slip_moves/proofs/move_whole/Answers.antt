-- `slip_moves::move_whole` meets its contract. Assumes nothing.
use Rattle.slip_moves.specs.Moves.{then, body_moved, ended}
use Rattle.slip_moves.proofs.Parts.{far_puts, far_last, moves_is, moves_stop}
use Rattle.slip_moves.proofs.Whole.{refused_head, counted_head}
use mathlib.Core.Path.{refl, sym, ◌∙◌}
use Rattle.std.proofs.lemmas.Result.{err_from_is_err_and}
use Rattle.slip_moves.proofs.move_whole.Goals as goal

pub put_head-o-requires : goal.put_head-o-requires
put_head-o-requires c =
    let small = c.read_head.ensures.1.small _ c.in_ok-head.was in
    (small.0, (small.1.0, small.1.1.0))

pub move_body-requires : goal.move_body-requires
move_body-requires c =
    let small = c.read_head.ensures.1.small _ c.in_ok-head.was in
    (small.1.1.1, (c.put_head-o.ensures.1, (small.0, (small.1.0, small.1.1.0))))

pub returns-in_err-head : goal.returns-in_err-head
returns-in_err-head c =
    let a = c.args in
    let p = err_from_is_err_and c.from_residual.result c.from_residual.ensures.1 in
    rw (p.1, p.2) (moves_stop (refused_head a.from a.to a.s.now (sym c.read_head.ensures.0 ∙ c.in_err-head.was)) refl)

pub returns : goal.returns
returns c =
    let a = c.args in
    let k = c.in_ok-head in
    moves_is (sym (counted_head a.from a.to a.s.now (sym c.read_head.ensures.0 ∙ k.was)))
    (far_last (then (body_moved a.from a.to a.s.now k.head.vertices k.head.triangles k.head.pieces k.head.next) (ended a.s.now)) (far_puts _ c.put_head-o.ensures.0) c.move_body.ensures)
