-- `slip::write_pieces` meets its contract. Assumes nothing.
use Rattle.slip.proofs.Walk.{none_yet, piece_fits, one_more}
use Rattle.slip.proofs.Pieces.{size_bounds}
use Rattle.slip.specs.Format.{piece_count_in, job_in}
use lib.ListN.{get_or}
use mathlib.Core.Path.{◌≡◌}
use native.Mathlib.Omega.{arith}
use Rattle.slip.proofs.write_pieces.Goals as goal

pub loop-k-init : goal.loop-k-init
loop-k-init c =
    none_yet _ c.pieces_from-at.ensures (omega arith) (omega arith) (omega arith) (rw c.count-n.ensures.0 c.requires.1.0)

pub bounds-s-at : goal.bounds-s-at
bounds-s-at c =
    let a = c.args in
    omega (arith, piece_fits c.loop-k.invariant c.loop-k-test.true, size_bounds (get_or a.s.now c.loop-k.at 0))

pub bounds-kinds-k : goal.bounds-kinds-k
bounds-kinds-k c = omega (arith)

pub overflow_add-at : goal.overflow_add-at
overflow_add-at c =
    let a = c.args in
    omega (arith, piece_fits c.loop-k.invariant c.loop-k-test.true, size_bounds (get_or a.s.now c.loop-k.at 0))

pub number_at-requires : goal.number_at-requires
number_at-requires c =
    let a = c.args in
    omega (arith, piece_fits c.loop-k.invariant c.loop-k-test.true, size_bounds (get_or a.s.now c.loop-k.at 0))

pub bounds-faces-k : goal.bounds-faces-k
bounds-faces-k c = omega (arith)

pub write_coords-requires : goal.write_coords-requires
write_coords-requires c =
    let a = c.args in
    let whole = piece_fits c.loop-k.invariant c.loop-k-test.true in
    (omega (arith, whole, size_bounds (get_or a.s.now c.loop-k.at 0)), (whole, omega arith))

pub overflow_add-at-in-loop-k : goal.overflow_add-at-in-loop-k
overflow_add-at-in-loop-k c =
    omega (arith, piece_fits c.loop-k.invariant c.loop-k-test.true, c.piece_size-at.ensures.0)

pub loop-k-preserved : goal.loop-k-preserved
loop-k-preserved c =
    one_more c.loop-k.invariant c.loop-k-test.true _ _ _ c.number_at.ensures c.write_coords.ensures c.piece_size-at.ensures.0

pub returns : goal.returns
unfolding job_in
returns c =
    let a = c.args in
    let e : c.loop-k.k ≡ piece_count_in a.s.now = omega (arith, c.count-n.ensures.0, c.loop-k-test.false, c.loop-k.invariant.most) in
    (rw e at c.loop-k.invariant.kinds_are, (rw e at c.loop-k.invariant.faces_are, rw e at c.loop-k.invariant.coords_are))
