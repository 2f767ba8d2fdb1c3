-- `slip::write_coords` meets its contract. Assumes nothing.
use native.Mathlib.Nat.{add-zero}
use native.Mathlib.Omega.{arith}
use lib.ListN.{get_or, length-set}
use Rattle.buffers.specs.Slots.{fill}
use Rattle.slip.specs.Format.{piece_coords}
use Rattle.slip.proofs.Pieces.{size_bounds}
use Rattle.slip.proofs.write_coords.Goals as goal

pub double_at-requires : goal.double_at-requires
double_at-requires c =
    let a = c.args in
    omega (arith, size_bounds (get_or a.s.now a.i 0))

pub double_at-requires-2 : goal.double_at-requires-2
double_at-requires-2 c =
    let a = c.args in
    omega (arith, size_bounds (get_or a.s.now a.i 0))

pub bounds-coords-k-2 : goal.bounds-coords-k-2
bounds-coords-k-2 c = simp length-set (omega arith)

pub double_at-requires-3 : goal.double_at-requires-3
double_at-requires-3 c =
    let a = c.args in
    omega (arith, size_bounds (get_or a.s.now a.i 0))

pub bounds-coords-k-3 : goal.bounds-coords-k-3
bounds-coords-k-3 c = simp length-set (omega arith)

pub bounds-coords-k-4 : goal.bounds-coords-k-4
bounds-coords-k-4 c = simp length-set (omega arith)

pub bounds-coords-k-5 : goal.bounds-coords-k-5
bounds-coords-k-5 c = simp length-set (omega arith)

pub bounds-coords-k-6 : goal.bounds-coords-k-6
bounds-coords-k-6 c = simp length-set (omega arith)

pub shape_of-coords : goal.shape_of-coords
shape_of-coords c = simp length-set

pub returns : goal.returns
unfolding fill piece_coords
returns c =
    rw (c.double_at.ensures, c.double_at-2.ensures, c.double_at-3.ensures, c.second.ensures, c.second-2.ensures, c.second-3.ensures, add-zero)
