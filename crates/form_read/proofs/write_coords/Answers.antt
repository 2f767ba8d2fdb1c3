-- `form_read::write_coords` meets its contract. Assumes nothing.
use Rattle.buffers.specs.Slots.{fill}
use Rattle.form_read.specs.Places.{ends_in}
use Rattle.form_read.proofs.Parts.{ends_bounds}
use lib.ListN.{get_or, length-set}
use native.Mathlib.Nat.{add-zero}
use mathlib.Core.Path.{sym}
use native.Mathlib.Omega.{arith}
use Rattle.form_read.proofs.write_coords.Goals as goal

pub double_at-requires : goal.double_at-requires
double_at-requires c = omega (arith, c.requires.0.fits, ends_bounds (get_or c.args.s.now c.args.i 0))

pub double_at-requires-2 : goal.double_at-requires-2
double_at-requires-2 c = omega (arith, c.requires.0.fits, ends_bounds (get_or c.args.s.now c.args.i 0))

pub bounds-coords-k-2 : goal.bounds-coords-k-2
bounds-coords-k-2 c = simp length-set (omega arith)

pub double_at-requires-3 : goal.double_at-requires-3
double_at-requires-3 c = omega (arith, c.requires.0.fits, ends_bounds (get_or c.args.s.now c.args.i 0))

pub bounds-coords-k-3 : goal.bounds-coords-k-3
bounds-coords-k-3 c = simp length-set (omega arith)

pub bounds-coords-k-4 : goal.bounds-coords-k-4
bounds-coords-k-4 c = simp length-set (omega arith)

pub bounds-coords-k-5 : goal.bounds-coords-k-5
bounds-coords-k-5 c = simp length-set (omega arith)

pub bounds-coords-k-6 : goal.bounds-coords-k-6
bounds-coords-k-6 c = simp length-set (omega arith)

pub shape_of-coords : goal.shape_of-coords
shape_of-coords c = simp length-set (omega arith)

pub returns : goal.returns
unfolding ends_in fill
returns c =
    let e = c.requires.0.ends in
    rw (add-zero, sym e, sym c.double_at.ensures, sym c.double_at-2.ensures, sym c.double_at-3.ensures, sym c.second.ensures, sym c.second-2.ensures, sym c.second-3.ensures)
