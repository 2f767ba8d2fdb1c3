-- `form_read::write_pieces` meets its contract. Assumes nothing.
use Rattle.form_read.proofs.Walk.{none_yet, piece_fits, one_more}
use Rattle.form_read.proofs.Parts.{value_small, next_near}
use Rattle.form_read.specs.Places.{value_read, place_behind, ends_from}
use Prim.Native.Nat.{◌+◌}
use mathlib.Core.Path.{◌≡◌, ap, ◌∙◌}
use native.Mathlib.Omega.{arith}
use Rattle.form_read.proofs.write_pieces.Goals as goal

pub loop-k-init : goal.loop-k-init
loop-k-init c = none_yet c.requires

pub bounds-s-at : goal.bounds-s-at
bounds-s-at c = (piece_fits c.loop-k.invariant c.loop-k-test.true).kind

pub overflow_add-at : goal.overflow_add-at
overflow_add-at c = omega (arith, c.loop-k.invariant.near, c.requires.near, c.requires.few, c.loop-k-test.true)

pub read_number-number-requires : goal.read_number-number-requires
read_number-number-requires c = omega (arith, c.loop-k.invariant.near, c.requires.near, c.requires.few, c.loop-k-test.true)

pub bounds-kinds-k : goal.bounds-kinds-k
bounds-kinds-k c = omega (arith, c.loop-k.invariant.same_kinds, c.loop-k.invariant.room_kinds, c.loop-k-test.true)

pub overflow_cast-faces : goal.overflow_cast-faces
overflow_cast-faces c = omega (arith, c.value.ensures, value_small c.read_number-number.result c.read_number-number.ensures)

pub bounds-faces-k : goal.bounds-faces-k
bounds-faces-k c = omega (arith, c.loop-k.invariant.same_faces, c.loop-k.invariant.room_faces, c.loop-k-test.true)

pub write_coords-requires : goal.write_coords-requires
unfolding ends_from
write_coords-requires c =
    let there = piece_fits c.loop-k.invariant c.loop-k-test.true in
    let e = c.behind-e.ensures ∙ ap place_behind c.read_number-number.ensures.answer in
    (record { kind = there.kind; ends = e; fits = omega (arith, e, there.fits) }, omega (arith, c.loop-k.invariant.same_coords, c.loop-k.invariant.room_coords, c.loop-k-test.true))

pub overflow_add-at-in-loop-k : goal.overflow_add-at-in-loop-k
overflow_add-at-in-loop-k c =
    omega (arith, c.behind-e.ensures, next_near c.read_number-number.result c.read_number-number.ensures, c.ends_size.ensures.1, c.loop-k.invariant.near, c.requires.near, c.requires.few, c.loop-k-test.true)

pub loop-k-preserved : goal.loop-k-preserved
unfolding ends_from
loop-k-preserved c =
    let e = c.behind-e.ensures ∙ ap place_behind c.read_number-number.ensures.answer in
    one_more c.loop-k.invariant c.loop-k-test.true _ _ (c.behind-e.result + c.ends_size.result) (c.value.ensures ∙ ap value_read c.read_number-number.ensures.answer) c.write_coords.ensures
    (rw (e, c.ends_size.ensures.0)) (omega (arith, c.behind-e.ensures, next_near c.read_number-number.result c.read_number-number.ensures, c.ends_size.ensures.1))

pub returns : goal.returns
returns c =
    let e : c.loop-k.k ≡ c.args.n = omega (arith, c.loop-k-test.false, c.loop-k.invariant.most) in
    (rw e at c.loop-k.invariant.kinds_are, (rw e at c.loop-k.invariant.faces_are, rw e at c.loop-k.invariant.coords_are))
