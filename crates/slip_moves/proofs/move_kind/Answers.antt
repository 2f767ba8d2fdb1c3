-- `slip_moves::move_kind` meets its contract. Assumes nothing.
use Rattle.slip_moves.specs.Moves.{Part, then, bytes_moved, ends_size, number_moved, piece_of_kind}
use Rattle.slip_moves.proofs.Parts.{far_none, far_stop, far_step, far_last}
use Rattle.slip_moves.proofs.Reach.{reach_bytes, reach_number, stepped}
use Prim.Native.Nat.{ℕ}
use native.Mathlib.Omega.{arith}
use Rattle.std.proofs.lemmas.Result.{err_from_is_err_and}
use Rattle.slip_moves.proofs.move_kind.Goals as goal

pub move_number-requires : goal.move_number-requires
move_number-requires c =
    let a = c.args in
    let near = stepped a.i 1 (bytes_moved a.s.now 1 a.i) (reach_bytes a.s.now 1 a.i) c.move_bytes.ensures c.in_ok-j.was in
    (omega (arith, near.0, c.requires.0), omega (arith, near.1, c.requires.1))

pub move_bytes-requires-2 : goal.move_bytes-requires-2
move_bytes-requires-2 c =
    let a = c.args in
    let near = stepped a.i 1 (bytes_moved a.s.now 1 a.i) (reach_bytes a.s.now 1 a.i) c.move_bytes.ensures c.in_ok-j.was in
    let next = stepped c.in_ok-j.j 5 (number_moved a.from a.to a.s.now c.in_ok-j.j) (reach_number a.from a.to a.s.now c.in_ok-j.j) c.move_number.ensures c.in_ok-k.was in
    (omega (arith, near.0, next.0, c.requires.0), (omega (arith, near.1, next.1, c.requires.1), omega (arith, c.ends_size.ensures.1)))

pub returns-in_err-j : goal.returns-in_err-j
unfolding piece_of_kind
returns-in_err-j c =
    let a = c.args in
    let x = bytes_moved a.s.now 1 a.i in
    let k : ℕ → Part = λ j. then (number_moved a.from a.to a.s.now j) (bytes_moved a.s.now (ends_size a.kind)) in
    let p = err_from_is_err_and c.from_residual.result c.from_residual.ensures.1 in
    rw (p.1, p.2)
    (far_stop x k (far_none (then x k)) c.move_bytes.ensures c.in_err-j.was)

pub returns-in_err-k : goal.returns-in_err-k
unfolding piece_of_kind
returns-in_err-k c =
    let a = c.args in
    let x = bytes_moved a.s.now 1 a.i in
    let k : ℕ → Part = λ j. then (number_moved a.from a.to a.s.now j) (bytes_moved a.s.now (ends_size a.kind)) in
    let p = err_from_is_err_and c.from_residual-in_err-k.result c.from_residual-in_err-k.ensures.1 in
    rw (p.1, p.2)
    (far_stop (number_moved a.from a.to a.s.now c.in_ok-j.j) (bytes_moved a.s.now (ends_size a.kind))
    (far_step x k (far_none (then x k)) c.move_bytes.ensures c.in_ok-j.was) c.move_number.ensures c.in_err-k.was)

pub returns : goal.returns
unfolding piece_of_kind
returns c =
    let a = c.args in
    let x = bytes_moved a.s.now 1 a.i in
    let k : ℕ → Part = λ j. then (number_moved a.from a.to a.s.now j) (bytes_moved a.s.now (ends_size a.kind)) in
    far_last (bytes_moved a.s.now (ends_size a.kind) c.in_ok-k.k)
    (far_step (number_moved a.from a.to a.s.now c.in_ok-j.j) (bytes_moved a.s.now (ends_size a.kind))
    (far_step x k (far_none (then x k)) c.move_bytes.ensures c.in_ok-j.was) c.move_number.ensures c.in_ok-k.was)
    (rw c.ends_size.ensures.0 at c.move_bytes-2.ensures)
