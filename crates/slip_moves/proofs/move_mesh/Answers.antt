-- `slip_moves::move_mesh` meets its contract. Assumes nothing.
use Rattle.slip_moves.specs.Moves.{Part, then, bytes_moved, numbers_moved, mesh_moved}
use Rattle.slip_moves.proofs.Parts.{far_none, far_stop, far_step, far_last}
use Rattle.slip_moves.proofs.Reach.{reach_bytes, reach_numbers, stepped}
use Prim.Native.Nat.{ℕ, ◌*◌}
use native.Mathlib.Omega.{arith}
use Rattle.std.proofs.lemmas.Result.{err_from_is_err_and}
use Rattle.slip_moves.proofs.move_mesh.Goals as goal

pub move_numbers-requires : goal.move_numbers-requires
move_numbers-requires c =
    let a = c.args in
    let near = stepped a.i (24 * a.vertices) (bytes_moved a.s.now (24 * a.vertices) a.i) (reach_bytes a.s.now (24 * a.vertices) a.i) c.move_bytes.ensures c.in_ok-j.was in
    (omega (arith, near.0, c.requires), (omega (arith, near.1, c.requires), omega (arith, c.requires)))

pub move_bytes-requires-2 : goal.move_bytes-requires-2
move_bytes-requires-2 c =
    let a = c.args in
    let near = stepped a.i (24 * a.vertices) (bytes_moved a.s.now (24 * a.vertices) a.i) (reach_bytes a.s.now (24 * a.vertices) a.i) c.move_bytes.ensures c.in_ok-j.was in
    let next = stepped c.in_ok-j.j (5 * (3 * a.triangles)) (numbers_moved a.from a.to a.s.now (3 * a.triangles) c.in_ok-j.j) (reach_numbers a.from a.to a.s.now (3 * a.triangles) c.in_ok-j.j) c.move_numbers.ensures c.in_ok-k.was in
    (omega (arith, near.0, next.0, c.requires), (omega (arith, near.1, next.1, c.requires), omega (arith, c.requires)))

pub returns-in_err-j : goal.returns-in_err-j
unfolding mesh_moved
returns-in_err-j c =
    let a = c.args in
    let x = bytes_moved a.s.now (24 * a.vertices) a.i in
    let k : ℕ → Part = λ j. then (numbers_moved a.from a.to a.s.now (3 * a.triangles) j) (bytes_moved a.s.now a.vertices) in
    let p = err_from_is_err_and c.from_residual.result c.from_residual.ensures.1 in
    rw (p.1, p.2)
    (far_stop x k (far_none (then x k)) c.move_bytes.ensures c.in_err-j.was)

pub returns-in_err-k : goal.returns-in_err-k
unfolding mesh_moved
returns-in_err-k c =
    let a = c.args in
    let x = bytes_moved a.s.now (24 * a.vertices) a.i in
    let k : ℕ → Part = λ j. then (numbers_moved a.from a.to a.s.now (3 * a.triangles) j) (bytes_moved a.s.now a.vertices) in
    let p = err_from_is_err_and c.from_residual-in_err-k.result c.from_residual-in_err-k.ensures.1 in
    rw (p.1, p.2)
    (far_stop (numbers_moved a.from a.to a.s.now (3 * a.triangles) c.in_ok-j.j) (bytes_moved a.s.now a.vertices)
    (far_step x k (far_none (then x k)) c.move_bytes.ensures c.in_ok-j.was) c.move_numbers.ensures c.in_err-k.was)

pub returns : goal.returns
unfolding mesh_moved
returns c =
    let a = c.args in
    let x = bytes_moved a.s.now (24 * a.vertices) a.i in
    let k : ℕ → Part = λ j. then (numbers_moved a.from a.to a.s.now (3 * a.triangles) j) (bytes_moved a.s.now a.vertices) in
    far_last (bytes_moved a.s.now a.vertices c.in_ok-k.k)
    (far_step (numbers_moved a.from a.to a.s.now (3 * a.triangles) c.in_ok-j.j) (bytes_moved a.s.now a.vertices)
    (far_step x k (far_none (then x k)) c.move_bytes.ensures c.in_ok-j.was) c.move_numbers.ensures c.in_ok-k.was)
    c.move_bytes-2.ensures
