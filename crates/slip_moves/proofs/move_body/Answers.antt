-- `slip_moves::move_body` meets its contract. Assumes nothing.
use Rattle.slip_moves.specs.Moves.{stop, then, mesh_moved, rest_moved, body_moved, ended}
use Rattle.slip_moves.proofs.Parts.{far_none, far_is, far_stop, far_step, far_last, far_end, moves_stop, then_assoc}
use Rattle.slip_moves.proofs.Reach.{reach_mesh, stepped}
use Rattle.slip_moves.proofs.Ways.{bytes_left, at_end_lem}
use Prim.Native.Nat.{ℕ, ◌+◌, ◌*◌}
use mathlib.Core.Path.{refl}
use native.Mathlib.Omega.{arith}
use Rattle.std.proofs.lemmas.Result.{err_from_is_err_and}
use Rattle.slip_moves.proofs.move_body.Goals as goal

pub move_rest-requires : goal.move_rest-requires
move_rest-requires c =
    let a = c.args in
    let near = stepped a.i (25 * a.vertices + 15 * a.triangles) (mesh_moved a.from a.to a.s.now a.vertices a.triangles a.i) (reach_mesh a.from a.to a.s.now a.vertices a.triangles a.i) c.move_mesh.ensures c.in_ok-j.was in
    (omega (arith, near.0, c.requires), (omega (arith, near.1, c.requires), c.requires.1.1.1.1))

pub returns-then-k-s : goal.returns-then-k-s
unfolding body_moved
returns-then-k-s c =
    let a = c.args in
    let x = mesh_moved a.from a.to a.s.now a.vertices a.triangles a.i in
    let y = rest_moved a.from a.to a.s.now a.pieces in
    let e = ended a.s.now in
    let start = far_is (then_assoc x y e) (far_none (then (then x y) e)) in
    let two = far_step (y c.in_ok-j.j) e (far_step x (λ (j : ℕ). then (y j) e) start c.move_mesh.ensures c.in_ok-j.was) c.move_rest.ensures c.in_ok-k.was in
    far_last (stop _) (far_is (bytes_left a.s.now c.in_ok-k.k c.if-k-s.true) two) (moves_stop refl refl)

pub returns-in_err-j : goal.returns-in_err-j
unfolding body_moved
returns-in_err-j c =
    let a = c.args in
    let x = mesh_moved a.from a.to a.s.now a.vertices a.triangles a.i in
    let y = rest_moved a.from a.to a.s.now a.pieces in
    let e = ended a.s.now in
    let start = far_is (then_assoc x y e) (far_none (then (then x y) e)) in
    let p = err_from_is_err_and c.from_residual.result c.from_residual.ensures.1 in
    rw (p.1, p.2)
    (far_stop x (λ (j : ℕ). then (y j) e) start c.move_mesh.ensures c.in_err-j.was)

pub returns-in_err-k : goal.returns-in_err-k
unfolding body_moved
returns-in_err-k c =
    let a = c.args in
    let x = mesh_moved a.from a.to a.s.now a.vertices a.triangles a.i in
    let y = rest_moved a.from a.to a.s.now a.pieces in
    let e = ended a.s.now in
    let start = far_is (then_assoc x y e) (far_none (then (then x y) e)) in
    let p = err_from_is_err_and c.from_residual-in_err-k.result c.from_residual-in_err-k.ensures.1 in
    rw (p.1, p.2)
    (far_stop (y c.in_ok-j.j) e (far_step x (λ (j : ℕ). then (y j) e) start c.move_mesh.ensures c.in_ok-j.was) c.move_rest.ensures c.in_err-k.was)

pub returns : goal.returns
unfolding body_moved
returns c =
    let a = c.args in
    let x = mesh_moved a.from a.to a.s.now a.vertices a.triangles a.i in
    let y = rest_moved a.from a.to a.s.now a.pieces in
    let e = ended a.s.now in
    let start = far_is (then_assoc x y e) (far_none (then (then x y) e)) in
    let two = far_step (y c.in_ok-j.j) e (far_step x (λ (j : ℕ). then (y j) e) start c.move_mesh.ensures c.in_ok-j.was) c.move_rest.ensures c.in_ok-k.was in
    far_end (far_is (at_end_lem a.s.now c.in_ok-k.k c.if-k-s.false) two)
