-- `slip::has_too_many` meets its contract. Assumes nothing.
use native.Mathlib.Omega.{arith}
use borrow.Author.Tests.{lt-ltb, le-ltb}
use Rattle.slip.specs.Format.{vertex_count_in, triangle_count_in, piece_count_in, exceeds}
use Rattle.slip.proofs.has_too_many.Goals as goal

pub returns-then-vertices-count : goal.returns-then-vertices-count
unfolding exceeds
returns-then-vertices-count c =
    let a = c.args in rw (lt-ltb a.vertices (vertex_count_in a.s.now) (omega arith))

pub returns-then-triangles-count : goal.returns-then-triangles-count
unfolding exceeds
returns-then-triangles-count c =
    let a = c.args in rw (le-ltb a.vertices (vertex_count_in a.s.now) (omega arith), lt-ltb a.triangles (triangle_count_in a.s.now) (omega arith))

pub returns-then-pieces-count : goal.returns-then-pieces-count
unfolding exceeds
returns-then-pieces-count c =
    let a = c.args in
    rw (le-ltb a.vertices (vertex_count_in a.s.now) (omega arith), le-ltb a.triangles (triangle_count_in a.s.now) (omega arith), lt-ltb a.pieces (piece_count_in a.s.now) (omega arith))

pub returns : goal.returns
unfolding exceeds
returns c =
    let a = c.args in
    rw (le-ltb a.vertices (vertex_count_in a.s.now) (omega arith), le-ltb a.triangles (triangle_count_in a.s.now) (omega arith), le-ltb a.pieces (piece_count_in a.s.now) (omega arith))
