-- The plane of a face in the frame of one of its edges, and the frame of another of its edges in it: `pos`, `xh`, `yh` and `map` of the Rust's `propagate`. Definitions only.
use Rattle.std.specs.Prelude.{cond, eqb, Float, if◌then◌else◌}
use Rattle.std.specs.Float.Ieee.{neg, lt}
use Rattle.buffers.specs.declared.VertexId.{VertexId}
use Rattle.float64.specs.Scalar.{zero64}
use Rattle.float64.specs.Notation.{◌⊕◌, ◌⊖◌, ◌⊗◌, ◌⊘◌}
use Rattle.propagation.specs.declared.Vec2.{Vec2}
use Rattle.propagation.specs.declared.FaceAhead.{FaceAhead}
use Rattle.propagation.specs.declared.FaceVertex.{FaceVertex}
use Rattle.propagation.specs.declared.FaceVertex.TheVariants.{A, B, C}
use Rattle.propagation.specs.declared.Side.{Side}
use Rattle.propagation.specs.declared.Side.TheVariants.{First, Second}
use Rattle.propagation.specs.declared.Frame.{Frame}
use Rattle.propagation.specs.declared.NextEdge.{NextEdge}

-- which of the face's vertices k is: the first end a of the window's edge, its second b, or the opposite one
unfoldable pub vertex_of : VertexId → VertexId → VertexId → FaceVertex
vertex_of k a b = cond (eqb k.0 a.0) A (cond (eqb k.0 b.0) B C)

-- where the face's vertices stand: its edge goes from (0, 0) to (l, 0), and the opposite vertex is at (cx, cy)
unfoldable pub pos_of : FaceAhead → FaceVertex → Vec2
pos_of g A = record { x = zero64; y = zero64 }
pos_of g B = record { x = g.l; y = zero64 }
pos_of g C = record { x = g.cx; y = g.cy }

-- the vertex that the next edge of a side does not have
abbrev pub rest_of : Side → FaceVertex
rest_of First = B
rest_of Second = A

-- xh turned by a quarter, and then away from the rest of the face
unfoldable pub yh_of : Vec2 → Vec2 → Vec2 → Vec2
yh_of o xh rest =
    let yh : Vec2 = record { x = neg xh.y; y = xh.x } in
    if lt zero64 ((rest.x ⊖ o.x) ⊗ yh.x ⊕ (rest.y ⊖ o.y) ⊗ yh.y) then record { x = neg yh.x; y = neg yh.y } else
    yh

-- the frame of the edge of length ln from o to qq
unfoldable pub frame_between : Vec2 → Vec2 → Vec2 → Float → Frame
frame_between o qq rest ln =
    let xh : Vec2 = record { x = (qq.x ⊖ o.x) ⊘ ln; y = (qq.y ⊖ o.y) ⊘ ln } in
    record { o = o; xh = xh; yh = yh_of o xh rest }

unfoldable pub frame_of : FaceAhead → Side → NextEdge → Frame
frame_of g side ne = frame_between (pos_of g ne.p) (pos_of g ne.q) (pos_of g (rest_of side)) ne.ln

-- a direction, and a point, in the frame
abbrev pub turn_to : Frame → Vec2 → Vec2
turn_to f d = record { x = d.x ⊗ f.xh.x ⊕ d.y ⊗ f.xh.y; y = d.x ⊗ f.yh.x ⊕ d.y ⊗ f.yh.y }

unfoldable pub map_to : Frame → Vec2 → Vec2
map_to f pt = turn_to f (record { x = pt.x ⊖ f.o.x; y = pt.y ⊖ f.o.y })
