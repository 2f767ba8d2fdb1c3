-- `segments_behind::has_vertex` meets its contract. Assumes nothing.
use Rattle.segments_behind.proofs.Finding.{first_vertex, second_vertex, third_vertex, no_vertex}
use Rattle.segments_behind.proofs.has_vertex.Goals as goal

pub returns-then-read_u32-k : goal.returns-then-read_u32-k
returns-then-read_u32-k c =
    let a = c.args in
    first_vertex a.triangles.now a.g.0 a.k.0 _ c.read_u32.ensures c.if-read_u32-k.true

pub returns-then-read_u32-k-2 : goal.returns-then-read_u32-k-2
returns-then-read_u32-k-2 c =
    let a = c.args in
    second_vertex a.triangles.now a.g.0 a.k.0 _ c.read_u32.ensures c.if-read_u32-k.false _ c.read_u32-2.ensures c.if-read_u32-k-2.true

pub returns-then-read_u32-k-3 : goal.returns-then-read_u32-k-3
returns-then-read_u32-k-3 c =
    let a = c.args in
    third_vertex a.triangles.now a.g.0 a.k.0 _ c.read_u32.ensures c.if-read_u32-k.false _ c.read_u32-2.ensures c.if-read_u32-k-2.false _ c.read_u32-3.ensures c.if-read_u32-k-3.true

pub returns : goal.returns
returns c =
    let a = c.args in
    no_vertex a.triangles.now a.g.0 a.k.0 _ c.read_u32.ensures c.if-read_u32-k.false _ c.read_u32-2.ensures c.if-read_u32-k-2.false _ c.read_u32-3.ensures c.if-read_u32-k-3.false
