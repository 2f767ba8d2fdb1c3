-- `edge_table::enter_side` meets its contract: each way out is a law of Turns. Assumes nothing.
use mathlib.Core.Path.{refl}
use lib.ListN.{length}
use native.Mathlib.Omega.{arith}
use Rattle.edge_table.proofs.Turns.{side_is, ends_below, links_fall, side_missing, side_found, few, new_done, found_done, third_done}
use Rattle.edge_table.proofs.enter_side.Goals as goal

pub overflow_cast-triangles : goal.overflow_cast-triangles
overflow_cast-triangles c =
    omega (arith, c.requires.mesh.whole, c.requires.mesh.few_triangles)

pub bucket_of-bucket-requires : goal.bucket_of-bucket-requires
bucket_of-bucket-requires c =
    let a = c.args in
    let r = c.requires in
    ends_below a.triangles.now a.h 65535 r.mesh r.side _ _
    (side_is a.triangles.now a.h _ _ c.read_u32-a.ensures c.read_u32-b.ensures _ _ c.lower_of-low.ensures c.higher_of-high.ensures)

pub find_in_bucket-link-requires : goal.find_in_bucket-link-requires
find_in_bucket-link-requires c =
    let a = c.args in
    links_fall a.triangles.now (length a.triangles.now) a.h a.heads.now a.edge_words.now a.triangle_words.now c.requires.words

pub add_edge-requires : goal.add_edge-requires
add_edge-requires c =
    let a = c.args in
    let r = c.requires in
    let q = side_is a.triangles.now a.h _ _ c.read_u32-a.ensures c.read_u32-b.ensures _ _ c.lower_of-low.ensures c.higher_of-high.ensures in
    omega (arith, few a.triangles.now (length a.triangles.now) a.h a.heads.now a.edge_words.now a.triangle_words.now r.mesh r.long r.side refl r.words, r.counted)

pub overflow_add-result : goal.overflow_add-result
overflow_add-result c =
    let a = c.args in
    let r = c.requires in
    let q = side_is a.triangles.now a.h _ _ c.read_u32-a.ensures c.read_u32-b.ensures _ _ c.lower_of-low.ensures c.higher_of-high.ensures in
    record { fits = omega (arith, few a.triangles.now (length a.triangles.now) a.h a.heads.now a.edge_words.now a.triangle_words.now r.mesh r.long r.side refl r.words, r.counted) }

pub shape_of-heads-then-link-eq0 : goal.shape_of-heads-then-link-eq0
shape_of-heads-then-link-eq0 c = c.add_edge.auto.heads

pub shape_of-edge_words-then-link-eq0 : goal.shape_of-edge_words-then-link-eq0
shape_of-edge_words-then-link-eq0 c = c.add_edge.auto.edge_words

pub shape_of-triangle_words-then-link-eq0 : goal.shape_of-triangle_words-then-link-eq0
shape_of-triangle_words-then-link-eq0 c = c.write_u32.auto.s

pub returns-then-link-eq0 : goal.returns-then-link-eq0
returns-then-link-eq0 c =
    let a = c.args in
    let r = c.requires in
    let q = side_is a.triangles.now a.h _ _ c.read_u32-a.ensures c.read_u32-b.ensures _ _ c.lower_of-low.ensures c.higher_of-high.ensures in
    new_done a.triangles.now (length a.triangles.now) a.h a.heads.now a.edge_words.now a.triangle_words.now r.mesh r.long r.side refl r.words _ _ _ _ _ _ _
    (side_missing a.triangles.now (length a.triangles.now) a.h a.heads.now a.edge_words.now a.triangle_words.now r.words _ _ _ _ _ q c.bucket_of-bucket.ensures c.read_u32-head.ensures c.find_in_bucket-link.ensures c.if-link-eq0.true)
    q c.bucket_of-bucket.ensures r.counted c.add_edge.ensures.0 c.add_edge.ensures.1 c.write_u32.ensures

pub returns-then-read_u32-none : goal.returns-then-read_u32-none
returns-then-read_u32-none c =
    let a = c.args in
    let r = c.requires in
    let q = side_is a.triangles.now a.h _ _ c.read_u32-a.ensures c.read_u32-b.ensures _ _ c.lower_of-low.ensures c.higher_of-high.ensures in
    third_done a.triangles.now (length a.triangles.now) a.h a.heads.now a.edge_words.now a.triangle_words.now r.mesh r.long r.side refl r.words _ _ _ _
    (side_found a.triangles.now (length a.triangles.now) a.h a.heads.now a.edge_words.now a.triangle_words.now r.words _ _ _ _ _ q c.bucket_of-bucket.ensures c.read_u32-head.ensures c.find_in_bucket-link.ensures c.if-link-eq0.false)
    _ c.read_u32.ensures (rw c.no_face-none.ensures at c.if-read_u32-none.true)

pub shape_of-edge_words : goal.shape_of-edge_words
shape_of-edge_words c = c.write_u32-2.auto.s

pub shape_of-triangle_words : goal.shape_of-triangle_words
shape_of-triangle_words c = c.write_u32-3.auto.s

pub returns : goal.returns
returns c =
    let a = c.args in
    let r = c.requires in
    let q = side_is a.triangles.now a.h _ _ c.read_u32-a.ensures c.read_u32-b.ensures _ _ c.lower_of-low.ensures c.higher_of-high.ensures in
    found_done a.triangles.now (length a.triangles.now) a.h a.heads.now a.edge_words.now a.triangle_words.now r.mesh r.long r.side refl r.words _ _ _ _ _
    (side_found a.triangles.now (length a.triangles.now) a.h a.heads.now a.edge_words.now a.triangle_words.now r.words _ _ _ _ _ q c.bucket_of-bucket.ensures c.read_u32-head.ensures c.find_in_bucket-link.ensures c.if-link-eq0.false)
    r.counted
    _ c.read_u32.ensures (rw c.no_face-none.ensures at c.if-read_u32-none.false)
    refl c.write_u32-2.ensures c.write_u32-3.ensures
