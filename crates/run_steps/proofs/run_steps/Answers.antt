-- `run_steps::run_steps` meets its contract. Assumes nothing.
use mathlib.Core.Path.{◌∙◌}
use Rattle.std.specs.declared.result.Result.TheVariants.{Err}
use Rattle.windows.specs.Windows.{capacity_of}
use lib.ListN.{length}
use Rattle.advance.specs.of_cut_lists.Buffers.{cut_buffers}
use Rattle.insert_job.specs.of_trim.Buffers.{slices}
use Rattle.run_steps.proofs.Running.{run_wedge, run_lack, run_from_lem, counts_within}
use Rattle.run_steps.proofs.run_steps.Goals as goal

pub advance-advanced-requires : goal.advance-advanced-requires
advance-advanced-requires c =
    let a = c.args in
    (counts_within (capacity_of (length a.words.now) (length a.reals.now)) a.from c.in-Ok.counts c.in-Ok.is c.requires.0, c.requires.1)

pub returns-in-Err-Wedge : goal.returns-in-Err-Wedge
returns-in-Err-Wedge c =
    let a = c.args in
    let e = rw c.in-Err-Wedge.is at c.in-Err-Wedge.field-0-is in
    run_wedge a.limit a.n a.most a.vertices.now a.triangles.now a.vertex_words.now a.round.now a.edge_reals.now a.triangle_words.now a.triangle_reals.now
    (slices a.edge_words.now a.words.now a.reals.now a.keys.now a.events.now a.vertex.now) (cut_buffers a.pts.now a.out.now a.keep.now a.next.now)
    a.from (c.in-Err-Wedge.is ∙ (λ i. Err (e i))) (slices a.edge_words.now a.words.now a.reals.now a.keys.now a.events.now a.vertex.now)

pub returns-in-Err-NoSlot : goal.returns-in-Err-NoSlot
returns-in-Err-NoSlot c =
    let a = c.args in
    let e = rw c.in-Err-NoSlot.is at c.in-Err-NoSlot.field-0-is in
    run_lack a.limit a.n a.most a.vertices.now a.triangles.now a.vertex_words.now a.round.now a.edge_reals.now a.triangle_words.now a.triangle_reals.now
    (slices a.edge_words.now a.words.now a.reals.now a.keys.now a.events.now a.vertex.now) (cut_buffers a.pts.now a.out.now a.keep.now a.next.now)
    a.from c.in-Err-NoSlot.lack (c.in-Err-NoSlot.is ∙ (λ i. Err (e i))) c.lack_number.result c.lack_number.ensures (slices a.edge_words.now a.words.now a.reals.now a.keys.now a.events.now a.vertex.now)

pub returns-in-Ok : goal.returns-in-Ok
returns-in-Ok c =
    let a = c.args in
    let r = c.advance-advanced in
    run_from_lem a.limit a.n a.most a.vertices.now a.triangles.now a.vertex_words.now a.round.now a.edge_reals.now a.triangle_words.now a.triangle_reals.now
    (slices a.edge_words.now a.words.now a.reals.now a.keys.now a.events.now a.vertex.now) (cut_buffers a.pts.now a.out.now a.keep.now a.next.now)
    a.from c.in-Ok.counts c.in-Ok.is r.result (slices r.new.edge_words r.new.words r.new.reals r.new.keys r.new.events r.new.vertex) c.after_steps.result c.after_steps.ensures r.ensures
