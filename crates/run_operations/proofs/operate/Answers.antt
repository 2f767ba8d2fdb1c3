-- `run_operations::operate` meets its contract. Assumes nothing.
use mathlib.Core.Path.{refl}
use Rattle.trim_operations.specs.declared.Op.TheVariants.{Add, Pop, Touch, Unknown}
use Rattle.std.specs.Prelude.{Ok, Err}
use Rattle.trim_operations.specs.declared.OperationRefusal.TheVariants.{UnknownKind}
use Rattle.run_operations.specs.Lists.{setting_of}
use Rattle.trim.specs.Buffers.{slices}
use Rattle.trim.specs.of_cut_lists.Buffers.{cut_buffers}
use Rattle.run_operations.proofs.Steps.{of_op, op_unknown, op_pop, op_touch}
use Rattle.run_operations.proofs.operate.Goals as goal

pub returns-in-Add : goal.returns-in-Add
returns-in-Add c =
    let at-add-candidate = c
    in
    let at_op = at-add-candidate in
    let start = at_op in
    let add-candidate = at-add-candidate.add_candidate in
    let a = start.args in
    let the-slices = slices a.edges.now a.words.now a.reals.now a.keys.now a.events.now a.vertex.now in
    of_op (setting_of (cut_buffers a.pts.now a.out.now a.keep.now a.next.now) the-slices a.limit a.vertex_words.now a.ends.now a.lens.now a.m) a.counts.made
    a.counts.queued a.op (Add c.in-Add.id c.in-Add.w) c.in-Add.is the-slices add-candidate.result
    (slices add-candidate.new.edges add-candidate.new.words add-candidate.new.reals
    add-candidate.new.keys add-candidate.new.events add-candidate.new.vertex)
    add-candidate.ensures

pub returns-in-Pop : goal.returns-in-Pop
returns-in-Pop c =
    let a = c.args in
    let p = c.pop_first-queued in
    let before = slices a.edges.now a.words.now a.reals.now a.keys.now a.events.now a.vertex.now in
    let setting = setting_of (cut_buffers a.pts.now a.out.now a.keep.now a.next.now) before a.limit a.vertex_words.now a.ends.now a.lens.now a.m in
    of_op setting a.counts.made a.counts.queued a.op Pop c.in-Pop.is before (Ok (record { made = a.counts.made; queued = p.result }))
    (slices a.edges.now p.new.words a.reals.now p.new.keys p.new.events a.vertex.now)
    (op_pop setting a.counts.made a.counts.queued c.requires.fits a.edges.now a.words.now a.reals.now a.keys.now a.events.now a.vertex.now c.requires.fits
    p.new.words p.new.keys p.new.events p.result p.ensures)

pub returns-in-Touch : goal.returns-in-Touch
returns-in-Touch c =
    let touch = c.touch in
    let a = c.args in
    let the-settingOf = setting_of (cut_buffers a.pts.now a.out.now a.keep.now a.next.now)
    (slices a.edges.now a.words.now a.reals.now a.keys.now a.events.now a.vertex.now) a.limit a.vertex_words.now a.ends.now a.lens.now a.m in
    of_op the-settingOf a.counts.made a.counts.queued a.op (Touch c.in-Touch.v c.in-Touch.d) c.in-Touch.is
    (slices a.edges.now a.words.now a.reals.now a.keys.now a.events.now a.vertex.now) touch.result
    (slices a.edges.now a.words.now a.reals.now touch.new.keys touch.new.events touch.new.vertex)
    (op_touch the-settingOf a.counts.made a.counts.queued c.requires.fits a.edges.now a.words.now a.reals.now a.keys.now a.events.now a.vertex.now c.in-Touch.v.0
    c.in-Touch.d refl touch.result touch.new.keys touch.new.events touch.new.vertex touch.ensures)

pub returns-in-Unknown : goal.returns-in-Unknown
returns-in-Unknown c =
    let a = c.args in
    let the-slices = slices a.edges.now a.words.now a.reals.now a.keys.now a.events.now a.vertex.now in
    let the-settingOf = setting_of (cut_buffers a.pts.now a.out.now a.keep.now a.next.now) the-slices a.limit a.vertex_words.now a.ends.now a.lens.now a.m in
    of_op the-settingOf a.counts.made a.counts.queued a.op Unknown c.in-Unknown.is the-slices (Err UnknownKind) the-slices (op_unknown the-settingOf a.counts.made a.counts.queued the-slices)
