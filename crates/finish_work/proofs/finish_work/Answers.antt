-- `finish_work::finish_work` meets its contract. Assumes nothing.
use lib.ListN.{length}
use Rattle.windows.specs.Windows.{capacity_of}
use Rattle.run_steps.specs.of_cut_lists.Buffers.{cut_buffers}
use Rattle.finish.specs.of_trim.Buffers.{slices}
use Rattle.finish_work.proofs.Ending.{end_refused, end_done, done_within}
use Rattle.finish_work.proofs.finish_work.Goals as goal

pub finish-requires : goal.finish-requires
finish-requires c =
    let a = c.args in
    (done_within (capacity_of (length a.words.now) (length a.reals.now)) a.work c.in-Done.counts c.in-Done.field-1 c.in-Done.is c.requires.0, c.requires.1)

pub returns-in-Refused : goal.returns-in-Refused
returns-in-Refused c =
    let a = c.args in
    end_refused a.work c.in-Refused.field-0 c.in-Refused.is a.edges a.edge_reals.now (slices a.edge_words.now a.words.now a.reals.now a.keys.now a.events.now a.vertex.now) (cut_buffers a.pts.now a.out.now a.keep.now a.next.now)

pub returns-in-Done : goal.returns-in-Done
returns-in-Done c =
    let a = c.args in
    let f = c.finish in
    end_done a.work c.in-Done.counts c.in-Done.field-1 c.in-Done.is a.edges a.edge_reals.now (slices a.edge_words.now a.words.now a.reals.now a.keys.now a.events.now a.vertex.now) (cut_buffers a.pts.now a.out.now a.keep.now a.next.now)
    (slices f.new.edge_words a.words.now a.reals.now f.new.keys f.new.events f.new.vertex) (cut_buffers f.new.pts f.new.out f.new.keep f.new.next) f.ensures
