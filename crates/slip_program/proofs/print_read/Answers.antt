-- `slip_program::print_read` meets its contract. Assumes nothing.
use mathlib.Core.Path.{sym}
use lib.ListN.{take}
use lib.Seq.{length-take-le}
use Rattle.job_checks.specs.Job.{job}
use Rattle.slip_program.specs.Program.{job_text}
use Rattle.slip_program.proofs.Texts.{puts_same}
use borrow.Author.Rules.{rules}
use Rattle.slip_program.proofs.print_read.Goals as goal

pub slice_bounds-v-end : goal.slice_bounds-v-end
slice_bounds-v-end c = sym (length-take-le _ _ (search rules))

pub slice_bounds-t-end : goal.slice_bounds-t-end
slice_bounds-t-end c = sym (length-take-le _ _ (search rules))

pub slice_bounds-f-end : goal.slice_bounds-f-end
slice_bounds-f-end c = sym (length-take-le _ _ (search rules))

pub slice_bounds-k-end : goal.slice_bounds-k-end
slice_bounds-k-end c = sym (length-take-le _ _ (search rules))

pub slice_bounds-n-end : goal.slice_bounds-n-end
slice_bounds-n-end c = sym (length-take-le _ _ (search rules))

pub slice_bounds-c-end : goal.slice_bounds-c-end
slice_bounds-c-end c = sym (length-take-le _ _ (search rules))

pub returns : goal.returns
returns c =
    let a = c.args in
    puts_same
    (λ i. job_text
    (job (take (c.least-nv.ensures i) a.vertices.now) (take (c.least-nt.ensures i) a.triangles.now) (take (c.least-nf.ensures i) a.flags.now)
    (take (c.least-nk.ensures i) a.kinds.now) (take (c.least-nn.ensures i) a.faces.now) (take (c.least-nc.ensures i) a.coords.now) a.read.limit))
    c.print_job.ensures
