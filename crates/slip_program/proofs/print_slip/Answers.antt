-- `slip_program::print_slip` meets its contract. Assumes nothing.
use mathlib.Core.Path.{ap, ◌∙◌}
use Rattle.slip.specs.Reading.{job_rows}
use Rattle.print_out.specs.PrintOut.{refused_line, text_of}
use Rattle.slip_program.proofs.Texts.{puts_same}
use Rattle.slip_program.proofs.Read.{read_printed, refused_printed}
use Rattle.slip_program.proofs.print_slip.Goals as goal

pub returns-in-Ok : goal.returns-in-Ok
returns-in-Ok c =
    let read = c.read-read in
    let a = c.args in
    puts_same (read_printed a.s.now read.result (job_rows read.new.vertices read.new.triangles read.new.flags read.new.kinds read.new.faces read.new.coords) read.ensures c.in-Ok.job c.in-Ok.is) c.print_read.ensures

pub returns-in-Err : goal.returns-in-Err
unfolding text_of
returns-in-Err c =
    let read = c.read-read in
    let a = c.args in
    puts_same
    (ap refused_line c.refusal_number.ensures ∙ refused_printed a.s.now read.result (job_rows read.new.vertices read.new.triangles read.new.flags read.new.kinds read.new.faces read.new.coords) read.ensures c.in-Err.why c.in-Err.is)
    c.print_out.ensures
