-- `form_read::read` meets its contract. Assumes nothing.
use Rattle.std.proofs.lemmas.Result.{err_from_is_err_and}
use Rattle.form_read.specs.FormReading.{of_slip, form_reading}
use mathlib.Core.Path.{sym, ap, ◌∙◌}
use Rattle.form_read.proofs.read.Goals as goal

pub returns-in_err-read-in-Plain : goal.returns-in_err-read-in-Plain
unfolding form_reading
returns-in_err-read-in-Plain c =
    let told = c.read.ensures in
    let p = err_from_is_err_and c.from_residual.result c.from_residual.ensures.1 in
    rw (p.1, p.2, c.in-Plain.is) (λ i. ((ap of_slip (sym c.in_err-read-in-Plain.was) ∙ ap (λ q. of_slip q.0) told) i, (told i).1))

pub returns-in_ok-read-in-Plain : goal.returns-in_ok-read-in-Plain
unfolding form_reading
returns-in_ok-read-in-Plain c =
    let told = c.read.ensures in
    rw c.in-Plain.is (λ i. ((ap of_slip (sym c.in_ok-read-in-Plain.was) ∙ ap (λ q. of_slip q.0) told) i, (told i).1))

pub returns-in-Groups : goal.returns-in-Groups
unfolding form_reading
returns-in-Groups c = rw c.in-Groups.is c.read_groups.ensures
