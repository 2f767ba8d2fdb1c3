-- `run_steps::after_steps` meets its contract. Assumes nothing.
use mathlib.Core.Path.{sym, ◌∙◌}
use Rattle.run_steps.proofs.Running.{after_stopped, after_done, after_spent}
use Rattle.run_steps.proofs.after_steps.Goals as goal

pub returns-then-none_waits : goal.returns-then-none_waits
returns-then-none_waits c =
    let a = c.args in
    after_done a.keys.now a.events.now a.entries a.advanced c.in-Ok.done c.in-Ok.is (sym c.none_waits.ensures ∙ c.if-none_waits.true)

pub returns-in-Err : goal.returns-in-Err
returns-in-Err c =
    let a = c.args in
    after_stopped a.keys.now a.events.now a.entries a.advanced c.in-Err.lack c.in-Err.is c.lack_number.result c.lack_number.ensures

pub returns-else-none_waits : goal.returns-else-none_waits
returns-else-none_waits c =
    let a = c.args in
    after_spent a.keys.now a.events.now a.entries a.advanced c.in-Ok.done c.in-Ok.is (sym c.none_waits.ensures ∙ c.if-none_waits.false)
