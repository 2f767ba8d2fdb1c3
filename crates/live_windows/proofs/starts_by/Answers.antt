use mathlib.Core.Path.{ap, ◌∙◌}
use Rattle.float64.specs.TotalOrder.{total_less}
use Rattle.live_windows.proofs.starts_by.Goals as goal

pub returns : goal.returns
returns c = c.total_less.ensures ∙ ap (λ z. total_less z c.args.b0) c.read_f64-start.ensures
