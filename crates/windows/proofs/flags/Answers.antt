use native.Mathlib.Omega.{arith}
use Rattle.layout.specs.Layout.{line_flag, alive_flag, queued_flag}
use Rattle.windows.proofs.WindowList.{weight_le}
use Rattle.windows.proofs.flags.Goals as goal

pub overflow_add-result : goal.overflow_add-result
overflow_add-result c = omega (arith, weight_le c.args.line line_flag, weight_le c.args.alive alive_flag, c.weight.ensures, c.weight-2.ensures)

pub overflow_add-result-2 : goal.overflow_add-result-2
overflow_add-result-2 c = omega (arith, weight_le c.args.line line_flag, weight_le c.args.alive alive_flag, weight_le c.args.queued queued_flag, c.weight.ensures, c.weight-2.ensures, c.weight-3.ensures)
