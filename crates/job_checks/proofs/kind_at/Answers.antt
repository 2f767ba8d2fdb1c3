-- `job_checks::kind_at` meets its contract. Assumes nothing.
use mathlib.Core.Path.{sym}
use lib.ListN.{get_or-eq_default}
use Rattle.job_checks.proofs.kind_at.Goals as goal

pub returns-else-i-kinds : goal.returns-else-i-kinds
returns-else-i-kinds c = sym (get_or-eq_default c.args.kinds.now 0 c.if-i-kinds.false)
