use mathlib.Core.Path.{sym}
use lib.ListN.{get_or-eq_default}
use lib.Ieee.{nan, div, of_bits}
use Rattle.frames.proofs.real.Goals as goal

pub returns-else-i-reals : goal.returns-else-i-reals
unfolding div of_bits
returns-else-i-reals c = sym (get_or-eq_default c.args.reals.now nan c.if-i-reals.false)
