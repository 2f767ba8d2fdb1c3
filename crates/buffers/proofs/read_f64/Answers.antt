use native.Mathlib.Omega.{arith}
use mathlib.Core.Path.{sym}
use lib.ListN.{get_or-eq_default}
use lib.Ieee.{nan, div, of_bits}
use Rattle.buffers.proofs.Strides.{index_fits}
use Rattle.buffers.proofs.read_f64.Goals as goal

pub overflow_mul-i : goal.overflow_mul-i
overflow_mul-i c = omega (arith, index_fits c.args.stride c.args.slot c.args.field (omega arith) (omega arith) (omega arith))

pub overflow_add-i : goal.overflow_add-i
overflow_add-i c = omega (arith, index_fits c.args.stride c.args.slot c.args.field (omega arith) (omega arith) (omega arith))

pub returns-else-i-s : goal.returns-else-i-s
unfolding div of_bits
returns-else-i-s c = sym (get_or-eq_default c.args.s.now nan c.if-i-s.false)
