use native.Mathlib.Omega.{arith}
use mathlib.Core.Path.{sym}
use lib.ListN.{get_or-eq_default}
use Rattle.buffers.proofs.Strides.{index_fits}
use Rattle.buffers.proofs.read_u32.Goals as goal

pub overflow_mul-i : goal.overflow_mul-i
overflow_mul-i c = omega (arith, index_fits c.args.stride c.args.slot c.args.field (omega arith) (omega arith) (omega arith))

pub overflow_add-i : goal.overflow_add-i
overflow_add-i c = omega (arith, index_fits c.args.stride c.args.slot c.args.field (omega arith) (omega arith) (omega arith))

pub returns-else-i-s : goal.returns-else-i-s
returns-else-i-s c = sym (get_or-eq_default c.args.s.now 0 c.if-i-s.false)
