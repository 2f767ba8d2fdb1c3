use native.Mathlib.Omega.{arith}
use mathlib.Core.Path.{sym}
use lib.Seq.{set_out}
use Rattle.buffers.proofs.Strides.{index_fits}
use Rattle.buffers.proofs.write_u32.Goals as goal

pub overflow_mul-i : goal.overflow_mul-i
overflow_mul-i c = omega (arith, index_fits c.args.stride c.args.slot c.args.field (omega arith) (omega arith) (omega arith))

pub overflow_add-i : goal.overflow_add-i
overflow_add-i c = omega (arith, index_fits c.args.stride c.args.slot c.args.field (omega arith) (omega arith) (omega arith))

pub returns-else-i-s : goal.returns-else-i-s
returns-else-i-s c = sym (set_out _ _ _ c.if-i-s.false)
