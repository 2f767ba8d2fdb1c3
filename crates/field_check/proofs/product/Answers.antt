use native.Mathlib.Omega.{arith}
use Rattle.buffers.proofs.Strides.{index_fits}
use Rattle.field_check.proofs.product.Goals as goal

pub overflow_mul-result : goal.overflow_mul-result
overflow_mul-result c = omega (arith, index_fits c.args.a c.args.b 0 (omega arith) (omega arith) (omega arith))
