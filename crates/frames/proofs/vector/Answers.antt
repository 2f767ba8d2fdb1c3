use Prim.Native.Nat.{◌+◌}
use mathlib.Core.Path.{◌∙◌}
use native.Mathlib.Omega.{arith}
use Rattle.buffers.proofs.Strides.{index_fits}
use Rattle.frames.proofs.Turns.{vector_at_lem}
use Rattle.frames.proofs.vector.Goals as goal

pub overflow_mul-stride : goal.overflow_mul-stride
overflow_mul-stride c = omega (arith, index_fits c.args.stride c.args.slot c.args.field (omega arith) (omega arith) (omega arith))

pub overflow_add-stride : goal.overflow_add-stride
overflow_add-stride c = omega (arith, index_fits c.args.stride c.args.slot c.args.field (omega arith) (omega arith) (omega arith))

pub vector_from-requires : goal.vector_from-requires
vector_from-requires c = let a = c.args in omega (arith, index_fits a.stride a.slot (a.field + 2) (omega arith) (omega arith) (omega (arith, c.requires)))

pub returns : goal.returns
returns c = let a = c.args in c.vector_from.ensures ∙ vector_at_lem a.stride a.reals.now a.slot a.field
