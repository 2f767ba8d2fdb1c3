-- `source_bounds::near_root` is safe. Assumes nothing.
use native.Mathlib.Omega.{arith}
use Rattle.root_spec.proofs.Floats.{no_nan, low_bits}
use Rattle.source_bounds.proofs.near_root.Goals as goal

pub float_to_bits-b : goal.float_to_bits-b
float_to_bits-b c = no_nan _ c.if-z.false

pub float_from_bits-y0 : goal.float_from_bits-y0
float_from_bits-y0 c = low_bits _ (omega arith)
