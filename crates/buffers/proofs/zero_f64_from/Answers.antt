use borrow.Author.Rules.{rules}
use mathlib.Core.Path.{refl, sym, ◌∙◌}
use native.Mathlib.Omega.{arith}
use Rattle.float64.specs.Scalar.{zero64}
use Rattle.buffers.proofs.Zeroing.{zero_more, zero_end}
use Rattle.buffers.proofs.zero_f64_from.Goals as goal

pub loop-i-init : goal.loop-i-init
loop-i-init c = (refl, refl)

pub loop-i-preserved : goal.loop-i-preserved
loop-i-preserved c = (search rules, c.loop-i.invariant.1 ∙ zero_more zero64 c.loop-i.i c.loop-i.s (omega arith))

pub returns : goal.returns
returns c = zero_end zero64 c.loop-i.i c.loop-i.s (omega arith) ∙ sym c.loop-i.invariant.1
