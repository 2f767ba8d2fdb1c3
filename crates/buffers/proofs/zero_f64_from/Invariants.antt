use mathlib.Core.Path.{◌≡◌}
use lib.ListN.{length}
use Rattle.float64.specs.Scalar.{zero64}
use Rattle.buffers.specs.Zero.{zero_from}
use Rattle.buffers.proofs.zero_f64_from.Given as goal

abbrev pub invariant-loop-i : goal.invariant-loop-i
invariant-loop-i l = (length l.s ≡ length l.initial.s) × (zero_from zero64 l.n l.initial.s ≡ zero_from zero64 l.i l.s)
