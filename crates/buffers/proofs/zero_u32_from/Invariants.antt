use mathlib.Core.Path.{◌≡◌}
use lib.ListN.{length}
use Rattle.buffers.specs.Zero.{zero_from}
use Rattle.buffers.proofs.zero_u32_from.Given as goal

abbrev pub invariant-loop-i : goal.invariant-loop-i
invariant-loop-i l = (length l.s ≡ length l.initial.s) × (zero_from 0 l.n l.initial.s ≡ zero_from 0 l.i l.s)
