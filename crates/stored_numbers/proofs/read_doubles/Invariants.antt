use Prim.Native.Nat.{◌+◌, ◌*◌}
use lib.ListN.{length}
use mathlib.Core.Path.{◌≡◌}
use lib.Ieee.{nan}
use Rattle.stored_numbers.specs.Numbers.{double_at}
use Rattle.stored_numbers.proofs.Rows.{Written}
use Rattle.stored_numbers.proofs.read_doubles.Given as goal

abbrev pub invariant-loop-i : goal.invariant-loop-i
invariant-loop-i l = (length l.to ≡ length l.initial.to) × Written nan (λ j. double_at l.s (l.k + 2 * j)) l.i l.to
