use Rattle.slip_write.specs.Write.{numbers_bytes}
use Rattle.text_out.specs.Text.{Puts}
use lib.ListN.{length}
use mathlib.Core.Path.{◌≡◌}
use Prim.Native.Nat.{◌+◌, ◌*◌}
use Rattle.slip_write.proofs.put_numbers.Given as goal

abbrev pub invariant-loop-x : goal.invariant-loop-x
invariant-loop-x l = (l.at ≡ l.i + 4 * l.x-index) × ((length l.out ≡ length l.initial.out) × Puts l.initial.out l.i (numbers_bytes l.xs l.x-index) l.out l.at)
