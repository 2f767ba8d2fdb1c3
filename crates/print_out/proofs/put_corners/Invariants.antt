use Rattle.print_out.specs.PrintOut.{corner_lines}
use Rattle.text_out.specs.Text.{Puts}
use lib.ListN.{length}
use mathlib.Core.Path.{◌≡◌}
use Prim.Native.Nat.{◌+◌, ◌*◌, ◌≤◌}
use Rattle.print_out.proofs.put_corners.Given as goal

abbrev pub invariant-loop-k : goal.invariant-loop-k
invariant-loop-k l = (l.k ≤ l.n) × ((l.at ≤ l.i + 388 * l.k) × ((length l.out ≡ length l.initial.out) × Puts l.initial.out l.i (corner_lines l.vertex l.k) l.out l.at))
