use Rattle.slip_write.specs.Write.{pieces_bytes}
use Rattle.text_out.specs.Text.{Puts}
use lib.ListN.{length}
use mathlib.Core.Path.{◌≡◌}
use Prim.Native.Nat.{◌+◌, ◌*◌, ◌≤◌}
use Rattle.slip_write.proofs.put_pieces.Given as goal

abbrev pub invariant-loop-k : goal.invariant-loop-k
invariant-loop-k l = (l.k ≤ length l.kinds) × ((l.at ≤ l.i + 53 * l.k) × ((length l.out ≡ length l.initial.out) × Puts l.initial.out l.i (pieces_bytes l.kinds l.faces l.coords l.k) l.out l.at))
