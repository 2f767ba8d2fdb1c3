use Prim.Native.Nat.{◌+◌, ◌*◌, ◌≤◌}
use mathlib.Core.Path.{◌≡◌}
use lib.ListN.{length}
use Rattle.text_out.specs.Text.{Puts}
use Rattle.stl_format.specs.Format.{records_bytes}
use Rattle.stl.proofs.put_records.Given as goal

abbrev pub invariant-loop-t : goal.invariant-loop-t
invariant-loop-t l = (l.t ≤ l.n) × ((l.at ≡ l.i + 50 * l.t) × ((length l.out ≡ length l.initial.out) × Puts l.initial.out l.i (records_bytes l.vertices l.triangles l.t) l.out l.at))
