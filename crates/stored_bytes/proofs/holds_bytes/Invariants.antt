use Prim.Native.Nat.{◌≤◌}
use mathlib.Core.Path.{◌≡◌}
use mathlib.Core.Bool.{false}
use lib.ListN.{length}
use Rattle.job_checks.specs.Any.{any_below}
use Rattle.stored_bytes.specs.Bytes.{unexpected}
use Rattle.stored_bytes.proofs.holds_bytes.Given as goal

abbrev pub invariant-loop-i : goal.invariant-loop-i
invariant-loop-i l = (l.i ≤ length l.out) × (any_below (unexpected l.s l.from l.out l.n) l.i ≡ false)
