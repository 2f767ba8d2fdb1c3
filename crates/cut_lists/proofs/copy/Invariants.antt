use Prim.Native.Nat.{◌≤◌}
use mathlib.Core.Path.{◌≡◌}
use lib.ListN.{length}
use Rattle.better.specs.Buffers.{pairs}
use Rattle.cut_lists.proofs.copy.Given as goal

abbrev pub invariant-loop-i : goal.invariant-loop-i
invariant-loop-i l = (l.i ≤ l.n) × (length l.to ≡ length l.initial.to) × (pairs l.i l.to ≡ pairs l.i l.from)
