use Rattle.print_out.specs.PrintOut.{live_count}
use mathlib.Core.Path.{◌≡◌}
use Prim.Native.Nat.{◌≤◌}
use Rattle.print_out.proofs.live_count.Given as goal

abbrev pub invariant-loop-k : goal.invariant-loop-k
invariant-loop-k l = (l.k ≤ l.n) × ((l.live ≤ l.k) × (l.live ≡ live_count l.words l.k))
