use mathlib.Core.Path.{◌≡◌}
use Prim.Native.Nat.{◌≤◌}
use Rattle.better_vectors.specs.Replay.{other_floats}
use Rattle.better_vectors.proofs.other_floats.Given as goal

abbrev pub invariant-loop-k : goal.invariant-loop-k
invariant-loop-k l = (l.k ≤ l.n) × (l.count ≤ l.k) × (l.count ≡ other_floats l.out l.s l.i l.k)
