use mathlib.Core.Path.{◌≡◌}
use Prim.Native.Nat.{◌≤◌}
use Rattle.source_vectors.specs.Replay.{leaf_differences}
use Rattle.source_vectors.proofs.differences.Given as goal

abbrev pub invariant-loop-k : goal.invariant-loop-k
invariant-loop-k l = (l.count ≤ l.k) × (l.count ≡ leaf_differences l.f l.s l.k)
