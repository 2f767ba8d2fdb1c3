use Prim.Native.Nat.{◌≤◌}
use Rattle.trim_vectors.proofs.flag_words.Given as goal

abbrev pub invariant-loop-v : goal.invariant-loop-v
invariant-loop-v l = l.v ≤ 8
