use Prim.Native.Nat.{◌<◌}
use Rattle.slip_vectors.proofs.check_sum.Given as goal

abbrev pub invariant-loop-b : goal.invariant-loop-b
invariant-loop-b l = l.sum < 4_294_967_291
