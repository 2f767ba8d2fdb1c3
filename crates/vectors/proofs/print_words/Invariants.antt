-- `vectors::print_words` reads within the slice, and ends. Assumes nothing.
use Prim.Native.Nat.{◌≤◌}
use Rattle.vectors.proofs.print_words.Given as goal

abbrev pub invariant-loop-i : goal.invariant-loop-i
invariant-loop-i g l = l.i ≤ l.n
