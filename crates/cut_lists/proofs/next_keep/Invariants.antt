use Prim.Native.Nat.{◌+◌, ◌≤◌}
use mathlib.Core.Path.{◌≡◌}
use mathlib.Core.List.{◌++◌}
use lib.ListN.{length, drop}
use Rattle.better.specs.Buffers.{pairs}
use Rattle.trim_model.specs.Intervals.{next}
use Rattle.cut_lists.proofs.next_keep.Given as goal

abbrev pub invariant-loop-i : goal.invariant-loop-i
invariant-loop-i l = (l.n + l.n ≤ length l.out) × (length l.out ≡ length l.initial.out) × (next l.lo l.hi (pairs l.m l.better) (pairs l.k l.keep) ≡ pairs l.n l.out ++ next l.lo l.hi (pairs l.m l.better) (drop l.i (pairs l.k l.keep)))
