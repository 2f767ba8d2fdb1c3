use Prim.Native.Nat.{◌+◌, ◌≤◌}
use mathlib.Core.Path.{◌≡◌}
use mathlib.Core.List.{◌++◌}
use lib.ListN.{length, drop}
use Rattle.better.specs.Buffers.{pairs}
use Rattle.trim_model.specs.Intervals.{cuts_within}
use Rattle.cut_lists.proofs.push_cuts.Given as goal

abbrev pub invariant-loop-i : goal.invariant-loop-i
invariant-loop-i l = (l.k + l.k ≤ length l.out) × (length l.out ≡ length l.initial.out) × (pairs l.n l.initial.out ++ cuts_within l.o0 l.o1 (pairs l.m l.better) ≡ pairs l.k l.out ++ cuts_within l.o0 l.o1 (drop l.i (pairs l.m l.better)))
