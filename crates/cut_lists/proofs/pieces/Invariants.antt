use Prim.Native.Nat.{◌+◌, ◌≤◌}
use mathlib.Core.Path.{◌≡◌}
use mathlib.Core.List.{◌++◌}
use lib.ListN.{length, drop}
use Rattle.better.specs.Buffers.{pairs}
use Rattle.trim_model.specs.Intervals.{pieces}
use Rattle.cut_lists.proofs.pieces.Given as goal

abbrev pub invariant-loop-i : goal.invariant-loop-i
invariant-loop-i l = (l.n + l.n ≤ length l.out) × (length l.out ≡ length l.initial.out) × (pieces l.tiny l.b0 l.b1 (pairs l.m l.better) ≡ pairs l.n l.out ++ pieces l.tiny l.at l.b1 (drop l.i (pairs l.m l.better)))
