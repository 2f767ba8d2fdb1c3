use mathlib.Core.Path.{◌≡◌}
use Prim.Native.Nat.{◌+◌, ◌-◌, ◌*◌, ◌^◌, ◌≤◌}
use lib.ListN.{take, drop}
use Rattle.vectors.specs.Records.{little_endian}
use Rattle.vectors.proofs.word.Given as goal

abbrev pub invariant-loop-j : goal.invariant-loop-j
invariant-loop-j l = (l.j ≤ 8) × (l.r ≡ little_endian (take (8 - l.j) (drop (l.i + l.j) l.s))) × ((l.r + 1) * 2 ^ (8 * l.j) ≤ 2 ^ 64)

abbrev pub decreases-loop-j : goal.decreases-loop-j
decreases-loop-j l = l.j
