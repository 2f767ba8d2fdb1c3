use Prim.Native.Nat.{◌≤◌}
use mathlib.Core.Path.{◌≡◌}
use lib.ListN.{length, take}
use Rattle.stl_format.specs.Format.{first_points}
use Rattle.stl_table.specs.Keys.{same_at}
use Rattle.stl_table.specs.Table.{VertexTable}
use Rattle.stl_table.proofs.build.Given as goal

abbrev pub invariant-loop-h : goal.invariant-loop-h
invariant-loop-h l =
    (l.h ≤ l.points)
    × ((length l.heads ≡ length l.initial.heads)
    × ((length l.links ≡ length l.initial.links)
    × ((length l.firsts ≡ length l.initial.firsts) × ((l.count ≤ 65535) × (VertexTable l.s l.count l.heads l.links l.firsts × (take l.count l.firsts ≡ first_points (same_at l.s) l.h))))))
