use Prim.Native.Nat.{◌-◌, ◌≤◌}
use mathlib.Core.Path.{◌≡◌}
use lib.ListN.{length}
use Rattle.nat_laws.specs.Lists.{list_of}
use Rattle.little_endian.specs.Bytes.{put_in_front}
use Rattle.stl_table.specs.Table.{found_at}
use Rattle.stl.proofs.write_triangles.Given as goal

abbrev pub invariant-loop-h : goal.invariant-loop-h
invariant-loop-h l = (length l.triangles ≡ length l.initial.triangles) × ((l.h ≤ l.n) × (l.triangles ≡ put_in_front (list_of l.h (λ k. found_at l.s l.heads l.links l.firsts k - 1)) l.initial.triangles))
