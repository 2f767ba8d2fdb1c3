use Prim.Native.Nat.{◌*◌, ◌/◌, ◌%◌, ◌≤◌}
use mathlib.Core.Path.{◌≡◌}
use lib.ListN.{length, get_or}
use Rattle.nat_laws.specs.Lists.{list_of}
use Rattle.little_endian.specs.Bytes.{put_in_front}
use Rattle.stl_format.specs.Format.{coordinate}
use Rattle.stl.proofs.write_vertices.Given as goal

abbrev pub invariant-loop-j : goal.invariant-loop-j
invariant-loop-j l = (length l.vertices ≡ length l.initial.vertices) × ((l.j ≤ 3 * l.n) × (l.vertices ≡ put_in_front (list_of l.j (λ k. coordinate l.s (get_or l.firsts (k / 3) 0) (k % 3))) l.initial.vertices))
