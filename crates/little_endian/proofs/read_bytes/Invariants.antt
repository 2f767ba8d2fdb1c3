use Prim.Native.Nat.{◌+◌, ◌≤◌}
use mathlib.Core.Path.{◌≡◌}
use lib.ListN.{length, get_or}
use Rattle.nat_laws.specs.Lists.{list_of}
use Rattle.little_endian.specs.Bytes.{put_in_front}
use Rattle.little_endian.proofs.read_bytes.Given as goal

abbrev pub invariant-loop-j : goal.invariant-loop-j
invariant-loop-j l = (length l.to ≡ length l.initial.to) × ((l.j ≤ l.n) × (l.to ≡ put_in_front (list_of l.j (λ k. get_or l.s (l.i + k) 0)) l.initial.to))
