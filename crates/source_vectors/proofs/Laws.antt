-- Laws of records and of the count of those that differ. Assumes nothing.
use mathlib.Core.Path.{◌≡◌}
use mathlib.Core.List.{List}
use Prim.Native.Nat.{ℕ, ◌+◌, ◌-◌, ◌*◌, ◌<◌}
use native.Mathlib.Nat.{add-sub_cancel_left}
use native.Mathlib.Omega.{arith}
use lib.ListN.{take, drop}
use Rattle.source_vectors.specs.Replay.{size, record_at}
use Rattle.source_vectors.specs.declared.Leaf.{Leaf}
use Rattle.source_vectors.specs.declared.Leaf.TheVariants.{Roots, Ties, Edge, Free, Foot, Lowest, Eval}

pub size_pos : (f : Leaf) → 0 < size f
size_pos Roots = omega arith
size_pos Ties = omega arith
size_pos Edge = omega arith
size_pos Free = omega arith
size_pos Foot = omega arith
size_pos Lowest = omega arith
size_pos Eval = omega arith

-- the part of the records that is record k, as the code has it
pub part_is : (f : Leaf) (s : List ℕ) (k z : ℕ) → z ≡ size f → take (z * k + z - z * k) (drop (z * k) s) ≡ record_at f s k
unfolding record_at
part_is f s k z e = rw (e, add-sub_cancel_left)
