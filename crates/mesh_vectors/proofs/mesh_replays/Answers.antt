-- `mesh_vectors::mesh_replays` is safe and ends. The arrays' lengths are said by a law: a search would count their elements. Assumes nothing.
use Prim.Native.Nat.{ℕ}
use mathlib.Core.Path.{sym}
use lib.ListN.{length-replicate}
use lib.Ieee.{Float, binary64, of_bits}
use Rattle.mesh_vectors.proofs.mesh_replays.Goals as goal

pub slice_bounds-load_mesh-end : goal.slice_bounds-load_mesh-end
slice_bounds-load_mesh-end c = sym (length-replicate {A = Float} 12288 (of_bits binary64 0))

pub slice_bounds-load_mesh-end-2 : goal.slice_bounds-load_mesh-end-2
slice_bounds-load_mesh-end-2 c = sym (length-replicate {A = ℕ} 24576 0)

pub slice_bounds-load_mesh-end-3 : goal.slice_bounds-load_mesh-end-3
slice_bounds-load_mesh-end-3 c = sym (length-replicate {A = ℕ} 4096 0)
