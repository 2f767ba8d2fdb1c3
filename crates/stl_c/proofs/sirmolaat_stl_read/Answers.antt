-- `stl_c::sirmolaat_stl_read` meets its contract. Assumes nothing.
use Rattle.stl_c.specs.Exports.{packed_mesh, packed_reading}
use Rattle.stl_c.proofs.Packing.{packed_both}
use Rattle.stl_c.proofs.sirmolaat_stl_read.Goals as goal

pub returns : goal.returns
unfolding packed_reading
returns c =
    let told = c.read.ensures in
    packed_both packed_mesh c.packed_mesh.ensures told
