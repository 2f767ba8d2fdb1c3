-- `stl_c::sirmolaat_stl_write` meets its contract. Assumes nothing.
use Rattle.stl_c.specs.Exports.{packed_file, packed_writing}
use Rattle.stl_c.proofs.Packing.{packed_both}
use Rattle.stl_c.proofs.sirmolaat_stl_write.Goals as goal

pub returns : goal.returns
unfolding packed_writing
returns c =
    let told = c.write.ensures in
    packed_both packed_file c.packed_file.ensures told
