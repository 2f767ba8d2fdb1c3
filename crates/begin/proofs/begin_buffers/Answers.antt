-- `begin::begin_buffers` meets its contract. Assumes nothing.
use Rattle.begin.specs.Begin.{work_slices}
use Rattle.begin.proofs.begin_buffers.Goals as goal

pub returns : goal.returns
returns c =
    let pieces = c.begin_pieces.ensures in
    let z = c.zero_windows.ensures in
    λ i. work_slices (pieces.0 i) (pieces.1 i) (c.begin_vertices.ensures i) (z.zero_words_held i) (z.zero_reals_held i) (z.zero_keys i) (z.zero_events i) (z.zero_entries i)
