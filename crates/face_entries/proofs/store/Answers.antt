use Rattle.buffers.specs.Slots.{fill}
use Rattle.face_entries.specs.Buffers.{stored_in}
use Rattle.face_entries.proofs.store.Goals as goal

pub returns : goal.returns
unfolding stored_in fill
returns c = cc
