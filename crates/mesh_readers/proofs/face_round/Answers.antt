use mathlib.Core.Path.{◌∙◌}
use Rattle.mesh_readers.proofs.Steps.{face_id, round_is}
use Rattle.mesh_readers.proofs.face_round.Goals as goal

pub returns : goal.returns
returns c = face_id _ _ (c.read_u32.ensures ∙ round_is c.args.round.now c.args.i)
