use mathlib.Core.Path.{refl}
use Rattle.frames.proofs.Turns.{vector_of}
use Rattle.frames.proofs.vector_from.Goals as goal

pub returns : goal.returns
returns c = vector_of _ _ _ _ _ _ _ refl c.real.ensures c.real-2.ensures c.real-3.ensures
