use Rattle.mesh_readers.proofs.Steps.{local_first, local_second, local_third}
use Rattle.mesh_readers.proofs.local.Goals as goal

pub returns-then-first-e : goal.returns-then-first-e
returns-then-first-e c = local_first _ _ _ _ c.read_u32-first.ensures c.if-first-e.true

pub returns-then-second-e : goal.returns-then-second-e
returns-then-second-e c = local_second _ _ _ _ c.read_u32-first.ensures c.if-first-e.false _ c.read_u32-second.ensures c.if-second-e.true

pub returns : goal.returns
returns c = local_third _ _ _ _ c.read_u32-first.ensures c.if-first-e.false _ c.read_u32-second.ensures c.if-second-e.false
