-- `query_vectors::replay_record` is safe and ends. Assumes nothing.
use native.Mathlib.Omega.{arith}
use Rattle.query_vectors.proofs.replay_record.Goals.{then-not-case_holds, else-not-case_holds}
use Rattle.query_vectors.proofs.replay_record.Goals as goal

pub loop-i-preserved : goal.loop-i-preserved
loop-i-preserved c = elim c.if-not-case_holds.branch [ then-not-case_holds w ↦ omega arith | else-not-case_holds w ↦ omega arith ]
