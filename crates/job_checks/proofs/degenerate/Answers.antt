-- `job_checks::degenerate` meets its contract. Assumes nothing.
use mathlib.Core.Path.{sym}
use Rattle.job_checks.proofs.Edge.{short_edge, low_vertex, sound_edge}
use Rattle.job_checks.proofs.degenerate.Goals as goal

pub returns-then-dot : goal.returns-then-dot
returns-then-dot c = λ b from long. sym (sound_edge _ b _ _ _ _ _ _ _ _ from long c.scale-xhat.ensures c.sub-w.ensures c.dot.ensures c.axpy-p.ensures c.dot-then-len.ensures c.if-len.true c.if-dot.true)

pub returns-then-len : goal.returns-then-len
returns-then-len c = λ b from long. sym (low_vertex _ b _ _ _ _ _ _ _ _ from long c.scale-xhat.ensures c.sub-w.ensures c.dot.ensures c.axpy-p.ensures c.dot-then-len.ensures c.if-len.true c.if-dot.false)

pub returns : goal.returns
returns c = λ b from long. sym (short_edge _ b _ _ _ from long c.if-len.false)
