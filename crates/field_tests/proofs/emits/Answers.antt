use Rattle.field_tests.specs.Tests.{emits_of}
use Rattle.field_tests.proofs.emits.Goals.{then-d-key-via-then-d-key, then-d-key-via-else-d-key+then-d-emitted}
use Rattle.field_tests.proofs.emits.Goals as goal

pub returns-then-d-key : goal.returns-then-d-key
unfolding emits_of
returns-then-d-key c = elim c.then-d-key.branch [ then-d-key-via-then-d-key w ↦ rw w.if-d-key.true | then-d-key-via-else-d-key+then-d-emitted w ↦ rw (w.if-d-key.false, w.if-d-emitted.true) ]

pub returns : goal.returns
unfolding emits_of
returns c = rw (c.if-d-key.false, c.if-d-emitted.false)
