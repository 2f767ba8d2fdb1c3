use borrow.Author.Tests.{eq-eqb, ne_eqb}
use Rattle.face_entries.specs.Buffers.{part_of_number}
use Rattle.face_entries.proofs.part_of.Goals as goal

pub returns-then-number-eq0 : goal.returns-then-number-eq0
unfolding part_of_number
returns-then-number-eq0 c = rw (eq-eqb c.args.number 0 c.if-number-eq0.true)

pub returns-then-number-eq1 : goal.returns-then-number-eq1
unfolding part_of_number
returns-then-number-eq1 c =
    let n = c.args.number in
    rw (ne_eqb n 0 c.if-number-eq0.false, eq-eqb n 1 c.if-number-eq1.true)

pub returns : goal.returns
unfolding part_of_number
returns c =
    let n = c.args.number in
    rw (ne_eqb n 0 c.if-number-eq0.false, ne_eqb n 1 c.if-number-eq1.false)
