use Rattle.heap_vectors.proofs.Outcomes.{other_key, other_number, other_kind, one_event}
use Rattle.heap_vectors.proofs.same_event.Goals as goal

pub returns-then-pattern : goal.returns-then-pattern
returns-then-pattern c =
    let a = c.args in
    other_key a.a a.b c.pattern.ensures c.pattern-2.ensures c.if-pattern.true

pub returns-then-number_of : goal.returns-then-number_of
returns-then-number_of c =
    let a = c.args in
    other_number a.a a.b c.pattern.ensures c.pattern-2.ensures c.if-pattern.false c.number_of.ensures c.number_of-2.ensures c.if-number_of.true

pub returns-then-kind_of : goal.returns-then-kind_of
returns-then-kind_of c =
    let a = c.args in
    other_kind a.a a.b c.pattern.ensures c.pattern-2.ensures c.if-pattern.false c.number_of.ensures c.number_of-2.ensures c.if-number_of.false c.kind_of.ensures c.kind_of-2.ensures c.if-kind_of.true

pub returns : goal.returns
returns c =
    let a = c.args in
    one_event a.a a.b c.pattern.ensures c.pattern-2.ensures c.if-pattern.false c.number_of.ensures c.number_of-2.ensures c.if-number_of.false c.kind_of.ensures c.kind_of-2.ensures c.if-kind_of.false
