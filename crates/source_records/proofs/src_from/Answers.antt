-- `source_records::src_from` meets its contract. Assumes nothing.
use borrow.Author.Tests.{eq-eqb, ne_eqb}
use Rattle.source_records.specs.Records.{src_from}
use Rattle.source_records.proofs.src_from.Goals as goal

pub returns-then-s-i-eq0 : goal.returns-then-s-i-eq0
unfolding src_from
returns-then-s-i-eq0 c = rw (eq-eqb _ _ c.if-s-i-eq0.true, c.float_from-then-s-i-eq0-2.ensures, c.float_from-then-s-i-eq0.ensures, c.float_from.ensures)

pub returns : goal.returns
unfolding src_from
returns c = rw (ne_eqb _ _ c.if-s-i-eq0.false, c.float_from-4.ensures, c.float_from-3.ensures, c.float_from-2.ensures)
