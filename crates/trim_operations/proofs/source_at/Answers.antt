use Rattle.trim_operations.proofs.source_at.Goals as goal

pub returns-then-line : goal.returns-then-line
returns-then-line c = rw (c.if-line.true, c.read_f64-s0.ensures, c.read_f64-s1.ensures, c.read_f64-s2.ensures)

pub returns : goal.returns
returns c = rw (c.if-line.false, c.read_f64-s0.ensures, c.read_f64-s1.ensures, c.read_f64-s2.ensures)
