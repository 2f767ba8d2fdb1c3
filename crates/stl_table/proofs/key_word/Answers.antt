-- `stl_table::key_word` meets its contract. Assumes nothing.
use Rattle.stl_table.proofs.Bits.{of_minus_zero, of_other}
use Rattle.stl_table.proofs.key_word.Goals as goal

pub returns-then-b : goal.returns-then-b
returns-then-b c = of_minus_zero _ _ c.word_at-b.ensures c.if-b.true

pub returns : goal.returns
returns c = of_other _ _ c.word_at-b.ensures c.if-b.false
