-- `source_records::float_from` meets its contract. Assumes nothing.
use Rattle.source_records.specs.Records.{float_from}
use Rattle.source_records.proofs.float_from.Goals as goal

pub returns : goal.returns
unfolding float_from
returns c = rw (c.float.ensures, c.word_from.ensures)
