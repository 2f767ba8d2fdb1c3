-- `source_records::word_from` meets its contract. Assumes nothing.
use Rattle.source_records.proofs.Laws.{rest}
use Rattle.source_records.specs.Records.{word_from}
use Rattle.source_records.proofs.word_from.Goals as goal

pub returns : goal.returns
unfolding word_from
returns c = rw (c.word.ensures, rest)
