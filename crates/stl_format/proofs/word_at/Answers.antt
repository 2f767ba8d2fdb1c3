-- `stl_format::word_at` meets its contract. Assumes nothing.
use Rattle.little_endian.specs.Bytes.{number_from}
use borrow.Author.Rules.{rules}
use Rattle.stl_format.proofs.word_at.Goals as goal

pub returns : goal.returns
unfolding number_from
returns c = search rules
