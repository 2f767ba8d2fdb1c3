-- `little_endian::number_at` meets its contract. Assumes nothing.
use borrow.Author.Rules.{rules}
use Rattle.little_endian.specs.Bytes.{number_from}
use Rattle.little_endian.proofs.number_at.Goals as goal

pub returns : goal.returns
unfolding number_from
returns c = search rules
