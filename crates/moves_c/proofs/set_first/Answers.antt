-- `moves_c::set_first` meets its contract. Assumes nothing.
use lib.Seq.{set_out}
use mathlib.Core.Path.{sym}
use Rattle.moves_c.proofs.set_first.Goals as goal

pub returns-else-told-gt0 : goal.returns-else-told-gt0
returns-else-told-gt0 c = sym (set_out c.args.told.now 0 c.args.n c.if-told-gt0.false)
