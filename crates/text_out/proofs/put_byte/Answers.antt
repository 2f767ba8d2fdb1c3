-- `text_out::put_byte` meets its contract. Assumes nothing.
use lib.Seq.{set_out}
use mathlib.Core.Path.{sym}
use Rattle.text_out.proofs.put_byte.Goals as goal

pub returns-else-i-out : goal.returns-else-i-out
returns-else-i-out c =
    let a = c.args in
    sym (set_out a.out.now a.i a.b c.if-i-out.false)
