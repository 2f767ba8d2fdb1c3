-- `print_out::put_corner` meets its contract. Assumes nothing.
use Rattle.text_out.proofs.Puts.{puts_then}
use Rattle.print_out.specs.PrintOut.{corner_line}
use native.Mathlib.Omega.{arith}
use Rattle.print_out.proofs.put_corner.Goals as goal

pub returns : goal.returns
unfolding corner_line
returns c =
    let word = c.put_count-a.ensures in
    let space = c.put_text-b.ensures in
    let distance = c.put_distance-c.ensures in
    let line = c.put_text.ensures in
    (puts_then (puts_then (puts_then word.0 space) distance.0) line, omega (arith, word.1, space.ends, distance.1, line.ends))
