-- `slip_write::put_piece` meets its contract. Assumes nothing.
use Rattle.slip_write.proofs.Lengths.{length_number}
use Rattle.slip_write.specs.Write.{piece_bytes}
use Rattle.text_out.proofs.Puts.{puts_then, puts_none}
use borrow.Author.Tests.{eq-eqb, ne_eqb}
use native.Mathlib.Omega.{arith}
use Rattle.slip_write.proofs.put_piece.Goals as goal

pub put_three-c-requires : goal.put_three-c-requires
put_three-c-requires c =
    (omega (arith, c.put_text-a.ensures.ends, c.put_number-b.ensures.ends, length_number c.word_at.result, c.requires.0), omega (arith, c.requires.1.0))

pub returns-then-kinds-k-eq0 : goal.returns-then-kinds-k-eq0
unfolding piece_bytes
returns-then-kinds-k-eq0 c =
    let face = rw c.word_at.ensures at c.put_number-b.ensures in
    let three = puts_then (puts_then c.put_text-a.ensures face) c.put_three-c.ensures.0 in
    (rw (eq-eqb _ _ c.if-kinds-k-eq0.true) (puts_then three (puts_none _ _)), omega (arith, c.put_text-a.ensures.ends, c.put_number-b.ensures.ends, length_number c.word_at.result, c.put_three-c.ensures.1))

pub put_three-requires : goal.put_three-requires
put_three-requires c =
    (omega (arith, c.put_text-a.ensures.ends, c.put_number-b.ensures.ends, length_number c.word_at.result, c.put_three-c.ensures.1, c.requires.0), omega (arith, c.requires.1.0))

pub returns : goal.returns
unfolding piece_bytes
returns c =
    let face = rw c.word_at.ensures at c.put_number-b.ensures in
    let three = puts_then (puts_then c.put_text-a.ensures face) c.put_three-c.ensures.0 in (
      rw (ne_eqb _ _ c.if-kinds-k-eq0.false) (puts_then three c.put_three.ensures.0),
      omega (arith, c.put_text-a.ensures.ends, c.put_number-b.ensures.ends, length_number c.word_at.result, c.put_three-c.ensures.1, c.put_three.ensures.1),
    )
