-- `slip::check` meets its contract. Assumes nothing.
use Rattle.slip.specs.Format.{pieces_from, answer_to}
use lib.ListN.{length}
use borrow.Author.Tests.{lt-ltb, le-ltb}
use mathlib.Core.Path.{sym, ◌∙◌}
use native.Mathlib.Omega.{arith}
use Rattle.slip.proofs.check.Goals as goal

pub returns-then-s-lt12 : goal.returns-then-s-lt12
unfolding answer_to
returns-then-s-lt12 c =
    let a = c.args in
    rw (lt-ltb (length a.s.now) 12 c.if-s-lt12.true)

pub returns-then-has_too_many : goal.returns-then-has_too_many
unfolding answer_to
returns-then-has_too_many c =
    let a = c.args in
    rw (le-ltb (length a.s.now) 12 c.if-s-lt12.false, sym c.has_too_many.ensures ∙ c.if-has_too_many.true)

pub returns-then-s-from : goal.returns-then-s-from
unfolding answer_to
returns-then-s-from c =
    let a = c.args in
    rw (le-ltb (length a.s.now) 12 c.if-s-lt12.false, sym c.has_too_many.ensures ∙ c.if-has_too_many.false, lt-ltb (length a.s.now) (pieces_from a.s.now) (omega (arith, c.if-s-from.true, c.pieces_from-from.ensures)))

pub returns : goal.returns
unfolding answer_to
returns c =
    let a = c.args in
    rw (le-ltb (length a.s.now) 12 c.if-s-lt12.false, sym c.has_too_many.ensures ∙ c.if-has_too_many.false, le-ltb (length a.s.now) (pieces_from a.s.now) (omega (arith, c.if-s-from.false, c.pieces_from-from.ensures)))
    (rw (c.number_at.ensures, c.pieces_from-from.ensures) at c.check_pieces.ensures)
