-- `slip_moves::move_piece` meets its contract. Assumes nothing.
use Rattle.slip_moves.proofs.Parts.{moves_stop, moves_is}
use Rattle.slip_moves.proofs.Ways.{no_kind, bad_kind, good_kind}
use mathlib.Core.Path.{refl, sym}
use Rattle.slip_moves.proofs.move_piece.Goals as goal

pub returns-then-s-i : goal.returns-then-s-i
returns-then-s-i c = let a = c.args in moves_stop (no_kind a.from a.to a.s.now a.i c.if-s-i.true) refl

pub returns-then-kind-gt1 : goal.returns-then-kind-gt1
returns-then-kind-gt1 c = let a = c.args in moves_stop (bad_kind a.from a.to a.s.now a.i c.if-s-i.false c.if-kind-gt1.true) refl

pub returns : goal.returns
returns c = let a = c.args in moves_is (sym (good_kind a.from a.to a.s.now a.i c.if-s-i.false c.if-kind-gt1.false)) c.move_kind.ensures
