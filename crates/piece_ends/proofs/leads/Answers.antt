-- `piece_ends::leads` meets its contract. Assumes nothing.
use native.Mathlib.Omega.{arith}
use Rattle.piece_ends.proofs.Seeking.{first_is, first_is_not}
use Rattle.piece_ends.proofs.leads.Goals as goal

pub returns-then-link-eq0 : goal.returns-then-link-eq0
returns-then-link-eq0 c =
    let a = c.args in
    first_is_not a.coords.now a.words.now a.pieces a.e _ _ c.end_point.ensures c.first_at-link.ensures (λ z. omega (arith, z, c.if-link-eq0.true))

pub returns-then-link-e : goal.returns-then-link-e
returns-then-link-e c =
    let a = c.args in
    first_is a.coords.now a.words.now a.pieces a.e _ _ c.end_point.ensures c.first_at-link.ensures (omega (arith, c.if-link-eq0.false, c.if-link-e.true))

pub returns : goal.returns
returns c =
    let a = c.args in
    first_is_not a.coords.now a.words.now a.pieces a.e _ _ c.end_point.ensures c.first_at-link.ensures (λ z. omega (arith, z, c.if-link-eq0.false, c.if-link-e.false))
