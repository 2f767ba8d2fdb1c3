-- `segments_behind::any_round` meets its contract. Assumes nothing.
use Rattle.segments_behind.proofs.Finding.{round_none, round_some}
use Rattle.segments_behind.proofs.any_round.Goals as goal

pub returns-then-seek_round-eq0 : goal.returns-then-seek_round-eq0
returns-then-seek_round-eq0 c =
    let a = c.args in
    round_none a.kinds.now a.faces.now a.coords.now a.words.now a.pieces a.triangles.now a.k.0 a.p _ _ c.first_at-link.ensures c.seek_round.ensures c.if-seek_round-eq0.true

pub returns : goal.returns
returns c =
    let a = c.args in
    round_some a.kinds.now a.faces.now a.coords.now a.words.now a.pieces a.triangles.now a.k.0 a.p _ _ c.first_at-link.ensures c.seek_round.ensures c.if-seek_round-eq0.false
