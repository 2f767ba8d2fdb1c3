-- `segments_behind::is_round` meets its contract. Assumes nothing.
use mathlib.Core.Path.{sym, ◌∙◌}
use borrow.Author.Tests.{not-true, not-false}
use Rattle.segments_behind.proofs.Finding.{round_long, round_short}
use Rattle.segments_behind.proofs.is_round.Goals as goal

pub returns-then-not-is_long : goal.returns-then-not-is_long
returns-then-not-is_long c =
    let a = c.args in
    round_short a.kinds.now a.faces.now a.coords.now a.triangles.now a.k.0 a.e (sym c.is_long.ensures ∙ not-true _ c.if-not-is_long.true-raw)

pub returns : goal.returns
returns c =
    let a = c.args in
    round_long a.kinds.now a.faces.now a.coords.now a.e _ c.face_of.ensures a.triangles.now a.k.0 _ (sym c.is_long.ensures ∙ not-false _ c.if-not-is_long.false-raw) c.has_vertex.ensures
