-- `source_inserts::segment_source` meets its contract. Assumes nothing.
use mathlib.Core.Path.{sym, ◌∙◌}
use borrow.Author.Tests.{not-true, not-false}
use Rattle.source_inserts.proofs.Steps.{no_segment, segment_is}
use Rattle.source_inserts.proofs.segment_source.Goals as goal

pub returns-then-not-is_end : goal.returns-then-not-is_end
returns-then-not-is_end c =
    let a = c.args in
    no_segment a.kinds.now a.faces.now a.coords.now a.i (sym c.is_end.ensures ∙ not-true _ c.if-not-is_end.true-raw)

pub returns : goal.returns
returns c =
    let a = c.args in
    segment_is a.kinds.now a.faces.now a.coords.now a.i (sym c.is_end.ensures ∙ not-false _ c.if-not-is_end.false-raw)
    c.face_of-face.result c.end_point-a.result c.end_point-b.result c.face_of-face.ensures c.end_point-a.ensures c.end_point-b.ensures
