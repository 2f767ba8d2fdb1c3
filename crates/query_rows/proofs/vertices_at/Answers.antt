use mathlib.Core.Path.{sym, ◌∙◌}
use Rattle.face_rows.proofs.laws_of_queries.Checked.{taken, left}
use Rattle.query_rows.specs.Rows.{short_for, vertex_row}
use Rattle.open_rows.proofs.Written.{row_count}
use Rattle.query_rows.proofs.Elements.{row_is}
use Rattle.query_rows.proofs.vertices_at.Goals as goal

pub returns-in_default : goal.returns-in_default
unfolding vertex_row
returns-in_default c = rw c.in_default.is

pub returns-then-is_unsound : goal.returns-then-is_unsound
unfolding vertex_row
returns-then-is_unsound c = rw c.in-Field.is (taken _ _ _ (sym c.is_unsound.ensures ∙ c.if-is_unsound.true))

pub returns-then-short_for : goal.returns-then-short_for
unfolding vertex_row
returns-then-short_for c =
    rw c.in-Field.is
    (left _ _ _ _ (sym c.is_unsound.ensures ∙ c.if-is_unsound.false) (taken _ _ _ ((λ i. short_for (sym c.slots-count.ensures i) (sym c.slots-count.ensures i) (sym c.slots-room.ensures i) (sym c.slots-rest.ensures i)) ∙ sym c.short_for.ensures ∙ c.if-short_for.true)))

pub returns : goal.returns
unfolding vertex_row
returns c =
    rw c.in-Field.is
    (left _ _ _ _ (sym c.is_unsound.ensures ∙ c.if-is_unsound.false)
    (left _ _ _ _ ((λ i. short_for (sym c.slots-count.ensures i) (sym c.slots-count.ensures i) (sym c.slots-room.ensures i) (sym c.slots-rest.ensures i)) ∙ sym c.short_for.ensures ∙ c.if-short_for.false)
    (row_is _ _ _ _ _ (row_count _ _ _ _ _ c.answer_vertices.ensures.numbers_value c.slots-count.ensures) (row_count _ _ _ _ _ c.answer_vertices.ensures.distances_value c.slots-count.ensures))))
