use mathlib.Core.Path.{sym, ◌∙◌}
use native.Mathlib.Omega.{arith}
use Rattle.face_rows.proofs.laws_of_queries.Checked.{enough, taken, left}
use Rattle.query_rows.specs.Rows.{short_for, face_row}
use Rattle.query_rows.proofs.Elements.{both_long}
use Rattle.open_rows.proofs.Written.{row_count}
use Rattle.query_rows.proofs.Elements.{row_is}
use Rattle.query_rows.proofs.faces_at.Goals as goal

pub answer_faces-requires : goal.answer_faces-requires
answer_faces-requires c =
    let l = both_long _ _ _ _ (sym c.short_for.ensures ∙ c.if-short_for.false) in
    (enough _ _ _ (sym c.is_unsound.ensures ∙ c.if-is_unsound.false), (omega (arith, l.0, c.slots-room.ensures), omega (arith, l.1, c.slots-rest.ensures)))

pub returns-in_default : goal.returns-in_default
unfolding face_row
returns-in_default c = rw c.in_default.is

pub returns-then-is_unsound : goal.returns-then-is_unsound
unfolding face_row
returns-then-is_unsound c = rw c.in-Field.is (taken _ _ _ (sym c.is_unsound.ensures ∙ c.if-is_unsound.true))

pub returns-then-short_for : goal.returns-then-short_for
unfolding face_row
returns-then-short_for c =
    rw c.in-Field.is
    (left _ _ _ _ (sym c.is_unsound.ensures ∙ c.if-is_unsound.false) (taken _ _ _ ((λ i. short_for (sym c.slots-count.ensures i) (sym c.slots-others.ensures i) (sym c.slots-room.ensures i) (sym c.slots-rest.ensures i)) ∙ sym c.short_for.ensures ∙ c.if-short_for.true)))

pub returns : goal.returns
unfolding face_row
returns c =
    rw c.in-Field.is
    (left _ _ _ _ (sym c.is_unsound.ensures ∙ c.if-is_unsound.false)
    (left _ _ _ _ ((λ i. short_for (sym c.slots-count.ensures i) (sym c.slots-others.ensures i) (sym c.slots-room.ensures i) (sym c.slots-rest.ensures i)) ∙ sym c.short_for.ensures ∙ c.if-short_for.false)
    (row_is _ _ _ _ _ (row_count _ _ _ _ _ c.answer_faces.ensures.numbers_value c.slots-count.ensures) (row_count _ _ _ _ _ c.answer_faces.ensures.distances_value c.slots-count.ensures))))
