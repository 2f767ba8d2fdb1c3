-- `field_c::sirmolaat_at` meets its contract. Assumes nothing.
use mathlib.Core.Path.{sym, ◌∙◌}
use Rattle.field_c.proofs.Asking.{has_both, face_told, face_unfit}
use Rattle.field_c.proofs.sirmolaat_at.Goals as goal

pub face_answer-answer-requires : goal.face_answer-answer-requires
face_answer-answer-requires c = has_both _ _ _ _ (sym c.has_slots.ensures ∙ c.if-has_slots.true)

pub returns-then-has_slots : goal.returns-then-has_slots
returns-then-has_slots c =
    face_told _ _ _ c.told_field-n.ensures c.has_slots.ensures _ _ c.if-has_slots.true c.face_answer-answer.ensures c.face_value.ensures c.write_f64.ensures c.face_number.ensures

pub returns : goal.returns
returns c = face_unfit _ _ _ c.told_field-n.ensures c.has_slots.ensures _ _ c.if-has_slots.false
