-- `field_c::sirmolaat_edge_at` meets its contract. Assumes nothing.
use mathlib.Core.Path.{sym, ◌∙◌}
use Rattle.field_c.proofs.Asking.{has_both, edge_told, edge_unfit}
use Rattle.field_c.proofs.sirmolaat_edge_at.Goals as goal

pub edge_answer-answer-requires : goal.edge_answer-answer-requires
edge_answer-answer-requires c = has_both _ _ _ _ (sym c.has_slots.ensures ∙ c.if-has_slots.true)

pub returns-then-has_slots : goal.returns-then-has_slots
returns-then-has_slots c =
    edge_told _ _ _ c.told_field-n.ensures c.has_slots.ensures _ _ c.if-has_slots.true c.edge_answer-answer.ensures c.edge_value.ensures c.write_f64.ensures c.edge_number.ensures

pub returns : goal.returns
returns c = edge_unfit _ _ _ c.told_field-n.ensures c.has_slots.ensures _ _ c.if-has_slots.false
