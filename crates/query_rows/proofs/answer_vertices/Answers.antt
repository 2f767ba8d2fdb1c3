use Prim.Native.Nat.{ℕ}
use native.Mathlib.Omega.{arith}
use mathlib.Core.Path.{◌≡◌, ap, ◌∙◌}
use lib.ListN.{get_or}
use Rattle.face_rows.specs.of_field_check.FieldCheck.{field_slices}
use Rattle.face_rows.specs.of_queries.Answers.{vertex_answer_number, vertex_value}
use Rattle.face_rows.specs.of_queries.Queries.{vertex_answer}
use Rattle.open_rows.proofs.Written.{one_slot, row_start, row_next, row_count}
use Rattle.query_rows.proofs.answer_vertices.Goals as goal

pub loop-i-init : goal.loop-i-init
loop-i-init c = (row_start _ _, row_start _ _)

pub loop-i-preserved : goal.loop-i-preserved
loop-i-preserved c =
    let l = c.loop-i in
    let a = c.args in
    let told = c.vertex_answer-answer.ensures ∙ (λ j. vertex_answer a.n (field_slices a.edge_words.now a.edge_reals.now a.triangle_words.now a.triangle_reals.now a.vertex.now a.words.now a.reals.now a.entry_words.now) ((c.read_u32.ensures ∙ ap (λ (k : ℕ). get_or a.asked.now k 0) (one_slot l.i)) j)) in (
      row_next _ _ l.i l.numbers _ c.vertex_number-number.result l.invariant.0 c.write_u32.ensures (c.vertex_number-number.ensures ∙ ap vertex_answer_number told),
      row_next _ _ l.i l.distances _ c.vertex_value-value.result l.invariant.1 c.write_f64.ensures (c.vertex_value-value.ensures ∙ ap vertex_value told),
    )

pub returns : goal.returns
returns c =
    let l = c.loop-i in
    let e : l.i ≡ c.args.count = omega (arith, l.auto.i-end, c.loop-i-test.false) in
    record { numbers_value = row_count _ _ _ _ _ l.invariant.0 e; distances_value = row_count _ _ _ _ _ l.invariant.1 e }
