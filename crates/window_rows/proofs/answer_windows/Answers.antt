use Prim.Native.Nat.{ℕ}
use native.Mathlib.Omega.{arith}
use mathlib.Core.Path.{◌≡◌, ap, ◌∙◌}
use lib.ListN.{get_or}
use Rattle.query_rows.specs.of_field_check.FieldCheck.{field_slices}
use Rattle.std.specs.declared.result.Result.{Result}
use Rattle.query_rows.specs.of_queries.declared.ListedWindow.{ListedWindow}
use Rattle.query_rows.specs.of_queries.declared.WindowRefusal.{WindowRefusal}
use Rattle.query_rows.specs.of_queries.Answers.{window_answer_number}
use Rattle.query_rows.specs.of_queries.Queries.{window_answer}
use Rattle.open_rows.proofs.Written.{one_slot, row_start, row_next, row_count}
use Rattle.window_rows.specs.WindowRows.{window_id, words_put, reals_put}
use Rattle.window_rows.proofs.Stored.{stored_start, stored_next, stored_count, words_row, reals_row, still_there}
use Rattle.window_rows.proofs.answer_windows.Goals as goal

pub loop-i-init : goal.loop-i-init
loop-i-init c = (row_start _ _, (row_start _ _, (stored_start _ _, stored_start _ _)))

pub window_answer-answer-requires : goal.window_answer-answer-requires
window_answer-answer-requires c =
    (c.requires.0, c.requires.1.0)

pub put_window-requires : goal.put_window-requires
put_window-requires c =
    let l = c.loop-i in
    let a = c.args in
    still_there _ _ _ _ _ _ c.loop-i-test.true c.requires.1.1
    (words_row _ _ a.edges.now a.places.now l.i a.window_words.now l.window_words l.invariant.1.1.0)
    (reals_row _ _ a.edges.now a.places.now l.i a.window_reals.now l.window_reals l.invariant.1.1.1)

pub loop-i-preserved : goal.loop-i-preserved
loop-i-preserved c =
    let l = c.loop-i in
    let a = c.args in
    let told = c.window_answer-answer.ensures ∙ (λ j. window_answer a.n (field_slices a.edge_words.now a.edge_reals.now a.triangle_words.now a.triangle_reals.now a.vertex.now a.words.now a.reals.now a.entry_words.now) ((c.read_u32.ensures ∙ ap (λ (k : ℕ). get_or a.edges.now k 0) (one_slot l.i)) j) ((c.read_u32-place.ensures ∙ ap (λ (k : ℕ). get_or a.places.now k 0) (one_slot l.i)) j)) in (
      row_next _ _ l.i l.numbers _ c.window_number-number.result l.invariant.0 c.write_u32.ensures (c.window_number-number.ensures ∙ ap window_answer_number told),
      (
        row_next _ _ l.i l.ids _ c.window_id-id.result l.invariant.1.0 c.write_u32-in-loop-i.ensures (c.window_id-id.ensures ∙ ap window_id told),
        (
          stored_next _ _ l.i l.window_words _ l.invariant.1.1.0 (c.put_window.ensures.0 ∙ ap (λ (z : Result ListedWindow WindowRefusal). words_put z l.i l.window_words) told),
          stored_next _ _ l.i l.window_reals _ l.invariant.1.1.1 (c.put_window.ensures.1 ∙ ap (λ (z : Result ListedWindow WindowRefusal). reals_put z l.i l.window_reals) told),
        ),
      ),
    )

pub returns : goal.returns
returns c =
    let l = c.loop-i in
    let e : l.i ≡ c.args.count = omega (arith, l.auto.i-end, c.loop-i-test.false) in
    record { numbers_value = row_count _ _ _ _ _ l.invariant.0 e; ids_value = row_count _ _ _ _ _ l.invariant.1.0 e; window_words_value = stored_count _ _ _ _ _ l.invariant.1.1.0 e; window_reals_value = stored_count _ _ _ _ _ l.invariant.1.1.1 e }
