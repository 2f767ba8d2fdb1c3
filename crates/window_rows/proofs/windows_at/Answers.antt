use mathlib.Core.Path.{sym, ◌∙◌}
use native.Mathlib.Omega.{arith}
use borrow.Author.Tests.{lt-ltb, le-ltb}
use lib.Dec.{ltb}
use Rattle.query_rows.proofs.laws_of_queries.Checked.{enough, taken, left}
use Rattle.query_rows.specs.Rows.{short_for}
use Rattle.open_rows.proofs.Written.{row_count}
use Rattle.window_rows.specs.WindowRows.{window_row, window_words_of, window_reals_of}
use Rattle.query_rows.specs.of_field_check.FieldCheck.{field_slices}
use Rattle.window_rows.proofs.Stored.{stored_count, result_is}
use Rattle.window_rows.proofs.windows_at.Goals as goal

pub returns-in_default : goal.returns-in_default
unfolding window_row
returns-in_default c = rw c.in_default.is

pub returns-then-is_unsound : goal.returns-then-is_unsound
unfolding window_row
returns-then-is_unsound c = rw c.in-Field.is (taken _ _ _ (sym c.is_unsound.ensures ∙ c.if-is_unsound.true))

pub returns-then-short_for : goal.returns-then-short_for
unfolding window_row
returns-then-short_for c =
    rw c.in-Field.is
    (left _ _ _ _ (sym c.is_unsound.ensures ∙ c.if-is_unsound.false) (taken _ _ _ ((λ i. short_for (sym c.slots-count.ensures i) (sym c.slots-others.ensures i) (sym c.slots-room.ensures i) (sym c.slots-rest.ensures i)) ∙ sym c.short_for.ensures ∙ c.if-short_for.true)))

pub returns-then-held-count : goal.returns-then-held-count
unfolding window_row
returns-then-held-count c =
    rw c.in-Field.is
    (left _ _ _ _ (sym c.is_unsound.ensures ∙ c.if-is_unsound.false)
    (left _ _ _ _ ((λ i. short_for (sym c.slots-count.ensures i) (sym c.slots-others.ensures i) (sym c.slots-room.ensures i) (sym c.slots-rest.ensures i)) ∙ sym c.short_for.ensures ∙ c.if-short_for.false)
    (taken _ _ _ ((λ i. ltb (sym c.count-held.ensures i) (sym c.slots-count.ensures i)) ∙ lt-ltb _ _ c.if-held-count.true))))

pub answer_windows-requires : goal.answer_windows-requires
answer_windows-requires c =
    let e = enough _ _ _ (sym c.is_unsound.ensures ∙ c.if-is_unsound.false) in
    (e.0, (e.1, omega (arith, c.if-held-count.false, c.count-held.ensures)))

pub returns : goal.returns
unfolding window_row
returns c =
    let said = c.answer_windows.ensures in
    let count = c.slots-count.ensures in
    let a = c.args in
    let b = field_slices a.edge_words.now a.edge_reals.now a.triangle_words.now a.triangle_reals.now a.vertex.now a.words.now a.reals.now a.entry_words.now in
    rw c.in-Field.is
    (left _ _ _ _ (sym c.is_unsound.ensures ∙ c.if-is_unsound.false)
    (left _ _ _ _ ((λ i. short_for (sym c.slots-count.ensures i) (sym c.slots-others.ensures i) (sym c.slots-room.ensures i) (sym c.slots-rest.ensures i)) ∙ sym c.short_for.ensures ∙ c.if-short_for.false)
    (left _ _ _ _ ((λ i. ltb (sym c.count-held.ensures i) (sym count i)) ∙ le-ltb _ _ c.if-held-count.false)
    (result_is _ _ _ _ _ _ _ _ _ (row_count _ _ _ _ _ said.numbers_value count) (row_count _ _ _ _ _ said.ids_value count) (stored_count (window_words_of c.in-Field.n b a.edges.now a.places.now) a.window_words.now _ _ _ said.window_words_value count) (stored_count (window_reals_of c.in-Field.n b a.edges.now a.places.now) a.window_reals.now _ _ _ said.window_reals_value count)))))
