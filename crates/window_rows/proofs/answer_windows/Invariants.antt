use mathlib.Core.Path.{◌≡◌}
use Rattle.query_rows.specs.of_field_check.FieldCheck.{field_slices}
use Rattle.open_rows.specs.Written.{written_row}
use Rattle.window_rows.specs.WindowRows.{stored_row, window_numbers, window_ids, window_words_of, window_reals_of}
use Rattle.window_rows.proofs.answer_windows.Given as goal

abbrev pub invariant-loop-i : goal.invariant-loop-i
invariant-loop-i l =
    let b = (field_slices l.edge_words l.edge_reals l.triangle_words l.triangle_reals l.vertex l.words l.reals l.entry_words) in
    (l.numbers ≡ written_row (window_numbers l.n b l.edges l.places) l.i l.initial.numbers) × ((l.ids ≡ written_row (window_ids l.n b l.edges l.places) l.i l.initial.ids) × ((l.window_words ≡ stored_row (window_words_of l.n b l.edges l.places) l.i l.initial.window_words) × (l.window_reals ≡ stored_row (window_reals_of l.n b l.edges l.places) l.i l.initial.window_reals)))
