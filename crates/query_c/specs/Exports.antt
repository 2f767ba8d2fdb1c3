-- What a caller in C or Rust is told of a row. Definitions only.
use Rattle.std.specs.Prelude.{ℕ, List, Float}
use Rattle.window_rows.specs.of_query_rows.Rows.{RowResult, row_number}
use Rattle.window_rows.specs.WindowRows.{WindowResult}

-- the number that is answered, and the row's slices
abbrev pub told_row : RowResult → ℕ × (List ℕ × List Float)
told_row x = (row_number x.answer, (x.numbers, x.distances))

abbrev pub told_windows : WindowResult → ℕ × (List ℕ × (List ℕ × (List ℕ × List Float)))
told_windows x = (row_number x.answer, (x.numbers, (x.ids, (x.words, x.reals))))
