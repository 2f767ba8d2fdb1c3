-- Rows of questions for the windows at places in edges' lists: refusal 20 once, then each question's number, its window's number and the window, which are those of the single query.
-- Definitions only. A row whose answers don't fit is refused by 74 (`row_number` of query_rows).
use Rattle.std.specs.Prelude.{ℕ, zero, suc, List, Float, Result, Ok, Err, ⊤, length, get_or, if◌then◌else◌}
use Rattle.std.proofs.Math.Dec.{ltb}
use Rattle.windows.specs.Windows.{capacity_of, words_with, reals_with}
use Rattle.computed.specs.declared.Computed.{Computed}
use Rattle.computed.specs.declared.Computed.TheVariants.{Refused, Field as isField}
use Rattle.computed.specs.declared.Field.{Field}
use Rattle.query_rows.specs.of_field_check.FieldCheck.{JobSlices, FieldSlices, field_unsound}
use Rattle.query_rows.specs.of_queries.declared.ListedWindow.{ListedWindow}
use Rattle.query_rows.specs.of_queries.declared.WindowRefusal.{WindowRefusal}
use Rattle.query_rows.specs.of_queries.Answers.{window_answer_number}
use Rattle.query_rows.specs.of_queries.Queries.{window_answer}
use Rattle.query_rows.specs.declared.RowRefusal.{RowRefusal}
use Rattle.query_rows.specs.declared.RowRefusal.TheVariants.{NoField, ShortRow}
use Rattle.query_rows.specs.Rows.{elements, short_for}
use Rattle.open_rows.specs.Written.{written_row}

-- the number of an answer's window, 0 of a refusal
abbrev pub window_id : Result ListedWindow WindowRefusal → ℕ
window_id (Ok x) = x.id.0
window_id (Err r) = 0

-- slot k with an answer's window; a refusal leaves it
abbrev pub words_put : Result ListedWindow WindowRefusal → ℕ → List ℕ → List ℕ
words_put (Ok x) k w = words_with w k x.window
words_put (Err r) k w = w

abbrev pub reals_put : Result ListedWindow WindowRefusal → ℕ → List Float → List Float
reals_put (Ok x) k f = reals_with f k x.window.win
reals_put (Err r) k f = f

-- the first n slots put in turn
unfoldable pub stored_row : {A : Type 0} → (ℕ → List A → List A) → ℕ → List A → List A
stored_row put zero l = l
stored_row put (suc k) l = put k (stored_row put k l)

-- the answer of a row, and the slices for the answers as it leaves them
pub record WindowResult : Type 0 where
  pub answer : Result ⊤ RowRefusal
  pub numbers : List ℕ
  pub ids : List ℕ
  pub words : List ℕ
  pub reals : List Float

abbrev pub window_result : Result ⊤ RowRefusal → List ℕ → List ℕ → List ℕ → List Float → WindowResult
window_result r ns is w f = record { answer = r; numbers = ns; ids = is; words = w; reals = f }

abbrev pub window_asked : Field → FieldSlices → List ℕ → List ℕ → ℕ → Result ListedWindow WindowRefusal
window_asked n b edges places i = window_answer n b (get_or edges i 0) (get_or places i 0)

module _ (n : Field) (b : FieldSlices) (edges places : List ℕ) where
  abbrev pub window_numbers : ℕ → ℕ
  window_numbers i = window_answer_number (window_asked n b edges places i)

  abbrev pub window_ids : ℕ → ℕ
  window_ids i = window_id (window_asked n b edges places i)

  abbrev pub window_words_of : ℕ → List ℕ → List ℕ
  window_words_of i w = words_put (window_asked n b edges places i) i w

  abbrev pub window_reals_of : ℕ → List Float → List Float
  window_reals_of i f = reals_put (window_asked n b edges places i) i f

module _ (j : JobSlices) (b : FieldSlices) (numbers ids words : List ℕ) (reals : List Float) where
  unfoldable pub window_row : Computed → List ℕ → List ℕ → WindowResult
  unfolding short_for written_row stored_row
  window_row (Refused k) edges places = window_result (Err NoField) numbers ids words reals
  window_row (isField n) edges places =
      if field_unsound n j b then window_result (Err NoField) numbers ids words reals else
      if short_for (elements edges) (elements places) (elements numbers) (elements ids) then window_result (Err ShortRow) numbers ids words reals else
      if ltb (capacity_of (length words) (length reals)) (elements edges) then window_result (Err ShortRow) numbers ids words reals else
      window_result (Ok tt) (written_row (window_numbers n b edges places) (elements edges) numbers) (written_row (window_ids n b edges places) (elements edges) ids)
      (stored_row (window_words_of n b edges places) (elements edges) words) (stored_row (window_reals_of n b edges places) (elements edges) reals)
