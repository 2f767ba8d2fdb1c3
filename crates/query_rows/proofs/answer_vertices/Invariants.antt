use mathlib.Core.Path.{◌≡◌}
use Rattle.face_rows.specs.of_field_check.FieldCheck.{field_slices}
use Rattle.query_rows.specs.Rows.{vertex_numbers, vertex_values}
use Rattle.open_rows.specs.Written.{written_row}
use Rattle.query_rows.proofs.answer_vertices.Given as goal

abbrev pub invariant-loop-i : goal.invariant-loop-i
invariant-loop-i l =
    (l.numbers ≡ written_row (vertex_numbers l.n (field_slices l.edge_words l.edge_reals l.triangle_words l.triangle_reals l.vertex l.words l.reals l.entry_words) l.asked) l.i l.initial.numbers) × (l.distances ≡ written_row (vertex_values l.n (field_slices l.edge_words l.edge_reals l.triangle_words l.triangle_reals l.vertex l.words l.reals l.entry_words) l.asked) l.i l.initial.distances)
