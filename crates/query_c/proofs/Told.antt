-- The row that a caller is told. Assumes nothing.
use Prim.Native.Nat.{ℕ}
use mathlib.Core.List.{List}
use mathlib.Core.Path.{◌≡◌, ◌∙◌}
use lib.Ieee.{Float}
use Rattle.std.specs.declared.result.Result.{Result}
use Rattle.computed.specs.declared.Computed.{Computed}
use Rattle.window_rows.specs.of_query_rows.declared.RowRefusal.{RowRefusal}
use Rattle.window_rows.specs.of_field_check.FieldCheck.{JobSlices, FieldSlices}
use Rattle.window_rows.specs.of_query_rows.Rows.{RowResult, row_result, row_number, face_row, edge_row, vertex_row}
use Rattle.window_rows.specs.WindowRows.{window_result, window_row}
use Rattle.query_c.specs.Exports.{told_row, told_windows}

row_told : (row : Computed → RowResult) {x y : Computed} {r : Result (Unit {0}) RowRefusal} {k : ℕ} {n : List ℕ} {d : List Float} → k ≡ row_number r → row_result r n d ≡ row x → x ≡ y → (k, (n, d)) ≡ told_row (row y)
row_told row {n = n} {d = d} h e s = (λ i. (h i, (n, d))) ∙ (λ i. told_row (e i)) ∙ (λ i. told_row (row (s i)))

-- a row of the answer that was said
module _ (j : JobSlices) (b : FieldSlices) (ns : List ℕ) (ds : List Float) {x y : Computed} {r : Result (Unit {0}) RowRefusal} {k : ℕ} {n : List ℕ} {d : List Float} (h : k ≡ row_number r) (s : x ≡ y) (asked : List ℕ) where
  pub faces_told : (points : List Float) → row_result r n d ≡ face_row j b ns ds x asked points → (k, (n, d)) ≡ told_row (face_row j b ns ds y asked points)
  faces_told points e = row_told (λ (z : Computed). face_row j b ns ds z asked points) h e s

  pub edges_told_lem : (places : List Float) → row_result r n d ≡ edge_row j b ns ds x asked places → (k, (n, d)) ≡ told_row (edge_row j b ns ds y asked places)
  edges_told_lem places e = row_told (λ (z : Computed). edge_row j b ns ds z asked places) h e s

  pub vertices_told : row_result r n d ≡ vertex_row j b ns ds x asked → (k, (n, d)) ≡ told_row (vertex_row j b ns ds y asked)
  vertices_told e = row_told (λ (z : Computed). vertex_row j b ns ds z asked) h e s

pub windows_told_lem : (j : JobSlices) (b : FieldSlices) (ns is w : List ℕ) (f : List Float) {x y : Computed} {r : Result (Unit {0}) RowRefusal} {k : ℕ} {n i v : List ℕ} {g : List Float} → k ≡ row_number r → x ≡ y → (edges places : List ℕ)
    → window_result r n i v g ≡ window_row j b ns is w f x edges places → (k, (n, (i, (v, g)))) ≡ told_windows (window_row j b ns is w f y edges places)
windows_told_lem j b ns is w f {n = n} {i = i} {v = v} {g = g} h s edges places e =
    (λ t. (h t, (n, (i, (v, g))))) ∙ (λ t. told_windows (e t)) ∙ (λ t. told_windows (window_row j b ns is w f (s t) edges places))
