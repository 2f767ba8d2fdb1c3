-- Element k of a row that is answered is what the single query answers to question k. Assumes nothing.
--     face_element, edge_element, vertex_element; row_is (slices that are equal)
use Prim.Native.Nat.{ℕ, ◌≤◌, ◌<◌}
use mathlib.Core.Bool.{Bool, true, false, cond, ◌||◌}
use mathlib.Core.List.{List}
use mathlib.Core.Path.{◌≡◌, refl, sym, ap, ◌∙◌}
use native.Mathlib.Omega.{arith}
use borrow.Author.Tests.{ltb-false}
use lib.Dec.{ltb}
use lib.Ieee.{Float, nan}
use lib.ListN.{length, get_or}
use Rattle.std.specs.declared.result.Result.{Result}
use Rattle.std.specs.declared.result.Result.TheVariants.{Ok, Err}
use Rattle.layout.specs.Layout.{coordinates_per_vertex}
use Rattle.buffers.specs.Slots.{slots_of}
use Rattle.job_checks.specs.Edge.{vertex_at}
use Rattle.computed.specs.declared.Computed.{Computed}
use Rattle.computed.specs.declared.Computed.TheVariants.{Refused, Field as isField}
use Rattle.face_rows.specs.of_field_check.FieldCheck.{JobSlices, FieldSlices, field_unsound}
use Rattle.face_rows.specs.of_queries.Answers.{face_answer_number, edge_answer_number, vertex_answer_number, face_value, edge_value, vertex_value}
use Rattle.face_rows.specs.of_queries.Queries.{face_query, edge_query, vertex_query}
use Rattle.face_rows.proofs.laws_of_queries.Checked.{left_none, right_none}
use Rattle.query_rows.specs.declared.RowRefusal.{RowRefusal}
use Rattle.query_rows.specs.declared.RowRefusal.TheVariants.{NoField, ShortRow}
use Rattle.query_rows.specs.Rows.{RowResult, row_number, row_result, elements, short_for, face_row, edge_row, vertex_row, vertex_numbers, vertex_values}
use Rattle.open_rows.specs.Written.{written_row}
use Rattle.open_rows.proofs.Written.{row_at}
use Rattle.face_rows.specs.FaceAnswers.{face_numbers, face_values}
use Rattle.edge_rows.specs.EdgeAnswers.{edge_numbers, edge_values}

-- ---- a row that is answered was refused by neither test
pub both_long : (q o m d : ℕ) → short_for q o m d ≡ false → (q ≤ m) × (q ≤ d)
unfolding short_for
both_long q o m d h =
    let r = right_none (ltb o q) (ltb m q || ltb d q) h in
    (ltb-false m q (left_none (ltb m q) (ltb d q) r), ltb-false d q (right_none (ltb m q) (ltb d q) r))

module _ (numbers : List ℕ) (distances : List Float) (q : ℕ) (g : ℕ → ℕ) (h : ℕ → Float) where
  abbrev refusable : Bool → Bool → RowResult
  refusable s t = cond s (row_result (Err NoField) numbers distances) (cond t (row_result (Err ShortRow) numbers distances) (row_result (Ok tt) (written_row g q numbers) (written_row h q distances)))

  sound : (s t : Bool) → (refusable s t).answer ≡ Ok tt → s ≡ false
  sound true t a = absurd (omega (arith, ap row_number a))
  sound false t a = refl

  written : (s t : Bool) (o : ℕ) → t ≡ short_for q o (elements numbers) (elements distances) → (refusable s t).answer ≡ Ok tt → (k : ℕ) → k < q
      → (get_or (refusable s t).numbers k 0 ≡ g k) × (get_or (refusable s t).distances k nan ≡ h k)
  written true t o e a k m = absurd (omega (arith, ap row_number a))
  written false true o e a k m = absurd (omega (arith, ap row_number a))
  written false false o e a k m =
      let l = both_long q o (elements numbers) (elements distances) (sym e) in
      (row_at g numbers q k 0 m (omega (arith, l.0)), row_at h distances q k nan m (omega (arith, l.1)))

pub row_is : (r : Result (Unit {0}) RowRefusal) (ns ns' : List ℕ) (ds ds' : List Float) → ns ≡ ns' → ds ≡ ds' → row_result r ns ds ≡ row_result r ns' ds'
row_is r ns ns' ds ds' h k = λ i. row_result r (h i) (k i)

-- what is behind a test that passed
pub behind_test : {A B : Type 0} (h : A → B) (s : Bool) (x y : A) → s ≡ false → h y ≡ h (cond s x y)
behind_test h s x y e = sym (ap (λ (t : Bool). h (cond t x y)) e)

-- ---- the three rows
module _ (j : JobSlices) (b : FieldSlices) (numbers : List ℕ) (distances : List Float) where
  pub face_element : (c : Computed) (asked : List ℕ) (points : List Float) → (face_row j b numbers distances c asked points).answer ≡ Ok tt → (k : ℕ) → k < elements asked
      → (get_or (face_row j b numbers distances c asked points).numbers k 0 ≡ face_answer_number (face_query j b c (get_or asked k 0) (vertex_at points k)))
      × (get_or (face_row j b numbers distances c asked points).distances k nan ≡ face_value (face_query j b c (get_or asked k 0) (vertex_at points k)))
  unfolding face_row face_query
  face_element (Refused n) asked points a k m = absurd (omega (arith, ap row_number a))
  face_element (isField n) asked points a k m =
      let g = face_numbers n b j asked points in
      let h = face_values n b j asked points in
      let t = short_for (elements asked) (slots_of (length points) coordinates_per_vertex) (elements numbers) (elements distances) in
      let w = written numbers distances (elements asked) g h (field_unsound n j b) t (slots_of (length points) coordinates_per_vertex) refl a k m in
      let s = sound numbers distances (elements asked) g h (field_unsound n j b) t a in
      (w.0 ∙ behind_test face_answer_number (field_unsound n j b) _ _ s, w.1 ∙ behind_test face_value (field_unsound n j b) _ _ s)

  pub edge_element : (c : Computed) (edges : List ℕ) (places : List Float) → (edge_row j b numbers distances c edges places).answer ≡ Ok tt → (k : ℕ) → k < elements edges
      → (get_or (edge_row j b numbers distances c edges places).numbers k 0 ≡ edge_answer_number (edge_query j b c (get_or edges k 0) (get_or places k nan)))
      × (get_or (edge_row j b numbers distances c edges places).distances k nan ≡ edge_value (edge_query j b c (get_or edges k 0) (get_or places k nan)))
  unfolding edge_row edge_query
  edge_element (Refused n) edges places a k m = absurd (omega (arith, ap row_number a))
  edge_element (isField n) edges places a k m =
      let g = edge_numbers n b edges places in
      let h = edge_values n b edges places in
      let t = short_for (elements edges) (elements places) (elements numbers) (elements distances) in
      let w = written numbers distances (elements edges) g h (field_unsound n j b) t (elements places) refl a k m in
      let s = sound numbers distances (elements edges) g h (field_unsound n j b) t a in
      (w.0 ∙ behind_test edge_answer_number (field_unsound n j b) _ _ s, w.1 ∙ behind_test edge_value (field_unsound n j b) _ _ s)

  pub vertex_element : (c : Computed) (asked : List ℕ) → (vertex_row j b numbers distances c asked).answer ≡ Ok tt → (k : ℕ) → k < elements asked
      → (get_or (vertex_row j b numbers distances c asked).numbers k 0 ≡ vertex_answer_number (vertex_query j b c (get_or asked k 0)))
      × (get_or (vertex_row j b numbers distances c asked).distances k nan ≡ vertex_value (vertex_query j b c (get_or asked k 0)))
  unfolding vertex_row vertex_query
  vertex_element (Refused n) asked a k m = absurd (omega (arith, ap row_number a))
  vertex_element (isField n) asked a k m =
      let g = vertex_numbers n b asked in
      let h = vertex_values n b asked in
      let t = short_for (elements asked) (elements asked) (elements numbers) (elements distances) in
      let w = written numbers distances (elements asked) g h (field_unsound n j b) t (elements asked) refl a k m in
      let s = sound numbers distances (elements asked) g h (field_unsound n j b) t a in
      (w.0 ∙ behind_test vertex_answer_number (field_unsound n j b) _ _ s, w.1 ∙ behind_test vertex_value (field_unsound n j b) _ _ s)
