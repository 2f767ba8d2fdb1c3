-- Each query's number is that of the first of document 01's refusals that holds, in its order, 0 where none does. Assumes nothing.
use Prim.Native.Nat.{ℕ, zero, suc}
use mathlib.Core.Bool.{Bool, true, false, cond}
use mathlib.Core.List.{List, [], ◌∷◌}
use mathlib.Core.Path.{◌≡◌, refl, sym, ap}
use native.Mathlib.Omega.{arith}
use borrow.Author.Tests.{ne_eqb}
use lib.Dec.{eqb, leb}
use lib.Ieee.{Float}
use Rattle.std.specs.declared.result.Result.{Result}
use Rattle.std.specs.declared.result.Result.TheVariants.{Err}
use Rattle.vec3.specs.declared.Vec3.{Vec3}
use Rattle.chains.specs.Chains.{links}
use Rattle.job_checks.specs.Any.{first_of}
use Rattle.field_check.specs.of_frames.Stored.{length_at}
use Rattle.edge_query.specs.of_last_pass.Buffers.{chain_behind}
use Rattle.computed.specs.declared.Computed.TheVariants.{Refused, Field as isField}
use Rattle.computed.specs.declared.Field.{Field}
use Rattle.field_check.specs.FieldCheck.{JobSlices, FieldSlices, field_unsound}
use Rattle.queries.specs.declared.ListedWindow.{ListedWindow}
use Rattle.queries.specs.declared.WindowRefusal.{WindowRefusal}
use Rattle.queries.specs.declared.WindowRefusal.TheVariants as window
use Rattle.queries.specs.Answers.{face_answer_number, edge_answer_number, vertex_answer_number, window_answer_number}
use Rattle.queries.specs.Queries.{point_outside, place_outside, place_link, linked_window, face_answer, edge_answer, vertex_answer, window_answer, face_query, edge_query, vertex_query, window_query}

-- three answers that are refused and one that is not, and the tests that lead to them
four : {A : Type 0} (number : A → ℕ) (x y z v : A) (s t u : Bool) → number v ≡ 0 → number (cond s x (cond t y (cond u z v))) ≡ cond s (number x) (cond t (number y) (cond u (number z) 0))
four number x y z v true t u h = refl
four number x y z v false true u h = refl
four number x y z v false false true h = refl
four number x y z v false false false h = h

three : {A : Type 0} (number : A → ℕ) (x y v : A) (s t : Bool) → number v ≡ 0 → number (cond s x (cond t y v)) ≡ cond s (number x) (cond t (number y) 0)
three number x y v true t h = refl
three number x y v false true h = refl
three number x y v false false h = h

linked_number : (w : List ℕ) (f : List Float) (l : ℕ) → window_answer_number (linked_window w f l) ≡ cond (eqb l 0) 26 0
unfolding linked_window
linked_number w f zero = refl
linked_number w f (suc k) = sym (ap (λ (c : Bool). cond c 26 0) (ne_eqb (suc k) 0 (λ e. omega arith)))

-- 20 is met where there is no field
module _ (j : JobSlices) (b : FieldSlices) (k : ℕ) where
  pub face_none : (f : ℕ) (p : Vec3) → face_answer_number (face_query j b (Refused k) f p) ≡ 20
  unfolding face_query
  face_none f p = refl

  pub edge_none : (e : ℕ) (x : Float) → edge_answer_number (edge_query j b (Refused k) e x) ≡ 20
  unfolding edge_query
  edge_none e x = refl

  pub vertex_none : (i : ℕ) → vertex_answer_number (vertex_query j b (Refused k) i) ≡ 20
  unfolding vertex_query
  vertex_none i = refl

  pub window_none : (e i : ℕ) → window_answer_number (window_query j b (Refused k) e i) ≡ 20
  unfolding window_query
  window_none e i = refl

-- of a field, 20 to 26 in document 01's order
module _ (j : JobSlices) (b : FieldSlices) (n : Field) where
  pub face_number : (f : ℕ) (p : Vec3) → face_answer_number (face_query j b (isField n) f p) ≡ first_of ((20, field_unsound n j b) ∷ (21, leb n.triangles f) ∷ (22, point_outside p) ∷ [])
  unfolding face_query face_answer first_of
  face_number f p = four face_answer_number _ _ _ _ (field_unsound n j b) (leb n.triangles f) (point_outside p) refl

  pub edge_number : (e : ℕ) (x : Float) → edge_answer_number (edge_query j b (isField n) e x) ≡ first_of ((20, field_unsound n j b) ∷ (23, leb n.edges e) ∷ (24, place_outside (length_at b.edge_reals_held e) x) ∷ [])
  unfolding edge_query edge_answer first_of
  edge_number e x = four edge_answer_number _ _ _ _ (field_unsound n j b) (leb n.edges e) (place_outside (length_at b.edge_reals_held e) x) refl

  pub vertex_number : (i : ℕ) → vertex_answer_number (vertex_query j b (isField n) i) ≡ first_of ((20, field_unsound n j b) ∷ (25, leb n.vertices i) ∷ [])
  unfolding vertex_query vertex_answer first_of
  vertex_number i = three vertex_answer_number _ _ _ (field_unsound n j b) (leb n.vertices i) refl

  abbrev placed : ℕ → ℕ → ℕ
  placed e i = place_link i (chain_behind n.windows (links b.edge_words_held b.words) e n.windows 0)

  pub window_number : (e i : ℕ) → window_answer_number (window_query j b (isField n) e i) ≡ first_of ((20, field_unsound n j b) ∷ (23, leb n.edges e) ∷ (26, eqb (placed e i) 0) ∷ [])
  unfolding window_query window_answer first_of
  window_number e i = go (field_unsound n j b) (leb n.edges e) where
    w : Result ListedWindow WindowRefusal
    w = linked_window b.words b.reals (placed e i)

    go : (s t : Bool) → window_answer_number (cond s (Err window.NoField) (cond t (Err window.MissingEdge) w)) ≡ cond s 20 (cond t 23 (cond (eqb (placed e i) 0) 26 0))
    go true t = refl
    go false true = refl
    go false false = linked_number b.words b.reals (placed e i)
