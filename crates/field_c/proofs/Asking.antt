-- What is told of a field, whether its slots are there, and the answer to one question. Assumes nothing.
use Prim.Native.Nat.{ℕ, ◌≤◌, ◌<◌}
use native.Mathlib.Omega.{arith}
use mathlib.Core.Bool.{Bool, true, false, ◌&&◌}
use mathlib.Core.List.{List}
use mathlib.Core.Path.{◌≡◌, refl, sym, ap, ◌∙◌}
use borrow.Author.Tests.{leb-true, le-leb, lt-leb}
use lib.Dec.{leb}
use lib.Ieee.{Float}
use lib.ListN.{set}
use Rattle.std.specs.declared.result.Result.{Result}
use Rattle.layout.specs.Layout.{words_per_edge}
use Rattle.buffers.specs.Slots.{slots_of}
use Rattle.vec3.specs.declared.Vec3.{Vec3}
use Rattle.windows.specs.Windows.{capacity_of}
use Rattle.computed.specs.declared.Computed.TheVariants.{Field as isField}
use Rattle.computed.specs.declared.Field.{Field}
use Rattle.queries.specs.of_field_check.FieldCheck.{JobSlices, FieldSlices, field_unsound}
use Rattle.queries.specs.declared.FaceRefusal.{FaceRefusal}
use Rattle.queries.specs.declared.EdgeRefusal.{EdgeRefusal}
use Rattle.queries.specs.Answers.{face_answer_number, edge_answer_number, face_value, edge_value}
use Rattle.queries.specs.Queries.{face_answer, edge_answer, face_query, edge_query}
use Rattle.queries.proofs.Checked.{enough, taken, left}
use Rattle.field_c.specs.Asked.{fits, field_fits_in, asked_face, asked_edge}

both_left : (a b : Bool) → (a && b) ≡ true → a ≡ true
both_left true b e = refl
both_left false b e = e

both_right : (a b : Bool) → (a && b) ≡ true → b ≡ true
both_right true b e = e
both_right false b e = absurd (let z : ◌≡◌ {A = Bool} false true = e in (let y : ◌≡◌ {A = ℕ} 0 1 = cc in omega arith))

module _ (n : Field) (a w r : ℕ) where
  pub has_both : fits n a w r ≡ true → (n.edges ≤ slots_of a words_per_edge) × (n.windows ≤ capacity_of w r)
  unfolding fits
  has_both h = (
    leb-true n.edges (slots_of a words_per_edge) (both_left (leb n.edges (slots_of a words_per_edge)) (leb n.windows (capacity_of w r)) h),
    leb-true n.windows (capacity_of w r) (both_right (leb n.edges (slots_of a words_per_edge)) (leb n.windows (capacity_of w r)) h),
  )

  module _ {s : ℕ} (e : s ≡ slots_of a words_per_edge) where
    pub edges_lack : s < n.edges → false ≡ fits n a w r
    unfolding fits
    edges_lack h = sym (ap (λ (b : Bool). b && leb n.windows (capacity_of w r)) (lt-leb n.edges (slots_of a words_per_edge) (omega (arith, e, h))))

    module _ {c : ℕ} (g : c ≡ capacity_of w r) (h : n.edges ≤ s) where
      first : leb n.edges (slots_of a words_per_edge) ≡ true
      first = le-leb n.edges (slots_of a words_per_edge) (omega (arith, e, h))

      pub windows_lack : c < n.windows → false ≡ fits n a w r
      unfolding fits
      windows_lack k = sym (ap (λ (b : Bool). b && leb n.windows (capacity_of w r)) first ∙ lt-leb n.windows (capacity_of w r) (omega (arith, g, k)))

      pub none_lacks : n.windows ≤ c → true ≡ fits n a w r
      unfolding fits
      none_lacks k = sym (ap (λ (b : Bool). b && leb n.windows (capacity_of w r)) first ∙ le-leb n.windows (capacity_of w r) (omega (arith, g, k)))

-- the question is answered, or the slices have too few slots
module _ (j : JobSlices) (b : FieldSlices) (d : List Float) {m n : Field} (told : m ≡ n) {t : Bool} (test : t ≡ field_fits_in m b) where
  module _ (f : ℕ) (p : Vec3) where
    pub face_told : {x : Result Float FaceRefusal} {k : ℕ} {v : Float} {d' : List Float} → t ≡ true → x ≡ face_answer m b j f p → v ≡ face_value x → d' ≡ set d 0 v → k ≡ face_answer_number x → (k, d') ≡ asked_face n j b f p d
    unfolding asked_face
    face_told h e v s k = (λ i. ((k ∙ ap face_answer_number e) i, (s ∙ ap (λ (z : Float). set d 0 z) (v ∙ ap face_value e)) i)) ∙ taken _ _ _ (sym test ∙ h) ∙ ap (λ (z : Field). asked_face z j b f p d) told

    pub face_unfit : t ≡ false → (20, d) ≡ asked_face n j b f p d
    unfolding asked_face
    face_unfit h = left _ _ _ _ (sym test ∙ h) refl ∙ ap (λ (z : Field). asked_face z j b f p d) told

  module _ (e : ℕ) (x : Float) where
    pub edge_told : {y : Result Float EdgeRefusal} {k : ℕ} {v : Float} {d' : List Float} → t ≡ true → y ≡ edge_answer m b e x → v ≡ edge_value y → d' ≡ set d 0 v → k ≡ edge_answer_number y → (k, d') ≡ asked_edge n j b e x d
    unfolding asked_edge
    edge_told h q v s k = (λ i. ((k ∙ ap edge_answer_number q) i, (s ∙ ap (λ (z : Float). set d 0 z) (v ∙ ap edge_value q)) i)) ∙ taken _ _ _ (sym test ∙ h) ∙ ap (λ (z : Field). asked_edge z j b e x d) told

    pub edge_unfit : t ≡ false → (20, d) ≡ asked_edge n j b e x d
    unfolding asked_edge
    edge_unfit h = left _ _ _ _ (sym test ∙ h) refl ∙ ap (λ (z : Field). asked_edge z j b e x d) told

-- where refusal 20 is not met, a single question is answered as the query answers it
module _ (n : Field) (j : JobSlices) (b : FieldSlices) (d : List Float) (sound : field_unsound n j b ≡ false) where
  fitting : field_fits_in n b ≡ true
  fitting = let e = enough n j b sound in sym (none_lacks n _ _ _ refl refl e.0 e.1)

  pub face_is_query : (f : ℕ) (p : Vec3) → asked_face n j b f p d ≡ (face_answer_number (face_query j b (isField n) f p), set d 0 (face_value (face_query j b (isField n) f p)))
  unfolding asked_face face_query
  face_is_query f p =
      let q : face_answer n b j f p ≡ face_query j b (isField n) f p = left _ _ _ _ sound refl in
      sym (taken _ _ _ fitting) ∙ (λ i. (face_answer_number (q i), set d 0 (face_value (q i))))

  pub edge_is_query : (e : ℕ) (x : Float) → asked_edge n j b e x d ≡ (edge_answer_number (edge_query j b (isField n) e x), set d 0 (edge_value (edge_query j b (isField n) e x)))
  unfolding asked_edge edge_query
  edge_is_query e x =
      let q : edge_answer n b e x ≡ edge_query j b (isField n) e x = left _ _ _ _ sound refl in
      sym (taken _ _ _ fitting) ∙ (λ i. (edge_answer_number (q i), set d 0 (edge_value (q i))))
