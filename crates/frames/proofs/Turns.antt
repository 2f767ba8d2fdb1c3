-- The numbers as the code computes them, and the turns of the loops. Assumes nothing.
use Prim.Native.Nat.{ℕ, ◌+◌, ◌*◌, ◌/◌, ◌%◌, ◌<◌, ◌≤◌}
use mathlib.Core.Path.{◌≡◌, refl, ap, ◌∙◌}
use mathlib.Core.List.{List, [], ◌∷◌}
use native.Mathlib.Omega.{arith}
use lib.ListN.{length, get_or, replicate}
use lib.Ieee.{Float, nan, neg}
use Rattle.layout.specs.Layout.{coordinates_per_vertex, reals_per_edge, words_per_triangle, reals_per_normal}
use Rattle.float64.specs.Scalar.{one, zero64}
use Rattle.float64.specs.Notation.{◌⊘◌}
use Rattle.vec3.specs.declared.Vec3.{Vec3}
use Rattle.vec3.specs.Vec.{scale_of, axpy_of, sub_of, dot_of, norm_of}
use Rattle.job_checks.specs.Edge.{vertex_at, lower, len_of, xhat_of, perpendicular_from}
use Rattle.buffers.specs.Zero.{zero_from}
use Rattle.topology.specs.Edges.{between, side_vertex, side_edge}
use Rattle.frames.specs.Stored.{vector_from, vector_at, normal_at, unit_at, unit_of, with_rows, row3, unit_row_of, origin_at, edge_end, length_row, with_lengths, perpendicular_at, perpendicular_row, with_normals}
use Rattle.frames.proofs.Rows.{rows_same, length_rows, vectors_at, vectors_past, zero_past_rows}

pub vector_of : (r : Vec3) (a b c x y z : Float) → r ≡ record { x = a; y = b; z = c } → a ≡ x → b ≡ y → c ≡ z → r ≡ record { x = x; y = y; z = z }
vector_of r a b c x y z e p q s = e ∙ (λ i. record { x = p i; y = q i; z = s i })

-- the same three reals by slot and field
pub vector_at_lem : (s : ℕ) (reals : List Float) (i a : ℕ) → vector_from reals (s * i + a) ≡ vector_at s reals i a
vector_at_lem s reals i a =
    let y : s * i + a + 1 ≡ s * i + (a + 1) = omega arith in
    let z : s * i + a + 2 ≡ s * i + (a + 2) = omega arith in
    λ j. record { x = get_or reals (s * i + a) nan; y = get_or reals (y j) nan; z = get_or reals (z j) nan }

pub vertex_is : (v : List Float) (k : ℕ) → vector_at reals_per_normal v k 0 ≡ vertex_at v k
vertex_is v k =
    let e : coordinates_per_vertex * k + 0 ≡ coordinates_per_vertex * k = omega arith in
    λ i. record { x = get_or v (e i) nan; y = get_or v (coordinates_per_vertex * k + 1) nan; z = get_or v (coordinates_per_vertex * k + 2) nan }

pub perpendicular_steps : (v reals : List Float) (e a b l t : ℕ) (o xhat third w p : Vec3) (k : Float) → l ≡ lower a b → o ≡ vertex_at v l → xhat ≡ unit_at reals e → third ≡ vertex_at v t → w ≡ sub_of third o → k ≡ dot_of w xhat → p ≡ axpy_of w (neg k) xhat → p ≡ perpendicular_from (vertex_at v (lower a b)) (unit_at reals e) (vertex_at v t)
unfolding perpendicular_from
perpendicular_steps v reals e a b l t o xhat third w p k first from unit to up along h = rw (← first, ← from, ← unit, ← to, ← up, ← along) h

module _ (v : List Float) (edge_words : List ℕ) where
  -- an edge's row as it is computed
  pub length_row_lem : (e : ℕ) (d x : Vec3) (len : Float) → d ≡ sub_of (edge_end v edge_words e) (origin_at v edge_words e) → len ≡ norm_of d → x ≡ scale_of d (one ⊘ len) → len ∷ x.x ∷ x.y ∷ x.z ∷ [] ≡ length_row v edge_words e
  unfolding length_row len_of xhat_of
  length_row_lem e d x len from long unit = rw (← from, ← long, ← unit) refl

  pub lengths_made : (n : ℕ) (r₀ r₁ r₂ : List Float) → r₁ ≡ with_lengths v edge_words n r₀ → r₂ ≡ zero_from zero64 (reals_per_edge * n) r₁ → r₂ ≡ with_lengths v edge_words n (replicate (length r₀) zero64)
  unfolding length_row
  lengths_made n r₀ r₁ r₂ made zeroed = zeroed ∙ (ap (zero_from zero64 (reals_per_edge * n)) made ∙ zero_past_rows zero64 reals_per_edge (length_row v edge_words) (λ k. refl) n r₀)

module _ (v : List Float) (triangles triangle_words : List ℕ) (edge_reals : List Float) where
  -- over side k of face f, from what is read
  pub perpendicular_row_lem : (f k : ℕ) → k < 3 → (h e a b c : ℕ) (p : Vec3) → h ≡ 3 * f + k → e ≡ get_or triangle_words (words_per_triangle * f + k) 0 → a ≡ get_or triangles (3 * f + k) 0 → b ≡ get_or triangles (3 * f + (k + 1) % 3) 0 → c ≡ get_or triangles (3 * f + (k + 2) % 3) 0 → p ≡ perpendicular_from (vertex_at v (lower a b)) (unit_at edge_reals e) (vertex_at v c) → row3 p ≡ perpendicular_row v triangles triangle_words edge_reals h
  unfolding perpendicular_at side_edge between side_vertex
  perpendicular_row_lem f k l h e a b c p here ee ea eb ec ep =
      let d : (3 * f + k) / 3 ≡ f = omega arith in
      let m : (3 * f + k) % 3 ≡ k = omega arith in
      let z : (k + 0) % 3 ≡ k = omega arith in
      rw (here, d, m, z, ← ee, ← ea, ← eb, ← ec, ← ep) refl

  -- the perpendiculars, scaled to length one and the rest zeroed, are the normals
  pub normals_made : (n : ℕ) (r₀ r₁ r₂ r₃ : List Float) → reals_per_normal * n ≤ length r₀ → r₁ ≡ with_rows reals_per_normal (perpendicular_row v triangles triangle_words edge_reals) n r₀ → r₂ ≡ with_rows reals_per_normal (unit_row_of r₁) n r₁ → r₃ ≡ zero_from zero64 (reals_per_normal * n) r₂ → r₃ ≡ with_normals v triangles triangle_words edge_reals n (replicate (length r₀) zero64)
  normals_made n r₀ r₁ r₂ r₃ long raw scaled zeroed =
      let of : ℕ → Vec3 = perpendicular_at v triangles triangle_words edge_reals in
      let same : length r₁ ≡ length r₀ = ap length raw ∙ length_rows reals_per_normal (λ (h : ℕ). row3 (of h)) (λ k. refl) n r₀ in
      let at : (h : ℕ) → h < n → normal_at r₁ h ≡ of h = λ h l. ap (λ (x : List Float). normal_at x h) raw ∙ vectors_at of n r₀ h l long in
      let unit : r₂ ≡ with_normals v triangles triangle_words edge_reals n r₁ = scaled ∙ rows_same reals_per_normal (unit_row_of r₁) (λ (h : ℕ). row3 (unit_of (of h))) n r₁ (λ h l. ap (λ (p : Vec3). row3 (unit_of p)) (at h l)) in
      zeroed
      ∙ (ap (zero_from zero64 (reals_per_normal * n)) unit
      ∙ (zero_past_rows zero64 reals_per_normal (λ (h : ℕ). row3 (unit_of (of h))) (λ k. refl) n r₁
      ∙ ap (λ (k : ℕ). with_normals v triangles triangle_words edge_reals n (replicate k zero64)) same))

-- side h's row as it is scaled
pub unit_row : (r : List Float) (h : ℕ) (p u : Vec3) (altitude : Float) → p ≡ normal_at r h → altitude ≡ norm_of p → u ≡ scale_of p (one ⊘ altitude) → row3 u ≡ unit_row_of r h
unfolding unit_of
unit_row r h p u altitude read long unit = rw (← read, ← long, ← unit) refl

-- when the slots below n are scaled the others are not
pub unit_past : (r₀ r : List Float) (n h : ℕ) → n ≤ h → r ≡ with_rows reals_per_normal (unit_row_of r₀) n r₀ → unit_row_of r h ≡ unit_row_of r₀ h
unit_past r₀ r n h l so_far =
    ap (λ (p : Vec3). row3 (unit_of p)) (ap (λ (x : List Float). normal_at x h) so_far ∙ vectors_past (λ (k : ℕ). unit_of (normal_at r₀ k)) n r₀ h l)
