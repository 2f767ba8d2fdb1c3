-- The finished table read: each field of an edge, a triangle and a bucket; and that a checked job's mesh is one that it is made of. Assumes nothing.
use Prim.Native.Nat.{ℕ, ◌+◌, ◌*◌, ◌<◌, ◌≤◌}
use mathlib.Core.Path.{◌≡◌, refl, ◌∙◌}
use mathlib.Core.Bool.{Bool, true, false, cond}
use mathlib.Core.List.{List}
use native.Mathlib.Omega.{arith}
use borrow.Author.Tests.{lt-ltb, le-ltb}
use lib.Dec.{ltb}
use lib.ListN.{length, get_or}
use Rattle.layout.specs.Layout.{words_per_edge, edge_low, edge_high, edge_first_face, edge_second_face, edge_head, edge_scratch, words_per_triangle}
use Rattle.job_checks.specs.Refusals.{max_vertices}
use Rattle.job_checks.specs.Sound.{ValidTriangles}
use Rattle.topology.specs.Edges.{no_edge, edges, tri_edge, edge_faces, face}
use Rattle.edge_table.specs.Words.{edge_row, edge_word, triangle_word}
use Rattle.edge_table.specs.Table.{Mesh, edge_words, triangle_words}
use Rattle.edge_table.proofs.Holding.{words_at, words_zero}

pub mesh_of_lem : (triangles : List ℕ) (n : ℕ) → ValidTriangles triangles n → n ≤ max_vertices → Mesh triangles n
mesh_of_lem triangles n s l = record { whole = s.whole; few_triangles = s.few; few_vertices = l; there = s.there }

-- numbers below v are below the most that there can be
pub mesh_most : (triangles : List ℕ) (v : ℕ) → Mesh triangles v → Mesh triangles 65535
mesh_most triangles v m = record { whole = m.whole; few_triangles = m.few_triangles; few_vertices = omega arith; there = λ i l. omega (arith, m.there i l, m.few_vertices) }

no_matter : (b : Bool) → ◌≡◌ {A = ℕ} (cond b 0 0) 0
no_matter true = refl
no_matter false = refl

module _ (triangles : List ℕ) (n : ℕ) where
  -- the fields of an edge
  module _ (e : ℕ) (l : e < length (edges triangles)) (fits : words_per_edge * e + words_per_edge ≤ n) where
    field : (a : ℕ) → a < words_per_edge → get_or (edge_words triangles n) (words_per_edge * e + a) 0 ≡ get_or (edge_row (edges triangles) e (edge_faces triangles e)) a 0
    unfolding edge_words edge_word
    field a k = words_at n words_per_edge (edge_word (edges triangles) (edge_faces triangles)) e a k (omega arith) ∙ rw (lt-ltb e (length (edges triangles)) l) refl

    pub low_read : get_or (edge_words triangles n) (words_per_edge * e + edge_low) 0 ≡ (get_or (edges triangles) e no_edge).low
    unfolding edge_row
    low_read = field edge_low (omega arith)

    pub high_read : get_or (edge_words triangles n) (words_per_edge * e + edge_high) 0 ≡ (get_or (edges triangles) e no_edge).high
    unfolding edge_row
    high_read = field edge_high (omega arith)

    pub first_face_read : get_or (edge_words triangles n) (words_per_edge * e + edge_first_face) 0 ≡ face triangles e 0
    unfolding edge_row face
    first_face_read = field edge_first_face (omega arith)

    pub second_face_read : get_or (edge_words triangles n) (words_per_edge * e + edge_second_face) 0 ≡ face triangles e 1
    unfolding edge_row face
    second_face_read = field edge_second_face (omega arith)

  -- no windows yet, and a zero
  pub head_read : (e : ℕ) → get_or (edge_words triangles n) (words_per_edge * e + edge_head) 0 ≡ 0
  unfolding edge_words edge_word edge_row
  head_read e = words_zero n words_per_edge (edge_word (edges triangles) (edge_faces triangles)) e edge_head (omega arith) (no_matter (ltb e (length (edges triangles))))

  pub scratch_read : (e : ℕ) → get_or (edge_words triangles n) (words_per_edge * e + edge_scratch) 0 ≡ 0
  unfolding edge_words edge_word edge_row
  scratch_read e = words_zero n words_per_edge (edge_word (edges triangles) (edge_faces triangles)) e edge_scratch (omega arith) (no_matter (ltb e (length (edges triangles))))

  -- the edge of a side
  pub number_read : (f k : ℕ) → k < 3 → 3 * f + k < length triangles → words_per_triangle * f + k < n → get_or (triangle_words triangles n) (words_per_triangle * f + k) 0 ≡ tri_edge triangles (3 * f + k)
  unfolding triangle_words triangle_word
  number_read f k lk l m =
      words_at n words_per_triangle (triangle_word (length triangles) (tri_edge triangles)) f k (omega arith) m ∙ rw (lt-ltb k 3 lk, lt-ltb (3 * f + k) (length triangles) l) refl

  -- what no side takes of a triangle
  pub spare_read : (f a : ℕ) → 3 ≤ a → a < words_per_triangle → get_or (triangle_words triangles n) (words_per_triangle * f + a) 0 ≡ 0
  unfolding triangle_words triangle_word
  spare_read f a l k = words_zero n words_per_triangle (triangle_word (length triangles) (tri_edge triangles)) f a k (rw (le-ltb a 3 l) refl)
