-- The edge table of a mesh: the answer and the three buffers. Definitions only.
use Rattle.std.specs.Prelude.{ℕ, ◌*◌, ◌/◌, ◌<◌, ◌≤◌, ◌≡◌, cond, List, length, get_or, replicate, Result, Ok, Err}
use Rattle.layout.specs.Layout.{words_per_round, words_per_edge, words_per_triangle}
use Rattle.topology.specs.Edges.{edges, tri_edge, edge_faces, shared_by_three}
use Rattle.edge_table.specs.declared.ThirdFace.{ThirdFace}
use Rattle.edge_table.specs.Words.{slot_words, head_word, edge_word, triangle_word}

-- What is asked of a mesh: three vertex numbers for each triangle, each below v, and no more of both than document 01 allows.
pub record Mesh (triangles : List ℕ) (v : ℕ) : Type 0 where
  pub whole : length triangles ≡ 3 * (length triangles / 3)
  pub few_triangles : length triangles / 3 ≤ 131070
  pub few_vertices : v ≤ 65535
  pub there : (i : ℕ) → i < length triangles → get_or triangles i 0 < v

-- Buffers of so many words: a bucket for each side, a slot for each side, which is what the edges can come to, and one for each triangle.
pub record TableFits (triangles : List ℕ) (heads edge triangle : ℕ) : Type 0 where
  pub heads_fit : length triangles ≤ heads
  pub edges_fit : words_per_edge * length triangles ≤ edge
  pub triangles_fit : words_per_triangle * (length triangles / 3) ≤ triangle

-- how many edges there are, unless one lies in more than two triangles
unfoldable pub table_of : List ℕ → Result ℕ ThirdFace
table_of triangles = cond (shared_by_three triangles) (Err (record {})) (Ok (length (edges triangles)))

-- The three buffers, of n words each.
unfoldable pub triangle_words : List ℕ → ℕ → List ℕ
triangle_words triangles n = slot_words n words_per_triangle (triangle_word (length triangles) (tri_edge triangles))

unfoldable pub head_words : List ℕ → ℕ → List ℕ
head_words triangles n = slot_words n words_per_round (head_word (length triangles) (edges triangles))

unfoldable pub edge_words : List ℕ → ℕ → List ℕ
edge_words triangles n = slot_words n words_per_edge (edge_word (edges triangles) (edge_faces triangles))

-- zeros where an edge lies in more than two triangles
abbrev pub unless_third : List ℕ → ℕ → (List ℕ → ℕ → List ℕ) → List ℕ
unless_third triangles n words = cond (shared_by_three triangles) (replicate n 0) (words triangles n)

-- The answer, and what the buffers hold against what they held before, which counts by its length alone.
pub record Built (triangles : List ℕ) (r : Result ℕ ThirdFace) (heads₀ edge₀ triangle₀ heads edge triangle : List ℕ) : Type 0 where
  pub answer : r ≡ table_of triangles
  pub head_words_held : heads ≡ unless_third triangles (length heads₀) head_words
  pub edge_words_held : edge ≡ unless_third triangles (length edge₀) edge_words
  pub triangle_words_held : triangle ≡ unless_third triangles (length triangle₀) triangle_words
