-- The table side by side: what the contracts of the private functions cite. Definitions only.
use Rattle.std.specs.Prelude.{ℕ, zero, suc, ◌+◌, ◌*◌, ◌<◌, ◌≤◌, ◌≡◌, true, cond, ◌&&◌, List, [], ◌∷◌, ltb, eqb, length, get_or, set, Result, Ok, Err}
use Rattle.layout.specs.Layout.{words_per_round, words_per_edge, edge_low, edge_high, edge_scratch, words_per_triangle}
use Rattle.topology.specs.Edges.{EndPair, no_edge, no_face, side_edge, find, edges_of, faces_among, shared_by_three}
use Rattle.edge_table.specs.declared.ThirdFace.{ThirdFace}
use Rattle.edge_table.specs.Words.{bucket_of, last_in, head_word, triangle_word}
use Rattle.edge_table.specs.Table.{Mesh, TableFits}

-- Every field a of every slot i of a buffer, whether or not it has the slot.
abbrev pub HoldsWords : ℕ → List ℕ → (ℕ → ℕ → ℕ) → Type 0
HoldsWords s words word = (i a : ℕ) → a < s → get_or words (s * i + a) 0 ≡ word i a

-- the fields of edge e while edges are entered: the last is the link to the next edge of its bucket
unfoldable pub linked_row : ℕ → List EndPair → ℕ → List ℕ → List ℕ
linked_row size es e fs =
    (get_or es e no_edge).low
    ∷ (get_or es e no_edge).high
    ∷ get_or fs 0 no_face
    ∷ get_or fs 1 no_face
    ∷ 0
    ∷ last_in size es (bucket_of size (get_or es e no_edge)) e
    ∷ []

unfoldable pub linked_word : ℕ → List EndPair → (ℕ → List ℕ) → ℕ → ℕ → ℕ
linked_word size es faces e a = cond (ltb e (length es)) (get_or (linked_row size es e (faces e)) a 0) 0

-- the edges' words with the links of the first n edges zeroed
unfoldable pub without_links : ℕ → List ℕ → List ℕ
without_links zero words = words
without_links (suc e) words = set (without_links e words) (words_per_edge * e + edge_scratch) 0

-- The buffers after the first h sides.
module _ (triangles : List ℕ) (h : ℕ) where
  -- the faces of edge e so far
  unfoldable pub faces_so_far : ℕ → List ℕ
  faces_so_far e = faces_among triangles (get_or (edges_of triangles h) e no_edge) h

  unfoldable pub number_so_far : ℕ → ℕ
  number_so_far s = find (side_edge triangles s) (edges_of triangles h)

pub record Partial (triangles : List ℕ) (size h : ℕ) (heads edge triangle : List ℕ) : Type 0 where
  pub head_words_held : HoldsWords words_per_round heads (head_word size (edges_of triangles h))
  pub edge_words_held : HoldsWords words_per_edge edge (linked_word size (edges_of triangles h) (faces_so_far triangles h))
  pub triangle_words_held : HoldsWords words_per_triangle triangle (triangle_word h (number_so_far triangles h))
  pub two_faces : (e : ℕ) → e < length (edges_of triangles h) → length (faces_so_far triangles h e) ≤ 2

-- What side h is entered into: the buffers after h sides, with so many edges.
pub record ReadyForSide (triangles : List ℕ) (h count : ℕ) (heads edge triangle : List ℕ) : Type 0 where
  pub mesh : Mesh triangles 65535
  pub long : TableFits triangles (length heads) (length edge) (length triangle)
  pub side : h < length triangles
  pub counted : count ≡ length (edges_of triangles h)
  pub words : Partial triangles (length triangles) h heads edge triangle

-- What all sides are entered into: the buffers before any.
pub record Blank (triangles heads edge triangle : List ℕ) : Type 0 where
  pub mesh : Mesh triangles 65535
  pub long : TableFits triangles (length heads) (length edge) (length triangle)
  pub words : Partial triangles (length triangles) 0 heads edge triangle

-- The answer after h sides.
unfoldable pub Turned : List ℕ → ℕ → ℕ → List ℕ → List ℕ → List ℕ → Result ℕ ThirdFace → Type 0
Turned triangles size h heads edge triangle (Ok n) = (n ≡ length (edges_of triangles h)) × Partial triangles size h heads edge triangle
Turned triangles size h heads edge triangle (Err e) = shared_by_three triangles ≡ true

-- The links of edges fall: each leads to an earlier edge.
abbrev pub Falling : List ℕ → Type 0
Falling words = (e : ℕ) → get_or words (words_per_edge * e + edge_scratch) 0 ≤ e

-- the link to the edge with these ends on the chain from a link on, or 0; the first number is how many links are followed at most
unfoldable pub seek : List ℕ → ℕ → ℕ → ℕ → ℕ → ℕ
seek words low high zero at = 0
seek words low high (suc n) zero = 0
seek words low high (suc n) (suc e) =
    cond (eqb (get_or words (words_per_edge * e + edge_low) 0) low && eqb (get_or words (words_per_edge * e + edge_high) 0) high) (suc e) (seek words low high n (get_or words (words_per_edge * e + edge_scratch) 0))
