-- The Rust's Topology::new over lists: what joins what. Definitions only.
-- Side h of a mesh is side h % 3 of triangle h / 3: it goes from that triangle's vertex h % 3 to the next one. The Rust's two loops, over triangles and over
-- the three sides of each, meet the sides in the order of h.
use Rattle.std.specs.Prelude.{ℕ, zero, suc, ◌+◌, ◌*◌, ◌/◌, ◌%◌, Bool, not, cond, ◌&&◌, List, [], ◌∷◌, ◌++◌, ltb, eqb, length, get_or}
use Rattle.job_checks.specs.Any.{any_below}
use Rattle.job_checks.specs.Edge.{lower, higher}

-- the two vertices of an edge, the lower-numbered one first
pub record EndPair : Type 0 where
  pub low : ℕ
  pub high : ℕ

-- what stands where there is no edge or no face
abbrev pub no_edge : EndPair
no_edge = record { low = 0; high = 0 }

abbrev pub no_face : ℕ
no_face = 4_294_967_295

unfoldable pub between : ℕ → ℕ → EndPair
between a b = record { low = lower a b; high = higher a b }

abbrev pub same_edge : EndPair → EndPair → Bool
same_edge x y = eqb x.low y.low && eqb x.high y.high

-- vertex k is neither end of an edge
unfoldable pub off_ends : ℕ → EndPair → Bool
off_ends k e = not (eqb k e.low) && not (eqb k e.high)

-- both vertices are ends of an edge
unfoldable pub joins : ℕ → ℕ → EndPair → Bool
joins a b e = not (off_ends a e) && not (off_ends b e)

-- the place of e in a list, or the list's length
unfoldable pub find : EndPair → List EndPair → ℕ
find e [] = 0
find e (x ∷ xs) = cond (same_edge x e) 0 (suc (find e xs))

-- e entered at the end, unless it is there
unfoldable pub enter : List EndPair → EndPair → List EndPair
enter es e = cond (ltb (find e es) (length es)) es (es ++ (e ∷ []))

module _ (triangles : List ℕ) where
  -- the vertex of side h's triangle that is k places on from where the side starts
  unfoldable pub side_vertex : ℕ → ℕ → ℕ
  side_vertex h k = get_or triangles (3 * (h / 3) + (h % 3 + k) % 3) 0

  unfoldable pub side_edge : ℕ → EndPair
  side_edge h = between (side_vertex h 0) (side_vertex h 1)

  -- the edges of the first n sides, numbered by first appearance
  unfoldable pub edges_of : ℕ → List EndPair
  edges_of zero = []
  edges_of (suc n) = enter (edges_of n) (side_edge n)

  unfoldable pub edges : List EndPair
  edges = edges_of (length triangles)

  -- the Rust's tri_edges, of triangle h / 3 at h % 3
  unfoldable pub tri_edge : ℕ → ℕ
  tri_edge h = find (side_edge h) edges

  -- the faces of an edge among the first n sides, in rising order
  unfoldable pub faces_among : EndPair → ℕ → List ℕ
  faces_among e zero = []
  faces_among e (suc n) = cond (same_edge (side_edge n) e) (faces_among e n ++ (n / 3 ∷ [])) (faces_among e n)

  unfoldable pub edge_faces : ℕ → List ℕ
  edge_faces e = faces_among (get_or edges e no_edge) (length triangles)

  -- document 01's refusal 10: an edge lies in more than two triangles
  unfoldable pub overfull : ℕ → Bool
  overfull e = ltb 2 (length (edge_faces e))

  unfoldable pub shared_by_three : Bool
  shared_by_three = any_below overfull (length edges)

  -- the Rust's faces[e]: the first and the second
  unfoldable pub face : ℕ → ℕ → ℕ
  face e i = get_or (edge_faces e) i no_face

  -- the face of edge e that is not f
  unfoldable pub other : ℕ → ℕ → ℕ
  other e f = cond (eqb (face e 0) f) (face e 1) (face e 0)

  -- which side of face f edge e is
  unfoldable pub local : ℕ → ℕ → ℕ
  local f e = cond (eqb (tri_edge (3 * f)) e) 0 (cond (eqb (tri_edge (3 * f + 1)) e) 1 2)

  -- the vertex of face f that is not on edge e
  unfoldable pub third : ℕ → ℕ → ℕ
  third e f =
      let ends : EndPair = get_or edges e no_edge in
      cond (off_ends (get_or triangles (3 * f) 0) ends) (get_or triangles (3 * f) 0)
      (cond (off_ends (get_or triangles (3 * f + 1) 0) ends) (get_or triangles (3 * f + 1) 0)
      (get_or triangles (3 * f + 2) 0))

  -- the vertex that the edges e and o share, for two edges of one face: the first end of e if o has it, or else the second
  unfoldable pub shared_vertex : ℕ → ℕ → ℕ
  shared_vertex e o =
      let ends : EndPair = get_or edges e no_edge in
      cond (off_ends ends.low (get_or edges o no_edge)) ends.high ends.low

  -- the edge of face f between the vertices a and b: the first of its edges that has both
  unfoldable pub edge_between : ℕ → ℕ → ℕ → ℕ
  edge_between f a b =
      cond (joins a b (get_or edges (tri_edge (3 * f)) no_edge)) (tri_edge (3 * f))
      (cond (joins a b (get_or edges (tri_edge (3 * f + 1)) no_edge)) (tri_edge (3 * f + 1))
      (tri_edge (3 * f + 2)))

  -- the faces round vertex k among the first n sides, in rising order
  unfoldable pub faces_round : ℕ → ℕ → List ℕ
  faces_round k zero = []
  faces_round k (suc n) = cond (eqb (get_or triangles n 0) k) (faces_round k n ++ (n / 3 ∷ [])) (faces_round k n)

  unfoldable pub vertex_faces : ℕ → List ℕ
  vertex_faces k = faces_round k (length triangles)
