-- The side of a face towards another face, in the topology. Definitions only.
use Rattle.std.specs.Prelude.{ℕ, ◌+◌, ◌*◌, Bool, cond, ◌||◌, List, eqb}
use Rattle.topology.specs.Edges.{tri_edge, face}

-- the Rust's `faces[e].contains(&h)`
abbrev pub has_face : List ℕ → ℕ → ℕ → Bool
has_face triangles e h = eqb (face triangles e 0) h || eqb (face triangles e 1) h

-- the first side of face f whose edge has face h, 3 where none has
unfoldable pub side_to : List ℕ → ℕ → ℕ → ℕ
side_to triangles f h =
    cond (has_face triangles (tri_edge triangles (3 * f)) h) 0
    (cond (has_face triangles (tri_edge triangles (3 * f + 1)) h) 1
    (cond (has_face triangles (tri_edge triangles (3 * f + 2)) h) 2 3))
