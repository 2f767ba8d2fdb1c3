-- Segments in the faces round a vertex, as document 01's refusal 11 asks for them. Definitions only.
use Rattle.std.specs.Prelude.{ℕ, ◌+◌, ◌*◌, ◌/◌, Bool, false, not, ◌&&◌, ◌||◌, List, [], ◌∷◌, eqb, length, get_or, Float}
use Rattle.vec3.specs.declared.Vec3.{Vec3}
use Rattle.job_checks.specs.Any.{any_below}
use Rattle.piece_ends.specs.Ends.{has_bits}
use Rattle.piece_ends.specs.Directions.{is_long}
use Rattle.piece_ends.specs.Walk.{find_along, first_link_at, next_link_at}

-- face g is one of those round vertex k (`round_listed` in proofs/Listed.antt: it is in the topology's list of them)
unfoldable pub has_vertex : List ℕ → ℕ → ℕ → Bool
has_vertex triangles g k = eqb (get_or triangles (3 * g + 0) 0) k || (eqb (get_or triangles (3 * g + 1) 0) k || eqb (get_or triangles (3 * g + 2) 0) k)

-- number g is in a list
unfoldable pub listed_in : ℕ → List ℕ → Bool
listed_in g [] = false
listed_in g (h ∷ hs) = eqb h g || listed_in g hs

module _ (kinds faces : List ℕ) (coords : List Float) (triangles : List ℕ) where
  -- end e is of a segment of computed length above zero, in a face round vertex k
  unfoldable pub is_round : ℕ → ℕ → Bool
  is_round k e = is_long kinds coords (e / 2) && has_vertex triangles (get_or faces (e / 2) 0) k

  -- such a segment ends at the bits of p
  unfoldable pub any_round : ℕ → Vec3 → Bool
  any_round k p = any_below (λ (e : ℕ). has_bits kinds coords p e && is_round k e) (2 * length kinds)

  -- ---- over the pieces' buffer
  unfoldable pub any_round_at : List ℕ → ℕ → ℕ → Vec3 → Bool
  any_round_at words pieces k p = not (eqb (find_along (next_link_at coords words pieces) (is_round k) (2 * pieces) (first_link_at coords words pieces p)) 0)
