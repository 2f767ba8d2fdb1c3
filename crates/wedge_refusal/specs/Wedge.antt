-- Document 01's refusal 11, over the topology and over the buffers. Definitions only: `wedge_held` in proofs/Held.antt says that the two agree where the buffers hold the mesh and
-- the table of the pieces' ends.
use Rattle.std.specs.Prelude.{ℕ, ◌*◌, ◌/◌, Bool, ◌&&◌, List, ltb, length, get_or, Float}
use Rattle.vec3.specs.declared.Vec3.{Vec3}
use Rattle.job_checks.specs.Any.{any_below}
use Rattle.carriers.specs.Carrier.{carrier_of, carrier_at, carrier_count_at}
use Rattle.carriers.specs.Nearest.{nearest_at}
use Rattle.segments_behind.specs.of_piece_ends.Ends.{end_point, first_of_bits}
use Rattle.segments_behind.specs.of_piece_ends.Walk.{is_first_at}
use Rattle.segments_behind.specs.Round.{any_round, any_round_at}

-- ---- over the topology
module _ (v : List Float) (triangles kinds faces : List ℕ) (coords : List Float) where
  -- end e is a point to be entered, it has over two carriers, and a segment of computed length above zero in a face round its face's nearest vertex ends at its bits
  unfoldable pub wedge_met : ℕ → Bool
  wedge_met e =
      let f : ℕ = get_or faces (e / 2) 0 in
      let p : Vec3 = end_point coords e in
      first_of_bits kinds coords e && (ltb 2 (length (carrier_of v triangles f p)) && any_round kinds faces coords triangles (nearest_at v triangles f p) p)

  -- 11: there is such an end
  unfoldable pub any_wedge : Bool
  any_wedge = any_below wedge_met (2 * length kinds)

-- ---- over the buffers
module _ (v : List Float) (edge_words : List ℕ) (edge_reals : List Float) (triangle_words : List ℕ) (triangleReals : List Float) (vertex_words : List ℕ) where
  unfoldable pub over_two_at : ℕ → Vec3 → Bool
  over_two_at f p = ltb 2 (carrier_count_at edge_words vertex_words (carrier_at v edge_words edge_reals triangle_words triangleReals f p))

  module _ (triangles kinds faces : List ℕ) (coords : List Float) (words : List ℕ) where
    unfoldable pub wedge_at : ℕ → ℕ → Bool
    wedge_at pieces e =
        let f : ℕ = get_or faces (e / 2) 0 in
        let p : Vec3 = end_point coords e in
        is_first_at kinds coords words pieces e && (over_two_at f p && any_round_at kinds faces coords triangles words pieces (nearest_at v triangles f p) p)

    unfoldable pub any_wedge_at : Bool
    any_wedge_at = any_below (wedge_at (length kinds)) (2 * length kinds)
