-- All that a window passes on, and all that a vertex emits, in the Rust's order; and the same numbered, as the buffers are read. Definitions only.
use Rattle.std.specs.Prelude.{ℕ, ◌+◌, ◌*◌, ◌/◌, ◌%◌, ◌<◌, min, List, ltb, length, get_or, Float, if◌then◌else◌, Option, None}
use Rattle.float64.specs.Scalar.{zero64}
use Rattle.topology.specs.Edges.{edges, vertex_faces}
use Rattle.source_offers.specs.of_mesh_readers.Readers.{third_at, degree_at, range_at, round_at}
use Rattle.source.specs.declared.Src.{Src}
use Rattle.source_offers.specs.of_trim_model.Model.{Candidate}
use Rattle.source_offers.specs.of_offers.declared.Offered.{Offered}
use Rattle.source_offers.specs.of_offers.Offers.{offer_list}
use Rattle.source_offers.specs.of_offers.Each.{each_of}
use Rattle.spread_offers.specs.declared.Spread.{Spread}
use Rattle.spread_offers.specs.declared.Spread.TheVariants.{Window, Vertex}
use Rattle.spread_offers.specs.declared.Opposite.{Opposite}
use Rattle.spread_offers.specs.Offering.{propagate_offer, emit_offer, ahead_at, propagate_offer_at, emit_offer_at}

-- ---- of a mesh
module _ (v : List Float) (triangles : List ℕ) where
  -- `propagate`
  unfoldable pub propagate_candidates : ℕ → ℕ → Float → Float → Src → List Candidate
  propagate_candidates e g b0 b1 src = each_of (λ k. offer_list (propagate_offer v triangles e g b0 b1 src k)) 2

  -- `emit`
  unfoldable pub emit_candidates : ℕ → Float → List Candidate
  emit_candidates vx d =
      let faces = vertex_faces triangles vx in
      each_of (λ fi. each_of (λ k. offer_list (emit_offer v triangles (get_or faces fi 0) k vx d)) 3) (length faces)

  unfoldable pub spread_candidates : Spread → List Candidate
  spread_candidates (Window e g b0 b1 src) = propagate_candidates e.0 g.0 b0 b1 src
  spread_candidates (Vertex vx d) = emit_candidates vx.0 d

-- it is one of the mesh's, of n vertices: an edge and a face, or a vertex
abbrev pub SpreadOf : List ℕ → ℕ → Spread → Type 0
SpreadOf triangles n (Window e g b0 b1 src) = (e.0 < length (edges triangles)) × (g.0 < length triangles / 3)
SpreadOf triangles n (Vertex vx d) = vx.0 < n

-- ---- as the buffers are read
-- three times as many still have a number
abbrev pub most_faces : ℕ
most_faces = 1_431_655_765

unfoldable pub spread_count_at : List ℕ → Spread → ℕ
spread_count_at vertex_words (Window e g b0 b1 src) = 2
spread_count_at vertex_words (Vertex vx d) = 3 * min (degree_at vertex_words vx.0) most_faces

module _ (v : List Float) (edge_words : List ℕ) (edge_reals : List Float) (triangle_words : List ℕ) (triangleReals : List Float) (vertex_words round : List ℕ) where
  unfoldable pub round_offer_at : ℕ → Float → ℕ → Option Offered
  round_offer_at vx d i =
      if ltb (i / 3) (degree_at vertex_words vx) then emit_offer_at v edge_words edge_reals triangle_words triangleReals (round_at round ((range_at vertex_words vx).start + i / 3)) (i % 3) vx d else
      None

-- what both candidates of a window ask for; those of a vertex ask for nothing
module _ (v : List Float) (triangles edge_words : List ℕ) (edge_reals : List Float) (triangle_words : List ℕ) (triangleReals : List Float) where
  unfoldable pub opposite_at : Spread → Opposite
  opposite_at (Window e g b0 b1 src) =
      let c = third_at triangles edge_words e.0 g.0 in
      record { c = record { 0 = c }; ahead = ahead_at v edge_words edge_reals triangle_words triangleReals e.0 g.0 c }
  opposite_at (Vertex vx d) = record { c = vx; ahead = record { l = zero64; cx = zero64; cy = zero64 } }

module _ (v : List Float) (edge_words : List ℕ) (edge_reals : List Float) (triangle_words : List ℕ) (triangleReals : List Float) (vertex_words round : List ℕ) (o : Opposite) where
  unfoldable pub spread_offer_at : Spread → ℕ → Option Offered
  spread_offer_at (Window e g b0 b1 src) i = propagate_offer_at edge_words edge_reals triangle_words o e.0 g.0 b0 b1 src i
  spread_offer_at (Vertex vx d) i = round_offer_at v edge_words edge_reals triangle_words triangleReals vertex_words round vx.0 d i
