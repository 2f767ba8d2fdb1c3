-- Where the buffers hold a mesh's topology, what is offered is what the Rust adds, to an edge of the mesh: segment_held, point_held, side_there, offered_there. Assumes nothing.
use Rattle.std.specs.Prelude.{Option, Some, None}
use Prim.Native.Nat.{ℕ, ◌+◌, ◌*◌, ◌/◌, ◌<◌}
use native.Mathlib.Omega.{arith}
use mathlib.Core.Bool.{Bool}
use mathlib.Core.List.{List}
use mathlib.Core.Path.{◌≡◌, ◌∙◌}
use lib.ListN.{length}
use lib.Ieee.{Float}
use Rattle.vec3.specs.declared.Vec3.{Vec3}
use Rattle.topology.specs.Edges.{edges, tri_edge}
use Rattle.topology.specs.Frames.{coords_x, coords_y}
use Rattle.topology.proofs.Edges.{tri_edge_there}
use Rattle.topology.proofs.Checked.{inside}
use Rattle.offers.specs.of_frames.Stored.{length_at}
use Rattle.offers.specs.of_mesh_readers.Held.{HoldsMesh}
use Rattle.offers.specs.of_mesh_readers.declared.FrameCoords.{FrameCoords}
use Rattle.offers.specs.of_mesh_readers.Readers.{side_in, other_at, coords_at}
use Rattle.offers.proofs.laws_of_mesh_readers.Held.{side_held, other_held, coords_held}
use Rattle.candidate_laws.specs.of_source_windows.declared.Bounds.{Bounds}
use Rattle.candidate_laws.specs.of_source_windows.declared.Normal.{Normal}
use Rattle.candidate_laws.specs.of_source_windows.declared.CandidateWindow.{CandidateWindow}
use Rattle.offers.specs.Offers.{EdgeThere}
use Rattle.offers.specs.Walks.{MeshIn, edge_data}
use Rattle.offers.proofs.Walks.{edge_there}
use Rattle.source_offers.specs.Offering.{offered, segment_on, point_on, segment_offer, point_offer, segment_offer_at, point_offer_at}

-- an edge that something is offered to is there
pub offered_there : (v : List Float) (triangles : List ℕ) (n : ℕ) (ew : List ℕ) (er : List Float) (tw : List ℕ) (tr : List Float) → MeshIn v triangles n ew er tw tr → (e : ℕ) → e < length (edges triangles)
    → (into : ℕ) (queued : Bool) (range : Option CandidateWindow) → EdgeThere (edge_data v triangles) ew er (offered e into queued range)
unfolding offered
offered_there v triangles n ew er tw tr m e l into queued None = tt
offered_there v triangles n ew er tw tr m e l into queued (Some w) = edge_there v triangles n ew er tw tr m e l

module _ (v : List Float) (triangles : List ℕ) (n : ℕ) (edge_words : List ℕ) (edge_reals : List Float) (triangle_words : List ℕ) (triangleReals : List Float)
    (held : HoldsMesh v triangles n edge_words edge_reals triangle_words triangleReals) (f : ℕ) (l : f < length triangles / 3) (k : ℕ) (q : k < 3) where
  abbrev e : ℕ
  e = tri_edge triangles (3 * f + k)

  last : 3 * f + 2 < length triangles
  last = inside triangles n held.valid f l

  pub side_there : e < length (edges triangles)
  side_there = tri_edge_there triangles (3 * f + k) (omega (arith, last))

  side_is : side_in triangle_words f k ≡ e
  side_is = side_held triangles triangle_words held.sides f last k q

  coords_are : (p : Vec3) → coords_at v edge_words edge_reals triangle_words triangleReals e f p ≡ record { x = coords_x v triangles e p; y = coords_y v triangles e f p }
  coords_are p = coords_held v triangles edge_words edge_reals triangle_words triangleReals held.ends held.lengths held.sides held.normals e f side_there last p

  abbrev coords_of : ℕ → Vec3 → FrameCoords
  coords_of z p = coords_at v edge_words edge_reals triangle_words triangleReals z f p

  pub segment_held : (a b : Vec3) (m : Normal) → segment_offer_at v edge_words edge_reals triangle_words triangleReals f k a b m ≡ segment_offer v triangles f k a b m
  unfolding segment_offer_at segment_offer
  segment_held a b m =
      (λ i. let z = side_is i in segment_on z (length_at edge_reals z) (other_at edge_words z f) (coords_of z a).x (coords_of z a).y (coords_of z b).x (coords_of z b).y m)
      ∙ (λ i. segment_on e (held.lengths.length_is e side_there i) (other_held triangles edge_words held.faces e side_there f i) (coords_are a i).x (coords_are a i).y (coords_are b i).x (coords_are b i).y m)

  pub point_held : (p : Vec3) (w : Bounds) → point_offer_at v edge_words edge_reals triangle_words triangleReals f k p w ≡ point_offer v triangles f k p w
  unfolding point_offer_at point_offer
  point_held p w =
      (λ i. let z = side_is i in point_on z (length_at edge_reals z) (other_at edge_words z f) (coords_of z p).x (coords_of z p).y w)
      ∙ (λ i. point_on e (held.lengths.length_is e side_there i) (other_held triangles edge_words held.faces e side_there f i) (coords_are p i).x (coords_are p i).y w)
