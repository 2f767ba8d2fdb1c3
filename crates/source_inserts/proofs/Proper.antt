-- Every candidate of a job's sources is proper where it is admitted, as demand 3 asks, in a mesh whose edges have the lengths of a checked one. Assumes nothing.
use Prim.Native.Nat.{ℕ, ◌+◌, ◌*◌, ◌/◌, ◌<◌}
use mathlib.Core.List.{List, [], ◌∷◌}
use native.Mathlib.Omega.{arith}
use lib.Ieee.{Float}
use lib.ListN.{length, get_or}
use Rattle.nat_laws.proofs.Lists.{all_append}
use Rattle.vec3.specs.declared.Vec3.{Vec3}
use Rattle.job_checks.specs.Sound.{ValidTriangles}
use Rattle.topology.specs.Edges.{edges, tri_edge}
use Rattle.topology.specs.Frames.{origin, len, xhat}
use Rattle.topology.proofs.Edges.{tri_edge_there}
use Rattle.topology.proofs.Checked.{inside}
use Rattle.source_offers.specs.of_mesh_laws.Bounds.{EdgeLength}
use Rattle.wedge_refusal.specs.of_source_windows.declared.Normal.{Normal}
use Rattle.wedge_refusal.specs.of_source_windows.Wedge.{whole_of}
use Rattle.wedge_refusal.proofs.laws_of_source_windows.Ends.{On, whole_on, wedge_on}
use Rattle.source_offers.specs.of_better.Claim.{All}
use Rattle.source_offers.specs.of_trim_model.Model.{Candidate}
use Rattle.source_offers.specs.of_trim_model.Claim.{AdmittedProper}
use Rattle.source_offers.specs.Offering.{segment_offer, point_offer}
use Rattle.source_offers.proofs.Proper.{from_zero, segment_proper, point_proper}
use Rattle.point_wedge.specs.Wedge.{directions_in, bounds_in}
use Rattle.source_inserts.specs.declared.Insert.{Insert}
use Rattle.source_inserts.specs.declared.Insert.TheVariants.{Offer}
use Rattle.source_inserts.specs.Inserts.{job_inserts, candidates_at, candidates_in}
use Rattle.source_inserts.proofs.Each.{job_all}

-- what holds of the candidates of each holds of those of all
pub candidates_all : (Q : Candidate → Type 0) (xs : List Insert) → All (λ (x : Insert). All Q (candidates_at x)) xs → All Q (candidates_in xs)
unfolding candidates_in
candidates_all Q [] h = tt
candidates_all Q (x ∷ xs) h = all_append Q (candidates_at x) (candidates_in xs) h.0 (candidates_all Q xs h.1)

module _ (limit : Float) (v : List Float) (triangles : List ℕ) (n : ℕ) (valid : ValidTriangles triangles n) (kinds faces : List ℕ) (coords : List Float)
    (face_there : (i : ℕ) → i < length kinds → get_or faces i 0 < length triangles / 3) (long : (e : ℕ) → e < length (edges triangles) → EdgeLength (len v triangles e)) where
  abbrev Fine : Insert → Type 0
  Fine x = All (AdmittedProper limit (len v triangles)) (candidates_at x)

  side_long : (f k : ℕ) → f < length triangles / 3 → k < 3 → EdgeLength (len v triangles (tri_edge triangles (3 * f + k)))
  side_long f k l q = let last : 3 * f + 2 < length triangles = inside triangles n valid f l in long (tri_edge triangles (3 * f + k)) (tri_edge_there triangles (3 * f + k) (omega (arith, last, q)))

  bounds_on : (g k : ℕ) (d : EdgeLength (len v triangles (tri_edge triangles (3 * g + k)))) (p : Vec3) (carriers : List ℕ)
      → On (len v triangles (tri_edge triangles (3 * g + k))) d.number d.double (from_zero limit v triangles g k d) (bounds_in v triangles kinds faces coords g k p carriers)
  unfolding bounds_in
  bounds_on g k d p carriers =
      let e : ℕ = tri_edge triangles (3 * g + k) in
      let l : Float = len v triangles e in
      let z = from_zero limit v triangles g k d in
      wedge_on l d.number d.double z (origin v triangles e) p (xhat v triangles e) (whole_of l) (directions_in v triangles kinds faces coords g carriers p) (whole_on l d.number d.double z)

  point_fine : (g k : ℕ) → g < length triangles / 3 → k < 3 → (p : Vec3) (carriers : List ℕ) → Fine (Offer (point_offer v triangles g k p (bounds_in v triangles kinds faces coords g k p carriers)))
  point_fine g k l q p carriers =
      point_proper limit v triangles g k (side_long g k l q) p (bounds_in v triangles kinds faces coords g k p carriers) (bounds_on g k (side_long g k l q) p carriers)

  segment_fine : (f k : ℕ) → f < length triangles / 3 → k < 3 → (a b : Vec3) (side : Normal) → Fine (Offer (segment_offer v triangles f k a b side))
  segment_fine f k l q a b side = segment_proper limit v triangles f k (side_long f k l q) a b side

  pub job_proper : All (AdmittedProper limit (len v triangles)) (candidates_in (job_inserts v triangles kinds faces coords))
  job_proper =
      candidates_all (AdmittedProper limit (len v triangles)) (job_inserts v triangles kinds faces coords)
      (job_all Fine v triangles n valid kinds faces coords face_there (λ g piece part q. tt) point_fine segment_fine)
