-- What holds of every entry in a face of the mesh and of every offer to a side of such a face holds of all that a job's sources make: source_all, job_all. Assumes nothing.
use Prim.Native.Nat.{ℕ, zero, suc, ◌+◌, ◌*◌, ◌/◌, ◌%◌, ◌<◌}
use mathlib.Core.Path.{◌≡◌, refl, subst}
use mathlib.Core.Bool.{Bool, true, false}
use mathlib.Core.List.{List, [], ◌∷◌}
use native.Mathlib.Omega.{arith}
use lib.Dec.{eqb}
use lib.Ieee.{Float}
use lib.ListN.{length, get_or}
use Rattle.nat_laws.specs.Lists.{All}
use Rattle.vec3.specs.declared.Vec3.{Vec3}
use Rattle.job_checks.specs.Sound.{ValidTriangles}
use Rattle.topology.specs.Edges.{no_face}
use Rattle.wedge_refusal.specs.of_source_windows.declared.Normal.{Normal}
use Rattle.wedge_refusal.specs.of_source_windows.declared.Normal.TheVariants.{Left, Right}
use Rattle.source_offers.specs.Offering.{segment_offer, point_offer}
use Rattle.wedge_refusal.specs.of_carriers.Carrier.{carrier_of}
use Rattle.wedge_refusal.proofs.laws_of_carriers.Faces.{carrier_faces}
use Rattle.face_entries.specs.declared.Part.{Part}
use Rattle.face_entries.specs.declared.Part.TheVariants.{EndA, EndB, Whole}
use Rattle.wedge_refusal.specs.of_piece_ends.Ends.{end_point, first_of_bits}
use Rattle.point_wedge.specs.Wedge.{bounds_in}
use Rattle.source_inserts.specs.declared.Insert.{Insert}
use Rattle.source_inserts.specs.declared.Insert.TheVariants.{Offer}
use Rattle.source_inserts.specs.Inserts.{entry_of, carrier_inserts, point_inserts, segment_inserts, end_inserts, whole_inserts, part_inserts, job_inserts, source_inserts}
use Rattle.source_offers.proofs.laws_of_offers.Each.{each_all}
use Rattle.source_inserts.proofs.Job.{job_inserts_lem}

module _ (P : Insert → Type 0) (v : List Float) (triangles : List ℕ) (n : ℕ) (valid : ValidTriangles triangles n) (kinds faces : List ℕ) (coords : List Float)
    (face_there : (i : ℕ) → i < length kinds → get_or faces i 0 < length triangles / 3)
    (entry : (g piece : ℕ) (part : Part) → g < length triangles / 3 → P (entry_of g piece part))
    (point : (g k : ℕ) → g < length triangles / 3 → k < 3 → (p : Vec3) (carriers : List ℕ) → P (Offer (point_offer v triangles g k p (bounds_in v triangles kinds faces coords g k p carriers))))
    (segment : (f k : ℕ) → f < length triangles / 3 → k < 3 → (a b : Vec3) (side : Normal) → P (Offer (segment_offer v triangles f k a b side))) where
  carrier_all : (p : Vec3) (piece : ℕ) (part : Part) (carriers : List ℕ) (g : ℕ) → g < length triangles / 3 → All P (carrier_inserts v triangles kinds faces coords p piece part carriers g)
  unfolding carrier_inserts
  carrier_all p piece part carriers g l =
      (entry g piece part l, each_all P (λ (k : ℕ). Offer (point_offer v triangles g k p (bounds_in v triangles kinds faces coords g k p carriers)) ∷ []) 3 (λ k q. (point g k l q p carriers, tt)))

  point_all : (f : ℕ) (p : Vec3) (piece : ℕ) (part : Part) → f < length triangles / 3 → All P (point_inserts v triangles kinds faces coords f p piece part)
  unfolding point_inserts
  point_all f p piece part l =
      let carriers : List ℕ = carrier_of v triangles f p in
      each_all P (λ (j : ℕ). carrier_inserts v triangles kinds faces coords p piece part carriers (get_or carriers j no_face)) (length carriers)
      (λ j q. carrier_all p piece part carriers (get_or carriers j no_face) (carrier_faces triangles n valid f l v p j q))

  segment_all : (f : ℕ) (a b : Vec3) (piece : ℕ) → f < length triangles / 3 → All P (segment_inserts v triangles kinds faces coords f a b piece)
  unfolding segment_inserts
  segment_all f a b piece l = (
    entry f piece Whole l,
    each_all P (λ (k : ℕ). Offer (segment_offer v triangles f k a b Left) ∷ (Offer (segment_offer v triangles f k a b Right) ∷ [])) 3
        (λ k q. (segment f k l q a b Left, (segment f k l q a b Right, tt))),
  )

  end_all : (i e : ℕ) (part : Part) → i < length kinds → (b : Bool) → first_of_bits kinds coords e ≡ b → All P (end_inserts v triangles kinds faces coords i e part)
  unfolding end_inserts
  end_all i e part l true h = rw h (point_all (get_or faces i 0) (end_point coords e) i part (face_there i l))
  end_all i e part l false h = rw h tt

  whole_all : (i : ℕ) → i < length kinds → (b : Bool) → eqb (get_or kinds i 0) 0 ≡ b → All P (whole_inserts v triangles kinds faces coords i)
  unfolding whole_inserts
  whole_all i l true h = rw h tt
  whole_all i l false h = rw h (segment_all (get_or faces i 0) (end_point coords (2 * i)) (end_point coords (2 * i + 1)) i (face_there i l))

  part_all : (i k : ℕ) → i < length kinds → All P (part_inserts v triangles kinds faces coords i k)
  unfolding part_inserts
  part_all i zero l = end_all i (2 * i) EndA l (first_of_bits kinds coords (2 * i)) refl
  part_all i (suc zero) l = end_all i (2 * i + 1) EndB l (first_of_bits kinds coords (2 * i + 1)) refl
  part_all i (suc (suc k)) l = whole_all i l (eqb (get_or kinds i 0) 0) refl

  pub source_all : (j : ℕ) → j < 3 * length kinds → All P (source_inserts v triangles kinds faces coords j)
  unfolding source_inserts
  source_all j l = part_all (j / 3) (j % 3) (omega (arith, l))

  pub job_all : All P (job_inserts v triangles kinds faces coords)
  job_all = subst (All P) (job_inserts_lem v triangles kinds faces coords) (each_all P (source_inserts v triangles kinds faces coords) (3 * length kinds) source_all)
