-- What the sources of a job do, over the topology: the Rust's loop over `sources` in `compute`, with `source_point` and `source_segment`. Definitions only.
-- Its call of `vertex_wedge` is left out: refusal 11 excludes the jobs that need it.
use Rattle.std.specs.Prelude.{ℕ, zero, suc, ◌+◌, ◌*◌, ◌/◌, ◌%◌, ◌<◌, ◌≡◌, List, [], ◌∷◌, ◌++◌, eqb, Float, length, get_or, if◌then◌else◌, Option, None, Some}
use Rattle.vec3.specs.declared.Vec3.{Vec3}
use Rattle.topology.specs.Edges.{no_face, edges}
use Rattle.wedge_refusal.specs.of_source_windows.declared.Normal.TheVariants.{Left, Right}
use Rattle.source_offers.specs.of_trim_model.Model.{Candidate}
use Rattle.source_offers.specs.of_offers.declared.Offered.{Offered}
use Rattle.source_offers.specs.of_offers.Each.{each_of}
use Rattle.source_offers.specs.of_offers.Offers.{offer_list}
use Rattle.source_offers.specs.Offering.{segment_offer, point_offer}
use Rattle.wedge_refusal.specs.of_carriers.Carrier.{carrier_of, faces_of, InMesh}
use Rattle.face_entries.specs.declared.Part.{Part}
use Rattle.face_entries.specs.declared.Part.TheVariants.{EndA, EndB, Whole}
use Rattle.wedge_refusal.specs.of_piece_ends.Ends.{end_point, first_of_bits, ends_with_bits}
use Rattle.wedge_refusal.specs.of_piece_ends.Table.{link_to}
use Rattle.point_wedge.specs.Wedge.{bounds_in}
use Rattle.source_inserts.specs.declared.Insert.{Insert}
use Rattle.source_inserts.specs.declared.Insert.TheVariants.{Entry, Offer}
use Rattle.source_inserts.specs.declared.Source.{Source}
use Rattle.source_inserts.specs.declared.Source.TheVariants.{Absent, Point, Segment}

-- the Rust's `in_face.entry(g).or_default().push(..)`
abbrev pub entry_of : ℕ → ℕ → Part → Insert
entry_of g piece part = Entry (record { 0 = g }) (record { piece = piece; part = part })

module _ (v : List Float) (triangles kinds faces : List ℕ) (coords : List Float) where
  -- of carrier g of the point p: its entry, then its three sides
  unfoldable pub carrier_inserts : Vec3 → ℕ → Part → List ℕ → ℕ → List Insert
  carrier_inserts p piece part carriers g =
      entry_of g piece part ∷ each_of (λ (k : ℕ). Offer (point_offer v triangles g k p (bounds_in v triangles kinds faces coords g k p carriers)) ∷ []) 3

  -- `source_point`
  unfoldable pub point_inserts : ℕ → Vec3 → ℕ → Part → List Insert
  point_inserts f p piece part =
      let carriers : List ℕ = carrier_of v triangles f p in
      each_of (λ (j : ℕ). carrier_inserts p piece part carriers (get_or carriers j no_face)) (length carriers)

  -- `source_segment`
  unfoldable pub segment_inserts : ℕ → Vec3 → Vec3 → ℕ → List Insert
  segment_inserts f a b piece =
      entry_of f piece Whole ∷ each_of (λ (k : ℕ). Offer (segment_offer v triangles f k a b Left) ∷ (Offer (segment_offer v triangles f k a b Right) ∷ [])) 3

  -- `if points.insert(..) { source_point(..) }`, of end e of piece i
  unfoldable pub end_inserts : ℕ → ℕ → Part → List Insert
  end_inserts i e part = if first_of_bits kinds coords e then point_inserts (get_or faces i 0) (end_point coords e) i part else []

  -- piece i as a segment; a point is none
  unfoldable pub whole_inserts : ℕ → List Insert
  whole_inserts i = if eqb (get_or kinds i 0) 0 then [] else segment_inserts (get_or faces i 0) (end_point coords (2 * i)) (end_point coords (2 * i + 1)) i

  -- the three parts of piece i; a point has no second end, which `first_of_bits` says
  unfoldable pub part_inserts : ℕ → ℕ → List Insert
  part_inserts i zero = end_inserts i (2 * i) EndA
  part_inserts i (suc zero) = end_inserts i (2 * i + 1) EndB
  part_inserts i (suc (suc k)) = whole_inserts i

  unfoldable pub piece_inserts : ℕ → List Insert
  piece_inserts i = end_inserts i (2 * i) EndA ++ (end_inserts i (2 * i + 1) EndB ++ whole_inserts i)

  -- the loop over `sources`
  unfoldable pub job_inserts : List Insert
  job_inserts = each_of piece_inserts (length kinds)

  -- ---- source by source
  -- what source j does, of three for each piece; `job_inserts_lem` in proofs/Job.antt: one after the other they are those of the job
  unfoldable pub source_inserts : ℕ → List Insert
  source_inserts j = part_inserts (j / 3) (j % 3)

  -- source s makes these, in a mesh of n vertices, and names what is there
  unfoldable pub SourceMakes : ℕ → List Insert → Source → Type 0
  SourceMakes n xs Absent = xs ≡ []
  SourceMakes n xs (Point f p piece part on first) =
      (xs ≡ point_inserts f.0 p piece part)
      × ((f.0 < length triangles / 3) × (((faces_of triangles f.0 on ≡ carrier_of v triangles f.0 p) × InMesh triangles n f.0 on) × (first ≡ link_to (ends_with_bits kinds coords p))))
  SourceMakes n xs (Segment f a b piece) = (xs ≡ segment_inserts f.0 a b piece) × (f.0 < length triangles / 3)

  -- s is source j
  abbrev pub IsSource : ℕ → ℕ → Source → Type 0
  IsSource n j s = SourceMakes n (source_inserts j) s

-- ---- of a list of them
-- the candidates
abbrev pub candidates_at : Insert → List Candidate
candidates_at (Entry f x) = []
candidates_at (Offer o) = offer_list o

unfoldable pub candidates_in : List Insert → List Candidate
candidates_in [] = []
candidates_in (x ∷ xs) = candidates_at x ++ candidates_in xs

-- its face or its edge is one of the mesh's
abbrev pub OfferThere : List ℕ → Option Offered → Type 0
OfferThere triangles None = Unit {0}
OfferThere triangles (Some o) = o.edge.0 < length (edges triangles)

abbrev pub There : List ℕ → Insert → Type 0
There triangles (Entry f x) = f.0 < length triangles / 3
There triangles (Offer o) = OfferThere triangles o
