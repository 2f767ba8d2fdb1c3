-- What the sources of a job do, as the buffers are read. Definitions only: `source_is` and `source_inserts_held` in proofs/Held.antt say that it is the Rust's where they hold a job.
use Rattle.std.specs.Prelude.{ℕ, ◌+◌, ◌-◌, ◌*◌, ◌/◌, ◌%◌, min, cond, List, eqb, Float, get_or, Option, None}
use Rattle.vec3.specs.declared.Vec3.{Vec3}
use Rattle.wedge_refusal.specs.of_source_windows.declared.Normal.{Normal}
use Rattle.wedge_refusal.specs.of_source_windows.declared.Normal.TheVariants.{Left, Right}
use Rattle.source_offers.specs.of_offers.declared.Offered.{Offered}
use Rattle.source_offers.specs.Offering.{segment_offer_at, point_offer_at}
use Rattle.wedge_refusal.specs.of_carriers.declared.CarrierSimplex.{CarrierSimplex}
use Rattle.wedge_refusal.specs.of_carriers.Carrier.{carrier_at, carrier_count_at, carrier_face_at, other_carrier}
use Rattle.face_entries.specs.declared.Part.{Part}
use Rattle.face_entries.specs.declared.Part.TheVariants.{Whole}
use Rattle.face_entries.specs.Buffers.{part_of_number}
use Rattle.wedge_refusal.specs.of_piece_ends.Ends.{end_point, is_end}
use Rattle.wedge_refusal.specs.of_piece_ends.Walk.{is_first_at}
use Rattle.point_wedge.specs.Wedge.{bounds_at}
use Rattle.source_inserts.specs.declared.Insert.{Insert}
use Rattle.source_inserts.specs.declared.Insert.TheVariants.{Offer}
use Rattle.source_inserts.specs.declared.Source.{Source}
use Rattle.source_inserts.specs.declared.Source.TheVariants.{Absent, Point, Segment}
use Rattle.source_inserts.specs.Inserts.{entry_of}

-- piece i as a segment
unfoldable pub segment_source_at : List ℕ → List ℕ → List Float → ℕ → Source
segment_source_at kinds faces coords i = cond (is_end kinds (2 * i + 1)) (Segment (record { 0 = get_or faces i 0 }) (end_point coords (2 * i)) (end_point coords (2 * i + 1)) i) Absent

-- left of a segment's direction, then right
unfoldable pub normal_of_number : ℕ → Normal
normal_of_number i = cond (eqb i 0) Left Right

module _ (v : List Float) (edge_words : List ℕ) (edge_reals : List Float) (triangle_words : List ℕ) (triangleReals : List Float) where
  -- end e as a point
  unfoldable pub end_source_at : List ℕ → List ℕ → List Float → List ℕ → ℕ → ℕ → Part → Source
  end_source_at kinds faces coords words pieces e part =
      let f : ℕ = get_or faces (e / 2) 0 in
      let p : Vec3 = end_point coords e in
      cond (is_first_at kinds coords words pieces e) (Point (record { 0 = f }) p (e / 2) part (carrier_at v edge_words edge_reals triangle_words triangleReals f p) (e + 1)) Absent

  -- source j, of three for each piece: its end a, its end b, and the whole segment
  unfoldable pub job_source_at : List ℕ → List ℕ → List Float → List ℕ → ℕ → ℕ → Source
  job_source_at kinds faces coords words pieces j =
      cond (eqb (j % 3) 2) (segment_source_at kinds faces coords (j / 3)) (end_source_at kinds faces coords words pieces (2 * (j / 3) + j % 3) (part_of_number (j % 3)))

  -- the i-th of a segment: its entry, then two for each side
  unfoldable pub segment_insert_at : ℕ → Vec3 → Vec3 → ℕ → ℕ → Insert
  segment_insert_at f a b piece i =
      cond (eqb i 0) (entry_of f piece Whole) (Offer (segment_offer_at v edge_words edge_reals triangle_words triangleReals f ((i - 1) / 2) a b (normal_of_number ((i - 1) % 2))))

  module _ (vertex_words round kinds faces : List ℕ) (coords : List Float) (words : List ℕ) (reals : List Float) (pieces : ℕ) where
    -- of the point p of face f, on c, to side k of carrier g; the ends of p's bits are found from the first link on
    unfoldable pub point_side_at : ℕ → Vec3 → CarrierSimplex → ℕ → ℕ → ℕ → Option Offered
    point_side_at f p c first g k =
        let carrier : ℕ → ℕ = carrier_face_at edge_words vertex_words round f c in
        point_offer_at v edge_words edge_reals triangle_words triangleReals g k p
        (bounds_at v edge_words edge_reals triangle_words triangleReals kinds faces coords words reals pieces g k p (carrier_count_at edge_words vertex_words c) (other_carrier g (carrier 0) (carrier 1)) first)

    -- the i-th of a point: four for each carrier, its entry and its three sides
    unfoldable pub point_insert_at : ℕ → Vec3 → ℕ → Part → CarrierSimplex → ℕ → ℕ → Insert
    point_insert_at f p piece part c first i =
        let g : ℕ = carrier_face_at edge_words vertex_words round f c (i / 4) in
        cond (eqb (i % 4) 0) (entry_of g piece part) (Offer (point_side_at f p c first g (i % 4 - 1)))

    -- the i-th of a source
    unfoldable pub insert_at : Source → ℕ → Insert
    insert_at Absent i = Offer None
    insert_at (Point f p piece part on first) i = point_insert_at f.0 p piece part on first i
    insert_at (Segment f a b piece) i = segment_insert_at f.0 a b piece i

-- how many a source makes; no mesh has a vertex of more than 1,073,741,823 faces
unfoldable pub insert_count_at : List ℕ → List ℕ → Source → ℕ
insert_count_at edge_words vertex_words Absent = 0
insert_count_at edge_words vertex_words (Point f p piece part on first) = 4 * min (carrier_count_at edge_words vertex_words on) 1_073_741_823
insert_count_at edge_words vertex_words (Segment f a b piece) = 7
