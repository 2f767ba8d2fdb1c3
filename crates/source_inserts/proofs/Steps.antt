-- The answers as the code computes them. Assumes nothing.
use Rattle.std.specs.declared.option.Option.{Option}
use Prim.Native.Nat.{ℕ, ◌+◌, ◌-◌, ◌*◌, ◌/◌, ◌%◌, ◌<◌, ◌≤◌, min}
use mathlib.Core.Path.{◌≡◌, refl, ap, ◌∙◌}
use mathlib.Core.Bool.{true, false}
use mathlib.Core.List.{List}
use native.Mathlib.Omega.{arith}
use borrow.Author.Tests.{eq-eqb, ne_eqb}
use lib.Ieee.{Float}
use lib.ListN.{get_or}
use Rattle.vec3.specs.declared.Vec3.{Vec3}
use Rattle.buffers.specs.declared.FaceId.{FaceId}
use Rattle.wedge_refusal.specs.of_source_windows.declared.Bounds.{Bounds}
use Rattle.wedge_refusal.specs.of_source_windows.declared.Normal.{Normal}
use Rattle.source_offers.specs.of_offers.declared.Offered.{Offered}
use Rattle.source_offers.specs.Offering.{segment_offer_at, point_offer_at}
use Rattle.wedge_refusal.specs.of_carriers.declared.CarrierSimplex.{CarrierSimplex}
use Rattle.wedge_refusal.specs.of_carriers.Carrier.{carrier_at, carrier_count_at, carrier_face_at, other_carrier}
use Rattle.face_entries.specs.declared.Part.{Part}
use Rattle.face_entries.specs.declared.Part.TheVariants.{Whole}
use Rattle.face_entries.specs.Buffers.{part_of_number}
use Rattle.wedge_refusal.specs.of_piece_ends.Ends.{end_point, is_end}
use Rattle.wedge_refusal.specs.of_piece_ends.Walk.{is_first_at}
use Rattle.point_wedge.specs.Wedge.{bounds_at}
use Rattle.source_inserts.specs.declared.Insert.TheVariants.{Entry, Offer}
use Rattle.source_inserts.specs.declared.Source.{Source}
use Rattle.source_inserts.specs.declared.Source.TheVariants.{Absent, Point, Segment}
use Rattle.source_inserts.specs.Read.{segment_source_at, normal_of_number, end_source_at, job_source_at, segment_insert_at, point_side_at, point_insert_at}

-- ---- a segment
module _ (kinds faces : List ℕ) (coords : List Float) (i : ℕ) where
  pub no_segment : is_end kinds (2 * i + 1) ≡ false → Absent ≡ segment_source_at kinds faces coords i
  unfolding segment_source_at
  no_segment h = rw h refl

  pub segment_is : is_end kinds (2 * i + 1) ≡ true → (f : FaceId) (a b : Vec3) → f ≡ record { 0 = get_or faces (2 * i / 2) 0 } → a ≡ end_point coords (2 * i) → b ≡ end_point coords (2 * i + 1)
      → Segment f a b i ≡ segment_source_at kinds faces coords i
  unfolding segment_source_at
  segment_is h f a b is_f is-a is_b =
      let z : 2 * i / 2 ≡ i = omega arith in
      let F : f ≡ record { 0 = get_or faces i 0 } = is_f ∙ (λ t. record { 0 = get_or faces (z t) 0 }) in
      rw h (λ t. Segment (F t) (is-a t) (is_b t) i)

module _ (v : List Float) (ew : List ℕ) (er : List Float) (tw : List ℕ) (tr : List Float) where
  -- ---- a point
  module _ (kinds faces : List ℕ) (coords : List Float) (words : List ℕ) (pieces e : ℕ) (part : Part) where
    pub no_point : is_first_at kinds coords words pieces e ≡ false → Absent ≡ end_source_at v ew er tw tr kinds faces coords words pieces e part
    unfolding end_source_at
    no_point h = rw h refl

    pub point_is : is_first_at kinds coords words pieces e ≡ true → (f : FaceId) (p : Vec3) (on : CarrierSimplex) → f ≡ record { 0 = get_or faces (e / 2) 0 } → p ≡ end_point coords e → on ≡ carrier_at v ew er tw tr f.0 p
        → Point f p (e / 2) part on (e + 1) ≡ end_source_at v ew er tw tr kinds faces coords words pieces e part
    unfolding end_source_at
    point_is h f p on is_f is-p is-on =
        let C : on ≡ carrier_at v ew er tw tr (get_or faces (e / 2) 0) (end_point coords e) = is-on ∙ (λ t. carrier_at v ew er tw tr (is_f t).0 (is-p t)) in
        rw h (λ t. Point (is_f t) (is-p t) (e / 2) part (C t) (e + 1))

  -- ---- either
  module _ (kinds faces : List ℕ) (coords : List Float) (words : List ℕ) (pieces j : ℕ) where
    pub source_whole : j % 3 ≡ 2 → (r : Source) → r ≡ segment_source_at kinds faces coords (j / 3) → r ≡ job_source_at v ew er tw tr kinds faces coords words pieces j
    unfolding job_source_at
    source_whole h r is-r = rw (eq-eqb (j % 3) 2 h) is-r

    pub source_end : (j % 3 ≡ 2 → ⊥) → (part : Part) → part ≡ part_of_number (j % 3) → (r : Source) → r ≡ end_source_at v ew er tw tr kinds faces coords words pieces (2 * (j / 3) + j % 3) part
        → r ≡ job_source_at v ew er tw tr kinds faces coords words pieces j
    unfolding job_source_at
    source_end h part is-part r is-r =
        rw (ne_eqb (j % 3) 2 h) (is-r ∙ ap (end_source_at v ew er tw tr kinds faces coords words pieces (2 * (j / 3) + j % 3)) is-part)

  -- ---- what a segment does
  module _ (f : FaceId) (a b : Vec3) (piece i : ℕ) where
    pub segment_entry : i ≡ 0 → Entry f (record { piece = piece; part = Whole }) ≡ segment_insert_at v ew er tw tr f.0 a b piece i
    unfolding segment_insert_at
    segment_entry h = rw (eq-eqb i 0 h) refl

    pub segment_side : (i ≡ 0 → ⊥) → (n : Normal) → n ≡ normal_of_number ((i - 1) % 2) → (o : Option Offered) → o ≡ segment_offer_at v ew er tw tr f.0 ((i - 1) / 2) a b n
        → Offer o ≡ segment_insert_at v ew er tw tr f.0 a b piece i
    unfolding segment_insert_at
    segment_side h n is-n o is-o =
        let O : o ≡ segment_offer_at v ew er tw tr f.0 ((i - 1) / 2) a b (normal_of_number ((i - 1) % 2)) = is-o ∙ ap (segment_offer_at v ew er tw tr f.0 ((i - 1) / 2) a b) is-n in
        rw (ne_eqb i 0 h) (λ t. Offer (O t))

  -- ---- what a point does
  module _ (vw round kinds faces : List ℕ) (coords : List Float) (words : List ℕ) (reals : List Float) (pieces f : ℕ) (p : Vec3) (c : CarrierSimplex) where
    pub side_is : (first g k count : ℕ) (h : FaceId) (w : Bounds) (r : Option Offered)
        → count ≡ carrier_count_at ew vw c → h ≡ record { 0 = other_carrier g (carrier_face_at ew vw round f c 0) (carrier_face_at ew vw round f c 1) }
        → w ≡ bounds_at v ew er tw tr kinds faces coords words reals pieces g k p count h.0 first → r ≡ point_offer_at v ew er tw tr g k p w
        → r ≡ point_side_at v ew er tw tr vw round kinds faces coords words reals pieces f p c first g k
    unfolding point_side_at
    side_is first g k count h w r is-count is-h is-w is-r =
        is-r ∙ ap (point_offer_at v ew er tw tr g k p) (is-w ∙ (λ t. bounds_at v ew er tw tr kinds faces coords words reals pieces g k p (is-count t) (is-h t).0 first))

    module _ (piece : ℕ) (part : Part) (first i : ℕ) (g : FaceId) (is-g : g ≡ record { 0 = carrier_face_at ew vw round f c (i / 4) }) where
      pub point_entry : i % 4 ≡ 0 → Entry g (record { piece = piece; part = part }) ≡ point_insert_at v ew er tw tr vw round kinds faces coords words reals pieces f p piece part c first i
      unfolding point_insert_at
      point_entry h = rw (eq-eqb (i % 4) 0 h) (λ t. Entry (is-g t) (record { piece = piece; part = part }))

      pub point_side : (i % 4 ≡ 0 → ⊥) → (o : Option Offered) → o ≡ point_side_at v ew er tw tr vw round kinds faces coords words reals pieces f p c first g.0 (i % 4 - 1)
          → Offer o ≡ point_insert_at v ew er tw tr vw round kinds faces coords words reals pieces f p piece part c first i
      unfolding point_insert_at
      point_side h o is-o =
          let O : o ≡ point_side_at v ew er tw tr vw round kinds faces coords words reals pieces f p c first (carrier_face_at ew vw round f c (i / 4)) (i % 4 - 1) =
          is-o ∙ (λ t. point_side_at v ew er tw tr vw round kinds faces coords words reals pieces f p c first (is-g t).0 (i % 4 - 1)) in
          rw (ne_eqb (i % 4) 0 h) (λ t. Offer (O t))

-- ---- how many
pub count_few : (n m : ℕ) → n ≡ m → n < 1_073_741_823 → 4 * n ≡ 4 * min m 1_073_741_823
count_few n m q l = omega (arith, q, l)

pub count_cut : (n m : ℕ) → n ≡ m → 1_073_741_823 ≤ n → 4_294_967_292 ≡ 4 * min m 1_073_741_823
count_cut n m q l = omega (arith, q, l)
