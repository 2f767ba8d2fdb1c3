-- The offers as the code computes them. Assumes nothing.
use Rattle.std.specs.declared.option.Option.{Option}
use Rattle.std.specs.declared.option.Option.TheVariants.{None}
use Prim.Native.Nat.{ℕ, ◌+◌, ◌/◌, ◌%◌, ◌≤◌, ◌<◌}
use native.Mathlib.Omega.{arith}
use mathlib.Core.Bool.{Bool, true, false}
use mathlib.Core.List.{List}
use mathlib.Core.Path.{◌≡◌, sym, ap, ◌∙◌}
use borrow.Author.Tests.{eq-eqb, ne_eqb, lt-ltb, le-ltb}
use lib.Ieee.{Float}
use Rattle.buffers.specs.declared.EdgeId.{EdgeId}
use Rattle.buffers.specs.declared.FaceId.{FaceId}
use Rattle.buffers.specs.declared.VertexId.{VertexId}
use Rattle.vec3.specs.declared.Vec3.{Vec3}
use Rattle.job_checks.specs.Edge.{vertex_at}
use Rattle.source_offers.specs.of_frames.Stored.{low_at, high_at, length_at}
use Rattle.source_offers.specs.of_mesh_readers.declared.EdgeEnds.{EdgeEnds}
use Rattle.source_offers.specs.of_mesh_readers.declared.FrameCoords.{FrameCoords}
use Rattle.source_offers.specs.of_mesh_readers.declared.RoundRange.{RoundRange}
use Rattle.source_offers.specs.of_mesh_readers.Readers.{edge_at, ends_at, other_at, side_in, third_at, edge_between_at, coords_at, range_at, degree_at, round_at}
use Rattle.source.specs.declared.Src.{Src}
use Rattle.propagation.specs.of_source_windows.declared.Bounds.{Bounds}
use Rattle.propagation.specs.of_source_windows.declared.CandidateWindow.{CandidateWindow}
use Rattle.propagation.specs.declared.Side.{Side}
use Rattle.propagation.specs.declared.Side.TheVariants.{First, Second}
use Rattle.propagation.specs.declared.FaceVertex.{FaceVertex}
use Rattle.propagation.specs.declared.FaceAhead.{FaceAhead}
use Rattle.propagation.specs.declared.NextEdge.{NextEdge}
use Rattle.propagation.specs.Plane.{vertex_of}
use Rattle.propagation.specs.Propagate.{propagate_of, emit_of}
use Rattle.source_offers.specs.of_offers.declared.Offered.{Offered}
use Rattle.source_offers.specs.Offering.{offered}
use Rattle.spread_offers.specs.Offering.{side_number, side_end, next_edge_of, at_end, ahead_at, next_edge_at, propagate_offer_at, emit_offer_at}
use Rattle.spread_offers.specs.declared.Spread.TheVariants.{Window}
use Rattle.spread_offers.specs.declared.Opposite.{Opposite}
use Rattle.spread_offers.specs.Spreading.{round_offer_at, opposite_at}

-- ---- an edge and its ends
module _ (ew : List ℕ) (e : ℕ) (both : EdgeEnds) (read : both ≡ ends_at ew e) where
  pub end_first : both.a ≡ record { 0 = side_end First (edge_at ew e) }
  unfolding side_end
  end_first i = (read i).a

  pub end_second : both.b ≡ record { 0 = side_end Second (edge_at ew e) }
  unfolding side_end
  end_second i = (read i).b

  module _ (k : ℕ) where
    pub at_first : both.a.0 ≡ k → true ≡ at_end k (edge_at ew e)
    unfolding at_end
    at_first h = rw (eq-eqb (low_at ew e) k (sym (λ i. (read i).a.0) ∙ h))

    pub at_second : (both.a.0 ≡ k → ⊥) → both.b.0 ≡ k → true ≡ at_end k (edge_at ew e)
    unfolding at_end
    at_second n h = rw (ne_eqb (low_at ew e) k (λ s. n ((λ i. (read i).a.0) ∙ s)), eq-eqb (high_at ew e) k (sym (λ i. (read i).b.0) ∙ h))

    pub at_neither : (both.a.0 ≡ k → ⊥) → (both.b.0 ≡ k → ⊥) → false ≡ at_end k (edge_at ew e)
    unfolding at_end
    at_neither n m = rw (ne_eqb (low_at ew e) k (λ s. n ((λ i. (read i).a.0) ∙ s)), ne_eqb (high_at ew e) k (λ s. m ((λ i. (read i).b.0) ∙ s)))

  pub next_edge_is : (er : List Float) (ne : ℕ) (next : EdgeEnds) → next ≡ ends_at ew ne → (p q : FaceVertex) → p ≡ vertex_of next.a both.a both.b → q ≡ vertex_of next.b both.a both.b → (ln : Float) → ln ≡ length_at er ne
      → ◌≡◌ {A = NextEdge} (record { p = p; q = q; ln = ln }) (next_edge_at ew er e ne)
  unfolding next_edge_of
  next_edge_is er ne next there p q hp hq ln hl =
      (λ i. record { p = hp i; q = hq i; ln = hl i })
      ∙ (λ i. record { p = vertex_of (there i).a (read i).a (read i).b; q = vertex_of (there i).b (read i).a (read i).b; ln = length_at er ne })

-- ---- a window passes on
module _ (ew : List ℕ) (er : List Float) (tw : List ℕ) where
  pub propagate_is : (o : Opposite) (e g : ℕ) (b0 b1 : Float) (src : Src) (k : ℕ) (side : Side) → side ≡ side_number k
      → (from : VertexId) → from ≡ record { 0 = side_end side (edge_at ew e) } → (ne : EdgeId) → ne ≡ record { 0 = edge_between_at ew tw g from.0 o.c.0 } → (next : NextEdge) → next ≡ next_edge_at ew er e ne.0
      → (range : Option CandidateWindow) → range ≡ propagate_of src (record { b0 = b0; b1 = b1 }) o.ahead side next → (beyond : FaceId) → beyond ≡ record { 0 = other_at ew ne.0 g } → (r : Option Offered) → r ≡ offered ne.0 beyond.0 true range
      → r ≡ propagate_offer_at ew er tw o e g b0 b1 src k
  unfolding propagate_offer_at
  propagate_is o e g b0 b1 src k side hs from hf ne hn next hx range hr beyond hb r h =
      let w : Bounds = record { b0 = b0; b1 = b1 } in
      let N : ne.0 ≡ edge_between_at ew tw g (side_end side (edge_at ew e)) o.c.0 = (λ i. (hn i).0) ∙ (λ i. edge_between_at ew tw g (hf i).0 o.c.0) in
      h
      ∙ (λ i. offered ne.0 (hb i).0 true (hr i))
      ∙ (λ i. offered ne.0 (other_at ew ne.0 g) true (propagate_of src w o.ahead side (hx i)))
      ∙ (λ i. offered (N i) (other_at ew (N i) g) true (propagate_of src w o.ahead side (next_edge_at ew er e (N i))))
      ∙ (λ i. let z = edge_between_at ew tw g (side_end (hs i) (edge_at ew e)) o.c.0 in offered z (other_at ew z g) true (propagate_of src w o.ahead (hs i) (next_edge_at ew er e z)))

module _ (v : List Float) (ew : List ℕ) (er : List Float) (tw : List ℕ) (tr : List Float) where
  pub ahead_is : (e g c : ℕ) (l : Float) → l ≡ length_at er e → (x : Vec3) → x ≡ vertex_at v c → (p : FrameCoords) → p ≡ coords_at v ew er tw tr e g x → ◌≡◌ {A = FaceAhead} (record { l = l; cx = p.x; cy = p.y }) (ahead_at v ew er tw tr e g c)
  unfolding ahead_at
  ahead_is e g c l hl x hx p hp =
      let P : p ≡ coords_at v ew er tw tr e g (vertex_at v c) = hp ∙ ap (coords_at v ew er tw tr e g) hx in
      λ i. record { l = hl i; cx = (P i).x; cy = (P i).y }

  -- ---- the face ahead
  pub opposite_is : (t : List ℕ) (e : EdgeId) (g : FaceId) (b0 b1 : Float) (src : Src) (c : VertexId) → c ≡ record { 0 = third_at t ew e.0 g.0 } → (ahead : FaceAhead) → ahead ≡ ahead_at v ew er tw tr e.0 g.0 c.0
      → ◌≡◌ {A = Opposite} (record { c = c; ahead = ahead }) (opposite_at v t ew er tw tr (Window e g b0 b1 src))
  unfolding opposite_at
  opposite_is t e g b0 b1 src c hc ahead ha =
      let A : ahead ≡ ahead_at v ew er tw tr e.0 g.0 (third_at t ew e.0 g.0) = ha ∙ (λ i. ahead_at v ew er tw tr e.0 g.0 (hc i).0) in
      λ i. record { c = hc i; ahead = A i }

  -- ---- a vertex emits
  module _ (g k vx : ℕ) (d : Float) (e : EdgeId) (side : e ≡ record { 0 = side_in tw g k }) (on : Bool) (hon : on ≡ at_end vx (edge_at ew e.0)) where
    on_is : on ≡ at_end vx (edge_at ew (side_in tw g k))
    on_is = hon ∙ (λ i. at_end vx (edge_at ew (side i).0))

    pub emit_none : on ≡ true → None ≡ emit_offer_at v ew er tw tr g k vx d
    unfolding emit_offer_at
    emit_none h = rw (sym on_is ∙ h)

    pub emit_is : on ≡ false → (l : Float) → l ≡ length_at er e.0 → (x : Vec3) → x ≡ vertex_at v vx → (p : FrameCoords) → p ≡ coords_at v ew er tw tr e.0 g x → (range : Option CandidateWindow) → range ≡ emit_of p.x p.y l d
        → (beyond : FaceId) → beyond ≡ record { 0 = other_at ew e.0 g } → (r : Option Offered) → r ≡ offered e.0 beyond.0 true range → r ≡ emit_offer_at v ew er tw tr g k vx d
    unfolding emit_offer_at
    emit_is h l hl x hx p hp range hr beyond hb r q =
        let P : p ≡ coords_at v ew er tw tr e.0 g (vertex_at v vx) = hp ∙ ap (coords_at v ew er tw tr e.0 g) hx in
        let R : range ≡ emit_of (coords_at v ew er tw tr e.0 g (vertex_at v vx)).x (coords_at v ew er tw tr e.0 g (vertex_at v vx)).y (length_at er e.0) d = hr ∙ (λ i. emit_of (P i).x (P i).y (hl i) d) in
        rw (sym on_is ∙ h)
        (q
        ∙ (λ i. offered e.0 (hb i).0 true (R i))
        ∙ (λ i. let z = (side i).0 in offered z (other_at ew z g) true (emit_of (coords_at v ew er tw tr z g (vertex_at v vx)).x (coords_at v ew er tw tr z g (vertex_at v vx)).y (length_at er z) d)))

  -- candidate i of a vertex
  module _ (vw round : List ℕ) (vx : ℕ) (d : Float) (i degree : ℕ) (known : degree ≡ degree_at vw vx) where
    pub round_none : degree ≤ i / 3 → None ≡ round_offer_at v ew er tw tr vw round vx d i
    unfolding round_offer_at
    round_none h = rw (le-ltb (i / 3) (degree_at vw vx) (omega (arith, h, known)))

    pub round_is : i / 3 < degree → (range : RoundRange) → range ≡ range_at vw vx → (g : FaceId) → g ≡ record { 0 = round_at round (range.start + i / 3) } → (r : Option Offered) → r ≡ emit_offer_at v ew er tw tr g.0 (i % 3) vx d
        → r ≡ round_offer_at v ew er tw tr vw round vx d i
    unfolding round_offer_at
    round_is h range hr g hg r q =
        let G : g.0 ≡ round_at round ((range_at vw vx).start + i / 3) = (λ t. (hg t).0) ∙ (λ t. round_at round ((hr t).start + i / 3)) in
        rw (lt-ltb (i / 3) (degree_at vw vx) (omega (arith, h, known))) (q ∙ (λ t. emit_offer_at v ew er tw tr (G t) (i % 3) vx d))

-- its face's number in the list is one
pub round_fits : (vw : List ℕ) (vx i degree : ℕ) (range : RoundRange) → degree ≡ degree_at vw vx → range ≡ range_at vw vx → i < degree → range.start + i < range.end
round_fits vw vx i degree range known read l =
    let s : range.start ≡ (range_at vw vx).start = λ t. (read t).start in
    let e : range.end ≡ (range_at vw vx).end = λ t. (read t).end in
    omega (arith, known, s, e, l)
