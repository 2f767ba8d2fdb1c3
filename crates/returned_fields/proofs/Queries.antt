-- Of a field with the laws of one that a job returned each query is the Rust's over its lists: face_query_is, edge_query_is, vertex_query_is, window_query_is. Assumes nothing.
use Prim.Native.Nat.{ℕ, ◌<◌}
use native.Mathlib.Omega.{arith}
use mathlib.Core.Bool.{Bool, true, false, cond}
use mathlib.Core.List.{List, [], ◌∷◌, map}
use mathlib.Core.Path.{◌≡◌, refl, ap, ◌∙◌}
use borrow.Author.Tests.{leb-false}
use lib.Dec.{leb}
use lib.Ieee.{Float}
use lib.ListN.{length}
use Rattle.std.specs.declared.result.Result.TheVariants.{Ok, Err}
use Rattle.float64.specs.Scalar.{zero64, max_of}
use Rattle.vec3.specs.declared.Vec3.{Vec3}
use Rattle.source.specs.declared.Win.{Win}
use Rattle.nat_laws.specs.Lists.{All}
use Rattle.windows.specs.Windows.{window_at}
use Rattle.chains.specs.Chains.{Links, links, link_at, Path}
use Rattle.actions.specs.Actions.{distance_of}
use Rattle.queries.specs.of_frames.Stored.{length_at, low_at, high_at}
use Rattle.queries.specs.of_mesh_readers.Readers.{side_in, coords_at}
use Rattle.queries.specs.of_mesh_readers.declared.FrameCoords.{FrameCoords}
use Rattle.queries.specs.of_trim_model.Windows.{Window}
use Rattle.queries.specs.of_trim_state.Trace.{win_of}
use Rattle.queries.specs.of_live_windows.Live.{nums, Alive, Stands}
use Rattle.queries.proofs.laws_of_live_windows.Places.{head_path, short}
use Rattle.queries.specs.of_last_pass.Buffers.{chain_behind, wins_on}
use Rattle.queries.proofs.laws_of_last_pass.Chains.{chain_is, stands_chain}
use Rattle.queries.specs.of_face_entries.Buffers.{entry_capacity}
use Rattle.queries.specs.of_face_entries.Entries.{FaceEntry}
use Rattle.queries.proofs.laws_of_face_entries.Walking.{walk_entries}
use Rattle.queries.specs.of_face_distance.Entries.{through_window}
use Rattle.queries.specs.of_edge_query.EdgeDistance.{edge_distance}
use Rattle.queries.specs.of_face_query.FaceDistance.{through_windows, records_on, to_entries, through_vertices, through_side, through_sides, to_pieces, face_distance_in}
use Rattle.computed.specs.declared.Computed.TheVariants.{Field as isField}
use Rattle.computed.specs.declared.Field.{Field}
use Rattle.queries.specs.of_field_check.FieldCheck.{JobSlices, FieldSlices, field_unsound}
use Rattle.queries.specs.declared.FaceRefusal.TheVariants as face
use Rattle.queries.specs.declared.EdgeRefusal.TheVariants as edge
use Rattle.queries.specs.declared.VertexRefusal.TheVariants as vertex
use Rattle.queries.specs.declared.WindowRefusal.TheVariants as window
use Rattle.queries.specs.Queries.{point_outside, place_outside, place_link, linked_window, face_answer, edge_answer, vertex_answer, window_answer, face_query, edge_query, vertex_query, window_query}
use Rattle.returned_fields.specs.Held.{HeldField}
use Rattle.returned_fields.specs.ByLists.{through_live, side_by_lists, at_by_lists, edge_at_by_lists, face_by_lists, edge_by_lists, vertex_by_lists, window_by_lists}
use Rattle.returned_fields.proofs.Passes.{passes_20}

-- the numbers on the chain of an edge are those of its live windows
chain_nums : (made : ℕ) (b : Links) (f : List Float) (e : ℕ) (us : List Window) → Stands made b f e us → chain_behind made b e made 0 ≡ nums us
chain_nums made b f e us s =
    let p : Path b.words (link_at b e 0) (nums us) = head_path b e (nums us) s.chain.path in
    chain_is made b e (nums us) made 0 p s.chain.belong (short made b.words e (link_at b e 0) (nums us) p s.chain.belong)

-- all of them are alive
live_through : (w : List ℕ) (f : List Float) (x y : Float) (us : List Window) (d : Float) → All (Alive w f) us → through_windows x y d (records_on w f (nums us)) ≡ through_live x y d (map win_of us)
unfolding through_windows through_live nums
live_through w f x y [] d a = refl
live_through w f x y (u ∷ us) d a =
    let win : (window_at w f u.num).win ≡ win_of u = ap win_of a.0.same in
    ap (λ (r : Float). through_windows x y r (records_on w f (nums us))) (λ t. cond (a.0.alive t) (through_window d (win t) x y) d) ∙ live_through w f x y us (through_window d (win_of u) x y) a.1

-- where a test does not hold
unless : {A : Type 0} (c : Bool) (r x y : A) → (c ≡ false → x ≡ y) → cond c r x ≡ cond c r y
unless true r x y h = refl
unless false r x y h = h refl

module _ (n : Field) (j : JobSlices) (b : FieldSlices) (live : ℕ → List Window) (xs : List FaceEntry) (H : HeldField n j b live xs) where
  passed : {A : Type 0} (r x y : A) → x ≡ y → cond (field_unsound n j b) r x ≡ y
  passed r x y e = ap (λ (c : Bool). cond c r x) (passes_20 n j b live xs H) ∙ e

  edge_at : (e : ℕ) → e < n.edges → (x : Float)
      → edge_distance (distance_of b.vertex (low_at b.edge_words_held e)) (distance_of b.vertex (high_at b.edge_words_held e)) (length_at b.edge_reals_held e) (wins_on b.words b.reals (chain_behind n.windows (links b.edge_words_held b.words) e n.windows 0)) x ≡ edge_at_by_lists n j b live xs e x
  edge_at e l x =
      ap (λ (ws : List Win). edge_distance (distance_of b.vertex (low_at b.edge_words_held e)) (distance_of b.vertex (high_at b.edge_words_held e)) (length_at b.edge_reals_held e) ws x)
      (stands_chain n.windows (links b.edge_words_held b.words) b.reals e (live e) (H.windows.stands e l))

  pub edge_query_is : (e : ℕ) (x : Float) → edge_query j b (isField n) e x ≡ edge_by_lists n j b live xs e x
  unfolding edge_query edge_answer
  edge_query_is e x =
      passed (Err edge.NoField) (edge_answer n b e x) (edge_by_lists n j b live xs e x)
      (unless (leb n.edges e) (Err edge.MissingEdge) _ _ (λ h. ap (λ (d : Float). cond (place_outside (length_at b.edge_reals_held e) x) (Err edge.PlaceOutside) (Ok d)) (edge_at e (leb-false n.edges e h) x)))

  pub vertex_query_is : (k : ℕ) → vertex_query j b (isField n) k ≡ vertex_by_lists n j b live xs k
  unfolding vertex_query vertex_answer
  vertex_query_is k = passed (Err vertex.NoField) (vertex_answer n b k) (vertex_by_lists n j b live xs k) refl

  chain_here : (e : ℕ) → e < n.edges → chain_behind n.windows (links b.edge_words_held b.words) e n.windows 0 ≡ nums (live e)
  chain_here e l = chain_nums n.windows (links b.edge_words_held b.words) b.reals e (live e) (H.windows.stands e l)

  pub window_query_is : (e i : ℕ) → window_query j b (isField n) e i ≡ window_by_lists n j b live xs e i
  unfolding window_query window_answer
  window_query_is e i =
      passed (Err window.NoField) (window_answer n b e i) (window_by_lists n j b live xs e i)
      (unless (leb n.edges e) (Err window.MissingEdge) _ _ (λ h. ap (λ (is : List ℕ). linked_window b.words b.reals (place_link i is)) (chain_here e (leb-false n.edges e h))))

  module _ (f : ℕ) (l : f < n.triangles) (p : Vec3) where
    side_through : (i : ℕ) → i < 3 → (d : Float) → through_side j.vertices b.edge_words_held b.edge_reals_held b.triangle_words_held b.triangle_reals b.words b.reals n.windows f p i d ≡ side_by_lists n j b live xs f p i d
    unfolding through_side
    side_through i q d =
        let e : ℕ = side_in b.triangle_words_held f i in
        let c : FrameCoords = coords_at j.vertices b.edge_words_held b.edge_reals_held b.triangle_words_held b.triangle_reals e f p in
        let m : e < n.edges = H.numbers.sides f i l q in
        ap (λ (is : List ℕ). through_windows c.x (max_of c.y zero64) d (records_on b.words b.reals is)) (chain_here e m)
        ∙ live_through b.words b.reals c.x (max_of c.y zero64) (live e) d (H.windows.stands e m).windows

    face_at_lem : face_distance_in j.vertices j.triangles j.coords b.edge_words_held b.edge_reals_held b.triangle_words_held b.triangle_reals b.vertex b.words b.reals b.entry_words_held n.windows f p ≡ at_by_lists n j b live xs f p
    unfolding through_sides to_pieces
    face_at_lem =
        let d₀ = through_vertices j.vertices j.triangles b.vertex f p in
        let side = through_side j.vertices b.edge_words_held b.edge_reals_held b.triangle_words_held b.triangle_reals b.words b.reals n.windows f p in
        let listed = side_by_lists n j b live xs f p in
        let d : side 2 (side 1 (side 0 d₀)) ≡ listed 2 (listed 1 (listed 0 d₀)) =
        ap (λ (z : Float). side 2 (side 1 z)) (side_through 0 (omega arith) d₀) ∙ ap (side 2) (side_through 1 (omega arith) (listed 0 d₀)) ∙ side_through 2 (omega arith) (listed 1 (listed 0 d₀)) in
        let es = walk_entries (length xs) b.triangle_words_held b.entry_words_held xs H.entries.holds (entry_capacity (length b.entry_words_held)) f H.entries.slots in
        (λ t. to_entries j.coords p (d t) (es t))

  pub face_query_is : (f : ℕ) (p : Vec3) → face_query j b (isField n) f p ≡ face_by_lists n j b live xs f p
  unfolding face_query face_answer
  face_query_is f p =
      passed (Err face.NoField) (face_answer n b j f p) (face_by_lists n j b live xs f p)
      (unless (leb n.triangles f) (Err face.MissingFace) _ _ (λ h. ap (λ (d : Float). cond (point_outside p) (Err face.PointOutOfRange) (Ok d)) (face_at_lem f (leb-false n.triangles f h) p)))
