-- The steps of a face's distance, each from what its calls answer. Assumes nothing.
use Prim.Native.Nat.{ℕ, ◌+◌, ◌*◌}
use mathlib.Core.Bool.{Bool, true, false, cond}
use mathlib.Core.List.{List}
use mathlib.Core.Path.{◌≡◌, refl, sym, ap, ◌∙◌}
use lib.Ieee.{Float, nan, inf, binary64, lt, div, of_bits}
use lib.ListN.{get_or}
use Rattle.layout.specs.Layout.{vertices_per_triangle, reals_per_window, window_low}
use Rattle.float64.specs.Scalar.{zero64, one, min_of, max_of}
use Rattle.float64.specs.Notation.{◌⊕◌}
use Rattle.vec3.specs.declared.Vec3.{Vec3}
use Rattle.buffers.specs.declared.VertexId.{VertexId}
use Rattle.buffers.specs.declared.EdgeId.{EdgeId}
use Rattle.windows.specs.Windows.{window_at, win_at}
use Rattle.windows.specs.declared.WindowRecord.{WindowRecord}
use Rattle.chains.specs.Chains.{links}
use Rattle.actions.specs.Actions.{distance_of}
use Rattle.job_checks.specs.Edge.{vertex_at}
use Rattle.last_pass.specs.of_mesh_readers.Readers.{side_in, coords_at}
use Rattle.last_pass.specs.of_mesh_readers.declared.FrameCoords.{FrameCoords}
use Rattle.last_pass.specs.Buffers.{chain_behind}
use Rattle.last_pass.specs.of_face_distance.Entries.{through_vertex, through_window}
use Rattle.face_query.specs.FaceDistance.{through_windows, records_on, through_face_vertex, through_side}

-- 1.0 / 0.0
pub infinite : div binary64 one zero64 ≡ inf false
unfolding div of_bits
infinite = refl

-- ---- a vertex
pub face_vertex_is : (v : List Float) (triangles : List ℕ) (vertex : List Float) (f : ℕ) (p : Vec3) (i : ℕ) (d : Float) (k : VertexId) (o : Vec3) (far through r : Float)
    → k ≡ record { 0 = get_or triangles (vertices_per_triangle * f + i) 0 } → o ≡ vertex_at v k.0 → far ≡ distance_of vertex k.0 → through ≡ through_vertex p o far → r ≡ min_of d through
    → r ≡ through_face_vertex v triangles vertex f p i d
unfolding through_face_vertex
face_vertex_is v triangles vertex f p i d k o far through r hk ho hf ht hr =
    hr ∙ ap (min_of d) (ht ∙ (λ j. through_vertex p (ho j) (hf j)) ∙ ap (λ (y : VertexId). through_vertex p (vertex_at v y.0) (distance_of vertex y.0)) hk)

-- ---- a window
module _ (w : List ℕ) (f : List Float) (i : ℕ) (x y d : Float) where
  abbrev through : WindowRecord → Float
  through u = cond u.alive (through_window d u.win x y) d

  module _ (u : WindowRecord) (is : u ≡ window_at w f i) where
    pub window_alive : u.alive ≡ true → (r : Float) → r ≡ through_window d u.win x y → r ≡ through (window_at w f i)
    window_alive t r h = h ∙ sym (ap (λ (b : Bool). cond b (through_window d u.win x y) d) t) ∙ ap through is

    pub window_dead : u.alive ≡ false → d ≡ through (window_at w f i)
    window_dead t = sym (ap (λ (b : Bool). cond b (through_window d u.win x y) d) t) ∙ ap through is

  module _ (low : Float) (is : low ≡ get_or f (reals_per_window * i + window_low) nan) (t : lt (y ⊕ low) d ≡ false) where
    no_nearer : through_window d (window_at w f i).win x y ≡ d
    unfolding through_window window_at win_at
    no_nearer = rw (ap (λ (z : Float). lt (y ⊕ z) d) (sym is) ∙ t) refl

    pub window_far : d ≡ through (window_at w f i)
    window_far = go (window_at w f i).alive where
      go : (b : Bool) → d ≡ cond b (through_window d (window_at w f i).win x y) d
      go true = sym no_nearer
      go false = refl

-- ---- a side
pub side_is : (v : List Float) (edge_words : List ℕ) (edge_reals : List Float) (triangle_words : List ℕ) (triangleReals : List Float) (words : List ℕ) (reals : List Float) (made f : ℕ) (p : Vec3) (i : ℕ) (d : Float) (e : EdgeId) (c : FrameCoords) (y r : Float)
    → e ≡ record { 0 = side_in triangle_words f i } → c ≡ coords_at v edge_words edge_reals triangle_words triangleReals e.0 f p → y ≡ max_of c.y zero64
    → r ≡ through_windows c.x y d (records_on words reals (chain_behind made (links edge_words words) e.0 made 0)) → r ≡ through_side v edge_words edge_reals triangle_words triangleReals words reals made f p i d
unfolding through_side
side_is v edge_words edge_reals triangle_words triangleReals words reals made f p i d e c y r he hc hy hr =
    hr
    ∙ ap (λ (z : Float). through_windows c.x z d (records_on words reals (chain_behind made (links edge_words words) e.0 made 0))) hy
    ∙ ap (λ (a : FrameCoords). through_windows a.x (max_of a.y zero64) d (records_on words reals (chain_behind made (links edge_words words) e.0 made 0))) hc
    ∙ ap (λ (a : EdgeId). through_windows (coords_at v edge_words edge_reals triangle_words triangleReals a.0 f p).x (max_of (coords_at v edge_words edge_reals triangle_words triangleReals a.0 f p).y zero64) d (records_on words reals (chain_behind made (links edge_words words) a.0 made 0))) he
