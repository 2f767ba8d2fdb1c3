-- The Rust's queries over the lists of a field, the live windows of each edge and the entries of each face, where the buffers have chains. Definitions only.
use Rattle.std.specs.Prelude.{ℕ, List, [], ◌∷◌, map, leb, Float, Result, Ok, Err, if◌then◌else◌}
use Rattle.float64.specs.Scalar.{zero64, max_of}
use Rattle.vec3.specs.declared.Vec3.{Vec3}
use Rattle.source.specs.declared.Win.{Win}
use Rattle.actions.specs.Actions.{distance_of}
use Rattle.queries.specs.of_frames.Stored.{length_at, low_at, high_at}
use Rattle.queries.specs.of_mesh_readers.Readers.{side_in, coords_at}
use Rattle.queries.specs.of_mesh_readers.declared.FrameCoords.{FrameCoords}
use Rattle.queries.specs.of_trim_model.Windows.{Window}
use Rattle.queries.specs.of_trim_state.Trace.{win_of}
use Rattle.queries.specs.of_live_windows.Live.{nums}
use Rattle.queries.specs.of_face_entries.Entries.{FaceEntry, entries_of}
use Rattle.queries.specs.of_face_distance.Entries.{through_window}
use Rattle.queries.specs.of_edge_query.EdgeDistance.{edge_distance}
use Rattle.queries.specs.of_face_query.FaceDistance.{to_entries, through_vertices}
use Rattle.computed.specs.declared.Field.{Field}
use Rattle.queries.specs.of_field_check.FieldCheck.{JobSlices, FieldSlices}
use Rattle.queries.specs.declared.FaceRefusal.{FaceRefusal}
use Rattle.queries.specs.declared.FaceRefusal.TheVariants as face
use Rattle.queries.specs.declared.EdgeRefusal.{EdgeRefusal}
use Rattle.queries.specs.declared.EdgeRefusal.TheVariants as edge
use Rattle.queries.specs.declared.VertexRefusal.{VertexRefusal}
use Rattle.queries.specs.declared.VertexRefusal.TheVariants as vertex
use Rattle.queries.specs.declared.ListedWindow.{ListedWindow}
use Rattle.queries.specs.declared.WindowRefusal.{WindowRefusal}
use Rattle.queries.specs.declared.WindowRefusal.TheVariants as window
use Rattle.queries.specs.Queries.{point_outside, place_outside, place_link, linked_window}

-- `for &id in &on_edge[e] { if w.alive && y + w.low < d { d = d.min(w.eval(x, y)); } }`, of a list whose windows are all alive
unfoldable pub through_live : Float → Float → Float → List Win → Float
through_live x y d [] = d
through_live x y d (w ∷ ws) = through_live x y (through_window d w x y) ws

module _ (n : Field) (j : JobSlices) (b : FieldSlices) (live : ℕ → List Window) (xs : List FaceEntry) where
  -- the windows on edge i of face f
  abbrev pub side_by_lists : ℕ → Vec3 → ℕ → Float → Float
  side_by_lists f p i d =
      let e : ℕ = side_in b.triangle_words_held f i in
      let c : FrameCoords = coords_at j.vertices b.edge_words_held b.edge_reals_held b.triangle_words_held b.triangle_reals e f p in
      through_live c.x (max_of c.y zero64) d (map win_of (live e))

  -- the Rust's `at`
  abbrev pub at_by_lists : ℕ → Vec3 → Float
  at_by_lists f p = to_entries j.coords p (side_by_lists f p 2 (side_by_lists f p 1 (side_by_lists f p 0 (through_vertices j.vertices j.triangles b.vertex f p)))) (entries_of f xs)

  -- the Rust's `edge_at`
  abbrev pub edge_at_by_lists : ℕ → Float → Float
  edge_at_by_lists e x = edge_distance (distance_of b.vertex (low_at b.edge_words_held e)) (distance_of b.vertex (high_at b.edge_words_held e)) (length_at b.edge_reals_held e) (map win_of (live e)) x

  -- the answers: what is asked for is refused or there, and 20 is not met
  abbrev pub face_by_lists : ℕ → Vec3 → Result Float FaceRefusal
  face_by_lists f p = if leb n.triangles f then Err face.MissingFace else if point_outside p then Err face.PointOutOfRange else Ok (at_by_lists f p)

  abbrev pub edge_by_lists : ℕ → Float → Result Float EdgeRefusal
  edge_by_lists e x = if leb n.edges e then Err edge.MissingEdge else if place_outside (length_at b.edge_reals_held e) x then Err edge.PlaceOutside else Ok (edge_at_by_lists e x)

  abbrev pub vertex_by_lists : ℕ → Result Float VertexRefusal
  vertex_by_lists k = if leb n.vertices k then Err vertex.MissingVertex else Ok (distance_of b.vertex k)

  abbrev pub window_by_lists : ℕ → ℕ → Result ListedWindow WindowRefusal
  window_by_lists e i = if leb n.edges e then Err window.MissingEdge else linked_window b.words b.reals (place_link i (nums (live e)))
