-- The Rust's `at`: the distance at a point p of a face f, over what the job's slices and the field's buffers hold. Definitions only.
use Prim.Native.Nat.{ℕ, ◌+◌, ◌*◌}
use Rattle.std.specs.Prelude.{false, List, [], ◌∷◌, map, Float, length, get_or, if◌then◌else◌}
use Rattle.std.specs.Float.{inf}
use Rattle.layout.specs.Layout.{vertices_per_triangle, coordinates_per_vertex, coordinates_per_piece}
use Rattle.float64.specs.Scalar.{zero64, min_of, max_of}
use Rattle.vec3.specs.declared.Vec3.{Vec3}
use Rattle.windows.specs.Windows.{window_at}
use Rattle.windows.specs.declared.WindowRecord.{WindowRecord}
use Rattle.chains.specs.Chains.{links}
use Rattle.actions.specs.Actions.{distance_of}
use Rattle.job_checks.specs.Edge.{vertex_at}
use Rattle.face_entries.specs.of_frames.Stored.{vector_from}
use Rattle.last_pass.specs.of_mesh_readers.Readers.{side_in, coords_at}
use Rattle.last_pass.specs.of_mesh_readers.declared.FrameCoords.{FrameCoords}
use Rattle.last_pass.specs.Buffers.{chain_behind}
use Rattle.face_entries.specs.declared.Part.{Part}
use Rattle.face_entries.specs.declared.Part.TheVariants.{EndA, EndB, Whole}
use Rattle.face_entries.specs.declared.PiecePart.{PiecePart}
use Rattle.face_entries.specs.Buffers.{entry_capacity, first_entry_of}
use Rattle.face_entries.specs.Entries.{entries_from_link}
use Rattle.last_pass.specs.of_face_distance.Entries.{to_point, to_segment, through_vertex, through_window}

-- `for &id in &on_edge[e] { if w.alive && y + w.low < d { d = d.min(w.eval(x, y)); } }`
unfoldable pub through_windows : Float → Float → Float → List WindowRecord → Float
through_windows x y d [] = d
through_windows x y d (w ∷ ws) = through_windows x y (if w.alive then through_window d w.win x y else d) ws

-- the windows of these numbers
abbrev pub records_on : List ℕ → List Float → List ℕ → List WindowRecord
records_on w f is = map (window_at w f) is

-- what an entry gives: a point, which is a piece's first or second end, or a whole segment, from the first to the second
abbrev pub first_end : List Float → ℕ → Vec3
first_end coords piece = vector_from coords (coordinates_per_piece * piece)

abbrev pub second_end : List Float → ℕ → Vec3
second_end coords piece = vector_from coords (coordinates_per_piece * piece + coordinates_per_vertex)

unfoldable pub to_part : List Float → Vec3 → ℕ → Part → Float
to_part coords p piece EndA = to_point p (first_end coords piece)
to_part coords p piece EndB = to_point p (second_end coords piece)
to_part coords p piece Whole = to_segment p (first_end coords piece) (second_end coords piece)

-- `for piece in pieces { d = d.min(match *piece { .. }); }`
unfoldable pub to_entries : List Float → Vec3 → Float → List PiecePart → Float
unfolding to_part
to_entries coords p d [] = d
to_entries coords p d (x ∷ xs) = to_entries coords p (min_of d (to_part coords p x.piece x.part)) xs

-- through the vertices
module _ (v : List Float) (triangles : List ℕ) (vertex : List Float) (f : ℕ) (p : Vec3) where
  -- `d = d.min(norm(sub(p, v[k])) + vertex[k])`, where k is vertex i of the face
  unfoldable pub through_face_vertex : ℕ → Float → Float
  through_face_vertex i d =
      let k : ℕ = get_or triangles (vertices_per_triangle * f + i) 0 in
      min_of d (through_vertex p (vertex_at v k) (distance_of vertex k))

  -- `for &k in &t[f]`, from infinity on
  unfoldable pub through_vertices : Float
  unfolding through_face_vertex
  through_vertices = through_face_vertex 2 (through_face_vertex 1 (through_face_vertex 0 (inf false)))

-- through the windows on its edges, where so many windows are made
module _ (v : List Float) (edge_words : List ℕ) (edge_reals : List Float) (triangle_words : List ℕ) (triangleReals : List Float) (words : List ℕ) (reals : List Float) (made f : ℕ) (p : Vec3) where
  -- `let (x, y) = self.coords(e, f, p); let y = y.max(0.);`, where e is edge i of the face, and its windows
  unfoldable pub through_side : ℕ → Float → Float
  unfolding through_windows
  through_side i d =
      let e : ℕ = side_in triangle_words f i in
      let c : FrameCoords = coords_at v edge_words edge_reals triangle_words triangleReals e f p in
      through_windows c.x (max_of c.y zero64) d (records_on words reals (chain_behind made (links edge_words words) e made 0))

  -- `for &e in &tri_edges[f]`
  unfoldable pub through_sides : Float → Float
  unfolding through_side
  through_sides d = through_side 2 (through_side 1 (through_side 0 d))

-- `if let Some(pieces) = self.in_face.get(&f)`
unfoldable pub to_pieces : List Float → List ℕ → List ℕ → ℕ → Vec3 → Float → Float
unfolding to_entries
to_pieces coords triangle_words entry_words f p d = to_entries coords p d (entries_from_link (entry_capacity (length entry_words)) entry_words (first_entry_of triangle_words f))

-- vertices, then the windows of the three edges, then the pieces of the face
abbrev pub face_distance_in : List Float → List ℕ → List Float → List ℕ → List Float → List ℕ → List Float → List Float → List ℕ → List Float → List ℕ → ℕ → ℕ → Vec3 → Float
face_distance_in v triangles coords edge_words edge_reals triangle_words triangleReals vertex words reals entry_words made f p =
    to_pieces coords triangle_words entry_words f p (through_sides v edge_words edge_reals triangle_words triangleReals words reals made f p (through_vertices v triangles vertex f p))
