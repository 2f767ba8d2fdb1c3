-- Document 01's queries, over the answer of a job, the job's mesh and pieces lent again, and the field's buffers: 20 first, then what is asked for, then its value. Definitions only.
use Rattle.std.specs.Prelude.{ℕ, zero, suc, Bool, not, ◌&&◌, ◌||◌, List, [], ◌∷◌, Float, Result, Ok, Err, if◌then◌else◌}
use Rattle.std.proofs.Math.Dec.{leb}
use Rattle.std.specs.Float.Ieee.{le}
use Rattle.float64.specs.Scalar.{zero64}
use Rattle.vec3.specs.declared.Vec3.{Vec3}
use Rattle.windows.specs.Windows.{window_at}
use Rattle.chains.specs.Chains.{links}
use Rattle.actions.specs.Actions.{distance_of}
use Rattle.job_checks.specs.Refusals.{out_of_range}
use Rattle.field_check.specs.of_frames.Stored.{length_at}
use Rattle.field_check.specs.of_mesh_readers.Readers.{trim_edge_at}
use Rattle.edge_query.specs.of_last_pass.Buffers.{chain_behind}
use Rattle.computed.specs.declared.Computed.{Computed}
use Rattle.computed.specs.declared.Computed.TheVariants.{Refused, Field as isField}
use Rattle.computed.specs.declared.Field.{Field}
use Rattle.edge_query.specs.EdgeDistance.{edge_distance_in}
use Rattle.face_query.specs.FaceDistance.{face_distance_in}
use Rattle.field_check.specs.FieldCheck.{JobSlices, FieldSlices, field_unsound}
use Rattle.queries.specs.declared.FaceRefusal.{FaceRefusal}
use Rattle.queries.specs.declared.FaceRefusal.TheVariants as face
use Rattle.queries.specs.declared.EdgeRefusal.{EdgeRefusal}
use Rattle.queries.specs.declared.EdgeRefusal.TheVariants as edge
use Rattle.queries.specs.declared.VertexRefusal.{VertexRefusal}
use Rattle.queries.specs.declared.VertexRefusal.TheVariants as vertex
use Rattle.queries.specs.declared.ListedWindow.{ListedWindow}
use Rattle.queries.specs.declared.WindowRefusal.{WindowRefusal}
use Rattle.queries.specs.declared.WindowRefusal.TheVariants as window

-- ---- what is asked for
-- 22: a coordinate out of range
unfoldable pub point_outside : Vec3 → Bool
point_outside p = out_of_range p.x || (out_of_range p.y || out_of_range p.z)

-- 24: not from 0 to the edge's length, or NaN
unfoldable pub place_outside : Float → Float → Bool
place_outside l x = not (le zero64 x && le x l)

-- the link of the number at a place of a list, 0 past its end
unfoldable pub place_link : ℕ → List ℕ → ℕ
place_link i [] = 0
place_link zero (k ∷ ks) = suc k
place_link (suc i) (k ∷ ks) = place_link i ks

-- the window of a link, or that there is none
unfoldable pub linked_window : List ℕ → List Float → ℕ → Result ListedWindow WindowRefusal
linked_window w f zero = Err window.PastEnd
linked_window w f (suc k) = Ok (record { id = record { 0 = k }; window = window_at w f k })

-- ---- the answers of a field that 20 passed
module _ (n : Field) (b : FieldSlices) where
  -- the Rust's `at`
  unfoldable pub face_answer : JobSlices → ℕ → Vec3 → Result Float FaceRefusal
  unfolding point_outside
  face_answer j f p =
      if leb n.triangles f then Err face.MissingFace else
      if point_outside p then Err face.PointOutOfRange else
      Ok (face_distance_in j.vertices j.triangles j.coords b.edge_words_held b.edge_reals_held b.triangle_words_held b.triangle_reals b.vertex b.words b.reals b.entry_words_held n.windows f p)

  -- the Rust's `edge_at`
  unfoldable pub edge_answer : ℕ → Float → Result Float EdgeRefusal
  unfolding place_outside
  edge_answer e x =
      if leb n.edges e then Err edge.MissingEdge else
      if place_outside (length_at b.edge_reals_held e) x then Err edge.PlaceOutside else
      Ok (edge_distance_in b.vertex (links b.edge_words_held b.words) b.reals n.windows (trim_edge_at b.edge_words_held b.edge_reals_held e) x)

  -- the Rust's `vertex[k]`
  unfoldable pub vertex_answer : ℕ → Result Float VertexRefusal
  vertex_answer k = if leb n.vertices k then Err vertex.MissingVertex else Ok (distance_of b.vertex k)

  -- the window at a place in the list of an edge
  unfoldable pub window_answer : ℕ → ℕ → Result ListedWindow WindowRefusal
  unfolding place_link linked_window
  window_answer e i =
      if leb n.edges e then Err window.MissingEdge else
      linked_window b.words b.reals (place_link i (chain_behind n.windows (links b.edge_words_held b.words) e n.windows 0))

-- ---- the queries
module _ (j : JobSlices) (b : FieldSlices) where
  unfoldable pub face_query : Computed → ℕ → Vec3 → Result Float FaceRefusal
  unfolding face_answer
  face_query (Refused k) f p = Err face.NoField
  face_query (isField n) f p = if field_unsound n j b then Err face.NoField else face_answer n b j f p

  unfoldable pub edge_query : Computed → ℕ → Float → Result Float EdgeRefusal
  unfolding edge_answer
  edge_query (Refused k) e x = Err edge.NoField
  edge_query (isField n) e x = if field_unsound n j b then Err edge.NoField else edge_answer n b e x

  unfoldable pub vertex_query : Computed → ℕ → Result Float VertexRefusal
  unfolding vertex_answer
  vertex_query (Refused k) i = Err vertex.NoField
  vertex_query (isField n) i = if field_unsound n j b then Err vertex.NoField else vertex_answer n b i

  unfoldable pub window_query : Computed → ℕ → ℕ → Result ListedWindow WindowRefusal
  unfolding window_answer
  window_query (Refused k) e i = Err window.NoField
  window_query (isField n) e i = if field_unsound n j b then Err window.NoField else window_answer n b e i
