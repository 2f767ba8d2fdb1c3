-- Document 01's refusal 20, over the answer of a job, the job's mesh and pieces lent again, and the field's buffers. Definitions only.
-- 'A number in the rooms points outside them' is read so: of each slot in use (an edge, a triangle, a window made, a listed entry), every word that names a vertex, edge, face, window,
-- piece, part or entry names one that the field has. A slot never taken holds no number. The faces round the vertices are followed by no query and are not lent.
-- 'A chain has more links than its room has places' is read of all chains of a buffer together, since they share its places: so the check is one pass whatever the buffers hold, and a
-- window or an entry that stands on many chains is no field's. The places of the windows are those taken, the windows made.
use Rattle.std.specs.Prelude.{ℕ, zero, suc, ◌+◌, ◌*◌, ◌/◌, min, Bool, true, false, not, ◌&&◌, ◌||◌, List, eqb, Float, length, get_or}
use Rattle.std.proofs.Math.Dec.{ltb, leb}
use Rattle.std.specs.Float.{nan}
use Rattle.std.specs.Float.Ieee.{lt}
use Rattle.layout.specs.Layout.{coordinates_per_vertex, vertices_per_triangle, coordinates_per_piece, reals_per_vertex, words_per_edge, reals_per_edge, words_per_triangle, reals_per_triangle, reals_per_window, window_b0, window_b1, words_per_entry, entry_piece, entry_part}
use Rattle.buffers.specs.Slots.{slots_of}
use Rattle.windows.specs.Windows.{capacity_of, edge_stored, into_of, link_of}
use Rattle.chains.specs.Chains.{head_of}
use Rattle.job_checks.specs.Any.{any_below, first_of}
use Rattle.job_checks.specs.Refusals.{above_one, mesh_tests, degenerate_triangle, piece_tests}
use Rattle.topology.specs.Edges.{no_face}
use Rattle.frames.specs.Stored.{low_at, high_at, face_at}
use Rattle.mesh_readers.specs.Readers.{side_in}
use Rattle.face_entries.specs.Buffers.{entry_capacity, first_entry_of, last_entry_of, next_entry_of}
use Rattle.computed.specs.declared.Computed.{Computed}
use Rattle.computed.specs.declared.Computed.TheVariants.{Refused, Field as isField}
use Rattle.computed.specs.declared.Field.{Field}
use Rattle.field_check.specs.Chains.{chains_unsound}

-- the job's slices, lent again
pub record JobSlices : Type 0 where
  pub vertices : List Float
  pub triangles : List ℕ
  pub kinds : List ℕ
  pub faces : List ℕ
  pub coords : List Float

abbrev pub job_slices : List Float → List ℕ → List ℕ → List ℕ → List Float → JobSlices
job_slices v t k n c = record { vertices = v; triangles = t; kinds = k; faces = n; coords = c }

-- the field's buffers that a query follows
pub record FieldSlices : Type 0 where
  pub edge_words_held : List ℕ
  pub edge_reals_held : List Float
  pub triangle_words_held : List ℕ
  pub triangle_reals : List Float
  pub vertex : List Float
  pub words : List ℕ
  pub reals : List Float
  pub entry_words_held : List ℕ

abbrev pub field_slices : List ℕ → List Float → List ℕ → List Float → List Float → List ℕ → List Float → List ℕ → FieldSlices
field_slices ew er tw tr v w f n = record { edge_words_held = ew; edge_reals_held = er; triangle_words_held = tw; triangle_reals = tr; vertex = v; words = w; reals = f; entry_words_held = n }

-- ---- the counts
-- no such field stands in these buffers: one of them has fewer slots than the field has edges, triangles, vertices or windows
unfoldable pub too_few_slots : Field → FieldSlices → Bool
too_few_slots n b =
    ltb (min (slots_of (length b.edge_words_held) words_per_edge) (slots_of (length b.edge_reals_held) reals_per_edge)) n.edges
    || (ltb (min (slots_of (length b.triangle_words_held) words_per_triangle) (slots_of (length b.triangle_reals) reals_per_triangle)) n.triangles
    || (ltb (slots_of (length b.vertex) reals_per_vertex) n.vertices
    || ltb (capacity_of (length b.words) (length b.reals)) n.windows))

-- no list of so many records
unfoldable pub records_differ : ℕ → ℕ → ℕ → Bool
records_differ elements stride count = not (eqb elements (stride * count))

-- the job lent again does not have the field's counts
unfoldable pub counts_differ : Field → JobSlices → Bool
unfolding records_differ
counts_differ n j =
    records_differ (length j.vertices) coordinates_per_vertex n.vertices
    || (records_differ (length j.triangles) vertices_per_triangle n.triangles
    || (records_differ (length j.kinds) 1 n.pieces
    || (records_differ (length j.faces) 1 n.pieces
    || records_differ (length j.coords) coordinates_per_piece n.pieces)))

-- it meets one of 2 to 7, or a piece is neither a point nor a segment
unfoldable pub meets_refusal : JobSlices → Bool
meets_refusal j =
    ltb 0 (first_of (mesh_tests j.vertices j.triangles))
    || (degenerate_triangle j.vertices j.triangles
    || (ltb 0 (first_of (piece_tests (length j.triangles / 3) j.kinds j.faces j.coords))
    || any_below (above_one j.kinds) (length j.kinds)))

-- ---- numbers that point outside
-- a face that is none of so many and not `no_face`
unfoldable pub face_outside : ℕ → ℕ → Bool
face_outside triangles g = leb triangles g && not (eqb g no_face)

module _ (n : Field) where
  unfoldable pub edge_outside : List ℕ → ℕ → Bool
  unfolding face_outside
  edge_outside edge_words e =
      leb n.vertices (low_at edge_words e)
      || (leb n.vertices (high_at edge_words e)
      || (face_outside n.triangles (face_at edge_words e 0)
      || (face_outside n.triangles (face_at edge_words e 1)
      || ltb n.windows (head_of edge_words e))))

  -- at so many slots for entries
  unfoldable pub triangle_outside : ℕ → List ℕ → ℕ → Bool
  triangle_outside entries triangle_words f =
      leb n.edges (side_in triangle_words f 0)
      || (leb n.edges (side_in triangle_words f 1)
      || (leb n.edges (side_in triangle_words f 2)
      || (ltb entries (first_entry_of triangle_words f)
      || ltb entries (last_entry_of triangle_words f))))

  unfoldable pub window_outside : List ℕ → ℕ → Bool
  unfolding face_outside
  window_outside words i =
      leb n.edges (edge_stored words i)
      || (face_outside n.triangles (into_of words i)
      || ltb n.windows (link_of words i))

-- of an entry that is listed, at so many pieces
unfoldable pub entry_outside : ℕ → List ℕ → ℕ → Bool
entry_outside pieces entry_words i =
    leb pieces (get_or entry_words (words_per_entry * i + entry_piece) 0)
    || (ltb 2 (get_or entry_words (words_per_entry * i + entry_part) 0)
    || ltb (entry_capacity (length entry_words)) (next_entry_of entry_words i))

-- ---- the lists of the edges
abbrev pub window_start : List Float → ℕ → Float
window_start f i = get_or f (reals_per_window * i + window_b0) nan

-- a listed window's start isn't a number below its end, or the starts don't rise from the window before it
unfoldable pub not_rising : List Float → ℕ → ℕ → Bool
not_rising f zero i = false
not_rising f (suc j) i = not (lt (window_start f j) (window_start f i))

unfoldable pub window_unsound : List Float → ℕ → ℕ → Bool
unfolding not_rising
window_unsound f before i = not (lt (window_start f i) (get_or f (reals_per_window * i + window_b1) nan)) || not_rising f before i

-- the windows' chains, at so many windows and edges
unfoldable pub windows_unsound : List ℕ → List ℕ → List Float → ℕ → ℕ → Bool
unfolding chains_unsound window_unsound
windows_unsound edge_words words reals made edges = chains_unsound (link_of words) (window_unsound reals) (head_of edge_words) made edges

-- the entries' chains, at so many pieces and triangles
unfoldable pub entries_unsound : List ℕ → List ℕ → ℕ → ℕ → Bool
unfolding chains_unsound entry_outside
entries_unsound triangle_words entry_words pieces triangles = chains_unsound (next_entry_of entry_words) (λ (before i : ℕ). entry_outside pieces entry_words i) (first_entry_of triangle_words) (entry_capacity (length entry_words)) triangles

-- ---- the whole of 20
module _ (n : Field) (b : FieldSlices) where
  -- a number in the rooms points outside them
  unfoldable pub points_outside : Bool
  unfolding edge_outside triangle_outside window_outside
  points_outside =
      any_below (edge_outside n b.edge_words_held) n.edges
      || (any_below (triangle_outside n (entry_capacity (length b.entry_words_held)) b.triangle_words_held) n.triangles
      || any_below (window_outside n b.words) n.windows)

  -- a chain has more links than its room has places, or what is listed is no field's
  unfoldable pub lists_unsound : Bool
  unfolding windows_unsound entries_unsound
  lists_unsound = windows_unsound b.edge_words_held b.words b.reals n.windows n.edges || entries_unsound b.triangle_words_held b.entry_words_held n.pieces n.triangles

unfoldable pub field_unsound : Field → JobSlices → FieldSlices → Bool
unfolding too_few_slots counts_differ meets_refusal points_outside lists_unsound
field_unsound n j b = too_few_slots n b || (counts_differ n j || (meets_refusal j || (points_outside n b || lists_unsound n b)))

-- no field, or none that these are of
unfoldable pub meets20 : Computed → JobSlices → FieldSlices → Bool
unfolding field_unsound
meets20 (Refused k) j b = true
meets20 (isField n) j b = field_unsound n j b
