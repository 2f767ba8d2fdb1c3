-- What the writers of a job's parts are handed: the parts stand in the slip, and there is room for them. Definitions only.
use Rattle.std.specs.Prelude.{ℕ, ◌+◌, ◌*◌, ◌≤◌, ◌<◌, ◌≡◌, true, List, length, get_or}
use Rattle.slip.specs.Reading.{Rows, vertex_slots, triangle_slots, piece_slots}
use Rattle.groups.specs.declared.Form.TheVariants.{Plain, Groups}
use Rattle.slip_moves.specs.Moves.{ends_size, mesh_moved, pieces_moved}
use Rattle.form_read.specs.Places.{is_put, ends_from}
use Rattle.form_read.specs.FormReading.{is_read, groups_answer}

pub record MeshThere (s : List ℕ) (i v t vertices triangles flags : ℕ) : Type 0 where
  pub near : i ≤ 16
  pub few_vertices : v < 4_294_967_296
  pub few_triangles : t < 4_294_967_296
  pub stands : is_put (mesh_moved Groups Plain s v t i) ≡ true
  pub vertices_fit : 3 * v ≤ vertices
  pub triangles_fit : 3 * t ≤ triangles
  pub flags_fit : v ≤ flags

-- a piece at byte i whose ends stand from byte e on
pub record PieceThere (s : List ℕ) (i e : ℕ) : Type 0 where
  pub kind : i < length s
  pub ends : e ≡ ends_from s i
  pub fits : e + ends_size (get_or s i 0) ≤ length s

pub record PiecesThere (s : List ℕ) (from n kinds faces coords : ℕ) : Type 0 where
  pub near : from < 1_000_000_000_000_000
  pub few : n < 4_294_967_296
  pub stand : is_put (pieces_moved Groups Plain s n from) ≡ true
  pub kinds_fit : n ≤ kinds
  pub faces_fit : n ≤ faces
  pub coords_fit : 6 * n ≤ coords

abbrev pub JobThere : List ℕ → Rows → Type 0
JobThere s b = is_read (groups_answer s (vertex_slots b) (triangle_slots b) (piece_slots b)) ≡ true
