-- A job as it is handed in. Definitions only.
use Rattle.std.specs.Prelude.{ℕ, ◌/◌, List, length, Float}

pub record Job : Type 0 where
  pub vertices : List Float  -- document 01's corners: three coordinates each
  pub triangles : List ℕ  -- three vertex numbers each
  pub flags : List ℕ  -- one for each vertex: 1 where it passes distances round itself
  pub kinds : List ℕ  -- one for each piece: 0 a point, 1 a segment
  pub faces : List ℕ  -- one for each piece: its triangle
  pub coords : List Float  -- six for each piece, of which a point uses the first three
  pub limit : Float  -- document 01's reach

abbrev pub job : List Float → List ℕ → List ℕ → List ℕ → List ℕ → List Float → Float → Job
job v t f k n c l = record { vertices = v; triangles = t; flags = f; kinds = k; faces = n; coords = c; limit = l }

abbrev pub vertex_count : Job → ℕ
vertex_count j = length j.vertices / 3

abbrev pub triangle_count : Job → ℕ
triangle_count j = length j.triangles / 3

abbrev pub piece_count : Job → ℕ
piece_count j = length j.kinds
