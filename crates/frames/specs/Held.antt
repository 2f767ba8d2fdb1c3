-- The topology's buffers hold a mesh's topology. Definitions only.
use Rattle.std.specs.Prelude.{ℕ, ◌<◌, ◌≡◌, List, length, get_or, Float}
use Rattle.topology.specs.Edges.{no_edge, edges, face, tri_edge}
use Rattle.topology.specs.Frames.{len, xhat, yhat}
use Rattle.frames.specs.Stored.{low_at, high_at, face_at, side_at, length_at, unit_at, normal_at}

pub record HoldsEdges (triangles edge_words : List ℕ) : Type 0 where
  pub low : (e : ℕ) → e < length (edges triangles) → low_at edge_words e ≡ (get_or (edges triangles) e no_edge).low
  pub high : (e : ℕ) → e < length (edges triangles) → high_at edge_words e ≡ (get_or (edges triangles) e no_edge).high

pub record HoldsFaces (triangles edge_words : List ℕ) : Type 0 where
  pub first : (e : ℕ) → e < length (edges triangles) → face_at edge_words e 0 ≡ face triangles e 0
  pub second : (e : ℕ) → e < length (edges triangles) → face_at edge_words e 1 ≡ face triangles e 1

abbrev pub HoldsSides : List ℕ → List ℕ → Type 0
HoldsSides triangles triangle_words = (h : ℕ) → h < length triangles → side_at triangle_words h ≡ tri_edge triangles h

pub record HoldsLengths (v : List Float) (triangles : List ℕ) (edge_reals : List Float) : Type 0 where
  pub length_is : (e : ℕ) → e < length (edges triangles) → length_at edge_reals e ≡ len v triangles e
  pub unit_is : (e : ℕ) → e < length (edges triangles) → unit_at edge_reals e ≡ xhat v triangles e

abbrev pub HoldsNormals : List Float → List ℕ → List Float → Type 0
HoldsNormals v triangles triangleReals = (h : ℕ) → h < length triangles → normal_at triangleReals h ≡ yhat v triangles h
