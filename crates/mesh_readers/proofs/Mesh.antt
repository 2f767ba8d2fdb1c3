-- What a mesh's buffers hold, for the laws of the readers: that of mesh's `Held`, and it stays where an addition or an entry writes. Assumes nothing.
use Prim.Native.Nat.{ℕ, ◌+◌, ◌*◌, ◌/◌}
use mathlib.Core.List.{List}
use mathlib.Core.Logic.{◌≢◌}
use mathlib.Core.Path.{◌≡◌}
use lib.ListN.{length, get_or}
use lib.Ieee.{Float}
use Rattle.layout.specs.Layout.{words_per_edge, edge_head, edge_scratch, words_per_triangle, triangle_first_entry, triangle_last_entry}
use Rattle.job_checks.specs.Sound.{ValidTriangles}
use Rattle.mesh.specs.Topology.{MeshBuffers}
use Rattle.mesh.specs.Held.{Held}
use Rattle.mesh.proofs.Keeping.{ends_kept, faces_kept, sides_kept}
use Rattle.mesh_readers.specs.Held.{HoldsMesh, HoldsRound}

pub mesh_holds : (v : List Float) (triangles : List ℕ) (n : ℕ) (flags : List ℕ) (m : MeshBuffers) → ValidTriangles triangles n → Held v triangles flags m
    → HoldsMesh v triangles n m.edge_words_held m.edge_reals_held m.triangle_words_held m.triangle_reals
mesh_holds v triangles n flags m valid h = record { valid = valid; ends = h.ends; faces = h.faces; lengths = h.lengths; sides = h.sides; normals = h.normals }

pub mesh_round : (v : List Float) (triangles flags : List ℕ) (m : MeshBuffers) → Held v triangles flags m → HoldsRound triangles (length v / 3) m.vertex_words_held m.round
mesh_round v triangles flags m h = record { start = h.start; end = h.end; faces_round_held = h.faces_round_held }

module _ (v : List Float) (triangles : List ℕ) (n : ℕ) (er tr : List Float) where
  -- the premise is field `edges` of trim_split's `Untouched`
  pub mesh_stays : (AtWork : ℕ → Type 0) (tw ew ew' : List ℕ)
      → ((i : ℕ) → ((e : ℕ) → AtWork e → (i ≢ words_per_edge * e + edge_head) × (i ≢ words_per_edge * e + edge_scratch)) → get_or ew' i 0 ≡ get_or ew i 0)
      → HoldsMesh v triangles n ew er tw tr → HoldsMesh v triangles n ew' er tw tr
  mesh_stays AtWork tw ew ew' kept m = record {
    valid = m.valid;
    ends = ends_kept triangles AtWork ew ew' kept m.ends;
    faces = faces_kept triangles AtWork ew ew' kept m.faces;
    lengths = m.lengths;
    sides = m.sides;
    normals = m.normals;
  }

  -- the premise is field `triangle_words_held` of mesh's `Worked`
  pub mesh_entered : (ew tw tw' : List ℕ)
      → ((i : ℕ) → ((f : ℕ) → (i ≢ words_per_triangle * f + triangle_first_entry) × (i ≢ words_per_triangle * f + triangle_last_entry)) → get_or tw' i 0 ≡ get_or tw i 0)
      → HoldsMesh v triangles n ew er tw tr → HoldsMesh v triangles n ew er tw' tr
  mesh_entered ew tw tw' kept m = record {
    valid = m.valid;
    ends = m.ends;
    faces = m.faces;
    lengths = m.lengths;
    sides = sides_kept triangles tw tw' kept m.sides;
    normals = m.normals;
  }
