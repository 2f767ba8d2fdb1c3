-- What the exported functions answer of a mesh alone. Definitions only.
use Rattle.std.specs.Prelude.{ℕ, zero, suc, ◌*◌, ◌≡◌, List, [], length, Float}
use Rattle.float64.specs.Scalar.{zero64 as positiveZero}
use Rattle.job_checks.specs.declared.BufferCounts.{BufferCounts}
use Rattle.job_checks.specs.Job.{Job, job}
use Rattle.job_checks.specs.Refusals.{refusal_of, max_vertices, max_triangles}
use Rattle.topology.specs.Edges.{edges}
use Rattle.mesh.specs.declared.OtherCounts.{OtherCounts}
use Rattle.mesh.specs.Topology.{MeshBuffers, topology_of}
use Rattle.mesh.specs.Answer.{counts_in, mesh_refusal, afterwards}

-- a job with no pieces and limit 0
abbrev pub mesh_alone : List Float → List ℕ → List ℕ → Job
mesh_alone v t f = job v t f [] [] [] positiveZero

-- no distances are lent, so they do not count
abbrev pub no_others : OtherCounts
no_others = record { vertex_reals = max_vertices; pieces = 0; windows = 0; scratch = 0; other_scratch = 0 }

-- the slots that the largest mesh needs
abbrev pub plenty : BufferCounts
plenty =
    record {
      vertices = max_vertices;
      edges = 3 * max_triangles;
      vertex_faces = 3 * max_triangles;
      triangles = max_triangles;
      pieces = 0;
      windows = 0;
      scratch = 0;
      other_scratch = 0;
    }

-- a refusal above 32 bits, or else a count
unfoldable pub refusal_or_count : ℕ → ℕ → ℕ
refusal_or_count zero n = n
refusal_or_count (suc k) n = 4_294_967_296 * suc k

pub record PackedAnswer (j : Job) (r : ℕ) (before after : MeshBuffers) : Type 0 where
  pub number : r ≡ refusal_or_count (mesh_refusal j (counts_in before no_others)) (length (edges j.triangles))
  pub buffers : after ≡ afterwards (refusal_of j (counts_in before no_others)) before (topology_of j.vertices j.triangles j.flags before)
