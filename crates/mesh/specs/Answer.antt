-- A job's mesh: document 01's refusals 1 to 10, or its topology. Definitions only.
use Rattle.std.specs.Prelude.{ℕ, zero, suc, min, ◌≡◌, Bool, List, [], ◌∷◌, ◌++◌, length, Result, Ok, Err}
use Rattle.layout.specs.Layout.{words_per_vertex, words_per_round, words_per_edge, reals_per_edge, words_per_triangle, reals_per_triangle}
use Rattle.buffers.specs.Slots.{slots_of}
use Rattle.job_checks.specs.declared.BufferCounts.{BufferCounts}
use Rattle.job_checks.specs.Any.{first_of}
use Rattle.job_checks.specs.Job.{Job}
use Rattle.job_checks.specs.Refusals.{refusal_number, refusals, refusal_of}
use Rattle.topology.specs.Edges.{edges, shared_by_three}
use Rattle.mesh.specs.declared.OtherCounts.{OtherCounts}
use Rattle.mesh.specs.declared.Refusal.{Refusal}
use Rattle.mesh.specs.declared.Refusal.TheVariants as refusal
use Rattle.mesh.specs.Topology.{MeshBuffers, topology_of}

-- each answer's number in document 01; 0 is no refusal
abbrev pub meshed_number : Result ℕ Refusal → ℕ
meshed_number (Ok n) = 0
meshed_number (Err (refusal.Job r)) = refusal_number (Err r)
meshed_number (Err refusal.ThirdFace) = 10

-- the slots of buffers whose slices have these lengths, and of the others as they are told
abbrev pub counts_of : ℕ → ℕ → ℕ → ℕ → ℕ → ℕ → OtherCounts → BufferCounts
counts_of vw ew er r tw tr others =
    record {
      vertices = min (slots_of vw words_per_vertex) others.vertex_reals;
      edges = min (slots_of ew words_per_edge) (slots_of er reals_per_edge);
      vertex_faces = slots_of r words_per_round;
      triangles = min (slots_of tw words_per_triangle) (slots_of tr reals_per_triangle);
      pieces = others.pieces;
      windows = others.windows;
      scratch = others.scratch;
      other_scratch = others.other_scratch;
    }

abbrev pub counts_in : MeshBuffers → OtherCounts → BufferCounts
counts_in m others =
    counts_of (length m.vertex_words_held) (length m.edge_words_held) (length m.edge_reals_held) (length m.round) (length m.triangle_words_held) (length m.triangle_reals) others

-- every refusal of a mesh by its number, in the order in which they are tried: 10, that an edge lies in more than two triangles, comes last
unfoldable pub mesh_refusals : Job → BufferCounts → List (ℕ × Bool)
mesh_refusals j b = refusals j b ++ ((10, shared_by_three j.triangles) ∷ [])

-- the first of 1 to 10 that holds, or 0
abbrev pub mesh_refusal : Job → BufferCounts → ℕ
mesh_refusal j b = first_of (mesh_refusals j b)

-- 1 to 9 change no buffer
unfoldable pub afterwards : ℕ → MeshBuffers → MeshBuffers → MeshBuffers
afterwards zero m t = t
afterwards (suc k) m t = m

pub record Answered (j : Job) (others : OtherCounts) (r : Result ℕ Refusal) (before after : MeshBuffers) : Type 0 where
  pub number : meshed_number r ≡ mesh_refusal j (counts_in before others)
  pub edge_count_held : mesh_refusal j (counts_in before others) ≡ 0 → r ≡ Ok (length (edges j.triangles))
  pub buffers : after ≡ afterwards (refusal_of j (counts_in before others)) before (topology_of j.vertices j.triangles j.flags before)
