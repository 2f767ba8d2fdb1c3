-- Buffers that are zeroed, or zeroed where the work stopped. Definitions only.
use Rattle.std.specs.Prelude.{ℕ, Bool, cond, List, length, replicate, Float}
use Rattle.float64.specs.Scalar.{zero64}
use Rattle.mesh.specs.Topology.{MeshBuffers, mesh_buffers}
use Rattle.cut_lists.specs.Buffers.{Cuts, cut_buffers}

-- every element zero
abbrev pub zero_words : List ℕ → List ℕ
zero_words l = replicate (length l) 0

abbrev pub zero_reals : List Float → List Float
zero_reals l = replicate (length l) zero64

abbrev pub zero_cuts : Cuts → Cuts
zero_cuts c = cut_buffers (zero_reals c.pts) (zero_reals c.out) (zero_reals c.keep) (zero_reals c.next)

-- that, or as it is
abbrev pub words_if : Bool → List ℕ → List ℕ
words_if stop l = cond stop (zero_words l) l

abbrev pub reals_if : Bool → List Float → List Float
reals_if stop l = cond stop (zero_reals l) l

abbrev pub mesh_if : Bool → MeshBuffers → MeshBuffers
mesh_if stop m =
    mesh_buffers
    (words_if stop m.vertex_words_held)
    (words_if stop m.edge_words_held)
    (reals_if stop m.edge_reals_held)
    (words_if stop m.round)
    (words_if stop m.triangle_words_held)
    (reals_if stop m.triangle_reals)

abbrev pub cuts_if : Bool → Cuts → Cuts
cuts_if stop c = cut_buffers (reals_if stop c.pts) (reals_if stop c.out) (reals_if stop c.keep) (reals_if stop c.next)
