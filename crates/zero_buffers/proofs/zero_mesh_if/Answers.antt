use Rattle.mesh.specs.Topology.{mesh_buffers}
use Rattle.zero_buffers.proofs.zero_mesh_if.Goals as goal

pub returns : goal.returns
returns c =
    λ i. mesh_buffers
    (c.zero_words_if.ensures i)
    (c.zero_words_if-2.ensures i)
    (c.zero_reals_if.ensures i)
    (c.zero_words_if-3.ensures i)
    (c.zero_words_if-4.ensures i)
    (c.zero_reals_if-2.ensures i)
