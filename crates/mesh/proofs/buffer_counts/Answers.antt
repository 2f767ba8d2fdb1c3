-- `mesh::buffer_counts` meets its contract. Assumes nothing.
use Prim.Native.Nat.{ℕ, min}
use mathlib.Core.Path.{ap, ◌∙◌}
use Rattle.mesh.proofs.Answering.{same_counts}
use Rattle.mesh.proofs.buffer_counts.Goals as goal

pub returns : goal.returns
returns c =
    let o = c.args.others in
    same_counts o (c.fewer.ensures ∙ ap (λ (n : ℕ). min n o.vertex_reals) c.slots.ensures) c.count.ensures c.slots-2.ensures c.count-2.ensures
