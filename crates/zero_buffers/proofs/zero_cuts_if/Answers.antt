use Rattle.cut_lists.specs.Buffers.{cut_buffers}
use Rattle.zero_buffers.proofs.zero_cuts_if.Goals as goal

pub returns : goal.returns
returns c =
    λ i. cut_buffers (c.zero_reals_if.ensures i) (c.zero_reals_if-2.ensures i) (c.zero_reals_if-3.ensures i) (c.zero_reals_if-4.ensures i)
