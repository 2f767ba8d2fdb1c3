use Prim.Native.Nat.{◌%◌}
use mathlib.Core.Path.{ap, ◌∙◌}
use Rattle.heap.specs.Order.{item_of}
use Rattle.heap_vectors.specs.Replay.{event_at}
use Rattle.heap_vectors.proofs.event.Goals as goal

pub returns : goal.returns
unfolding event_at
returns c =
    λ t. record {
      key = c.float_at.ensures t;
      item = (c.item_of.ensures ∙ (λ i. item_of ((c.low.ensures ∙ ap (λ z. z % 4294967296) c.word.ensures) i) ((c.low-2.ensures ∙ ap (λ z. z % 4294967296) c.word-2.ensures) i))) t;
    }
