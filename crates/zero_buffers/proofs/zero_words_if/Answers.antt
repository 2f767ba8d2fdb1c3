use Rattle.zero_buffers.proofs.zero_words_if.Goals as goal

pub returns-then-stop : goal.returns-then-stop
returns-then-stop c = rw c.if-stop.true c.zero_u32.ensures
