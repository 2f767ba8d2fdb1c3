use Rattle.buffers.specs.Slots.{fill}
use Rattle.windows.specs.Windows.{words_with}
use Rattle.windows.proofs.store_words.Goals as goal

pub returns : goal.returns
unfolding words_with fill
returns c = cc
