use Rattle.zero_buffers.proofs.zero_windows_if.Goals as goal

pub returns : goal.returns
returns c = record {
  words_value = c.zero_words_if.ensures;
  reals_value = c.zero_reals_if.ensures;
  keys_value = c.zero_reals_if-2.ensures;
  events_value = c.zero_words_if-2.ensures;
}
