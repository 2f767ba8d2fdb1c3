use Rattle.windows.specs.Windows.{link_of}
use Rattle.chains.specs.Chains.{head_of}
use Rattle.field_check.specs.FieldCheck.{window_unsound}
use Rattle.field_check.proofs.Walks.{SoundSoFar}
use Rattle.field_check.proofs.windows_unsound.Given as goal

abbrev pub invariant-loop-e : goal.invariant-loop-e
invariant-loop-e l = SoundSoFar (link_of l.words) (window_unsound l.reals) (head_of l.edge_words) l.made l.left l.e
