use mathlib.Core.Path.{◌≡◌}
use Rattle.windows.specs.Windows.{link_of}
use Rattle.field_check.specs.Chains.{walk_of}
use Rattle.field_check.specs.FieldCheck.{window_unsound}
use Rattle.field_check.proofs.walk_windows.Given as goal

abbrev pub invariant-loop-at : goal.invariant-loop-at
invariant-loop-at l = walk_of (link_of l.words) (window_unsound l.reals) l.left l.before l.at ≡ walk_of (link_of l.words) (window_unsound l.reals) l.most 0 l.head

abbrev pub decreases-loop-at : goal.decreases-loop-at
decreases-loop-at l = l.left
