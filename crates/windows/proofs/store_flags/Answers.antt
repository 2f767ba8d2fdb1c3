use Rattle.windows.specs.Windows.{flags_with}
use Rattle.windows.proofs.store_flags.Goals as goal

pub returns : goal.returns
unfolding flags_with
returns c = cc
