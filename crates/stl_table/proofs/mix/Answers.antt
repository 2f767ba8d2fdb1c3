-- `stl_table::mix` meets its contract. Assumes nothing.
use mathlib.Core.Path.{refl}
use Rattle.stl_table.specs.Keys.{mixed_key}
use Rattle.stl_table.proofs.mix.Goals as goal

pub returns : goal.returns
unfolding mixed_key
returns c = refl
