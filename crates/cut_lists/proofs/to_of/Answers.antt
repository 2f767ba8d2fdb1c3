-- `cut_lists::to_of` meets its contract. Assumes nothing.
use Prim.Native.Nat.{◌+◌}
use native.Mathlib.Numerals.{add-one}
use Rattle.cut_lists.proofs.to_of.Goals as goal

pub returns : goal.returns
returns c = let a = c.args in rw (add-one (a.i + a.i))
