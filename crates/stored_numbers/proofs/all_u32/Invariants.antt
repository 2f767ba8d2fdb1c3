use Prim.Native.Nat.{◌≤◌}
use mathlib.Core.Path.{◌≡◌}
use lib.ListN.{drop}
use Rattle.stored_numbers.specs.Numbers.{each_is}
use Rattle.stored_numbers.proofs.all_u32.Given as goal

abbrev pub invariant-loop-i : goal.invariant-loop-i
invariant-loop-i l = (l.n ≤ l.i) × (each_is (λ y. y) l.x (drop l.n l.s) ≡ each_is (λ y. y) l.x (drop l.i l.s))
