use mathlib.Core.Path.{◌≡◌}
use Prim.Native.Nat.{◌-◌, ◌≤◌}
use lib.ListN.{length}
use Rattle.slip.specs.Format.{after_pieces}
use Rattle.slip.proofs.check_pieces.Given as goal

abbrev pub invariant-loop : goal.invariant-loop
invariant-loop l = (l.i ≤ length l.s) × (after_pieces l.s l.n l.from ≡ after_pieces l.s (l.n - l.counter) l.i)
