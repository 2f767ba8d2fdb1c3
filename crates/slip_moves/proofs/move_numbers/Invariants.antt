use Rattle.slip_moves.specs.Moves.{numbers_moved}
use Rattle.slip_moves.proofs.Parts.{Far}
use lib.ListN.{length}
use Prim.Native.Nat.{◌+◌, ◌-◌, ◌*◌, ◌≤◌}
use mathlib.Core.Path.{◌≡◌}
use Rattle.slip_moves.proofs.move_numbers.Given as goal

abbrev pub invariant-loop : goal.invariant-loop
invariant-loop l =
    (l.at + 5 * (l.n - l.counter) ≤ l.i + 5 * l.n)
    × (l.p + 5 * (l.n - l.counter) ≤ l.o + 5 * l.n)
    × (length l.out ≡ length l.initial.out)
    × Far l.initial.out l.o (numbers_moved l.from l.to l.s l.n l.i) (numbers_moved l.from l.to l.s (l.n - l.counter) l.at) l.out l.p
