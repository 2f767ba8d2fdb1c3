use Rattle.slip_moves.specs.Moves.{pieces_moved}
use Rattle.slip_moves.proofs.Parts.{Far}
use lib.ListN.{length}
use Prim.Native.Nat.{◌+◌, ◌-◌, ◌*◌, ◌≤◌}
use mathlib.Core.Path.{◌≡◌}
use Rattle.slip_moves.proofs.move_pieces.Given as goal

abbrev pub invariant-loop : goal.invariant-loop
invariant-loop l =
    (l.at + 54 * (l.n - l.counter) ≤ l.i + 54 * l.n)
    × (l.p + 54 * (l.n - l.counter) ≤ l.o + 54 * l.n)
    × (length l.out ≡ length l.initial.out)
    × Far l.initial.out l.o (pieces_moved l.from l.to l.s l.n l.i) (pieces_moved l.from l.to l.s (l.n - l.counter) l.at) l.out l.p
