use Prim.Native.Nat.{ℕ, ◌≤◌}
use mathlib.Core.Path.{◌≡◌}
use lib.ListN.{length}
use Rattle.layout.specs.Layout.{reals_per_piece}
use Rattle.frames.specs.Stored.{with_rows, row3}
use Rattle.piece_ends.specs.Directions.{direction_of}
use Rattle.piece_ends.proofs.directions.Given as goal

abbrev pub invariant-loop-i : goal.invariant-loop-i
invariant-loop-i l =
    (l.i ≤ length l.kinds) × ((length l.reals ≡ length l.initial.reals) × (l.reals ≡ with_rows reals_per_piece (λ (k : ℕ). row3 (direction_of l.kinds l.coords k)) l.i l.initial.reals))
