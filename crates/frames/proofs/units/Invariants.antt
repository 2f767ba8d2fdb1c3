use Prim.Native.Nat.{◌*◌}
use mathlib.Core.Path.{◌≡◌}
use lib.ListN.{length}
use Rattle.layout.specs.Layout.{reals_per_normal}
use Rattle.frames.specs.Stored.{with_rows, unit_row_of}
use Rattle.frames.proofs.units.Given as goal

abbrev pub invariant-loop-f : goal.invariant-loop-f
invariant-loop-f l = (length l.reals ≡ length l.initial.reals) × (l.reals ≡ with_rows reals_per_normal (unit_row_of l.initial.reals) (3 * l.f) l.initial.reals)
