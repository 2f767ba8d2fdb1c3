use Prim.Native.Nat.{◌*◌}
use mathlib.Core.Path.{◌≡◌}
use lib.ListN.{length}
use Rattle.layout.specs.Layout.{reals_per_normal}
use Rattle.frames.specs.Stored.{with_rows, perpendicular_row}
use Rattle.frames.proofs.perpendiculars.Given as goal

abbrev pub invariant-loop-f : goal.invariant-loop-f
invariant-loop-f l = (length l.triangle_reals ≡ length l.initial.triangle_reals) × (l.triangle_reals ≡ with_rows reals_per_normal (perpendicular_row l.vertices l.triangles l.triangle_words l.edge_reals) (3 * l.f) l.initial.triangle_reals)
