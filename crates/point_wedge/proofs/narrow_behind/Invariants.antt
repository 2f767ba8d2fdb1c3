use Prim.Native.Nat.{◌*◌, ◌≤◌, ◌<◌}
use mathlib.Core.Path.{◌≡◌}
use Rattle.segments_behind.specs.Behind.{next_behind_at, leaving_at}
use Rattle.point_wedge.proofs.Steps.{narrowed}
use Rattle.point_wedge.proofs.narrow_behind.Given as goal

abbrev pub invariant-loop-rest : goal.invariant-loop-rest
invariant-loop-rest l =
    (l.at < 4294967296) × ((l.rest ≤ 2 * l.pieces)
    × (narrowed l.o l.p l.xhat l.plane (leaving_at l.reals) (next_behind_at l.kinds l.faces l.coords l.words l.pieces l.f.0) (2 * l.pieces) l.initial.at l.initial.part
    ≡ narrowed l.o l.p l.xhat l.plane (leaving_at l.reals) (next_behind_at l.kinds l.faces l.coords l.words l.pieces l.f.0) l.rest l.at l.part))

abbrev pub decreases-loop-rest : goal.decreases-loop-rest
decreases-loop-rest l = l.rest
