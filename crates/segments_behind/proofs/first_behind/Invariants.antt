use Prim.Native.Nat.{◌*◌, ◌≤◌, ◌<◌}
use mathlib.Core.Path.{◌≡◌}
use Rattle.piece_ends.specs.Walk.{find_along, next_link_at}
use Rattle.segments_behind.specs.Behind.{in_face}
use Rattle.segments_behind.proofs.first_behind.Given as goal

abbrev pub invariant-loop-rest : goal.invariant-loop-rest
invariant-loop-rest l =
    (l.at < 4294967296) × ((l.rest ≤ 2 * l.pieces) × (find_along (next_link_at l.coords l.words l.pieces) (in_face l.kinds l.faces l.coords l.g.0) (2 * l.pieces) l.link ≡ find_along (next_link_at l.coords l.words l.pieces) (in_face l.kinds l.faces l.coords l.g.0) l.rest l.at))

abbrev pub decreases-loop-rest : goal.decreases-loop-rest
decreases-loop-rest l = l.rest
