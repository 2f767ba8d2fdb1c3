use Prim.Native.Nat.{◌*◌, ◌≤◌, ◌<◌}
use mathlib.Core.Path.{◌≡◌}
use Rattle.piece_ends.specs.Walk.{find_along, next_link_at}
use Rattle.segments_behind.specs.Round.{is_round}
use Rattle.segments_behind.proofs.seek_round.Given as goal

abbrev pub invariant-loop-rest : goal.invariant-loop-rest
invariant-loop-rest l =
    (l.at < 4294967296) × ((l.rest ≤ 2 * l.pieces) × (find_along (next_link_at l.coords l.words l.pieces) (is_round l.kinds l.faces l.coords l.triangles l.k.0) (2 * l.pieces) l.link ≡ find_along (next_link_at l.coords l.words l.pieces) (is_round l.kinds l.faces l.coords l.triangles l.k.0) l.rest l.at))

abbrev pub decreases-loop-rest : goal.decreases-loop-rest
decreases-loop-rest l = l.rest
