use Prim.Native.Nat.{◌*◌, ◌≤◌, ◌<◌}
use mathlib.Core.Path.{◌≡◌}
use Rattle.piece_ends.specs.Walk.{end_link_at, stands_at, find_along}
use Rattle.piece_ends.proofs.seek.Given as goal

abbrev pub invariant-loop-rest : goal.invariant-loop-rest
invariant-loop-rest l =
    (l.at < 4294967296) × ((l.rest ≤ 2 * l.pieces) × (find_along (end_link_at l.words) (stands_at l.coords l.p) (2 * l.pieces) l.link ≡ find_along (end_link_at l.words) (stands_at l.coords l.p) l.rest l.at))

abbrev pub decreases-loop-rest : goal.decreases-loop-rest
decreases-loop-rest l = l.rest
