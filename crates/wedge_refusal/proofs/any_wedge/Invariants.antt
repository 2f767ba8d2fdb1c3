use Prim.Native.Nat.{◌*◌, ◌≤◌}
use mathlib.Core.Path.{◌≡◌}
use mathlib.Core.Bool.{false}
use lib.ListN.{length}
use Rattle.job_checks.specs.Any.{any_below}
use Rattle.wedge_refusal.specs.Wedge.{wedge_at}
use Rattle.wedge_refusal.proofs.any_wedge.Given as goal

abbrev pub invariant-loop-e : goal.invariant-loop-e
invariant-loop-e l =
    (l.e ≤ 2 * length l.kinds) × (any_below (wedge_at l.vertices l.edge_words l.edge_reals l.triangle_words l.triangle_reals l.vertex_words l.triangles l.kinds l.faces l.coords l.words (length l.kinds)) l.e ≡ false)
