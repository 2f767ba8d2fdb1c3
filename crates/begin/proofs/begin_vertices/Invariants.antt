use Prim.Native.Nat.{ℕ, ◌≤◌}
use mathlib.Core.Path.{◌≡◌}
use lib.ListN.{length}
use Rattle.layout.specs.Layout.{reals_per_vertex}
use Rattle.frames.specs.Stored.{with_rows}
use Rattle.begin.specs.Begin.{unreached}
use Rattle.begin.proofs.begin_vertices.Given as goal

abbrev pub invariant-loop-v : goal.invariant-loop-v
invariant-loop-v l = (l.v ≤ l.n) × ((length l.vertex ≡ length l.initial.vertex) × (l.vertex ≡ with_rows reals_per_vertex (λ (k : ℕ). unreached) l.v l.initial.vertex))
