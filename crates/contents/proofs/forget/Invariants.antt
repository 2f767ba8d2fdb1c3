use Prim.Native.Nat.{◌≤◌}
use mathlib.Core.Path.{◌≡◌}
use lib.ListN.{length}
use Rattle.contents.specs.Contents.{forgotten}
use Rattle.contents.proofs.forget.Given as goal

abbrev pub invariant-loop-e : goal.invariant-loop-e
invariant-loop-e l = (l.e ≤ l.n) × ((length l.edges ≡ length l.initial.edges) × (l.edges ≡ forgotten l.e l.initial.edges))
