use Prim.Native.Nat.{ℕ, ◌≤◌}
use mathlib.Core.Path.{◌≡◌}
use mathlib.Core.Bool.{Bool}
use mathlib.Core.List.{List}
use lib.ListN.{get_or}
use Rattle.stl_table.specs.declared.PointKey.{PointKey}
use Rattle.stl_table.specs.Keys.{key_at, same_key}
use Rattle.stl_table.specs.Table.{follow_links}
use Rattle.stl_table.proofs.seek.Given as goal

abbrev pub passes : List ℕ → List ℕ → PointKey → ℕ → Bool
passes s firsts k i = same_key (key_at s (get_or firsts i 0)) k

abbrev pub invariant-loop-at : goal.invariant-loop-at
invariant-loop-at l = (l.at ≤ l.head) × (follow_links (passes l.s l.firsts l.k) l.links l.head l.head ≡ follow_links (passes l.s l.firsts l.k) l.links l.at l.at)

abbrev pub decreases-loop-at : goal.decreases-loop-at
decreases-loop-at l = l.at
