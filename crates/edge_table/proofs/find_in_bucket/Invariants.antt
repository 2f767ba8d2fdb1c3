use Prim.Native.Nat.{◌^◌, ◌<◌}
use mathlib.Core.Path.{◌≡◌}
use Rattle.edge_table.specs.Sides.{seek}
use Rattle.edge_table.proofs.find_in_bucket.Given as goal

abbrev pub invariant-loop-at : goal.invariant-loop-at
invariant-loop-at l = (l.at < 2 ^ 32) × (seek l.edge_words l.low l.high l.head l.head ≡ seek l.edge_words l.low l.high l.at l.at)

abbrev pub decreases-loop-at : goal.decreases-loop-at
decreases-loop-at l = l.at
