use mathlib.Core.Path.{◌≡◌}
use lib.ListN.{length}
use Rattle.edge_table.specs.Sides.{without_links}
use Rattle.edge_table.proofs.clear_links.Given as goal

abbrev pub invariant-loop-e : goal.invariant-loop-e
invariant-loop-e l = (length l.edge_words ≡ length l.initial.edge_words) × (l.edge_words ≡ without_links l.e l.initial.edge_words)
