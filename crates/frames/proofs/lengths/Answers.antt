use mathlib.Core.Path.{refl, ◌∙◌}
use native.Mathlib.Omega.{arith}
use borrow.Author.Rules.{rules}
use Rattle.layout.specs.Layout.{reals_per_edge}
use Rattle.frames.proofs.Rows.{rows_start, rows_turn, rows_turn_three, rows_done}
use Rattle.frames.proofs.Turns.{lengths_made}
use Rattle.frames.proofs.lengths.Goals as goal

pub loop-e-init : goal.loop-e-init
loop-e-init c = (search rules, (refl, rows_start reals_per_edge _ _))

pub store_length-requires : goal.store_length-requires
store_length-requires c = omega (arith, c.requires, c.loop-e.invariant.1.0, c.loop-e-test.true)

pub loop-e-preserved-then-count-e-lt3 : goal.loop-e-preserved-then-count-e-lt3
loop-e-preserved-then-count-e-lt3 c = (search rules, (c.store_length.auto.edge_reals ∙ c.loop-e.invariant.1.0, rows_turn reals_per_edge _ _ _ _ _ c.loop-e.e _ refl c.store_length.ensures refl c.loop-e.invariant.1.1))

pub store_three_lengths-requires : goal.store_three_lengths-requires
store_three_lengths-requires c = (omega (arith, c.requires, c.loop-e.invariant.1.0, c.loop-e-test.true, c.if-count-e-lt3.false), omega (arith, c.loop-e-test.true, c.if-count-e-lt3.false))

pub loop-e-preserved : goal.loop-e-preserved
loop-e-preserved c = (search rules, (c.store_three_lengths.auto.edge_reals ∙ c.loop-e.invariant.1.0, rows_turn_three reals_per_edge _ _ _ _ _ _ _ c.loop-e.e _ refl c.store_three_lengths.ensures refl refl refl c.loop-e.invariant.1.1))

pub returns : goal.returns
returns c = let l = c.loop-e in lengths_made _ _ _ _ _ _ (rows_done reals_per_edge _ _ _ l.e _ l.invariant.1.1 l.invariant.0 c.loop-e-test.false) c.zero_f64_from.ensures
