-- `advance_c::sirmolaat_finish` meets its contract. Assumes nothing.
use mathlib.Core.Path.{sym, ◌∙◌}
use Rattle.advance_c.proofs.Turning.{finish_need, finish_unfit, finish_finished}
use Rattle.advance_c.proofs.sirmolaat_finish.Goals as goal

pub finish-requires : goal.finish-requires
finish-requires c =
    finish_need _ _ _ _ _ (sym c.finish_fits.ensures ∙ c.if-finish_fits.true)

pub shape_of-edge_words-then-finish_fits : goal.shape_of-edge_words-then-finish_fits
shape_of-edge_words-then-finish_fits c =
    c.finish.auto.edge_words

pub shape_of-vertex-then-finish_fits : goal.shape_of-vertex-then-finish_fits
shape_of-vertex-then-finish_fits c =
    c.finish.auto.vertex

pub shape_of-keys-then-finish_fits : goal.shape_of-keys-then-finish_fits
shape_of-keys-then-finish_fits c =
    c.finish.auto.keys

pub shape_of-events-then-finish_fits : goal.shape_of-events-then-finish_fits
shape_of-events-then-finish_fits c =
    c.finish.auto.events

pub shape_of-pts-then-finish_fits : goal.shape_of-pts-then-finish_fits
shape_of-pts-then-finish_fits c =
    c.finish.auto.pts

pub shape_of-out-then-finish_fits : goal.shape_of-out-then-finish_fits
shape_of-out-then-finish_fits c =
    c.finish.auto.out

pub shape_of-keep-then-finish_fits : goal.shape_of-keep-then-finish_fits
shape_of-keep-then-finish_fits c =
    c.finish.auto.keep

pub shape_of-next-then-finish_fits : goal.shape_of-next-then-finish_fits
shape_of-next-then-finish_fits c =
    c.finish.auto.next

pub returns-then-finish_fits : goal.returns-then-finish_fits
returns-then-finish_fits c =
    finish_finished c.finish_fits.ensures c.if-finish_fits.true c.finish.ensures

pub returns : goal.returns
returns c = finish_unfit c.finish_fits.ensures c.if-finish_fits.false
