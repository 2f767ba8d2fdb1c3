-- `advance_c::sirmolaat_advance` meets its contract. Assumes nothing.
use mathlib.Core.Path.{sym, ◌∙◌}
use Rattle.advance_c.proofs.Turning.{turns_need, turns_unfit, turns_turned}
use Rattle.advance_c.proofs.sirmolaat_advance.Goals as goal

pub advance-advanced-requires : goal.advance-advanced-requires
advance-advanced-requires c =
    let e = turns_need _ _ _ _ _ _ _ (sym c.turns_fit.ensures ∙ c.if-turns_fit.true) in
    (e.0, record { outs = e.1.0; keeps = e.1.1.0; nexts = e.1.1.1 })

pub shape_of-edge_words-then-turns_fit : goal.shape_of-edge_words-then-turns_fit
shape_of-edge_words-then-turns_fit c =
    c.advance-advanced.auto.edge_words

pub shape_of-vertex-then-turns_fit : goal.shape_of-vertex-then-turns_fit
shape_of-vertex-then-turns_fit c =
    c.advance-advanced.auto.vertex

pub shape_of-words-then-turns_fit : goal.shape_of-words-then-turns_fit
shape_of-words-then-turns_fit c =
    c.advance-advanced.auto.words

pub shape_of-reals-then-turns_fit : goal.shape_of-reals-then-turns_fit
shape_of-reals-then-turns_fit c =
    c.advance-advanced.auto.reals

pub shape_of-keys-then-turns_fit : goal.shape_of-keys-then-turns_fit
shape_of-keys-then-turns_fit c =
    c.advance-advanced.auto.keys

pub shape_of-events-then-turns_fit : goal.shape_of-events-then-turns_fit
shape_of-events-then-turns_fit c =
    c.advance-advanced.auto.events

pub shape_of-pts-then-turns_fit : goal.shape_of-pts-then-turns_fit
shape_of-pts-then-turns_fit c =
    c.advance-advanced.auto.pts

pub shape_of-out-then-turns_fit : goal.shape_of-out-then-turns_fit
shape_of-out-then-turns_fit c =
    c.advance-advanced.auto.out

pub shape_of-keep-then-turns_fit : goal.shape_of-keep-then-turns_fit
shape_of-keep-then-turns_fit c =
    c.advance-advanced.auto.keep

pub shape_of-next-then-turns_fit : goal.shape_of-next-then-turns_fit
shape_of-next-then-turns_fit c =
    c.advance-advanced.auto.next

pub shape_of-told-then-turns_fit : goal.shape_of-told-then-turns_fit
shape_of-told-then-turns_fit c = c.tell_turns.auto.told

pub returns-then-turns_fit : goal.returns-then-turns_fit
returns-then-turns_fit c =
    turns_turned c.told_counts-counts.ensures c.turns_fit.ensures _ c.if-turns_fit.true c.advance-advanced.ensures c.tell_turns.ensures

pub returns : goal.returns
returns c = turns_unfit c.told_counts-counts.ensures c.turns_fit.ensures c.if-turns_fit.false
