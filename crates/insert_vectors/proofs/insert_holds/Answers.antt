-- `insert_vectors::insert_holds` is safe and ends. Assumes nothing.
use mathlib.Core.Path.{◌∙◌}
use native.Mathlib.Omega.{arith}
use Rattle.insert_vectors.proofs.insert_holds.Goals as goal

pub insert_with_cuts-answer-requires : goal.insert_with_cuts-answer-requires
insert_with_cuts-answer-requires c = (omega (arith, c.count-to_pts.ensures), c.requires.1)

pub shape_of-edge_words-then-refusal-ne0 : goal.shape_of-edge_words-then-refusal-ne0
shape_of-edge_words-then-refusal-ne0 c =
    c.insert_with_cuts-answer.auto.edge_words

pub shape_of-triangle_words-then-refusal-ne0 : goal.shape_of-triangle_words-then-refusal-ne0
shape_of-triangle_words-then-refusal-ne0 c =
    c.insert_with_cuts-answer.auto.triangle_words

pub shape_of-words-then-refusal-ne0 : goal.shape_of-words-then-refusal-ne0
shape_of-words-then-refusal-ne0 c =
    c.insert_with_cuts-answer.auto.words

pub shape_of-reals-then-refusal-ne0 : goal.shape_of-reals-then-refusal-ne0
shape_of-reals-then-refusal-ne0 c =
    c.insert_with_cuts-answer.auto.reals

pub shape_of-keys-then-refusal-ne0 : goal.shape_of-keys-then-refusal-ne0
shape_of-keys-then-refusal-ne0 c =
    c.insert_with_cuts-answer.auto.keys

pub shape_of-events-then-refusal-ne0 : goal.shape_of-events-then-refusal-ne0
shape_of-events-then-refusal-ne0 c =
    c.insert_with_cuts-answer.auto.events

pub shape_of-vertex-then-refusal-ne0 : goal.shape_of-vertex-then-refusal-ne0
shape_of-vertex-then-refusal-ne0 c =
    c.insert_with_cuts-answer.auto.vertex

pub shape_of-entry_words-then-refusal-ne0 : goal.shape_of-entry_words-then-refusal-ne0
shape_of-entry_words-then-refusal-ne0 c =
    c.insert_with_cuts-answer.auto.entry_words

pub shape_of-edge_words-in-Err : goal.shape_of-edge_words-in-Err
shape_of-edge_words-in-Err c =
    c.insert_with_cuts-answer.auto.edge_words

pub shape_of-triangle_words-in-Err : goal.shape_of-triangle_words-in-Err
shape_of-triangle_words-in-Err c =
    c.insert_with_cuts-answer.auto.triangle_words

pub shape_of-words-in-Err : goal.shape_of-words-in-Err
shape_of-words-in-Err c =
    c.insert_with_cuts-answer.auto.words

pub shape_of-reals-in-Err : goal.shape_of-reals-in-Err
shape_of-reals-in-Err c =
    c.insert_with_cuts-answer.auto.reals

pub shape_of-keys-in-Err : goal.shape_of-keys-in-Err
shape_of-keys-in-Err c =
    c.insert_with_cuts-answer.auto.keys

pub shape_of-events-in-Err : goal.shape_of-events-in-Err
shape_of-events-in-Err c =
    c.insert_with_cuts-answer.auto.events

pub shape_of-vertex-in-Err : goal.shape_of-vertex-in-Err
shape_of-vertex-in-Err c =
    c.insert_with_cuts-answer.auto.vertex

pub shape_of-entry_words-in-Err : goal.shape_of-entry_words-in-Err
shape_of-entry_words-in-Err c =
    c.insert_with_cuts-answer.auto.entry_words

pub shape_of-edge_words-else-refusal-ne0 : goal.shape_of-edge_words-else-refusal-ne0
shape_of-edge_words-else-refusal-ne0 c =
    c.insert_with_cuts-answer.auto.edge_words

pub shape_of-triangle_words-else-refusal-ne0 : goal.shape_of-triangle_words-else-refusal-ne0
shape_of-triangle_words-else-refusal-ne0 c =
    c.insert_with_cuts-answer.auto.triangle_words

pub shape_of-words-else-refusal-ne0 : goal.shape_of-words-else-refusal-ne0
shape_of-words-else-refusal-ne0 c =
    c.insert_with_cuts-answer.auto.words

pub shape_of-reals-else-refusal-ne0 : goal.shape_of-reals-else-refusal-ne0
shape_of-reals-else-refusal-ne0 c =
    c.insert_with_cuts-answer.auto.reals

pub shape_of-keys-else-refusal-ne0 : goal.shape_of-keys-else-refusal-ne0
shape_of-keys-else-refusal-ne0 c =
    c.same_inserted.auto.keys ∙ c.insert_with_cuts-answer.auto.keys

pub shape_of-events-else-refusal-ne0 : goal.shape_of-events-else-refusal-ne0
shape_of-events-else-refusal-ne0 c =
    c.same_inserted.auto.events ∙ c.insert_with_cuts-answer.auto.events

pub shape_of-vertex-else-refusal-ne0 : goal.shape_of-vertex-else-refusal-ne0
shape_of-vertex-else-refusal-ne0 c =
    c.insert_with_cuts-answer.auto.vertex

pub shape_of-entry_words-else-refusal-ne0 : goal.shape_of-entry_words-else-refusal-ne0
shape_of-entry_words-else-refusal-ne0 c =
    c.insert_with_cuts-answer.auto.entry_words
