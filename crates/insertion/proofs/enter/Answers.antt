-- `insertion::enter` meets its contract. Assumes nothing.
use Rattle.std.proofs.lemmas.Result.{err_from_is_err_and}
use Rattle.source_inserts.specs.of_face_entries.Buffers.{entry_buffers}
use Rattle.insertion.proofs.Calls.{enters_full, enters_count}
use Rattle.insertion.proofs.enter.Goals as goal

pub shape_of-triangle_words-in_err-entries : goal.shape_of-triangle_words-in_err-entries
shape_of-triangle_words-in_err-entries c = c.enter.auto.triangle_words

pub shape_of-entry_words-in_err-entries : goal.shape_of-entry_words-in_err-entries
shape_of-entry_words-in_err-entries c = c.enter.auto.entry_words

pub returns-in_err-entries : goal.returns-in_err-entries
returns-in_err-entries c =
    let a = c.args in
    let r = c.enter in
    let p = err_from_is_err_and c.from_residual.result c.from_residual.ensures.1 in
    rw (p.1, p.2) (enters_full a.counts a.face a.x (entry_buffers a.triangle_words.now a.entry_words.now) (entry_buffers r.new.triangle_words r.new.entry_words) r.result r.ensures.entry_words_value c.in_err-entries.field-0.0 c.in_err-entries.was)

pub shape_of-triangle_words : goal.shape_of-triangle_words
shape_of-triangle_words c = c.enter.auto.triangle_words

pub shape_of-entry_words : goal.shape_of-entry_words
shape_of-entry_words c = c.enter.auto.entry_words

pub returns : goal.returns
returns c =
    let a = c.args in
    let r = c.enter in
    enters_count a.counts a.face a.x (entry_buffers a.triangle_words.now a.entry_words.now) (entry_buffers r.new.triangle_words r.new.entry_words) r.result r.ensures.entry_words_value c.in_ok-entries.entries c.in_ok-entries.was
