-- `query_vectors::field_holds` is safe and ends. Assumes nothing.
use mathlib.Core.Path.{sym}
use lib.Seq.{length-take-le}
use borrow.Author.Rules.{rules}
use Rattle.query_vectors.proofs.field_holds.Goals as goal

pub slice_bounds-ew-end : goal.slice_bounds-ew-end
slice_bounds-ew-end c = sym (length-take-le _ _ (search rules))

pub slice_bounds-er-end : goal.slice_bounds-er-end
slice_bounds-er-end c = sym (length-take-le _ _ (search rules))

pub slice_bounds-tw-end : goal.slice_bounds-tw-end
slice_bounds-tw-end c = sym (length-take-le _ _ (search rules))

pub slice_bounds-tr-end : goal.slice_bounds-tr-end
slice_bounds-tr-end c = sym (length-take-le _ _ (search rules))

pub slice_bounds-d-end : goal.slice_bounds-d-end
slice_bounds-d-end c = sym (length-take-le _ _ (search rules))

pub slice_bounds-ww-end : goal.slice_bounds-ww-end
slice_bounds-ww-end c = sym (length-take-le _ _ (search rules))

pub slice_bounds-wr-end : goal.slice_bounds-wr-end
slice_bounds-wr-end c = sym (length-take-le _ _ (search rules))

pub slice_bounds-en-end : goal.slice_bounds-en-end
slice_bounds-en-end c = sym (length-take-le _ _ (search rules))
