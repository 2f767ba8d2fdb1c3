-- `field_vectors::lists_hold` is safe and ends. Assumes nothing.
use mathlib.Core.Path.{sym}
use lib.Seq.{length-take-le}
use borrow.Author.Rules.{rules}
use Rattle.field_vectors.proofs.lists_hold.Goals as goal

pub slice_bounds-v-end : goal.slice_bounds-v-end
slice_bounds-v-end c = sym (length-take-le _ _ (search rules))

pub slice_bounds-t-end : goal.slice_bounds-t-end
slice_bounds-t-end c = sym (length-take-le _ _ (search rules))

pub slice_bounds-f-end : goal.slice_bounds-f-end
slice_bounds-f-end c = sym (length-take-le _ _ (search rules))

pub slice_bounds-i-end : goal.slice_bounds-i-end
slice_bounds-i-end c = sym (length-take-le _ _ (search rules))

pub slice_bounds-n-end : goal.slice_bounds-n-end
slice_bounds-n-end c = sym (length-take-le _ _ (search rules))

pub slice_bounds-c-end : goal.slice_bounds-c-end
slice_bounds-c-end c = sym (length-take-le _ _ (search rules))
