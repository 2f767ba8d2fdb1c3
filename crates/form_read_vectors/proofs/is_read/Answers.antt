-- `form_read_vectors::is_read` is safe and ends. Assumes nothing.
use mathlib.Core.Path.{sym}
use lib.Seq.{length-take-le}
use borrow.Author.Rules.{rules}
use Rattle.form_read_vectors.proofs.is_read.Goals as goal

pub slice_bounds-reads_into-end : goal.slice_bounds-reads_into-end
slice_bounds-reads_into-end c = sym (length-take-le _ _ (search rules))

pub slice_bounds-reads_into-end-2 : goal.slice_bounds-reads_into-end-2
slice_bounds-reads_into-end-2 c = sym (length-take-le _ _ (search rules))

pub slice_bounds-reads_into-end-3 : goal.slice_bounds-reads_into-end-3
slice_bounds-reads_into-end-3 c = sym (length-take-le _ _ (search rules))

pub slice_bounds-reads_into-end-4 : goal.slice_bounds-reads_into-end-4
slice_bounds-reads_into-end-4 c = sym (length-take-le _ _ (search rules))

pub slice_bounds-reads_into-end-5 : goal.slice_bounds-reads_into-end-5
slice_bounds-reads_into-end-5 c = sym (length-take-le _ _ (search rules))

pub slice_bounds-reads_into-end-6 : goal.slice_bounds-reads_into-end-6
slice_bounds-reads_into-end-6 c = sym (length-take-le _ _ (search rules))
