-- `stl_vectors::is_read` meets its contract. Assumes nothing.
use mathlib.Core.Path.{sym}
use lib.Seq.{length-take-le}
use borrow.Author.Rules.{rules}
use Rattle.stl_vectors.proofs.is_read.Goals as goal

pub slice_bounds-reads_into-end : goal.slice_bounds-reads_into-end
slice_bounds-reads_into-end c = sym (length-take-le _ _ (search rules))

pub slice_bounds-reads_into-end-2 : goal.slice_bounds-reads_into-end-2
slice_bounds-reads_into-end-2 c = sym (length-take-le _ _ (search rules))
