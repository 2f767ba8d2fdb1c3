-- `stl_vectors::is_written` meets its contract. Assumes nothing.
use mathlib.Core.Path.{sym}
use native.Mathlib.Omega.{arith}
use lib.Seq.{length-take-le}
use borrow.Author.Rules.{rules}
use Rattle.stl_vectors.proofs.is_written.Goals as goal

pub slice_bounds-v-end : goal.slice_bounds-v-end
slice_bounds-v-end c = sym (length-take-le _ _ (search rules))

pub slice_bounds-t-end : goal.slice_bounds-t-end
slice_bounds-t-end c = sym (length-take-le _ _ (search rules))

pub slice_bounds-writes_into-end : goal.slice_bounds-writes_into-end
slice_bounds-writes_into-end c = sym (length-take-le _ _ (search rules))

pub writes_into-requires : goal.writes_into-requires
writes_into-requires c = (omega arith, omega arith)
