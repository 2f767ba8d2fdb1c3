-- `slip_vectors::text_holds` meets its contract. Assumes nothing.
use mathlib.Core.Path.{sym}
use lib.Seq.{length-take-le}
use borrow.Author.Rules.{rules}
use Rattle.slip_vectors.proofs.text_holds.Goals as goal

pub slice_bounds-check_sum-end : goal.slice_bounds-check_sum-end
slice_bounds-check_sum-end c = sym (length-take-le _ _ (search rules))
