-- `slip_vectors::case_holds` meets its contract. Assumes nothing.
use mathlib.Core.Path.{sym}
use lib.Seq.{length-take-le}
use borrow.Author.Rules.{rules}
use Rattle.slip_vectors.proofs.case_holds.Goals as goal

pub slice_bounds-prints-end : goal.slice_bounds-prints-end
slice_bounds-prints-end c = sym (length-take-le _ _ (search rules))
