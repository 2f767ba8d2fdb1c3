-- `move_vectors::is_moved` lends the front of its buffer. Assumes nothing.
use mathlib.Core.Path.{sym}
use lib.Seq.{length-take-le}
use borrow.Author.Rules.{rules}
use Rattle.move_vectors.proofs.is_moved.Goals as goal

pub slice_bounds-moves_into-end : goal.slice_bounds-moves_into-end
slice_bounds-moves_into-end c = sym (length-take-le _ _ (search rules))
