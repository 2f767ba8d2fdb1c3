-- `query_vectors::visit_windows` is safe and ends. Assumes nothing.
use mathlib.Core.Path.{sym}
use lib.Seq.{length-take-le}
use borrow.Author.Rules.{rules}
use Rattle.query_vectors.proofs.visit_windows.Goals as goal

pub slice_bounds-windows_at-end-3 : goal.slice_bounds-windows_at-end-3
slice_bounds-windows_at-end-3 c = sym (length-take-le _ _ (search rules))

pub slice_bounds-windows_at-end-4 : goal.slice_bounds-windows_at-end-4
slice_bounds-windows_at-end-4 c = sym (length-take-le _ _ (search rules))
