-- `query_vectors::visit_vertices` is safe and ends. Assumes nothing.
use mathlib.Core.Path.{sym}
use lib.Seq.{length-take-le}
use borrow.Author.Rules.{rules}
use Rattle.query_vectors.proofs.visit_vertices.Goals as goal

pub slice_bounds-vertices_at-end-2 : goal.slice_bounds-vertices_at-end-2
slice_bounds-vertices_at-end-2 c = sym (length-take-le _ _ (search rules))

pub slice_bounds-vertices_at-end-3 : goal.slice_bounds-vertices_at-end-3
slice_bounds-vertices_at-end-3 c = sym (length-take-le _ _ (search rules))
