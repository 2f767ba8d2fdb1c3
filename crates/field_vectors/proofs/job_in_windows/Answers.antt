-- `field_vectors::job_in_windows` is safe and ends. Assumes nothing.
use mathlib.Core.Path.{sym}
use lib.Seq.{length-take-le}
use borrow.Author.Rules.{rules}
use Rattle.field_vectors.proofs.job_in_windows.Goals as goal

pub slice_bounds-job_in_cuts-end : goal.slice_bounds-job_in_cuts-end
slice_bounds-job_in_cuts-end c = sym (length-take-le _ _ (search rules))

pub slice_bounds-job_in_cuts-end-2 : goal.slice_bounds-job_in_cuts-end-2
slice_bounds-job_in_cuts-end-2 c = sym (length-take-le _ _ (search rules))

pub slice_bounds-job_in_cuts-end-3 : goal.slice_bounds-job_in_cuts-end-3
slice_bounds-job_in_cuts-end-3 c = sym (length-take-le _ _ (search rules))

pub slice_bounds-job_in_cuts-end-4 : goal.slice_bounds-job_in_cuts-end-4
slice_bounds-job_in_cuts-end-4 c = sym (length-take-le _ _ (search rules))

pub slice_bounds-job_in_cuts-end-5 : goal.slice_bounds-job_in_cuts-end-5
slice_bounds-job_in_cuts-end-5 c = sym (length-take-le _ _ (search rules))
