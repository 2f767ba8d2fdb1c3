-- `field_vectors::job_in_cuts` is safe and ends. Assumes nothing.
use mathlib.Core.Path.{sym}
use lib.Seq.{length-take-le}
use borrow.Author.Rules.{rules}
use Rattle.field_vectors.proofs.job_in_cuts.Goals as goal

pub slice_bounds-job_in_mesh-end : goal.slice_bounds-job_in_mesh-end
slice_bounds-job_in_mesh-end c = sym (length-take-le _ _ (search rules))

pub slice_bounds-job_in_mesh-end-2 : goal.slice_bounds-job_in_mesh-end-2
slice_bounds-job_in_mesh-end-2 c = sym (length-take-le _ _ (search rules))

pub slice_bounds-job_in_mesh-end-3 : goal.slice_bounds-job_in_mesh-end-3
slice_bounds-job_in_mesh-end-3 c = sym (length-take-le _ _ (search rules))

pub slice_bounds-job_in_mesh-end-4 : goal.slice_bounds-job_in_mesh-end-4
slice_bounds-job_in_mesh-end-4 c = sym (length-take-le _ _ (search rules))

pub slice_bounds-job_in_mesh-end-5 : goal.slice_bounds-job_in_mesh-end-5
slice_bounds-job_in_mesh-end-5 c = sym (length-take-le _ _ (search rules))

pub slice_bounds-job_in_mesh-end-6 : goal.slice_bounds-job_in_mesh-end-6
slice_bounds-job_in_mesh-end-6 c = sym (length-take-le _ _ (search rules))

pub shape_of-words : goal.shape_of-words
shape_of-words c = c.job_in_mesh-answered.auto.words

pub shape_of-reals : goal.shape_of-reals
shape_of-reals c = c.job_in_mesh-answered.auto.reals

pub shape_of-keys : goal.shape_of-keys
shape_of-keys c = c.job_in_mesh-answered.auto.keys

pub shape_of-events : goal.shape_of-events
shape_of-events c = c.job_in_mesh-answered.auto.events

pub shape_of-entry_words : goal.shape_of-entry_words
shape_of-entry_words c = c.job_in_mesh-answered.auto.entry_words
