-- `field_vectors::job_in_mesh` is safe and ends. Assumes nothing.
use mathlib.Core.Path.{sym}
use lib.Seq.{length-take-le}
use borrow.Author.Rules.{rules}
use Rattle.field_vectors.proofs.job_in_mesh.Goals as goal

pub slice_bounds-compute-end : goal.slice_bounds-compute-end
slice_bounds-compute-end c = sym (length-take-le _ _ (search rules))

pub slice_bounds-compute-end-2 : goal.slice_bounds-compute-end-2
slice_bounds-compute-end-2 c = sym (length-take-le _ _ (search rules))

pub slice_bounds-compute-end-3 : goal.slice_bounds-compute-end-3
slice_bounds-compute-end-3 c = sym (length-take-le _ _ (search rules))

pub slice_bounds-compute-end-4 : goal.slice_bounds-compute-end-4
slice_bounds-compute-end-4 c = sym (length-take-le _ _ (search rules))

pub slice_bounds-compute-end-5 : goal.slice_bounds-compute-end-5
slice_bounds-compute-end-5 c = sym (length-take-le _ _ (search rules))

pub slice_bounds-compute-end-6 : goal.slice_bounds-compute-end-6
slice_bounds-compute-end-6 c = sym (length-take-le _ _ (search rules))

pub slice_bounds-compute-end-7 : goal.slice_bounds-compute-end-7
slice_bounds-compute-end-7 c = sym (length-take-le _ _ (search rules))

pub slice_bounds-compute-end-8 : goal.slice_bounds-compute-end-8
slice_bounds-compute-end-8 c = sym (length-take-le _ _ (search rules))

pub slice_bounds-compute-end-9 : goal.slice_bounds-compute-end-9
slice_bounds-compute-end-9 c = sym (length-take-le _ _ (search rules))

pub shape_of-words : goal.shape_of-words
shape_of-words c = c.compute-computed.auto.words

pub shape_of-reals : goal.shape_of-reals
shape_of-reals c = c.compute-computed.auto.reals

pub shape_of-keys : goal.shape_of-keys
shape_of-keys c = c.compute-computed.auto.keys

pub shape_of-events : goal.shape_of-events
shape_of-events c = c.compute-computed.auto.events

pub shape_of-entry_words : goal.shape_of-entry_words
shape_of-entry_words c = c.compute-computed.auto.entry_words

pub shape_of-pts : goal.shape_of-pts
shape_of-pts c = c.compute-computed.auto.pts

pub shape_of-out : goal.shape_of-out
shape_of-out c = c.compute-computed.auto.out

pub shape_of-keep : goal.shape_of-keep
shape_of-keep c = c.compute-computed.auto.keep

pub shape_of-next : goal.shape_of-next
shape_of-next c = c.compute-computed.auto.next

pub shape_of-scratch : goal.shape_of-scratch
shape_of-scratch c = c.compute-computed.auto.scratch

pub shape_of-other_scratch : goal.shape_of-other_scratch
shape_of-other_scratch c = c.compute-computed.auto.other_scratch
