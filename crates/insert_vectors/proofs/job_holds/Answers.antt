-- `insert_vectors::job_holds` is safe and ends. Paths and lengths are written out: a search tries all slices, and counts the elements of arrays. Assumes nothing.
use Prim.Native.Nat.{ℕ}
use native.Mathlib.Omega.{arith}
use mathlib.Core.Path.{sym}
use lib.ListN.{length-replicate}
use lib.Seq.{length-take-le}
use lib.Ieee.{Float, binary64, of_bits}
use Rattle.insert_vectors.proofs.job_holds.Goals as goal

pub number-refusal-requires : goal.number-refusal-requires
number-refusal-requires c = omega (arith, c.requires)

pub overflow_add-k : goal.overflow_add-k
overflow_add-k c = omega (arith, c.requires)

pub double-limit-requires : goal.double-limit-requires
double-limit-requires c = omega (arith, c.requires)

pub stored_counts-others-requires : goal.stored_counts-others-requires
stored_counts-others-requires c = c.requires

pub overflow_add-k-2 : goal.overflow_add-k-2
overflow_add-k-2 c = omega (arith, c.requires)

pub count-nv-requires : goal.count-nv-requires
count-nv-requires c = omega (arith, c.requires)

pub slice_bounds-v-end : goal.slice_bounds-v-end
slice_bounds-v-end c = sym (length-take-le _ _ (omega (arith, c.count-nv.ensures)))

pub overflow_add-k-3 : goal.overflow_add-k-3
overflow_add-k-3 c = omega (arith, c.requires)

pub count-nt-requires : goal.count-nt-requires
count-nt-requires c = omega (arith, c.requires)

pub slice_bounds-t-end : goal.slice_bounds-t-end
slice_bounds-t-end c = sym (length-take-le _ _ (omega (arith, c.count-nt.ensures)))

pub overflow_add-k-4 : goal.overflow_add-k-4
overflow_add-k-4 c = omega (arith, c.requires)

pub count-nf-requires : goal.count-nf-requires
count-nf-requires c = omega (arith, c.requires)

pub slice_bounds-f-end : goal.slice_bounds-f-end
slice_bounds-f-end c = sym (length-take-le _ _ (omega (arith, c.count-nf.ensures)))

pub overflow_add-k-5 : goal.overflow_add-k-5
overflow_add-k-5 c = omega (arith, c.requires)

pub count-nk-requires : goal.count-nk-requires
count-nk-requires c = omega (arith, c.requires)

pub slice_bounds-i-end : goal.slice_bounds-i-end
slice_bounds-i-end c = sym (length-take-le _ _ (omega (arith, c.count-nk.ensures)))

pub overflow_add-k-6 : goal.overflow_add-k-6
overflow_add-k-6 c = omega (arith, c.requires)

pub count-nn-requires : goal.count-nn-requires
count-nn-requires c = omega (arith, c.requires)

pub slice_bounds-n-end : goal.slice_bounds-n-end
slice_bounds-n-end c = sym (length-take-le _ _ (omega (arith, c.count-nn.ensures)))

pub overflow_add-k-7 : goal.overflow_add-k-7
overflow_add-k-7 c = omega (arith, c.requires)

pub count-nc-requires : goal.count-nc-requires
count-nc-requires c = omega (arith, c.requires)

pub slice_bounds-c-end : goal.slice_bounds-c-end
slice_bounds-c-end c = sym (length-take-le _ _ (omega (arith, c.count-nc.ensures)))

pub slice_bounds-build-end : goal.slice_bounds-build-end
slice_bounds-build-end c = sym (length-replicate {A = ℕ} 3600 7)

pub slice_bounds-build-end-2 : goal.slice_bounds-build-end-2
slice_bounds-build-end-2 c = sym (length-replicate {A = ℕ} 37800 7)

pub slice_bounds-build-end-3 : goal.slice_bounds-build-end-3
slice_bounds-build-end-3 c = sym (length-replicate {A = Float} 25200 (of_bits binary64 0x401c_0000_0000_0000))

pub slice_bounds-build-end-4 : goal.slice_bounds-build-end-4
slice_bounds-build-end-4 c = sym (length-replicate {A = ℕ} 6300 7)

pub slice_bounds-build-end-5 : goal.slice_bounds-build-end-5
slice_bounds-build-end-5 c = sym (length-replicate {A = ℕ} 12600 7)

pub slice_bounds-build-end-6 : goal.slice_bounds-build-end-6
slice_bounds-build-end-6 c = sym (length-replicate {A = Float} 18900 (of_bits binary64 0x401c_0000_0000_0000))
