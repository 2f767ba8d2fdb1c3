-- `vectors::word` meets its contract. The loop takes the bytes from the most significant down: r is the number of those that it has taken,
-- and the j that are to come keep it within 64 bits. Assumes nothing.
use mathlib.Core.Path.{◌≡◌, refl, ap, ◌∙◌}
use Prim.Native.Nat.{ℕ, ◌+◌, ◌-◌, ◌*◌, ◌^◌, ◌≤◌, ◌<◌}
use native.Mathlib.Nat.{add-zero}
use native.Mathlib.Omega.{arith}
use Rattle.vectors.specs.Records.{little_endian, word_at}
use Rattle.vectors.proofs.Laws.{byte_below, bounded, bounded_step}
use Rattle.vectors.proofs.word.Goals as goal

pub overflow_mul-i : goal.overflow_mul-i
overflow_mul-i c = omega arith

pub loop-j-init : goal.loop-j-init
unfolding little_endian
loop-j-init c = (omega arith, refl, omega arith)

pub overflow_sub-j : goal.overflow_sub-j
overflow_sub-j c = omega arith

pub overflow_mul-r : goal.overflow_mul-r
overflow_mul-r c = omega (arith, bounded _ _ _ (bounded_step c.loop-j.r 0 (c.loop-j.j - 1) c.loop-j.j (2 ^ 64) (omega arith) (omega arith) c.loop-j.invariant.2))

pub overflow_add-i : goal.overflow_add-i
overflow_add-i c = omega arith

pub bounds-s-i : goal.bounds-s-i
bounds-s-i c = omega arith

pub u64_of_byte-requires : goal.u64_of_byte-requires
u64_of_byte-requires c = tt

pub overflow_add-r : goal.overflow_add-r
overflow_add-r c =
    let fewer : (256 * c.loop-j.r + c.u64_of_byte.result + 1) * 2 ^ (8 * (c.loop-j.j - 1)) ≤ 2 ^ 64 = let t = c in
    let byte : c.u64_of_byte.result < 256 = omega (arith, c.u64_of_byte.ensures, c.shared_slice_known-in-loop-j-1.given (8 * t.args.k + (t.loop-j.j - 1))) in
    bounded_step t.loop-j.r c.u64_of_byte.result (t.loop-j.j - 1) t.loop-j.j (2 ^ 64) byte (omega arith) t.loop-j.invariant.2 in
    omega (arith, bounded _ _ _ fewer)

pub loop-j-smaller : goal.loop-j-smaller
loop-j-smaller c = omega arith

pub loop-j-preserved : goal.loop-j-preserved
loop-j-preserved c =
    let fewer : (256 * c.loop-j.r + c.u64_of_byte.result + 1) * 2 ^ (8 * (c.loop-j.j - 1)) ≤ 2 ^ 64 = let t = c in
    let byte : c.u64_of_byte.result < 256 = omega (arith, c.u64_of_byte.ensures, c.shared_slice_known-in-loop-j-1.given (8 * t.args.k + (t.loop-j.j - 1))) in
    bounded_step t.loop-j.r c.u64_of_byte.result (t.loop-j.j - 1) t.loop-j.j (2 ^ 64) byte (omega arith) t.loop-j.invariant.2 in
    let j = c.loop-j.j in
    let i = 8 * c.args.k in
    (omega arith, ap (λ (b : ℕ). 256 * c.loop-j.r + b) c.u64_of_byte.ensures ∙ byte_below _ (i + (j - 1)) (i + j) (8 - j) (8 - (j - 1)) _ (omega arith) (omega arith) (omega arith) c.loop-j.invariant.1, fewer)

pub returns : goal.returns
unfolding word_at
returns c =
    let e : c.loop-j.j ≡ 0 = omega arith in
    rw (e, add-zero) at c.loop-j.invariant.1
