-- `root_vectors::holds` meets its contract. Assumes nothing.
use mathlib.Core.Path.{◌≡◌}
use Prim.Native.Nat.{◌+◌, ◌*◌}
use native.Mathlib.Omega.{arith}
use Rattle.root_vectors.specs.Replay.{numbers_per_record, holds_at}
use Rattle.root_vectors.proofs.Laws.{begins}
use Rattle.root_vectors.proofs.holds.Goals as goal

pub overflow_mul-i : goal.overflow_mul-i
overflow_mul-i c =
    let at : (c.arity-n.result + 1) * c.args.k ≡ numbers_per_record c.args.f * c.args.k = begins c.args.f c.args.k c.arity-n.ensures in
    omega (arith, at)

pub answer-requires : goal.answer-requires
answer-requires c =
    let at : (c.arity-n.result + 1) * c.args.k ≡ numbers_per_record c.args.f * c.args.k = begins c.args.f c.args.k c.arity-n.ensures in
    omega (arith, at)

pub overflow_add-i-2 : goal.overflow_add-i-2
overflow_add-i-2 c =
    let at : (c.arity-n.result + 1) * c.args.k ≡ numbers_per_record c.args.f * c.args.k = begins c.args.f c.args.k c.arity-n.ensures in
    omega (arith, at, c.arity-n.ensures)

pub word-requires : goal.word-requires
word-requires c =
    let at : (c.arity-n.result + 1) * c.args.k ≡ numbers_per_record c.args.f * c.args.k = begins c.args.f c.args.k c.arity-n.ensures in
    omega (arith, at, c.arity-n.ensures)

pub returns : goal.returns
unfolding holds_at
returns c =
    let i : (c.arity-n.result + 1) * c.args.k ≡ numbers_per_record c.args.f * c.args.k = begins c.args.f c.args.k c.arity-n.ensures in
    rw (c.agrees.ensures, c.answer.ensures, c.word.ensures, i, c.arity-n.ensures)
