-- `slip::check_pieces` meets its contract. Assumes nothing.
use mathlib.Core.Path.{◌≡◌, sym, ap, ◌∙◌}
use Prim.Native.Nat.{ℕ, ◌+◌, ◌-◌}
use native.Mathlib.Omega.{arith}
use Rattle.slip.specs.Format.{after_pieces}
use Rattle.slip.proofs.Pieces.{no_kind, bad_kind, short_piece, next_piece}
use Rattle.slip.proofs.check_pieces.Goals as goal

pub loop-init : goal.loop-init
loop-init c =
    let all : c.args.n ≡ c.args.n - 0 = omega arith in
    (omega arith, ap (λ (k : ℕ). after_pieces c.args.s.now k c.args.from) all)

pub returns-then-s-i : goal.returns-then-s-i
returns-then-s-i c =
    let loop = c.loop in
    no_kind c.args.s.now (c.args.n - loop.counter) loop.i (omega arith) c.if-s-i.true ∙ sym loop.invariant.1

pub returns-then-kind-gt1 : goal.returns-then-kind-gt1
returns-then-kind-gt1 c =
    let loop = c.loop in
    bad_kind c.args.s.now (c.args.n - loop.counter) loop.i (omega arith) c.if-s-i.false c.if-kind-gt1.true ∙ sym loop.invariant.1

pub returns-then-s-i-2 : goal.returns-then-s-i-2
returns-then-s-i-2 c =
    let loop = c.loop in
    short_piece c.args.s.now (c.args.n - loop.counter) loop.i (omega arith) c.if-s-i.false c.if-kind-gt1.false (omega arith) ∙ sym loop.invariant.1

pub loop-preserved : goal.loop-preserved
loop-preserved c =
    let loop = c.loop in
    let s = c.args.s.now in
    let less : c.args.n - loop.counter - 1 ≡ c.args.n - (loop.counter + 1) = omega arith in (
      omega arith,
      loop.invariant.1 ∙ next_piece s (c.args.n - loop.counter) loop.i (omega arith) c.if-s-i.false c.if-kind-gt1.false (omega arith)
          ∙ rw (less, c.piece_size-size.ensures.0),
    )

pub returns : goal.returns
returns c =
    let loop = c.loop in
    let none : 0 ≡ c.args.n - loop.counter = omega arith in
    c.check_limit.ensures ∙ ap (λ (k : ℕ). after_pieces c.args.s.now k loop.i) none ∙ sym loop.invariant.1
