-- `stored_numbers::all_f64` meets its contract. The invariant: what the rest comes to is what all come to. Assumes nothing.
use Prim.Native.Nat.{ℕ}
use native.Mathlib.Omega.{arith}
use native.Mathlib.Numerals.{add-one}
use mathlib.Core.Path.{refl, sym, ap, ◌∙◌}
use lib.ListN.{drop}
use lib.Ieee.{nan, binary64, to_bits}
use Rattle.stored_numbers.specs.Numbers.{each_is}
use Rattle.stored_numbers.proofs.Rows.{from_same, from_other, from_past}
use Rattle.stored_numbers.proofs.all_f64.Goals as goal

pub loop-i-init : goal.loop-i-init
loop-i-init c = (omega arith, refl)

pub returns-then-pattern : goal.returns-then-pattern
returns-then-pattern c =
    let loop = c.loop-i in
    let a = c.args in
    sym (loop.invariant.1 ∙ from_other nan (to_bits binary64) (to_bits binary64 a.x) loop.i a.s.now c.loop-i-test.true
    (λ q. c.if-pattern.true (c.pattern.ensures ∙ (q ∙ sym c.pattern-in-loop-i.ensures))))

pub loop-i-preserved : goal.loop-i-preserved
loop-i-preserved c =
    let loop = c.loop-i in
    let a = c.args in (
      omega (arith, loop.invariant.0),
      loop.invariant.1 ∙ (from_same nan (to_bits binary64) (to_bits binary64 a.x) loop.i a.s.now c.loop-i-test.true
          (sym c.pattern.ensures ∙ (c.if-pattern.false ∙ c.pattern-in-loop-i.ensures)) ∙ ap (λ (k : ℕ). each_is (to_bits binary64) (to_bits binary64 a.x) (drop k a.s.now))
          (sym (add-one loop.i))),
    )

pub returns : goal.returns
returns c = let a = c.args in sym (c.loop-i.invariant.1 ∙ from_past nan (to_bits binary64) (to_bits binary64 a.x) c.loop-i.i a.s.now c.loop-i-test.false)
