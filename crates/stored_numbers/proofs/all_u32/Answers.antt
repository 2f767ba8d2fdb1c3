-- `stored_numbers::all_u32` meets its contract. The invariant: what the rest comes to is what all come to. Assumes nothing.
use Prim.Native.Nat.{ℕ}
use native.Mathlib.Omega.{arith}
use native.Mathlib.Numerals.{add-one}
use mathlib.Core.Path.{refl, sym, ap, ◌∙◌}
use lib.ListN.{drop}
use Rattle.stored_numbers.specs.Numbers.{each_is}
use Rattle.stored_numbers.proofs.Rows.{from_same, from_other, from_past}
use Rattle.stored_numbers.proofs.all_u32.Goals as goal

pub loop-i-init : goal.loop-i-init
loop-i-init c = (omega arith, refl)

pub returns-then-s-i : goal.returns-then-s-i
returns-then-s-i c = let a = c.args in sym (c.loop-i.invariant.1 ∙ from_other 0 (λ y. y) a.x c.loop-i.i a.s.now c.loop-i-test.true c.if-s-i.true)

pub loop-i-preserved : goal.loop-i-preserved
loop-i-preserved c =
    let loop = c.loop-i in
    let a = c.args in (
      omega (arith, loop.invariant.0),
      loop.invariant.1 ∙
          (from_same 0 (λ y. y) a.x loop.i a.s.now c.loop-i-test.true c.if-s-i.false ∙ ap (λ (k : ℕ). each_is (λ y. y) a.x (drop k a.s.now))
          (sym (add-one loop.i))),
    )

pub returns : goal.returns
returns c = let a = c.args in sym (c.loop-i.invariant.1 ∙ from_past 0 (λ y. y) a.x c.loop-i.i a.s.now c.loop-i-test.false)
