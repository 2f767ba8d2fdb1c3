-- `stl_table::seek` meets its contract. The invariant: what is found from here is what is found from the head. The measure is the link, since links fall.
-- Assumes nothing.
use Prim.Native.Nat.{◌-◌}
use mathlib.Core.Path.{refl, sym, ap, ◌∙◌}
use native.Mathlib.Omega.{arith}
use Rattle.stl_table.specs.Keys.{same_key}
use Rattle.stl_table.proofs.Entering.{same_key_from}
use Rattle.stl_table.proofs.Following.{found, next, missed}
use Rattle.stl_table.proofs.seek.Invariants.{passes}
use Rattle.stl_table.proofs.seek.Goals as goal

pub loop-at-init : goal.loop-at-init
loop-at-init c = (omega arith, refl)

pub bounds-firsts-i : goal.bounds-firsts-i
bounds-firsts-i c = omega (arith, c.requires.firsts_fit)

pub key_at-requires : goal.key_at-requires
key_at-requires c = c.requires.there (c.loop-at.at - 1) (omega arith)

pub returns-then-eq : goal.returns-then-eq
returns-then-eq c =
    let a = c.args in
    found (passes a.s.now a.firsts.now a.k) a.links.now a.head c.requires.falling c.loop-at.at c.loop-at-test.true c.loop-at.invariant.0 c.loop-at.invariant.1
    (ap (λ z. same_key z a.k) (sym c.key_at.ensures) ∙ (same_key_from c.key_at.result a.k ∙ (sym c.eq.ensures ∙ c.if-eq.true)))

pub bounds-links-i : goal.bounds-links-i
bounds-links-i c = omega (arith, c.requires.links_fit)

pub loop-at-smaller : goal.loop-at-smaller
loop-at-smaller c =
    omega (arith, c.requires.falling (c.loop-at.at - 1) (omega arith))

pub loop-at-preserved : goal.loop-at-preserved
loop-at-preserved c =
    let a = c.args in (
      omega (arith, c.requires.falling (c.loop-at.at - 1) (omega arith)),
      next (passes a.s.now a.firsts.now a.k) a.links.now a.head c.requires.falling c.loop-at.at c.loop-at-test.true c.loop-at.invariant.0 c.loop-at.invariant.1
          (ap (λ z. same_key z a.k) (sym c.key_at.ensures) ∙ (same_key_from c.key_at.result a.k ∙ (sym c.eq.ensures ∙ c.if-eq.false))),
    )

pub returns : goal.returns
returns c =
    let a = c.args in
    missed (passes a.s.now a.firsts.now a.k) a.links.now c.loop-at.at a.head c.loop-at.invariant.1 c.loop-at-test.false
