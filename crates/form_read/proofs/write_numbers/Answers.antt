-- `form_read::write_numbers` meets its contract. Assumes nothing.
use Rattle.form_read.specs.Places.{value_read, place_behind, number_place, numbers_in}
use Rattle.form_read.proofs.Parts.{value_small, next_near}
use Rattle.groups.specs.declared.Form.TheVariants.{Groups}
use Rattle.groups.specs.Groups.{number_at}
use Rattle.nat_laws.specs.Lists.{list_of}
use Rattle.little_endian.proofs.Front.{front_none, front_next}
use lib.ListN.{length-set}
use Prim.Native.Nat.{ℕ}
use native.Mathlib.Numerals.{add-one}
use mathlib.Core.Path.{◌≡◌, refl, ap, ◌∙◌}
use native.Mathlib.Omega.{arith}
use Rattle.form_read.proofs.write_numbers.Goals as goal

pub loop-k-init : goal.loop-k-init
unfolding number_place list_of
loop-k-init c = (refl, omega arith, omega arith, refl, front_none _)

pub read_number-number-requires : goal.read_number-number-requires
read_number-number-requires c = omega (arith, c.loop-k.invariant.2, c.loop-k-test.true, c.requires)

pub overflow_cast-to : goal.overflow_cast-to
overflow_cast-to c = omega (arith, c.value.ensures, value_small c.read_number-number.result c.read_number-number.ensures)

pub bounds-to-k : goal.bounds-to-k
bounds-to-k c = omega (arith, c.loop-k.invariant.0, c.loop-k-test.true, c.requires)

pub loop-k-preserved : goal.loop-k-preserved
unfolding number_place
loop-k-preserved c =
    let s = c.args.s.now in
    let i = c.args.i in
    let found = c.read_number-number.ensures in
    let here : c.read_number-number.result ≡ number_at Groups s (number_place s i c.loop-k.k) = found.answer ∙ ap (number_at Groups s) c.loop-k.invariant.3 in (
      length-set c.loop-k.to c.loop-k.k _ ∙ c.loop-k.invariant.0,
      omega (arith, c.loop-k-test.true),
      omega (arith, c.behind-at.ensures, next_near c.read_number-number.result found, c.loop-k.invariant.2),
      rw add-one (c.behind-at.ensures ∙ ap place_behind here),
      front_next (λ (j : ℕ). value_read (number_at Groups s (number_place s i j))) c.args.to.now c.loop-k.to c.loop-k.k _ (c.value.ensures ∙ ap value_read here) (omega (arith, c.loop-k-test.true, c.requires)) c.loop-k.invariant.4,
    )

pub returns : goal.returns
unfolding numbers_in
returns c =
    let e : c.loop-k.k ≡ c.args.n = omega (arith, c.loop-k-test.false, c.loop-k.invariant.1) in
    (rw e at c.loop-k.invariant.4, rw e at c.loop-k.invariant.3)
