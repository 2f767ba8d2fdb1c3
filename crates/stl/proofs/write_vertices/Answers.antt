-- `stl::write_vertices` meets its contract. Assumes nothing.
use Prim.Native.Nat.{ℕ, ◌*◌, ◌/◌, ◌%◌}
use mathlib.Core.Path.{◌≡◌, refl, sym, ap, ◌∙◌, subst}
use native.Mathlib.Omega.{arith}
use lib.ListN.{get_or}
use lib.ListN.{length-set}
use Rattle.nat_laws.specs.Lists.{list_of}
use Rattle.little_endian.proofs.Front.{front_none, front_next}
use lib.Ieee.{Float}
use Rattle.stl_format.specs.Format.{coordinate}
use Rattle.stl_table.specs.Table.{HasPoint}
use Rattle.stl.proofs.write_vertices.Goals as goal

pub loop-j-init : goal.loop-j-init
unfolding list_of
loop-j-init c = (refl, (omega arith, front_none _))

pub overflow_mul-j-end : goal.overflow_mul-j-end
overflow_mul-j-end c = omega (arith, c.requires.1.0)

pub bounds-firsts-j : goal.bounds-firsts-j
bounds-firsts-j c = omega (arith, c.loop-j-test.true, c.requires.0)

pub coordinate_at-requires : goal.coordinate_at-requires
coordinate_at-requires c =
    let a = c.args in
    (omega arith, subst (λ (p : ℕ). HasPoint a.s.now p) (sym c.wide.ensures) (c.requires.1.1 (c.loop-j.j / 3) (omega (arith, c.loop-j-test.true))))

pub bounds-vertices-j : goal.bounds-vertices-j
bounds-vertices-j c =
    omega (arith, c.loop-j-test.true, c.loop-j.invariant.0, c.requires.1.0)

pub loop-j-preserved : goal.loop-j-preserved
loop-j-preserved c =
    let a = c.args in
    let f : ℕ → Float = λ k. coordinate a.s.now (get_or a.firsts.now (k / 3) 0) (k % 3) in (
      length-set c.loop-j.vertices c.loop-j.j _ ∙ c.loop-j.invariant.0,
      (omega (arith, c.loop-j-test.true), front_next f a.vertices.now c.loop-j.vertices c.loop-j.j _ (c.coordinate_at.ensures ∙ ap (λ (p : ℕ). coordinate a.s.now p (c.loop-j.j % 3)) c.wide.ensures) (omega (arith, c.loop-j-test.true, c.requires.1.0)) c.loop-j.invariant.1.1),
    )

pub returns : goal.returns
returns c =
    let e : c.loop-j.j ≡ 3 * c.args.n = omega (arith, c.loop-j-test.false, c.loop-j.invariant.1.0) in
    rw e at c.loop-j.invariant.1.1
