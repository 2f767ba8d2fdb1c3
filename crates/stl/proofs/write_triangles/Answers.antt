-- `stl::write_triangles` meets its contract. Assumes nothing.
use Prim.Native.Nat.{ℕ, ◌-◌}
use mathlib.Core.Path.{◌≡◌, refl, ap, ◌∙◌}
use native.Mathlib.Omega.{arith}
use lib.ListN.{length-set}
use Rattle.nat_laws.specs.Lists.{list_of}
use Rattle.little_endian.proofs.Front.{front_none, front_next}
use Rattle.stl_table.specs.Table.{found_at}
use Rattle.stl.proofs.write_triangles.Goals as goal

pub loop-h-init : goal.loop-h-init
unfolding list_of
loop-h-init c = (refl, (omega arith, front_none _))

pub find-requires : goal.find-requires
find-requires c = c.requires.1 c.loop-h.h c.loop-h-test.true

pub bounds-triangles-h : goal.bounds-triangles-h
bounds-triangles-h c =
    omega (arith, c.loop-h-test.true, c.loop-h.invariant.0, c.requires.0)

pub loop-h-preserved : goal.loop-h-preserved
loop-h-preserved c =
    let a = c.args in
    let f : ℕ → ℕ = λ k. found_at a.s.now a.heads.now a.links.now a.firsts.now k - 1 in (
      length-set c.loop-h.triangles c.loop-h.h _ ∙ c.loop-h.invariant.0,
      (omega (arith, c.loop-h-test.true), front_next f a.triangles.now c.loop-h.triangles c.loop-h.h _ (c.number_of.ensures ∙ ap (λ (k : ℕ). k - 1) c.find.ensures) (omega (arith, c.loop-h-test.true, c.requires.0)) c.loop-h.invariant.1.1),
    )

pub returns : goal.returns
returns c =
    let e : c.loop-h.h ≡ c.args.n = omega (arith, c.loop-h-test.false, c.loop-h.invariant.1.0) in
    rw e at c.loop-h.invariant.1.1
