-- `little_endian::read_bytes` meets its contract. Assumes nothing.
use Prim.Native.Nat.{◌+◌}
use native.Mathlib.Omega.{arith}
use mathlib.Core.Path.{◌≡◌, refl, ◌∙◌}
use lib.ListN.{length-set, get_or}
use Rattle.nat_laws.specs.Lists.{list_of}
use Rattle.little_endian.specs.Bytes.{bytes_from}
use Rattle.little_endian.proofs.Front.{front_none, front_next}
use Rattle.little_endian.proofs.read_bytes.Goals as goal

pub loop-j-init : goal.loop-j-init
unfolding list_of
loop-j-init c = (refl, (omega arith, front_none _))

pub loop-j-preserved : goal.loop-j-preserved
loop-j-preserved c =
    let loop = c.loop-j in
    let a = c.args in (
      length-set loop.to loop.j _ ∙ loop.invariant.0,
      (omega (arith, c.loop-j-test.true), front_next (λ k. get_or a.s.now (a.i + k) 0) a.to.now loop.to loop.j _ refl (omega arith) loop.invariant.1.1),
    )

pub returns : goal.returns
unfolding bytes_from
returns c =
    let e : c.loop-j.j ≡ c.args.n = omega arith in
    rw e at c.loop-j.invariant.1.1
