-- `better_vectors::better_replays` meets its contract. Assumes nothing.
use mathlib.Core.Path.{ap, ◌∙◌}
use Prim.Native.Nat.{ℕ, ◌*◌}
use native.Mathlib.Omega.{arith}
use lib.Seq.{length-take-le}
use Rattle.better_vectors.proofs.better_replays.Goals as goal

pub returns-then-pts-most : goal.returns-then-pts-most
returns-then-pts-most c = λ h k. absurd (omega (arith, h, c.capacity-most.ensures.0, c.if-pts-most.true))

pub returns-then-out-most : goal.returns-then-out-most
returns-then-out-most c = λ h k. absurd (omega (arith, k, c.capacity-most.ensures.0, c.if-out-most.true))

pub returns : goal.returns
returns c =
    let a = c.args in
    let size = length-take-le c.capacity-most.result a.pts.now (omega arith) ∙ c.capacity-most.ensures.0 in
    λ h k. record {
      out = c.better_holds.new.out;
      entries = c.better_holds.auto.out ∙ length-take-le (2 * c.capacity-most.result) a.out.now (omega arith) ∙ ap (λ (n : ℕ). 2 * n) c.capacity-most.ensures.0;
      decides = rw size at c.better_holds.ensures;
    }
