-- `text_out::put_text` meets its contract. Assumes nothing.
use Rattle.text_out.proofs.Puts.{puts_byte}
use lib.Seq.{take_all}
use lib.ListN.{length, length-set, take}
use mathlib.Core.Path.{◌≡◌, refl, ap, ◌∙◌}
use native.Mathlib.Omega.{arith}
use Prim.Native.Nat.{◌+◌}
use Rattle.text_out.proofs.put_text.Goals as goal

pub loop-k-init : goal.loop-k-init
loop-k-init c = (refl, refl)

pub loop-k-preserved : goal.loop-k-preserved
loop-k-preserved c =
    let a = c.args in (
      ap length c.put_byte.ensures ∙ length-set c.loop-k.out (a.i + c.loop-k.k) _ ∙ c.loop-k.invariant.0,
      c.put_byte.ensures ∙ puts_byte a.out.now c.loop-k.out a.text.now a.i c.loop-k.k (omega arith) c.loop-k.invariant.1,
    )

pub returns : goal.returns
returns c =
    let a = c.args in
    let whole : take c.loop-k.k a.text.now ≡ a.text.now = take_all c.loop-k.k a.text.now (omega arith) in
    record { holds = rw whole at c.loop-k.invariant.1; ends = omega arith }
