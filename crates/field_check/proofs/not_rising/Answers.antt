use mathlib.Core.Bool.{not}
use mathlib.Core.Path.{◌∙◌}
use lib.Ieee.{lt}
use Rattle.field_check.proofs.Tests.{rising_first, rising_next}
use Rattle.field_check.proofs.not_rising.Goals as goal

pub returns-then-before-eq0 : goal.returns-then-before-eq0
returns-then-before-eq0 c = λ i h. rising_first c.args.reals.now c.args.before i c.if-before-eq0.true

pub returns : goal.returns
returns c =
    let a = c.args in
    λ i h. c.not_below.ensures ∙ (λ j. not (lt (c.read_f64.ensures j) (h j))) ∙ rising_next a.reals.now a.before i c.if-before-eq0.false
