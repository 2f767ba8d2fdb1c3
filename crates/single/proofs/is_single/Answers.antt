-- `single::is_single` meets its contract. Assumes nothing.
use mathlib.Core.Path.{sym, ap, subst, ◌∙◌}
use lib.Dec.{T}
use lib.Ieee.{binary64, to_bits}
use Rattle.single.proofs.Values.{is_one, is_none, not_finite}
use Rattle.single.proofs.is_single.Goals as goal

pub returns-then-pattern : goal.returns-then-pattern
returns-then-pattern c =
    is_one c.args.x c.single_bits.result (subst T (sym c.well_formed.0.1) tt) (sym c.is_finite.ensures ∙ c.if-is_finite.true)
    (sym (c.pattern.ensures ∙ ap (to_bits binary64) c.single_value.ensures) ∙ (c.if-pattern.true ∙ c.pattern-then-is_finite.ensures))

pub returns-then-is_finite : goal.returns-then-is_finite
returns-then-is_finite c =
    is_none c.args.x c.single_bits.result c.single_bits.ensures
    (λ e. c.if-pattern.false (c.pattern.ensures ∙ ap (to_bits binary64) c.single_value.ensures ∙ (e ∙ sym c.pattern-then-is_finite.ensures)))

pub returns : goal.returns
returns c = not_finite _ 0 (sym c.is_finite.ensures ∙ c.if-is_finite.false)
