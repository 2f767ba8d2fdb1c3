-- `single::narrow` meets its contract. Assumes nothing.
use mathlib.Core.Path.{refl}
use native.Mathlib.Omega.{arith}
use Rattle.single.proofs.Patterns.{shape}
use Rattle.single.proofs.Fields.{none_below, no_leading, with_leading, none_above}
use Rattle.single.proofs.narrow.Goals as goal

pub returns-then-exponent-lt874 : goal.returns-then-exponent-lt874
returns-then-exponent-lt874 c = λ x h e. none_below x _ e (shape x h) c.if-exponent-lt874.true

pub returns-then-exponent-lt897 : goal.returns-then-exponent-lt897
returns-then-exponent-lt897 c = λ x h e. rw c.shr.ensures (no_leading x _ e (shape x h) _ refl (omega arith) (omega arith))

pub returns-then-exponent-lt1151 : goal.returns-then-exponent-lt1151
returns-then-exponent-lt1151 c = λ x h e. with_leading x _ e (shape x h) _ refl (omega arith)

pub returns : goal.returns
returns c = λ x h e. absurd (none_above x _ e (shape x h) (omega arith))
