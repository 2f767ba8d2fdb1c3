-- `float64::clamp` meets its contract. Assumes nothing.
use mathlib.Core.Path.{◌≡◌}
use mathlib.Core.Bool.{Bool, true, false, cond}
use lib.Ieee.{Float, lt}
use Rattle.float64.specs.Scalar.{clamp_of}
use Rattle.float64.proofs.clamp.Goals as goal
use Rattle.float64.proofs.clamp.Goals.{then-y-lo, else-y-lo}

-- the last step, from either value of the first
lowered : (x lo hi y : Float) (b d : Bool) → lt x lo ≡ b → y ≡ cond b lo x → lt hi y ≡ d → cond d hi y ≡ clamp_of x lo hi
unfolding clamp_of
lowered x lo hi y b d e v w = rw (e, ← v, w)

pub returns-then-y-hi : goal.returns-then-y-hi
returns-then-y-hi c = elim c.if-y-lo.branch [ then-y-lo w ↦ lowered _ _ _ _ true true w.if-y-lo.true w.y-is c.if-y-hi.true | else-y-lo w ↦ lowered _ _ _ _ false true w.if-y-lo.false w.y-is c.if-y-hi.true ]

pub returns-else-y-hi : goal.returns-else-y-hi
returns-else-y-hi c = elim c.if-y-lo.branch [ then-y-lo w ↦ lowered _ _ c.args.hi _ true false w.if-y-lo.true w.y-is c.if-y-hi.false | else-y-lo w ↦ lowered _ _ c.args.hi _ false false w.if-y-lo.false w.y-is c.if-y-hi.false ]
