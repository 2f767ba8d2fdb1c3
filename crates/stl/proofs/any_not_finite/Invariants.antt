use Prim.Native.Nat.{◌≤◌}
use mathlib.Core.Path.{◌≡◌}
use mathlib.Core.Bool.{false}
use Rattle.job_checks.specs.Any.{any_below}
use Rattle.stl_format.specs.Format.{bytes_not_finite}
use Rattle.stl.proofs.any_not_finite.Given as goal

abbrev pub invariant-loop-h : goal.invariant-loop-h
invariant-loop-h l = (l.h ≤ l.points) × (any_below (bytes_not_finite l.s) l.h ≡ false)
