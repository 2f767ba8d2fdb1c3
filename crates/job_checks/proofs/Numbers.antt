-- Each refusal has a number above 0, which is that of a job that passed, and keeps its number where `?` hands it on. Assumes nothing.
use Prim.Native.Nat.{ℕ, ◌<◌}
use mathlib.Core.Path.{◌≡◌}
use native.Mathlib.Omega.{arith}
use Rattle.std.specs.Prelude.{Result, Err}
use Rattle.std.specs.Result.{IsErrAnd}
use Rattle.std.proofs.lemmas.Result.{err_from_is_err_and}
use Rattle.job_checks.specs.declared.Refusal.{Refusal}
use Rattle.job_checks.specs.declared.Refusal.TheVariants.{Malformed, MissingVertex, RepeatedVertex, VertexOutOfRange, DegenerateTriangle, MissingFace, PieceOutOfRange, LimitOutOfRange, ShortBuffer}
use Rattle.job_checks.specs.Refusals.{refusal_number}

pub refused : (r : Refusal) → 0 < refusal_number (Err r)
refused Malformed = omega arith
refused MissingVertex = omega arith
refused RepeatedVertex = omega arith
refused VertexOutOfRange = omega arith
refused DegenerateTriangle = omega arith
refused MissingFace = omega arith
refused PieceOutOfRange = omega arith
refused LimitOutOfRange = omega arith
refused ShortBuffer = omega arith

pub handed_on : (r : Result (Unit {0}) Refusal) (e : Refusal) (n : ℕ) → IsErrAnd r (λ f. f ≡ e) → refusal_number (Err e) ≡ n → refusal_number r ≡ n
handed_on r e n h same = let p = err_from_is_err_and r h in rw (p.1, p.2) same
