-- What the live lists have to do with the reference model: they are those that the candidates leave in it, but for the flags that pops cleared. Definitions only.
use Rattle.std.specs.Prelude.{ℕ, List, map, ◌≡◌, Float}
use Rattle.better.specs.Stretches.{better_of}
use Rattle.better.specs.Claim.{All}
use Rattle.trim_model.specs.Windows.{Window, unqueued}
use Rattle.trim_model.specs.Model.{Candidate, empty, steps}
use Rattle.trim_model.specs.Claim.{AdmittedProper}

pub record Follows (limit : Float) (len : ℕ → Float) (cs : List Candidate) (made : ℕ) (live : ℕ → List Window) : Type 0 where
  pub proper : All (AdmittedProper limit len) cs
  pub same : (e : ℕ) → map unqueued (live e) ≡ map unqueued ((steps better_of limit len cs empty).edge e).live
  pub count : made ≡ (steps better_of limit len cs empty).made
