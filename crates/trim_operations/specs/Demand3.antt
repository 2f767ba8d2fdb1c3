-- Demand 3 about the windows that a list of operations leaves. Definitions only.
use Rattle.std.specs.Prelude.{ℕ, List, map, ◌≡◌, Float}
use Rattle.pop.specs.of_better.Stretches.{better_of}
use Rattle.pop.specs.of_trim_model.Intervals.{tiny_of}
use Rattle.pop.specs.of_trim_model.Windows.{Window, unqueued}
use Rattle.pop.specs.of_trim_model.Model.{Candidate, EdgeState, empty, steps, steps_bound}
use Rattle.pop.specs.of_trim_model.Claim.{Trimmed}

-- 01's book of edge e, after the candidates (01's offers) of the list in their order
abbrev pub model_of : Float → (ℕ → Float) → List Candidate → ℕ → EdgeState
model_of limit len cs e = (steps better_of limit len cs empty).edge e

-- "after the list, on every edge": of edge e, whose live windows these are
pub record Demand3 (limit : Float) (len : ℕ → Float) (cs : List Candidate) (e : ℕ) (live : List Window) : Type 0 where
  -- "the live windows are exactly those of 01's book", in ends, lowest value, source and number, and in the face that they go into; whether one is queued the pops say
  pub exact : map unqueued live ≡ map unqueued (model_of limit len cs e).live
  -- "they stand in rising order of start and of end; each is wider than a hundred-thousand-millionth of the edge, and no two share more; every point of every window admitted to that
  -- edge lies in a live one there, or in a sliver no wider than that, which an offer to that edge dropped. The book names the slivers, on each edge at most as many as 01's bound"
  pub trimmed : Trimmed (tiny_of (len e)) (steps_bound better_of limit len e cs empty) (record { live = live; admitted = (model_of limit len cs e).admitted; slivers = (model_of limit len cs e).slivers })
