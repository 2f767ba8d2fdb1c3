-- What a caller in C or Rust is told of a list that ran.
use Rattle.std.specs.Prelude.{ℕ, List, ◌≡◌, set, Float, Ok, Err}
use Rattle.run_operations.specs.of_trim_operations.Represents.{refusal_number}
use Rattle.run_operations.specs.Lists.{Ran, RunWhole}
use Rattle.run_operations.specs.of_trim.Buffers.{Slices}
use Rattle.run_operations.specs.of_cut_lists.Buffers.{Cuts}

-- the number that is answered, and what two numbers then hold, as far as they are lent
unfoldable pub told_run : Ran → List ℕ → ℕ × List ℕ
told_run (Ok counts) t = (0, set (set t 0 counts.made) 1 counts.queued)
told_run (Err ended) t = (refusal_number ended.refusal, set (set t 0 ended.at) 1 0)

pub record AnsweredList (limit : Float) (flags ends : List ℕ) (lens : List Float) (ops : List ℕ) (args : List Float) (b : Slices) (c : Cuts) (b' : Slices) (c' : Cuts) (told : List ℕ) (r : ℕ) (told' : List ℕ) : Type 0 where
  pub answer : Ran
  pub runs : RunWhole limit flags ends lens ops args b c answer b' c'
  pub tells : (r, told') ≡ told_run answer told
