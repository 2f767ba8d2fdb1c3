-- What `told` holds once both numbers are written. Assumes nothing.
use Prim.Native.Nat.{ℕ}
use mathlib.Core.List.{List}
use mathlib.Core.Path.{◌≡◌, sym, ◌∙◌}
use lib.ListN.{set}
use Rattle.std.specs.Prelude.{Ok, Err}
use Rattle.run_operations.specs.of_trim.of_trim_split.declared.Counts.{Counts}
use Rattle.run_operations.specs.of_trim_operations.Represents.{refusal_number}
use Rattle.run_operations.specs.declared.Ended.{Ended}
use Rattle.run_operations.specs.Lists.{Ran}
use Rattle.trim_c.specs.Exports.{told_run}

module _ (t t₁ t₂ : List ℕ) {x : Ran} where
  pub told_done : {counts : Counts} → x ≡ Ok counts → t₁ ≡ set t 0 counts.made → t₂ ≡ set t₁ 1 counts.queued → (0, t₂) ≡ told_run x t
  unfolding told_run
  told_done {counts} h a b = (λ i. (0, (b ∙ (λ j. set (a j) 1 counts.queued)) i)) ∙ (λ i. told_run (sym h i) t)

  pub told_ended : {ended : Ended} {number : ℕ} → x ≡ Err ended → number ≡ refusal_number ended.refusal → t₁ ≡ set t 0 ended.at → t₂ ≡ set t₁ 1 0 → (number, t₂) ≡ told_run x t
  unfolding told_run
  told_ended {ended} {number} h n a b = (λ i. (n i, (b ∙ (λ j. set (a j) 1 0)) i)) ∙ (λ i. told_run (sym h i) t)
