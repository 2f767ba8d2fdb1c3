-- The counts that the checks are told, and what `told` holds once its four numbers are written. Assumes nothing.
use Prim.Native.Nat.{ℕ}
use mathlib.Core.List.{List}
use mathlib.Core.Path.{◌≡◌, sym, ◌∙◌}
use lib.ListN.{set}
use Rattle.buffers.specs.declared.Lack.{Lack}
use Rattle.buffers.specs.Lack.{lack_number}
use Rattle.insert_job.specs.of_mesh.declared.OtherCounts.{OtherCounts}
use Rattle.insert_job.specs.of_insertion.declared.InsertCounts.{InsertCounts}
use Rattle.insert_job.specs.declared.InsertRefusal.{InsertRefusal}
use Rattle.std.specs.declared.result.Result.{Result}
use Rattle.insert_job.specs.declared.InsertRefusal.TheVariants.{Wedge, NoSlot}
use Rattle.std.specs.declared.result.Result.TheVariants.{Ok, Err}
use Rattle.insert_c.specs.Exports.{insert_told}

pub same_others : {a a' b b' d d' : ℕ} → a ≡ a' → b ≡ b' → d ≡ d'
    → ◌≡◌ {A = OtherCounts} (record { vertex_reals = a; pieces = b; windows = d; scratch = d; other_scratch = d }) (record { vertex_reals = a'; pieces = b'; windows = d'; scratch = d'; other_scratch = d' })
same_others p q r = λ i. record { vertex_reals = p i; pieces = q i; windows = r i; scratch = r i; other_scratch = r i }

module _ (edges : ℕ) (t : List ℕ) {x : Result InsertCounts InsertRefusal} where
  pub told_wedge : x ≡ Err Wedge → (11, t) ≡ insert_told edges x t
  unfolding insert_told
  told_wedge h = λ i. insert_told edges (sym h i) t

  pub told_stopped : (lack : Lack) (n : ℕ) → x ≡ Err (NoSlot lack) → n ≡ lack_number lack → (n, t) ≡ insert_told edges x t
  unfolding insert_told
  told_stopped lack n h e = (λ i. (e i, t)) ∙ (λ i. insert_told edges (sym h i) t)

  pub told_went : (n : InsertCounts) (t₁ t₂ t₃ t₄ : List ℕ) → x ≡ Ok n → t₁ ≡ set t 0 edges → t₂ ≡ set t₁ 1 n.trim.made → t₃ ≡ set t₂ 2 n.trim.queued → t₄ ≡ set t₃ 3 n.entries → (0, t₄) ≡ insert_told edges x t
  unfolding insert_told
  told_went n t₁ t₂ t₃ t₄ h a b c d =
      (λ i. (0, (d ∙ (λ j. set ((c ∙ (λ k. set ((b ∙ (λ l. set (a l) 1 n.trim.made)) k) 2 n.trim.queued)) j) 3 n.entries)) i)) ∙ (λ i. insert_told edges (sym h i) t)
