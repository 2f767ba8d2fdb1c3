-- What a caller is told of a slip that was read. Assumes nothing.
use Prim.Native.Nat.{ℕ}
use mathlib.Core.List.{List}
use mathlib.Core.Path.{◌≡◌, sym, ap, ◌∙◌, subst}
use lib.Ieee.{Float}
use lib.ListN.{set}
use Rattle.std.specs.Prelude.{Result, Ok, Err}
use Rattle.slip.specs.declared.SlipJob.{SlipJob}
use Rattle.slip.specs.declared.SlipRefusal.{SlipRefusal}
use Rattle.slip.specs.Format.{refusal_number}
use Rattle.computed.specs.declared.Computed.{Computed}
use Rattle.text_out.specs.Text.{Puts}
use Rattle.print_out.specs.PrintOut.{live_count, text_of}
use Rattle.field_c.specs.Slips.{slip_told}
use Rattle.field_c.proofs.Told.{set_both}

module _ (t : List ℕ) (l : List Float) {x : Result SlipJob SlipRefusal} where
  pub told_refusal : (why : SlipRefusal) {r : ℕ} → x ≡ Err why → r ≡ refusal_number why → (r, (t, l)) ≡ slip_told x t l
  unfolding slip_told
  told_refusal why h e = (λ i. (e i, (t, l))) ∙ (λ i. slip_told (sym h i) t l)

  pub told_job : (j : SlipJob) {t₁ t₂ t₃ : List ℕ} {l₁ : List Float} → x ≡ Ok j → t₁ ≡ set t 0 j.vertices → t₂ ≡ set t₁ 1 j.triangles → t₃ ≡ set t₂ 2 j.pieces → l₁ ≡ set l 0 j.limit
      → (0, (t₃, l₁)) ≡ slip_told x t l
  unfolding slip_told
  told_job j h a b c d = (λ i. (0, (set_both 2 j.pieces c (set_both 1 j.triangles b a) i, d i))) ∙ (λ i. slip_told (sym h i) t l)

-- the text of what was said is the text of what is said
pub text_told : (words : List ℕ) (v : List Float) (out : List ℕ) {x y : Computed} {l n m : ℕ} {out' : List ℕ} {r : ℕ} → x ≡ y → l ≡ live_count words n → n ≡ m
    → Puts out 0 (text_of x l v) out' r → Puts out 0 (text_of y (live_count words m) v) out' r
text_told words v out {out' = out'} {r = r} e h k p = subst (λ (text : List ℕ). Puts out 0 text out' r) (λ i. text_of (e i) ((h ∙ ap (λ (z : ℕ). live_count words z) k) i) v) p
