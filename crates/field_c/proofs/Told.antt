-- What `told` holds once its numbers are written. Assumes nothing.
use Prim.Native.Nat.{ℕ}
use mathlib.Core.List.{List}
use mathlib.Core.Path.{◌≡◌, sym, ◌∙◌}
use lib.ListN.{set}
use Rattle.computed.specs.declared.Computed.{Computed}
use Rattle.computed.specs.declared.Field.{Field}
use Rattle.computed.specs.declared.Computed.TheVariants as computed
use Rattle.field_c.specs.Exports.{field_told}

-- each number is written over the one before
pub set_both : (n m : ℕ) {t₀ t₁ t₂ : List ℕ} → t₁ ≡ set t₀ n m → t₀ ≡ t₂ → t₁ ≡ set t₂ n m
set_both n m h e = h ∙ (λ i. set (e i) n m)

module _ (t : List ℕ) {x : Computed} where
  pub told_refused : (k : ℕ) → x ≡ computed.Refused k → (k, t) ≡ field_told x t
  unfolding field_told
  told_refused k h = λ i. field_told (sym h i) t

  pub told_field_lem : (f : Field) {t₁ t₂ t₃ t₄ t₅ t₆ : List ℕ} → x ≡ computed.Field f → t₁ ≡ set t 0 f.vertices → t₂ ≡ set t₁ 1 f.triangles → t₃ ≡ set t₂ 2 f.pieces
      → t₄ ≡ set t₃ 3 f.edges → t₅ ≡ set t₄ 4 f.windows → t₆ ≡ set t₅ 5 f.steps → (0, t₆) ≡ field_told x t
  unfolding field_told
  told_field_lem f h a b c d e g = (λ i. (0, set_both 5 f.steps g (set_both 4 f.windows e (set_both 3 f.edges d (set_both 2 f.pieces c (set_both 1 f.triangles b a)))) i)) ∙ (λ i. field_told (sym h i) t)
