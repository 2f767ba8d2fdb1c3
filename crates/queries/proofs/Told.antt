-- A field and a job's answer that a caller tells are those of its numbers. Assumes nothing.
use Prim.Native.Nat.{ℕ}
use mathlib.Core.List.{List}
use mathlib.Core.Path.{◌≡◌, refl, ap, ◌∙◌}
use borrow.Author.Tests.{eq-eqb, ne_eqb}
use lib.ListN.{get_or}
use Rattle.computed.specs.declared.Computed.TheVariants.{Refused, Field as isField}
use Rattle.computed.specs.declared.Field.{Field}
use Rattle.queries.specs.Told.{told_field, told_answer}
use Rattle.queries.proofs.Checked.{taken, left}

pub told_is : (t : List ℕ) {a b c d e f : ℕ} → a ≡ get_or t 0 0 → b ≡ get_or t 1 0 → c ≡ get_or t 2 0 → d ≡ get_or t 3 0 → e ≡ get_or t 4 0 → f ≡ get_or t 5 0
    → ◌≡◌ {A = Field} (record { vertices = a; triangles = b; pieces = c; edges = d; windows = e; steps = f }) (told_field t)
unfolding told_field
told_is t a b c d e f = λ i. record { vertices = a i; triangles = b i; pieces = c i; edges = d i; windows = e i; steps = f i }

pub answer_field : (k : ℕ) (t : List ℕ) {f : Field} → k ≡ 0 → f ≡ told_field t → isField f ≡ told_answer k t
unfolding told_answer
answer_field k t h e = ap (λ (g : Field). isField g) e ∙ taken _ _ _ (eq-eqb k 0 h)

pub answer_refused : (k : ℕ) (t : List ℕ) → (k ≡ 0 → ⊥) → Refused k ≡ told_answer k t
unfolding told_answer
answer_refused k t h = left _ _ _ _ (ne_eqb k 0 h) refl
