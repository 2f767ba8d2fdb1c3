-- The answers of the parts of `compute`, case by case. Assumes nothing.
use Prim.Native.Nat.{ℕ}
use mathlib.Core.Bool.{true, false}
use mathlib.Core.Path.{◌≡◌, sym, ap, ◌∙◌}
use lib.Dec.{ltb}
use Rattle.layout.specs.Layout.{coordinates_per_vertex, vertices_per_triangle}
use Rattle.buffers.specs.Slots.{slots_of}
use Rattle.field_model.specs.of_mesh.declared.OtherCounts.{OtherCounts}
use Rattle.make_field.specs.of_insertion.declared.InsertCounts.{InsertCounts}
use Rattle.make_field.specs.of_run_steps.declared.FieldWork.{FieldWork}
use Rattle.make_field.specs.of_run_steps.declared.FieldWork.TheVariants.{Refused, Done}
use Rattle.computed.specs.declared.Computed.TheVariants as computed
use Rattle.compute.specs.Answers.{zeroes, clears, told}

pub same_counts : {a a' b b' d d' e e' f f' : ℕ} → a ≡ a' → b ≡ b' → d ≡ d' → e ≡ e' → f ≡ f'
    → ◌≡◌ {A = OtherCounts} (record { vertex_reals = a; pieces = b; windows = d; scratch = e; other_scratch = f }) (record { vertex_reals = a'; pieces = b'; windows = d'; scratch = e'; other_scratch = f' })
same_counts p q r s t = λ i. record { vertex_reals = p i; pieces = q i; windows = r i; scratch = s i; other_scratch = t i }

module _ (w : FieldWork) where
  pub zeroes_refused : (k : ℕ) → w ≡ Refused k → ltb 9 k ≡ zeroes w
  zeroes_refused k h = sym (ap zeroes h)

  pub zeroes_done : (n : InsertCounts) (steps : ℕ) → w ≡ Done n steps → false ≡ zeroes w
  zeroes_done n steps h = sym (ap zeroes h)

  pub clears_refused : (k : ℕ) → w ≡ Refused k → ltb 9 k ≡ clears w
  clears_refused k h = sym (ap clears h)

  pub clears_done : (n : InsertCounts) (steps : ℕ) → w ≡ Done n steps → true ≡ clears w
  clears_done n steps h = sym (ap clears h)

  module _ (v t k edges : ℕ) where
    pub told_refused : (number : ℕ) → w ≡ Refused number → computed.Refused number ≡ told v t k edges w
    told_refused number h = sym (ap (told v t k edges) h)

    pub told_done : (n : InsertCounts) (steps a b c : ℕ) → w ≡ Done n steps → a ≡ slots_of v coordinates_per_vertex → b ≡ slots_of t vertices_per_triangle → c ≡ slots_of k 1
        → computed.Field (record { vertices = a; triangles = b; pieces = c; edges = edges; windows = n.trim.made; steps = steps }) ≡ told v t k edges w
    told_done n steps a b c h x y z = (λ i. computed.Field (record { vertices = x i; triangles = y i; pieces = z i; edges = edges; windows = n.trim.made; steps = steps })) ∙ sym (ap (told v t k edges) h)
