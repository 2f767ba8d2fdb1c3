-- What the parts of `compute` answer. Definitions only: the contract is `ComputesOver` of field_model.
use Rattle.std.specs.Prelude.{ℕ, min, Bool, true, false, ltb, Result, Ok, Err}
use Rattle.layout.specs.Layout.{coordinates_per_vertex, vertices_per_triangle, reals_per_vertex, words_per_piece, reals_per_piece}
use Rattle.buffers.specs.Slots.{slots_of}
use Rattle.windows.specs.Windows.{capacity_of}
use Rattle.field_model.specs.of_mesh.declared.OtherCounts.{OtherCounts}
use Rattle.field_model.specs.of_mesh.declared.Refusal.{Refusal}
use Rattle.make_field.specs.of_run_steps.declared.FieldWork.{FieldWork}
use Rattle.make_field.specs.of_run_steps.declared.FieldWork.TheVariants.{Refused, Done}
use Rattle.computed.specs.declared.Computed.{Computed}
use Rattle.computed.specs.declared.Computed.TheVariants as computed

-- the slots of slices of these lengths
abbrev pub other_counts_of : ℕ → ℕ → ℕ → ℕ → ℕ → ℕ → ℕ → OtherCounts
other_counts_of pw pr vertex words reals scratch other = record {
  vertex_reals = slots_of vertex reals_per_vertex;
  pieces = min (slots_of pw words_per_piece) (slots_of pr reals_per_piece);
  windows = capacity_of words reals;
  scratch = slots_of scratch 1;
  other_scratch = slots_of other 1;
}

abbrev pub edges_answered : Result ℕ Refusal → ℕ
edges_answered (Ok n) = n
edges_answered (Err e) = 0

-- whether every buffer is zeroed: by the refusals from 10 on
abbrev pub zeroes : FieldWork → Bool
zeroes (Refused k) = ltb 9 k
zeroes (Done n steps) = false

-- whether the scratch rows are: by a field too
abbrev pub clears : FieldWork → Bool
clears (Refused k) = ltb 9 k
clears (Done n steps) = true

-- the answer by value, of slices of these lengths and so many edges
abbrev pub told : ℕ → ℕ → ℕ → ℕ → FieldWork → Computed
told v t k edges (Refused number) = computed.Refused number
told v t k edges (Done n steps) = computed.Field (record {
  vertices = slots_of v coordinates_per_vertex;
  triangles = slots_of t vertices_per_triangle;
  pieces = slots_of k 1;
  edges = edges;
  windows = n.trim.made;
  steps = steps;
})
