-- One question to a field that passed refusal 20, as a caller in C or Rust is answered: 20 is not tried again, only whether the slices have the field's slots. Definitions only.
use Rattle.std.specs.Prelude.{ℕ, Bool, ◌&&◌, List, leb, Float, length, if◌then◌else◌}
use Rattle.std.proofs.Math.ListN.{set}
use Rattle.layout.specs.Layout.{words_per_edge}
use Rattle.buffers.specs.Slots.{slots_of}
use Rattle.vec3.specs.declared.Vec3.{Vec3}
use Rattle.windows.specs.Windows.{capacity_of}
use Rattle.computed.specs.declared.Field.{Field}
use Rattle.queries.specs.of_field_check.FieldCheck.{JobSlices, FieldSlices}
use Rattle.queries.specs.Answers.{face_answer_number, edge_answer_number, face_value, edge_value}
use Rattle.queries.specs.Queries.{face_answer, edge_answer}

-- slices of so many numbers have a slot for each edge and each window of the field
unfoldable pub fits : Field → ℕ → ℕ → ℕ → Bool
fits n edge_words words reals = leb n.edges (slots_of edge_words words_per_edge) && leb n.windows (capacity_of words reals)

abbrev pub field_fits_in : Field → FieldSlices → Bool
field_fits_in n b = fits n (length b.edge_words_held) (length b.words) (length b.reals)

-- the number that is answered, and the distance, written to the first element
module _ (n : Field) (j : JobSlices) (b : FieldSlices) where
  unfoldable pub asked_face : ℕ → Vec3 → List Float → ℕ × List Float
  unfolding fits
  asked_face f p d = if field_fits_in n b then (face_answer_number (face_answer n b j f p), set d 0 (face_value (face_answer n b j f p))) else (20, d)

  unfoldable pub asked_edge : ℕ → Float → List Float → ℕ × List Float
  unfolding fits
  asked_edge e x d = if field_fits_in n b then (edge_answer_number (edge_answer n b e x), set d 0 (edge_value (edge_answer n b e x))) else (20, d)
