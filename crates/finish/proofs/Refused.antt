-- What a refusal leaves depends on nothing but the lengths of the slices as they were lent. Assumes nothing.
use mathlib.Core.Path.{◌≡◌}
use lib.ListN.{replicate}
use Rattle.float64.specs.Scalar.{zero64}
use Rattle.face_entries.specs.of_mesh.Topology.{mesh_buffers}
use Rattle.offers.specs.of_cut_lists.Buffers.{cut_buffers}
use Rattle.finish.specs.Contents.{FieldBuffers}
use Rattle.finish.specs.Refused.{zero_field, FieldLengths}

pub zero_lengths : (b b₁ : FieldBuffers) → FieldLengths b b₁ → zero_field b₁ ≡ zero_field b
zero_lengths b b₁ h = λ i. record {
  mesh = mesh_buffers (replicate (h.vertex_words_held i) 0) (replicate (h.edge_words_held i) 0) (replicate (h.edge_reals_held i) zero64) (replicate (h.round i) 0) (replicate (h.triangle_words_held i) 0) (replicate (h.triangle_reals i) zero64);
  vertex = replicate (h.vertex i) zero64;
  piece_words = replicate (h.piece_words i) 0;
  piece_reals = replicate (h.piece_reals i) zero64;
  words = replicate (h.same.words i) 0;
  reals = replicate (h.same.reals i) zero64;
  keys = replicate (h.same.keys i) zero64;
  events = replicate (h.same.events i) 0;
  cuts = cut_buffers (replicate (h.same.pts i) zero64) (replicate (h.same.out i) zero64) (replicate (h.same.keep i) zero64) (replicate (h.same.next i) zero64);
  entry_words_held = replicate (h.same.entry_words_held i) 0;
  scratch = replicate (h.scratch i) 0;
  other_scratch = replicate (h.other_scratch i) 0;
}
