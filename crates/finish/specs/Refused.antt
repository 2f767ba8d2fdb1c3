-- What a refusal by 10 to 15 or 17 leaves: zeros in every buffer. Definitions only.
use Rattle.std.specs.Prelude.{Bool, true, ◌≡◌, length}
use Rattle.zero_buffers.specs.ZeroIf.{words_if, reals_if, mesh_if, cuts_if}
use Rattle.finish.specs.Contents.{FieldBuffers, WorkLengths}

-- all groups of crate zero_buffers
abbrev pub field_if : Bool → FieldBuffers → FieldBuffers
field_if stop b = record {
  mesh = mesh_if stop b.mesh;
  vertex = reals_if stop b.vertex;
  piece_words = words_if stop b.piece_words;
  piece_reals = reals_if stop b.piece_reals;
  words = words_if stop b.words;
  reals = reals_if stop b.reals;
  keys = reals_if stop b.keys;
  events = words_if stop b.events;
  cuts = cuts_if stop b.cuts;
  entry_words_held = words_if stop b.entry_words_held;
  scratch = words_if stop b.scratch;
  other_scratch = words_if stop b.other_scratch;
}

abbrev pub zero_field : FieldBuffers → FieldBuffers
zero_field b = field_if true b

-- every slice as long as it was lent
pub record FieldLengths (b b₁ : FieldBuffers) : Type 0 where
  pub same : WorkLengths b b₁
  pub vertex_words_held : length b₁.mesh.vertex_words_held ≡ length b.mesh.vertex_words_held
  pub edge_words_held : length b₁.mesh.edge_words_held ≡ length b.mesh.edge_words_held
  pub edge_reals_held : length b₁.mesh.edge_reals_held ≡ length b.mesh.edge_reals_held
  pub round : length b₁.mesh.round ≡ length b.mesh.round
  pub triangle_words_held : length b₁.mesh.triangle_words_held ≡ length b.mesh.triangle_words_held
  pub triangle_reals : length b₁.mesh.triangle_reals ≡ length b.mesh.triangle_reals
  pub vertex : length b₁.vertex ≡ length b.vertex
  pub piece_words : length b₁.piece_words ≡ length b.piece_words
  pub piece_reals : length b₁.piece_reals ≡ length b.piece_reals
  pub scratch : length b₁.scratch ≡ length b.scratch
  pub other_scratch : length b₁.other_scratch ≡ length b.other_scratch
