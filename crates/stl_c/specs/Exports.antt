-- An answer as one number, for programs in C and Rust. Definitions only.
use Rattle.std.specs.Prelude.{ℕ, ◌*◌, List, Float, Result, Ok, Err}
use Rattle.stl_format.specs.declared.StlCounts.{StlCounts}
use Rattle.stl_format.specs.declared.StlRefusal.{StlRefusal}
use Rattle.stl_format.specs.Format.{StlMesh}
use Rattle.stl_format.specs.Answers.{refusal_number, stl_reading, stl_writing}

-- a refusal in the upper 32 bits, or else how many vertices were read or bytes written
abbrev pub packed_refusal : StlRefusal → ℕ
packed_refusal why = 4294967296 * refusal_number why

abbrev pub packed_mesh : Result StlCounts StlRefusal → ℕ
packed_mesh (Ok counts) = counts.vertices
packed_mesh (Err why) = packed_refusal why

abbrev pub packed_file : Result ℕ StlRefusal → ℕ
packed_file (Ok bytes) = bytes
packed_file (Err why) = packed_refusal why

unfoldable pub packed_reading : List ℕ → StlMesh → ℕ × StlMesh
packed_reading s b = (packed_mesh (stl_reading s b).0, (stl_reading s b).1)

unfoldable pub packed_writing : List Float → List ℕ → List ℕ → ℕ × List ℕ
packed_writing v t out = (packed_file (stl_writing v t out).0, (stl_writing v t out).1)
