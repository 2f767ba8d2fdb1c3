-- The tests of the Rust's main loop, and the distance that a vertex has emitted. Definitions only.
use Rattle.std.specs.Prelude.{ℕ, ◌+◌, ◌*◌, Bool, not, ◌&&◌, ◌||◌, List, eqb, get_or, set, Float}
use Rattle.std.specs.Float.{nan}
use Rattle.std.specs.Float.Ieee.{lt, le}
use Rattle.layout.specs.Layout.{reals_per_vertex, vertex_emitted}
use Rattle.float64.specs.Scalar.{one}
use Rattle.float64.specs.Notation.{◌⊕◌, ◌⊖◌, ◌⊗◌}
use Rattle.buffers.specs.declared.FaceId.{FaceId}
use Rattle.source.specs.declared.Src.{Src}
use Rattle.source.specs.Distance.{lowest_of}
use Rattle.better.specs.Cutting.{tolerance}
use Rattle.topology.specs.Edges.{no_face}

-- not `d < key || d >= field.emitted[id] - 1e-10 * (1. + d)`
unfoldable pub emits_of : Float → Float → Float → Bool
emits_of d key emitted = not (lt d key || le (emitted ⊖ tolerance ⊗ (one ⊕ d)) d)

-- `w.into != NONE && w.src.lowest(w.b0, w.b1) <= field.limit`
unfoldable pub goes_on_of : FaceId → Float → Float → Src → Float → Bool
goes_on_of into b0 b1 src limit = not (eqb into.0 no_face) && le (lowest_of src b0 b1) limit

-- the Rust's `emitted[v]`, and with d in its place
abbrev pub emitted_of : List Float → ℕ → Float
emitted_of vertex v = get_or vertex (reals_per_vertex * v + vertex_emitted) nan

abbrev pub with_emitted : List Float → ℕ → Float → List Float
with_emitted vertex v d = set vertex (reals_per_vertex * v + vertex_emitted) d
