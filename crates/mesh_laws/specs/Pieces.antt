-- The points of a source piece in a job's coordinates, six for each piece: where it starts, and where a segment ends. Definitions only.
use Rattle.std.specs.Prelude.{ℕ, ◌+◌, ◌*◌, List, get_or, Float}
use Rattle.std.specs.Float.{nan}
use Rattle.layout.specs.Layout.{coordinates_per_piece}
use Rattle.vec3.specs.declared.Vec3.{Vec3}

abbrev pub piece_start : List Float → ℕ → Vec3
piece_start coords i = record { x = get_or coords (coordinates_per_piece * i) nan; y = get_or coords (coordinates_per_piece * i + 1) nan; z = get_or coords (coordinates_per_piece * i + 2) nan }

abbrev pub piece_end : List Float → ℕ → Vec3
piece_end coords i = record { x = get_or coords (coordinates_per_piece * i + 3) nan; y = get_or coords (coordinates_per_piece * i + 4) nan; z = get_or coords (coordinates_per_piece * i + 5) nan }
