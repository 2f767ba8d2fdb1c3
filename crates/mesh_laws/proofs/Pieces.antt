-- The points of the pieces of a job that passed checks 6 and 7 are in range. Assumes nothing.
--     start_in_range; end_in_range (of a segment: a point's last three coordinates may be anything)
use Prim.Native.Nat.{ℕ, ◌+◌, ◌*◌, ◌/◌, ◌%◌, ◌<◌}
use mathlib.Core.Bool.{true, not, ◌&&◌, ◌||◌, and-true, or-true}
use mathlib.Core.List.{List}
use mathlib.Core.Path.{◌≡◌, refl, sym, ◌∙◌}
use native.Mathlib.Omega.{arith}
use borrow.Author.Tests.{lt-ltb, ne_eqb}
use lib.Dec.{ltb, eqb}
use lib.ListN.{length, get_or}
use lib.Ieee.{Float, nan}
use Rattle.layout.specs.Layout.{coordinates_per_vertex, coordinates_per_piece}
use Rattle.float_bounds.specs.Within.{Within}
use Rattle.job_checks.specs.Refusals.{max_coordinate, out_of_range, used_out_of_range}
use Rattle.job_checks.specs.Sound.{SoundPieces}
use Rattle.mesh_laws.specs.Bounds.{PointInRange}
use Rattle.mesh_laws.specs.Pieces.{piece_start, piece_end}
use Rattle.mesh_laws.proofs.Edges.{number_in_range}

module _ (triangles : ℕ) (kinds faces : List ℕ) (coords : List Float) (s : SoundPieces triangles kinds faces coords) where
  -- a coordinate that is used
  used : (i : ℕ) → i < length coords → (ltb (i % coordinates_per_piece) coordinates_per_vertex || not (eqb (get_or kinds (i / coordinates_per_piece) 0) 0)) ≡ true → Within max_coordinate (get_or coords i nan)
  unfolding used_out_of_range
  used i l q = number_in_range (get_or coords i nan) (sym (and-true (out_of_range (get_or coords i nan))) ∙ ((λ t. out_of_range (get_or coords i nan) && sym q t) ∙ s.piece_in_range i l))

  module _ (p : ℕ) (l : coordinates_per_piece * p + 5 < length coords) where
    first : (a : ℕ) → a < coordinates_per_vertex → Within max_coordinate (get_or coords (coordinates_per_piece * p + a) nan)
    first a m = used (coordinates_per_piece * p + a) (omega arith) (rw (lt-ltb ((coordinates_per_piece * p + a) % coordinates_per_piece) coordinates_per_vertex (omega arith)) refl)

    pub start_in_range : PointInRange (piece_start coords p)
    start_in_range =
        let z : coordinates_per_piece * p + 0 ≡ coordinates_per_piece * p = omega arith in
        record { x_within = rw z at (first 0 (omega arith)); y_within = first 1 (omega arith); z_within = first 2 (omega arith) }

    module _ (segment : get_or kinds p 0 ≡ 0 → ⊥) where
      last : (a : ℕ) → a < coordinates_per_piece → Within max_coordinate (get_or coords (coordinates_per_piece * p + a) nan)
      last a m =
          let z : (coordinates_per_piece * p + a) / coordinates_per_piece ≡ p = omega arith in
          used (coordinates_per_piece * p + a) (omega arith) (rw (z, ne_eqb (get_or kinds p 0) 0 segment) (or-true (ltb ((coordinates_per_piece * p + a) % coordinates_per_piece) coordinates_per_vertex)))

      pub end_in_range : PointInRange (piece_end coords p)
      end_in_range = record { x_within = last 3 (omega arith); y_within = last 4 (omega arith); z_within = last 5 (omega arith) }
