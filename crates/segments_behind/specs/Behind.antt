-- The Rust's `behind`: for a face and coordinate bits, the directions in which the face's segments leave the point of these bits. Definitions only.
use Rattle.std.specs.Prelude.{ℕ, ◌*◌, ◌/◌, ◌%◌, Bool, ◌&&◌, List, map, eqb, length, get_or, Float, if◌then◌else◌}
use Rattle.std.specs.Float.Ieee.{neg}
use Rattle.layout.specs.Layout.{reals_per_piece}
use Rattle.float64.specs.Scalar.{one}
use Rattle.vec3.specs.declared.Vec3.{Vec3}
use Rattle.vec3.specs.Vec.{scale_of}
use Rattle.frames.specs.Stored.{vector_at}
use Rattle.piece_ends.specs.Ends.{passing, has_bits}
use Rattle.piece_ends.specs.Directions.{is_long, direction_of}
use Rattle.piece_ends.specs.Walk.{find_along, next_link_at}

-- end e of a segment with the direction d: the second end's is turned
abbrev pub turned_at : ℕ → Vec3 → Vec3
turned_at e d = if eqb (e % 2) 0 then d else scale_of d (neg one)

module _ (kinds faces : List ℕ) (coords : List Float) where
  -- end e is of a segment of face g, of computed length above zero
  unfoldable pub in_face : ℕ → ℕ → Bool
  in_face g e = eqb (get_or faces (e / 2) 0) g && is_long kinds coords (e / 2)

  -- the ends that the Rust enters under the key of face g and the bits of p, in its order
  unfoldable pub ends_behind : ℕ → Vec3 → List ℕ
  ends_behind g p = passing (λ (e : ℕ). has_bits kinds coords p e && in_face g e) (2 * length kinds) 0

  -- and what it enters: the Rust's `behind[(g, bits of p)]`
  unfoldable pub behind_in : ℕ → Vec3 → List Vec3
  behind_in g p = map (λ (e : ℕ). turned_at e (direction_of kinds coords (e / 2))) (ends_behind g p)

  -- ---- over the pieces' buffer
  module _ (words : List ℕ) (pieces : ℕ) where
    -- the link to the first of these ends from a link on, and to the next behind end e
    abbrev pub first_behind_at : ℕ → ℕ → ℕ
    first_behind_at g link = find_along (next_link_at coords words pieces) (in_face g) (2 * pieces) link

    unfoldable pub next_behind_at : ℕ → ℕ → ℕ
    next_behind_at g e = first_behind_at g (next_link_at coords words pieces e)

-- the direction in which the segment of end e leaves it
abbrev pub leaving_at : List Float → ℕ → Vec3
leaving_at reals e = turned_at e (vector_at reals_per_piece reals (e / 2) 0)
