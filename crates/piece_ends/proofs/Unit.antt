-- The directions as the code computes them, and read from the buffer that `directions` leaves. Assumes nothing.
use Prim.Native.Nat.{ℕ, ◌+◌, ◌*◌, ◌<◌, ◌≤◌}
use mathlib.Core.Path.{◌≡◌, refl, sym, ap, ◌∙◌}
use mathlib.Core.Bool.{true, false, and-false}
use mathlib.Core.List.{List}
use lib.Ieee.{Float, lt}
use lib.ListN.{length, set, replicate, length-replicate}
use native.Mathlib.Omega.{arith}
use Rattle.layout.specs.Layout.{reals_per_piece}
use Rattle.float64.specs.Scalar.{zero64, one}
use Rattle.float64.specs.Notation.{◌⊘◌}
use Rattle.vec3.specs.declared.Vec3.{Vec3}
use Rattle.vec3.specs.Vec.{scale_of, sub_of, norm_of}
use Rattle.buffers.specs.Slots.{fill}
use Rattle.buffers.specs.Zero.{zero_from}
use Rattle.job_checks.specs.Edge.{len_of, xhat_of}
use Rattle.frames.specs.Stored.{vector_at, with_rows, row3}
use Rattle.frames.proofs.Rows.{vectors_at, zero_past_rows}
use Rattle.piece_ends.specs.Ends.{end_point, is_end}
use Rattle.piece_ends.specs.Directions.{is_long, direction_of, piece_reals_of}

module _ (kinds : List ℕ) (coords : List Float) (i : ℕ) where
  pub no_second : is_end kinds (2 * i + 1) ≡ false → is_long kinds coords i ≡ false
  unfolding is_long
  no_second h = rw h refl

  pub long_direction : is_long kinds coords i ≡ true → direction_of kinds coords i ≡ xhat_of (end_point coords (2 * i)) (end_point coords (2 * i + 1))
  unfolding direction_of
  long_direction h = rw h refl

  pub no_direction : is_long kinds coords i ≡ false → record { x = zero64; y = zero64; z = zero64 } ≡ direction_of kinds coords i
  unfolding direction_of
  no_direction h = rw h refl

  -- for the values that the code computed
  module _ (a b d : Vec3) (len : Float) (is-a : a ≡ end_point coords (2 * i)) (is_b : b ≡ end_point coords (2 * i + 1)) (is-d : d ≡ sub_of b a) (is-len : len ≡ norm_of d) where
    vector_is : d ≡ sub_of (end_point coords (2 * i + 1)) (end_point coords (2 * i))
    vector_is = is-d ∙ (λ j. sub_of (is_b j) (is-a j))

    length_is : len ≡ len_of (end_point coords (2 * i)) (end_point coords (2 * i + 1))
    unfolding len_of
    length_is = is-len ∙ ap norm_of vector_is

    pub long_is : is_end kinds (2 * i + 1) ≡ true → lt zero64 len ≡ true → is_long kinds coords i ≡ true
    unfolding is_long
    long_is end h = rw (end, ← length_is, h) refl

    pub short_is : lt zero64 len ≡ false → is_long kinds coords i ≡ false
    unfolding is_long
    short_is h = rw (← length_is, h) (and-false (is_end kinds (2 * i + 1)))

    scaled_is : scale_of d (one ⊘ len) ≡ xhat_of (end_point coords (2 * i)) (end_point coords (2 * i + 1))
    unfolding xhat_of
    scaled_is = λ j. scale_of (vector_is j) (one ⊘ length_is j)

    pub direction_is : (r : Vec3) → is_end kinds (2 * i + 1) ≡ true → lt zero64 len ≡ true → r ≡ scale_of d (one ⊘ len) → r ≡ direction_of kinds coords i
    direction_is r end h e = e ∙ (scaled_is ∙ sym (long_direction (long_is end h)))

  -- one written
  pub stored_is : (u : Vec3) (r r₁ r₂ r₃ : List Float) → u ≡ direction_of kinds coords i → r₁ ≡ set r (reals_per_piece * i + 0) u.x → r₂ ≡ set r₁ (reals_per_piece * i + 1) u.y → r₃ ≡ set r₂ (reals_per_piece * i + 2) u.z → r₃ ≡ fill reals_per_piece r i 0 (row3 (direction_of kinds coords i))
  unfolding fill
  stored_is u r r₁ r₂ r₃ is-u one two three =
      three ∙ ((λ j. set ((two ∙ (λ k. set (one k) (reals_per_piece * i + 1) u.y)) j) (reals_per_piece * i + 2) u.z) ∙ ap (λ (v : Vec3). fill reals_per_piece r i 0 (row3 v)) is-u)

module _ (kinds : List ℕ) (coords : List Float) where
  -- all written, and the rest zeroed
  pub directions_made : (r₀ r out : List Float) → r ≡ with_rows reals_per_piece (λ (i : ℕ). row3 (direction_of kinds coords i)) (length kinds) r₀ → out ≡ zero_from zero64 (reals_per_piece * length kinds) r → out ≡ piece_reals_of kinds coords (length r₀)
  unfolding piece_reals_of
  directions_made r₀ r out written zeroed =
      zeroed ∙ (ap (zero_from zero64 (reals_per_piece * length kinds)) written ∙ zero_past_rows zero64 reals_per_piece (λ (i : ℕ). row3 (direction_of kinds coords i)) (λ k. refl) (length kinds) r₀)

  -- the direction of a piece, read from the buffer
  pub direction_held : (n i : ℕ) → i < length kinds → reals_per_piece * length kinds ≤ n → vector_at reals_per_piece (piece_reals_of kinds coords n) i 0 ≡ direction_of kinds coords i
  unfolding piece_reals_of
  direction_held n i l room = vectors_at (direction_of kinds coords) (length kinds) (replicate n zero64) i l (omega (arith, length-replicate n zero64))
