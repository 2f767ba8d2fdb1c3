-- The loop that writes the pieces of a slip: after k of them. Assumes nothing.
use Prim.Native.Nat.{ℕ, zero, suc, ◌+◌, ◌-◌, ◌*◌, ◌≤◌, ◌<◌}
use native.Mathlib.Nat.{add-zero}
use native.Mathlib.Numerals.{add-one}
use native.Mathlib.Omega.{arith}
use mathlib.Core.Path.{◌≡◌, refl, ap, ◌∙◌}
use mathlib.Core.Bool.{true}
use mathlib.Core.List.{List}
use lib.ListN.{length, get_or, set, length-set, length-append}
use lib.Ieee.{Float}
use Rattle.nat_laws.specs.Lists.{list_of}
use Rattle.buffers.specs.Slots.{fill}
use Rattle.buffers.proofs.Strides.{fill_is, length_fill}
use Rattle.little_endian.specs.Bytes.{number_from, put_in_front}
use Rattle.little_endian.proofs.Front.{front_none, front_more, front_next}
use Rattle.slip.specs.Format.{is_job, piece_size, piece_from, piece_coords, kinds_in, faces_in, coords_in, pieces_from, after_pieces}
use Rattle.slip.proofs.Pieces.{stands}

pub length_coords_in : (s : List ℕ) (k : ℕ) → length (coords_in s k) ≡ 6 * k
unfolding coords_in piece_coords
length_coords_in s zero = refl
length_coords_in s (suc k) = length-append (coords_in s k) (piece_coords s (piece_from s k)) ∙ rw (length_coords_in s k) (omega arith)

pub record Walk (s : List ℕ) (n : ℕ) (kinds₀ faces₀ : List ℕ) (coords₀ : List Float) (kinds faces : List ℕ) (coords : List Float) (at k : ℕ) : Type 0 where
  pub same_kinds : length kinds ≡ length kinds₀
  pub same_faces : length faces ≡ length faces₀
  pub same_coords : length coords ≡ length coords₀
  pub room_kinds : n ≤ length kinds₀
  pub room_faces : n ≤ length faces₀
  pub room_coords : 6 * n ≤ length coords₀
  pub most : k ≤ n
  pub place : at ≡ piece_from s k
  pub rest : is_job (after_pieces s (n - k) at) ≡ true
  pub kinds_are : kinds ≡ put_in_front (kinds_in s k) kinds₀
  pub faces_are : faces ≡ put_in_front (faces_in s k) faces₀
  pub coords_are : coords ≡ put_in_front (coords_in s k) coords₀

module _ {s : List ℕ} {n : ℕ} {kinds₀ faces₀ : List ℕ} {coords₀ : List Float} where
  pub none_yet : (at : ℕ) → at ≡ pieces_from s → n ≤ length kinds₀ → n ≤ length faces₀ → 6 * n ≤ length coords₀ → is_job (after_pieces s n (pieces_from s)) ≡ true → Walk s n kinds₀ faces₀ coords₀ kinds₀ faces₀ coords₀ at 0
  unfolding kinds_in faces_in coords_in piece_from list_of
  none_yet at e rk rf rc j =
      let all : n - 0 ≡ n = omega arith in
      record {
        same_kinds = refl;
        same_faces = refl;
        same_coords = refl;
        room_kinds = rk;
        room_faces = rf;
        room_coords = rc;
        most = omega arith;
        place = e;
        rest = rw (all, e) j;
        kinds_are = front_none kinds₀;
        faces_are = front_none faces₀;
        coords_are = front_none coords₀;
      }

  module _ {kinds faces : List ℕ} {coords : List Float} {at k : ℕ} (w : Walk s n kinds₀ faces₀ coords₀ kinds faces coords at k) (h : k < n) where
    -- the piece stands whole
    pub piece_fits : at + piece_size (get_or s at 0) ≤ length s
    piece_fits = (stands s (n - k) at (omega arith) w.rest).0

    coords_next : fill 6 coords k 0 (piece_coords s at) ≡ put_in_front (coords_in s (k + 1)) coords₀
    unfolding coords_in piece_coords
    coords_next =
        fill_is 6 (piece_coords s at) coords k 0 ∙ rw (add-zero, w.coords_are, w.place, add-one)
        (front_more (coords_in s k) (piece_coords s (piece_from s k)) coords₀ (6 * k) (length_coords_in s k) (omega (arith, w.room_coords)))

    pub one_more : (face : ℕ) (coords' : List Float) (size : ℕ) → face ≡ number_from s (at + 1) → coords' ≡ fill 6 coords k 0 (piece_coords s at) → size ≡ piece_size (get_or s at 0)
        → Walk s n kinds₀ faces₀ coords₀ (set kinds k (get_or s at 0)) (set faces k face) coords' (at + size) (k + 1)
    unfolding kinds_in faces_in piece_from
    one_more face coords' size ef ec ez =
        let less : n - (k + 1) ≡ n - k - 1 = omega arith in
        record {
          same_kinds = length-set kinds k (get_or s at 0) ∙ w.same_kinds;
          same_faces = length-set faces k face ∙ w.same_faces;
          same_coords = ap length ec ∙ length_fill 6 (piece_coords s at) coords k 0 ∙ w.same_coords;
          room_kinds = w.room_kinds;
          room_faces = w.room_faces;
          room_coords = w.room_coords;
          most = omega arith;
          place = rw (ez, w.place, add-one);
          rest = rw (ez, less) (stands s (n - k) at (omega arith) w.rest).1;
          kinds_are = front_next (λ i. get_or s (piece_from s i) 0) kinds₀ kinds k (get_or s at 0) (ap (λ (i : ℕ). get_or s i 0) w.place) (omega (arith, w.room_kinds)) w.kinds_are;
          faces_are = front_next (λ i. number_from s (piece_from s i + 1)) faces₀ faces k face (ef ∙ ap (λ (i : ℕ). number_from s (i + 1)) w.place) (omega (arith, w.room_faces)) w.faces_are;
          coords_are = ec ∙ coords_next;
        }
