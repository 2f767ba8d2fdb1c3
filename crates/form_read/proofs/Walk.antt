-- The loop that writes the pieces of a slip in groups: after k of them. Assumes nothing.
use Prim.Native.Nat.{ℕ, zero, suc, ◌+◌, ◌-◌, ◌*◌, ◌≤◌, ◌<◌}
use native.Mathlib.Nat.{add-zero}
use native.Mathlib.Numerals.{add-one}
use native.Mathlib.Omega.{arith}
use mathlib.Core.Path.{◌≡◌, refl, ap, ◌∙◌}
use mathlib.Core.Bool.{true}
use mathlib.Core.List.{List}
use lib.ListN.{length, get_or, set, length-set, length-append}
use lib.Ieee.{Float}
use Rattle.nat_laws.specs.Lists.{list_of}
use Rattle.buffers.specs.Slots.{fill}
use Rattle.buffers.proofs.Strides.{fill_is, length_fill}
use Rattle.little_endian.specs.Bytes.{put_in_front}
use Rattle.little_endian.proofs.Front.{front_none, front_more, front_next}
use Rattle.groups.specs.declared.Form.TheVariants.{Plain, Groups}
use Rattle.groups.specs.Groups.{number_at}
use Rattle.slip_moves.specs.Moves.{ends_size, pieces_moved}
use Rattle.form_read.specs.Places.{value_read, is_put, ends_from, piece_place, ends_in, kinds_from, faces_from, coords_from}
use Rattle.form_read.specs.There.{PieceThere, PiecesThere}
use Rattle.form_read.proofs.Parts.{piece_there}

pub length_coords_from : (s : List ℕ) (i k : ℕ) → length (coords_from s i k) ≡ 6 * k
unfolding coords_from ends_in
length_coords_from s i zero = refl
length_coords_from s i (suc k) = length-append (coords_from s i k) (ends_in s (piece_place s i k)) ∙ rw (length_coords_from s i k) (omega arith)

pub record Walk (s : List ℕ) (from n : ℕ) (kinds₀ faces₀ : List ℕ) (coords₀ : List Float) (kinds faces : List ℕ) (coords : List Float) (at k : ℕ) : Type 0 where
  pub same_kinds : length kinds ≡ length kinds₀
  pub same_faces : length faces ≡ length faces₀
  pub same_coords : length coords ≡ length coords₀
  pub room_kinds : n ≤ length kinds₀
  pub room_faces : n ≤ length faces₀
  pub room_coords : 6 * n ≤ length coords₀
  pub most : k ≤ n
  pub near : at ≤ from + 54 * k
  pub place : at ≡ piece_place s from k
  pub rest : is_put (pieces_moved Groups Plain s (n - k) at) ≡ true
  pub kinds_are : kinds ≡ put_in_front (kinds_from s from k) kinds₀
  pub faces_are : faces ≡ put_in_front (faces_from s from k) faces₀
  pub coords_are : coords ≡ put_in_front (coords_from s from k) coords₀

module _ {s : List ℕ} {from n : ℕ} {kinds₀ faces₀ : List ℕ} {coords₀ : List Float} where
  pub none_yet : PiecesThere s from n (length kinds₀) (length faces₀) (length coords₀) → Walk s from n kinds₀ faces₀ coords₀ kinds₀ faces₀ coords₀ from 0
  unfolding kinds_from faces_from coords_from piece_place list_of
  none_yet p =
      let all : n - 0 ≡ n = omega arith in
      record {
        same_kinds = refl;
        same_faces = refl;
        same_coords = refl;
        room_kinds = p.kinds_fit;
        room_faces = p.faces_fit;
        room_coords = p.coords_fit;
        most = omega arith;
        near = omega arith;
        place = refl;
        rest = rw all p.stand;
        kinds_are = front_none kinds₀;
        faces_are = front_none faces₀;
        coords_are = front_none coords₀;
      }

  module _ {kinds faces : List ℕ} {coords : List Float} {at k : ℕ} (w : Walk s from n kinds₀ faces₀ coords₀ kinds faces coords at k) (h : k < n) where
    -- the piece stands whole
    pub piece_fits : PieceThere s at (ends_from s at)
    piece_fits = (piece_there s (n - k) at (omega arith) w.rest).0

    coords_next : fill 6 coords k 0 (ends_in s at) ≡ put_in_front (coords_from s from (k + 1)) coords₀
    unfolding coords_from ends_in
    coords_next =
        fill_is 6 (ends_in s at) coords k 0 ∙ rw (add-zero, w.coords_are, w.place, add-one)
        (front_more (coords_from s from k) (ends_in s (piece_place s from k)) coords₀ (6 * k) (length_coords_from s from k) (omega (arith, w.room_coords)))

    pub one_more : (face : ℕ) (coords' : List Float) (next : ℕ) → face ≡ value_read (number_at Groups s (at + 1)) → coords' ≡ fill 6 coords k 0 (ends_in s at)
        → next ≡ ends_from s at + ends_size (get_or s at 0) → next ≤ at + 54 → Walk s from n kinds₀ faces₀ coords₀ (set kinds k (get_or s at 0)) (set faces k face) coords' next (k + 1)
    unfolding kinds_from faces_from piece_place
    one_more face coords' next ef ec en l =
        let less : n - (k + 1) ≡ n - k - 1 = omega arith in
        record {
          same_kinds = length-set kinds k (get_or s at 0) ∙ w.same_kinds;
          same_faces = length-set faces k face ∙ w.same_faces;
          same_coords = ap length ec ∙ length_fill 6 (ends_in s at) coords k 0 ∙ w.same_coords;
          room_kinds = w.room_kinds;
          room_faces = w.room_faces;
          room_coords = w.room_coords;
          most = omega arith;
          near = omega (arith, w.near, l);
          place = rw (en, w.place, add-one);
          rest = rw (en, less) (piece_there s (n - k) at (omega arith) w.rest).1;
          kinds_are = front_next (λ i. get_or s (piece_place s from i) 0) kinds₀ kinds k (get_or s at 0) (ap (λ (i : ℕ). get_or s i 0) w.place) (omega (arith, w.room_kinds)) w.kinds_are;
          faces_are = front_next (λ i. value_read (number_at Groups s (piece_place s from i + 1))) faces₀ faces k face (ef ∙ ap (λ (i : ℕ). value_read (number_at Groups s (i + 1))) w.place) (omega (arith, w.room_faces)) w.faces_are;
          coords_are = ec ∙ coords_next;
        }
