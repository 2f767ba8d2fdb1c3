-- Pieces that stand in a slip are read as they were written. Assumes nothing.
use Prim.Native.Nat.{ℕ, ◌+◌, ◌*◌}
use native.Mathlib.Omega.{arith}
use mathlib.Core.Path.{◌≡◌, refl, sym, ◌∙◌}
use mathlib.Core.Bool.{Bool, true, false, cond}
use mathlib.Core.List.{List, [], ◌∷◌, ◌++◌, append_assoc}
use borrow.Author.Tests.{eqb-true}
use lib.Dec.{eqb}
use lib.ListN.{length, get_or, drop}
use lib.Ieee.{Float, nan}
use Rattle.float64.specs.Scalar.{zero64}
use Rattle.little_endian.specs.Bytes.{number_from, double_from, number_bytes, double_bytes}
use Rattle.slip.specs.Format.{piece_size, second_double_at, piece_coords}
use Rattle.slip_write.specs.Write.{three_bytes, piece_bytes}
use Rattle.slip_laws.specs.Whole.{IsDouble, IsNumber, NoSecond}
use Rattle.slip_laws.proofs.Parts.{past, first_here, number_here, double_here}
use Rattle.slip_write.proofs.Lengths.{length_double}

-- the six coordinates from coordinate m on
abbrev pub six : List Float → ℕ → List Float
six c m = get_or c m nan ∷ get_or c (m + 1) nan ∷ get_or c (m + 2) nan ∷ get_or c (m + 3) nan ∷ get_or c (m + 4) nan ∷ get_or c (m + 5) nan ∷ []

module _ (s : List ℕ) (c : List Float) (doubles : (k : ℕ) → IsDouble (get_or c k nan)) where
  three_here : (i m : ℕ) (rest : List ℕ) → drop i s ≡ three_bytes c m ++ rest
      → (double_from s i ≡ get_or c m nan) × ((double_from s (i + 8) ≡ get_or c (m + 1) nan) × (double_from s (i + 16) ≡ get_or c (m + 2) nan))
  unfolding three_bytes
  three_here i m rest h =
      let x = double_bytes (get_or c m nan) in
      let y = double_bytes (get_or c (m + 1) nan) in
      let z = double_bytes (get_or c (m + 2) nan) in
      let g : drop i s ≡ x ++ (y ++ (z ++ rest)) = h ∙ append_assoc (x ++ y) z rest ∙ append_assoc x y (z ++ rest) in
      let behind : drop (i + 8) s ≡ y ++ (z ++ rest) = past s i x (y ++ (z ++ rest)) 8 (length_double (get_or c m nan)) g in
      let last : drop (i + 8 + 8) s ≡ z ++ rest = past s (i + 8) y (z ++ rest) 8 (length_double (get_or c (m + 1) nan)) behind in
      let place : i + 16 ≡ i + 8 + 8 = omega arith in (
        double_here s i (get_or c m nan) (y ++ (z ++ rest)) (doubles m) g,
        (
          double_here s (i + 8) (get_or c (m + 1) nan) (z ++ rest) (doubles (m + 1)) behind,
          rw place (double_here s (i + 8 + 8) (get_or c (m + 2) nan) rest (doubles (m + 2)) last),
        ),
      )

  second_here : (b : Bool) (i k : ℕ) (rest : List ℕ) → (b ≡ true → NoSecond c k) → drop (i + 29) s ≡ cond b [] (three_bytes c (6 * k + 3)) ++ rest
      → (cond b zero64 (double_from s (i + 29)) ≡ get_or c (6 * k + 3) nan)
      × ((cond b zero64 (double_from s (i + 37)) ≡ get_or c (6 * k + 4) nan) × (cond b zero64 (double_from s (i + 45)) ≡ get_or c (6 * k + 5) nan))
  second_here true i k rest p h = (sym (p refl).0, (sym (p refl).1.0, sym (p refl).1.1))
  second_here false i k rest p h =
      let r = three_here (i + 29) (6 * k + 3) rest h in
      let p37 : i + 37 ≡ i + 29 + 8 = omega arith in
      let p45 : i + 45 ≡ i + 29 + 16 = omega arith in
      let p4 : 6 * k + 4 ≡ 6 * k + 3 + 1 = omega arith in
      let p5 : 6 * k + 5 ≡ 6 * k + 3 + 2 = omega arith in
      (r.0, (rw (p37, p4) r.1.0, rw (p45, p5) r.1.1))

pub length_piece : (kinds faces : List ℕ) (c : List Float) (k : ℕ) → length (piece_bytes kinds faces c k) ≡ piece_size (get_or kinds k 0)
unfolding piece_bytes piece_size three_bytes number_bytes double_bytes
length_piece kinds faces c k = go (eqb (get_or kinds k 0) 0) where
  go : (b : Bool) → length ((get_or kinds k 0 ∷ []) ++ number_bytes (get_or faces k 0) ++ three_bytes c (6 * k) ++ cond b [] (three_bytes c (6 * k + 3))) ≡ cond b 29 53
  go true = refl
  go false = refl

-- piece k stands from byte i on
module _ (s : List ℕ) (kinds faces : List ℕ) (c : List Float) (i k : ℕ) (rest : List ℕ) (h : drop i s ≡ piece_bytes kinds faces c k ++ rest) where
  pub kind_here : get_or s i 0 ≡ get_or kinds k 0
  unfolding piece_bytes
  kind_here = first_here s i (get_or kinds k 0) _ h

  face_bytes : List ℕ
  face_bytes = (get_or kinds k 0 ∷ []) ++ number_bytes (get_or faces k 0)

  second_bytes : List ℕ
  second_bytes = cond (eqb (get_or kinds k 0) 0) [] (three_bytes c (6 * k + 3))

  from_face : drop i s ≡ face_bytes ++ (three_bytes c (6 * k) ++ (second_bytes ++ rest))
  unfolding piece_bytes face_bytes second_bytes
  from_face =
      h ∙ append_assoc (face_bytes ++ three_bytes c (6 * k)) second_bytes rest ∙ append_assoc face_bytes (three_bytes c (6 * k)) (second_bytes ++ rest)

  pub face_here : IsNumber (get_or faces k 0) → number_from s (i + 1) ≡ get_or faces k 0
  unfolding face_bytes
  face_here l =
      let more = three_bytes c (6 * k) ++ (second_bytes ++ rest) in
      number_here s (i + 1) (get_or faces k 0) more l (past s i (get_or kinds k 0 ∷ []) (number_bytes (get_or faces k 0) ++ more) 1 refl from_face)

  from_coords : drop (i + 5) s ≡ three_bytes c (6 * k) ++ (second_bytes ++ rest)
  unfolding face_bytes number_bytes
  from_coords = past s i face_bytes (three_bytes c (6 * k) ++ (second_bytes ++ rest)) 5 refl from_face

  from_second : drop (i + 29) s ≡ second_bytes ++ rest
  unfolding three_bytes double_bytes number_bytes
  from_second =
      let place : i + 29 ≡ i + 5 + 24 = omega arith in rw place (past s (i + 5) (three_bytes c (6 * k)) (second_bytes ++ rest) 24 refl from_coords)

  pub coords_here : ((m : ℕ) → IsDouble (get_or c m nan)) → (get_or kinds k 0 ≡ 0 → NoSecond c k) → piece_coords s i ≡ six c (6 * k)
  unfolding piece_coords second_double_at second_bytes
  coords_here doubles point =
      let p13 : i + 13 ≡ i + 5 + 8 = omega arith in
      let p21 : i + 21 ≡ i + 5 + 16 = omega arith in
      let a = three_here s c doubles (i + 5) (6 * k) (second_bytes ++ rest) from_coords in
      let b = second_here s c doubles (eqb (get_or kinds k 0) 0) i k rest (λ e. point (eqb-true (get_or kinds k 0) 0 e)) from_second in
      rw (kind_here, p13, p21, a.0, a.1.0, a.1.1, b.0, b.1.0, b.1.1)
