-- The pieces of a slip are walked over as they were written. Assumes nothing.
use Prim.Native.Nat.{ℕ, zero, suc, ◌+◌, ◌-◌, ◌*◌, ◌≤◌, ◌<◌}
use native.Mathlib.Nat.{add-zero}
use native.Mathlib.Omega.{arith}
use mathlib.Core.Path.{◌≡◌, refl, sym, ap, ◌∙◌}
use mathlib.Core.List.{List, [], ◌∷◌, ◌++◌, append_assoc}
use lib.ListN.{length, get_or, drop}
use lib.Ieee.{Float, nan}
use Rattle.nat_laws.specs.Lists.{list_of}
use Rattle.slip.specs.Format.{piece_size, pieces_from, piece_from, kinds_in, faces_in, coords_in, after_pieces}
use Rattle.slip.proofs.Pieces.{size_bounds, next_piece}
use Rattle.slip_write.specs.Write.{piece_bytes, pieces_bytes}
use Rattle.slip_laws.specs.Whole.{IsDouble, IsNumber, NoSecond}
use Rattle.slip_laws.proofs.Parts.{past, reaches}
use Rattle.slip_laws.proofs.Pieces.{six, length_piece, kind_here, face_here, coords_here}

list_six : (c : List Float) (n : ℕ) → list_of (6 * suc n) (λ k. get_or c k nan) ≡ list_of (6 * n) (λ k. get_or c k nan) ++ six c (6 * n)
unfolding list_of
list_six c n =
    let f : ℕ → Float = λ k. get_or c k nan in
    let all : 6 * suc n ≡ suc (suc (suc (suc (suc (suc (6 * n)))))) = omega arith in
    let p1 : 6 * n + 1 ≡ suc (6 * n) = omega arith in
    let p2 : 6 * n + 2 ≡ suc (suc (6 * n)) = omega arith in
    let p3 : 6 * n + 3 ≡ suc (suc (suc (6 * n))) = omega arith in
    let p4 : 6 * n + 4 ≡ suc (suc (suc (suc (6 * n)))) = omega arith in
    let p5 : 6 * n + 5 ≡ suc (suc (suc (suc (suc (6 * n))))) = omega arith in
    rw (all, p1, p2, p3, p4, p5) (spread (list_of (6 * n) f) (f (6 * n)) _ _ _ _ _)
  where
    spread : (l : List Float) (x0 x1 x2 x3 x4 x5 : Float)
        → l ++ (x0 ∷ []) ++ (x1 ∷ []) ++ (x2 ∷ []) ++ (x3 ∷ []) ++ (x4 ∷ []) ++ (x5 ∷ []) ≡ l ++ (x0 ∷ x1 ∷ x2 ∷ x3 ∷ x4 ∷ x5 ∷ [])
    spread l x0 x1 x2 x3 x4 x5 = simp append_assoc

module _ (s kinds faces : List ℕ) (c : List Float) where
  one_less : (n : ℕ) (rest : List ℕ) → drop (pieces_from s) s ≡ pieces_bytes kinds faces c (suc n) ++ rest
      → drop (pieces_from s) s ≡ pieces_bytes kinds faces c n ++ (piece_bytes kinds faces c n ++ rest)
  unfolding pieces_bytes
  one_less n rest h = h ∙ append_assoc (pieces_bytes kinds faces c n) (piece_bytes kinds faces c n) rest

  -- what stands behind n pieces
  pub pieces_past : (n : ℕ) (rest : List ℕ) → drop (pieces_from s) s ≡ pieces_bytes kinds faces c n ++ rest → drop (piece_from s n) s ≡ rest
  unfolding piece_from pieces_bytes
  pieces_past zero rest h = h
  pieces_past (suc n) rest h =
      let g = pieces_past n (piece_bytes kinds faces c n ++ rest) (one_less n rest h) in
      past s (piece_from s n) (piece_bytes kinds faces c n) rest (piece_size (get_or s (piece_from s n) 0))
      (length_piece kinds faces c n ∙ ap piece_size (sym (kind_here s kinds faces c (piece_from s n) n rest g))) g

  pub kinds_read : (n : ℕ) (rest : List ℕ) → drop (pieces_from s) s ≡ pieces_bytes kinds faces c n ++ rest → kinds_in s n ≡ list_of n (λ k. get_or kinds k 0)
  unfolding kinds_in list_of
  kinds_read zero rest h = refl
  kinds_read (suc n) rest h =
      let g = one_less n rest h in
      let last = kind_here s kinds faces c (piece_from s n) n rest (pieces_past n (piece_bytes kinds faces c n ++ rest) g) in
      λ t. kinds_read n (piece_bytes kinds faces c n ++ rest) g t ++ (last t ∷ [])

  pub faces_read : ((k : ℕ) → IsNumber (get_or faces k 0)) → (n : ℕ) (rest : List ℕ) → drop (pieces_from s) s ≡ pieces_bytes kinds faces c n ++ rest
      → faces_in s n ≡ list_of n (λ k. get_or faces k 0)
  unfolding faces_in list_of
  faces_read l zero rest h = refl
  faces_read l (suc n) rest h =
      let g = one_less n rest h in
      let last = face_here s kinds faces c (piece_from s n) n rest (pieces_past n (piece_bytes kinds faces c n ++ rest) g) (l n) in
      λ t. faces_read l n (piece_bytes kinds faces c n ++ rest) g t ++ (last t ∷ [])

  module _ (doubles : (k : ℕ) → IsDouble (get_or c k nan)) (all : ℕ) (points : (k : ℕ) → k < all → get_or kinds k 0 ≡ 0 → NoSecond c k) where
    pub coords_read : (n : ℕ) (rest : List ℕ) → n ≤ all → drop (pieces_from s) s ≡ pieces_bytes kinds faces c n ++ rest
        → coords_in s n ≡ list_of (6 * n) (λ k. get_or c k nan)
    unfolding coords_in list_of
    coords_read zero rest l h = refl
    coords_read (suc n) rest l h =
        let g = one_less n rest h in
        let last = coords_here s kinds faces c (piece_from s n) n rest (pieces_past n (piece_bytes kinds faces c n ++ rest) g) doubles (points n (omega arith)) in
        (λ t. coords_read n (piece_bytes kinds faces c n ++ rest) (omega arith) g t ++ last t) ∙ sym (list_six c n)

  -- n pieces of a kind that there is are walked over
  pub walked : ((k : ℕ) → get_or kinds k 0 ≤ 1) → (n m : ℕ) (rest : List ℕ) → drop (pieces_from s) s ≡ pieces_bytes kinds faces c n ++ rest
      → after_pieces s (m + n) (pieces_from s) ≡ after_pieces s m (piece_from s n)
  unfolding piece_from
  walked l zero m rest h = ap (λ (k : ℕ). after_pieces s k (pieces_from s)) (add-zero m)
  walked l (suc n) m rest h =
      let at = piece_from s n in
      let g = one_less n rest h in
      let here = pieces_past n (piece_bytes kinds faces c n ++ rest) g in
      let kind = kind_here s kinds faces c at n rest here in
      let size : length (piece_bytes kinds faces c n) ≡ piece_size (get_or s at 0) = length_piece kinds faces c n ∙ ap piece_size (sym kind) in
      let some : 0 < length (piece_bytes kinds faces c n) = omega (arith, size, size_bounds (get_or s at 0)) in
      let long = reaches s at (piece_bytes kinds faces c n) rest some here in
      let count : m + suc n ≡ suc m + n = omega arith in
      let less : suc m - 1 ≡ m = omega arith in
      ap (λ (k : ℕ). after_pieces s k (pieces_from s)) count ∙ walked l n (suc m) (piece_bytes kinds faces c n ++ rest) g
      ∙ next_piece s (suc m) at (omega arith) (omega (arith, long, some)) (rw kind (l n)) (omega (arith, long, size)) ∙ ap (λ (k : ℕ). after_pieces s k (at + piece_size (get_or s at 0))) less
