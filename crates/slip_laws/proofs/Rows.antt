-- Rows that stand in a slip are read as they were written. Assumes nothing.
use Prim.Native.Nat.{ℕ, zero, suc, ◌+◌, ◌*◌, ◌<◌}
use native.Mathlib.Omega.{arith}
use mathlib.Core.Path.{◌≡◌, refl, sym, ap, ◌∙◌}
use mathlib.Core.List.{List, [], ◌∷◌, ◌++◌, append_assoc}
use lib.ListN.{length, get_or, drop, length-append, get_or-append}
use lib.Seq.{ext_get_or, get_or-drop}
use lib.Ieee.{Float, nan, fits}
use Rattle.nat_laws.specs.Lists.{All, list_of}
use Rattle.nat_laws.proofs.Lists.{length_list_of, get_d_list_of}
use Rattle.little_endian.specs.Bytes.{number_from, double_from, doubles_from, numbers_from, bytes_from, number_bytes, double_bytes}
use Rattle.slip_write.specs.Write.{doubles_bytes, numbers_bytes}
use Rattle.slip_laws.specs.Whole.{IsDouble, IsNumber}
use Rattle.slip_laws.proofs.Parts.{past, number_here, double_here}
use Rattle.slip_write.proofs.Lengths.{length_number, length_double}

module _ {A : Type 0} where
  -- what holds of each element and of the default holds of each place
  pub all_get_d : (P : A → Type 0) (d : A) → P d → (l : List A) → All P l → (i : ℕ) → P (get_or l i d)
  all_get_d P d p [] h i = p
  all_get_d P d p (x ∷ xs) h zero = h.0
  all_get_d P d p (x ∷ xs) h (suc i) = all_get_d P d p xs h.1 i

  -- a list is made of its elements
  pub elements : (d : A) (l : List A) (n : ℕ) → length l ≡ n → list_of n (λ k. get_or l k d) ≡ l
  elements d l n e =
      ext_get_or d (list_of n (λ k. get_or l k d)) l (length_list_of n (λ k. get_or l k d) ∙ sym e)
      (λ k h. get_d_list_of n (λ k. get_or l k d) k d (omega (arith, length_list_of n (λ (k : ℕ). get_or l k d))))

pub nan_double : IsDouble nan
unfolding fits
nan_double = tt

pub length_doubles : (xs : List Float) (n : ℕ) → length (doubles_bytes xs n) ≡ 8 * n
unfolding doubles_bytes
length_doubles xs zero = refl
length_doubles xs (suc n) =
    length-append (doubles_bytes xs n) (double_bytes (get_or xs n nan)) ∙ rw (length_doubles xs n, length_double (get_or xs n nan)) (omega arith)

pub length_numbers : (xs : List ℕ) (n : ℕ) → length (numbers_bytes xs n) ≡ 4 * n
unfolding numbers_bytes
length_numbers xs zero = refl
length_numbers xs (suc n) =
    length-append (numbers_bytes xs n) (number_bytes (get_or xs n 0)) ∙ rw (length_numbers xs n, length_number (get_or xs n 0)) (omega arith)

module _ (s : List ℕ) (i : ℕ) where
  doubles_read : (xs : List Float) (n : ℕ) (rest : List ℕ) → ((k : ℕ) → IsDouble (get_or xs k nan)) → drop i s ≡ doubles_bytes xs n ++ rest
      → doubles_from s i n ≡ list_of n (λ k. get_or xs k nan)
  unfolding doubles_from doubles_bytes list_of
  doubles_read xs zero rest f h = refl
  doubles_read xs (suc n) rest f h =
      let g : drop i s ≡ doubles_bytes xs n ++ (double_bytes (get_or xs n nan) ++ rest) = h ∙ append_assoc (doubles_bytes xs n) (double_bytes (get_or xs n nan)) rest in
      let last = double_here s (i + 8 * n) (get_or xs n nan) rest (f n) (past s i (doubles_bytes xs n) (double_bytes (get_or xs n nan) ++ rest) (8 * n) (length_doubles xs n) g) in
      ap (λ l. l ++ (double_from s (i + 8 * n) ∷ [])) (doubles_read xs n (double_bytes (get_or xs n nan) ++ rest) f g) ∙ ap (λ x. list_of n (λ k. get_or xs k nan) ++ (x ∷ [])) last

  numbers_read : (xs : List ℕ) (n : ℕ) (rest : List ℕ) → ((k : ℕ) → IsNumber (get_or xs k 0)) → drop i s ≡ numbers_bytes xs n ++ rest
      → numbers_from s i n ≡ list_of n (λ k. get_or xs k 0)
  unfolding numbers_from numbers_bytes list_of
  numbers_read xs zero rest f h = refl
  numbers_read xs (suc n) rest f h =
      let g : drop i s ≡ numbers_bytes xs n ++ (number_bytes (get_or xs n 0) ++ rest) = h ∙ append_assoc (numbers_bytes xs n) (number_bytes (get_or xs n 0)) rest in
      let last = number_here s (i + 4 * n) (get_or xs n 0) rest (f n) (past s i (numbers_bytes xs n) (number_bytes (get_or xs n 0) ++ rest) (4 * n) (length_numbers xs n) g) in
      ap (λ l. l ++ (number_from s (i + 4 * n) ∷ [])) (numbers_read xs n (number_bytes (get_or xs n 0) ++ rest) f g) ∙ ap (λ x. list_of n (λ k. get_or xs k 0) ++ (x ∷ [])) last

  pub doubles_here : (xs : List Float) (n : ℕ) (rest : List ℕ) → length xs ≡ n → All IsDouble xs → drop i s ≡ doubles_bytes xs n ++ rest → doubles_from s i n ≡ xs
  doubles_here xs n rest e a h = doubles_read xs n rest (all_get_d IsDouble nan nan_double xs a) h ∙ elements nan xs n e

  pub numbers_here : (xs : List ℕ) (n : ℕ) (rest : List ℕ) → length xs ≡ n → All IsNumber xs → drop i s ≡ numbers_bytes xs n ++ rest → numbers_from s i n ≡ xs
  numbers_here xs n rest e a h = numbers_read xs n rest (all_get_d IsNumber 0 (omega arith) xs a) h ∙ elements 0 xs n e

  pub bytes_here : (xs : List ℕ) (n : ℕ) (rest : List ℕ) → length xs ≡ n → drop i s ≡ xs ++ rest → bytes_from s i n ≡ xs
  unfolding bytes_from
  bytes_here xs n rest e h =
      ext_get_or 0 (list_of n (λ k. get_or s (i + k) 0)) xs (length_list_of n (λ k. get_or s (i + k) 0) ∙ sym e)
      (λ k l.
      let below : k < n = omega (arith, length_list_of n (λ (k : ℕ). get_or s (i + k) 0)) in
      get_d_list_of n (λ k. get_or s (i + k) 0) k 0 below ∙ sym (get_or-drop i s k 0) ∙ ap (λ t. get_or t k 0) h ∙ get_or-append xs rest 0 k (omega (arith, e)))
