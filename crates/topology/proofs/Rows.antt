-- Laws of lists one after the other: their lengths, their elements, and a change in one of them. Assumes nothing.
use Prim.Native.Nat.{ℕ, zero, suc, ◌+◌, ◌<◌, ◌≤◌}
use mathlib.Core.Path.{◌≡◌, refl, sym, ap, subst, ◌∙◌}
use mathlib.Core.List.{List, [], ◌∷◌, ◌++◌}
use mathlib.Core.Logic.{⊎_elim}
use native.Mathlib.Nat.{le_of_suc-le-suc, not-suc-le-zero, eq-or-lt_of_le}
use native.Mathlib.Omega.{arith}
use lib.ListN.{length, get_or, set, replicate, length-append, get_or-append, replicate-append-replicate}
use lib.Seq.{get_or-append-add, set-append_left}
use Rattle.topology.specs.Rows.{rows}

-- an element of the second list is changed
pub set_append_right : (xs ys : List ℕ) (i x : ℕ) → set (xs ++ ys) (length xs + i) x ≡ xs ++ set ys i x
set_append_right [] ys i x = ap (λ (n : ℕ). set ys n x) (omega arith)
set_append_right (y ∷ xs) ys i x =
    let e : suc (length xs) + i ≡ suc (length xs + i) = omega arith in
    rw e (ap (λ (l : List ℕ). y ∷ l) (set_append_right xs ys i x))

module _ (f : ℕ → List ℕ) where
  pub length_rows : (n : ℕ) → length (rows f (suc n)) ≡ length (rows f n) + length (f n)
  unfolding rows
  length_rows n = length-append (rows f n) (f n)

  -- each list ends where the next one starts, or before
  pub row_inside : (n k : ℕ) → k < n → length (rows f k) + length (f k) ≤ length (rows f n)
  row_inside zero k l = absurd (not-suc-le-zero l)
  row_inside (suc n) k l =
      ⊎_elim (λ q. subst (λ (j : ℕ). length (rows f j) + length (f j) ≤ length (rows f (suc n))) (sym q) (omega (arith, length_rows n)))
      (λ m. omega (arith, length_rows n, row_inside n k m))
      (eq-or-lt_of_le (le_of_suc-le-suc l))

  -- element i of list k
  pub row_read : (n k i : ℕ) → k < n → i < length (f k) → get_or (rows f n) (length (rows f k) + i) 0 ≡ get_or (f k) i 0
  unfolding rows
  row_read zero k i l m = absurd (not-suc-le-zero l)
  row_read (suc n) k i l m =
      ⊎_elim (λ q. subst (λ (x : ℕ). get_or (rows f n ++ f n) (length (rows f x) + i) 0 ≡ get_or (f x) i 0) (sym q) (get_or-append-add (rows f n) (f n) i 0))
      (λ b. get_or-append (rows f n) (f n) 0 (length (rows f k) + i) (omega (arith, row_inside n k b)) ∙ row_read n k i b m)
      (eq-or-lt_of_le (le_of_suc-le-suc l))

  -- lists of zeros
  pub rows_zeros : ((k : ℕ) → f k ≡ replicate (length (f k)) 0) → (n : ℕ) → rows f n ≡ replicate (length (rows f n)) 0
  unfolding rows
  rows_zeros h zero = refl
  rows_zeros h (suc n) =
      ap (λ (l : List ℕ). l ++ f n) (rows_zeros h n) ∙ (ap (λ (l : List ℕ). replicate (length (rows f n)) 0 ++ l) (h n)
      ∙ (replicate-append-replicate (length (rows f n)) (length (f n)) 0 ∙ ap (λ (m : ℕ). replicate m 0) (sym (length-append (rows f n) (f n)))))

module _ (f g : ℕ → List ℕ) where
  pub rows_same : (n : ℕ) → ((k : ℕ) → k < n → f k ≡ g k) → rows f n ≡ rows g n
  unfolding rows
  rows_same zero h = refl
  rows_same (suc n) h = λ i. rows_same n (λ k l. h k (omega arith)) i ++ h n (omega arith) i

  pub lengths_same : (n : ℕ) → ((k : ℕ) → k < n → length (f k) ≡ length (g k)) → length (rows f n) ≡ length (rows g n)
  unfolding rows
  lengths_same zero h = refl
  lengths_same (suc n) h = omega (arith, length-append (rows f n) (f n), length-append (rows g n) (g n), h n (omega arith), lengths_same n (λ k l. h k (omega arith)))

  -- list v is one longer, the others are as long as they were
  module _ (v : ℕ) (here : length (g v) ≡ suc (length (f v))) (there : (k : ℕ) → (k ≡ v → ⊥) → length (f k) ≡ length (g k)) where
    pub one_longer : (n : ℕ) → v < n → length (rows g n) ≡ suc (length (rows f n))
    one_longer zero l = absurd (not-suc-le-zero l)
    one_longer (suc n) l =
        ⊎_elim (λ q. omega (arith, length_rows f n, length_rows g n, subst (λ (k : ℕ). length (g k) ≡ suc (length (f k))) q here, lengths_same n (λ k m. there k (λ e. omega arith))))
        (λ m. omega (arith, length_rows f n, length_rows g n, there n (λ e. omega arith), one_longer n m))
        (eq-or-lt_of_le (le_of_suc-le-suc l))

  -- element i of list v is changed, the other lists are as they were
  module _ (v i x : ℕ) (inside : i < length (f v)) (here : g v ≡ set (f v) i x) (there : (k : ℕ) → (k ≡ v → ⊥) → f k ≡ g k) where
    pub rows_set : (n : ℕ) → v < n → set (rows f n) (length (rows f v) + i) x ≡ rows g n
    unfolding rows
    rows_set zero l = absurd (not-suc-le-zero l)
    rows_set (suc n) l =
        ⊎_elim (λ q.
        subst (λ (k : ℕ). set (rows f n ++ f n) (length (rows f k) + i) x ≡ rows g n ++ g n) (sym q)
        (set_append_right (rows f n) (f n) i x
        ∙ (λ t. rows_same n (λ k m. there k (λ e. omega arith)) t ++ sym (subst (λ (k : ℕ). g k ≡ set (f k) i x) q here) t)))
        (λ m.
        set-append_left (rows f n) (f n) (length (rows f v) + i) x (omega (arith, row_inside f n v m))
        ∙ (λ t. rows_set n m t ++ there n (λ e. omega arith) t))
        (eq-or-lt_of_le (le_of_suc-le-suc l))
