-- Zeros behind what is written to a list. Assumes nothing.
use Prim.Native.Nat.{ℕ, zero, suc, ◌*◌, ◌-◌, ◌≤◌}
use native.Mathlib.Omega.{arith}
use mathlib.Core.List.{List, [], ◌∷◌, ◌++◌}
use mathlib.Core.Path.{◌≡◌, refl, sym, ap, ◌∙◌}
use lib.ListN.{length, get_or, drop, replicate}
use lib.Ieee.{Float}
use Rattle.float64.specs.Scalar.{zero64}
use Rattle.buffers.proofs.Strides.{fill_outside}
use Rattle.last_pass.specs.of_frames.Stored.{with_rows}

pub zeros_at : {A : Type 0} (z : A) (k p : ℕ) → get_or (replicate k z) p z ≡ z
zeros_at z zero p = refl
zeros_at z (suc k) zero = refl
zeros_at z (suc k) (suc p) = zeros_at z k p

pub zeros_behind : {A : Type 0} (z : A) (l : List A) (k p : ℕ) → length l ≤ p → get_or (l ++ replicate k z) p z ≡ z
zeros_behind z [] k p h = zeros_at z k p
zeros_behind z (x ∷ l) k zero h = absurd (omega (arith, h))
zeros_behind z (x ∷ l) k (suc p) h = zeros_behind z l k p (omega (arith, h))

drop_at : {A : Type 0} (k : ℕ) (l : List A) (p : ℕ) (d : A) → k ≤ p → get_or l p d ≡ get_or (drop k l) (p - k) d
drop_at zero l p d h = let e : p ≡ p - 0 = omega arith in ap (λ (q : ℕ). get_or l q d) e
drop_at (suc k) [] p d h = refl
drop_at (suc k) (x ∷ l) zero d h = absurd (omega (arith, h))
drop_at (suc k) (x ∷ l) (suc p) d h = let e : p - k ≡ suc p - suc k = omega arith in drop_at k l p d (omega (arith, h)) ∙ ap (λ (q : ℕ). get_or (drop k l) q d) e

-- past the rows that are written
rows_outside : (s : ℕ) (row : ℕ → List Float) → ((k : ℕ) → length (row k) ≡ s) → (n k : ℕ) → k ≤ n → (r : List Float) → drop (s * n) (with_rows s row k r) ≡ drop (s * n) r
unfolding with_rows
rows_outside s row whole n zero h r = refl
rows_outside s row whole n (suc k) h r = fill_outside s n (row k) (with_rows s row k r) k 0 (omega (arith, h)) (omega (arith, whole k)) ∙ rows_outside s row whole n k (omega (arith, h)) r

pub rows_zero : (s : ℕ) (row : ℕ → List Float) → ((k : ℕ) → length (row k) ≡ s) → (n size p : ℕ) → s * n ≤ p → get_or (with_rows s row n (replicate size zero64)) p zero64 ≡ zero64
rows_zero s row whole n size p h =
    let l = replicate size zero64 in
    drop_at (s * n) (with_rows s row n l) p zero64 h ∙ ap (λ (z : List Float). get_or z (p - s * n) zero64) (rows_outside s row whole n n (omega arith) l) ∙ sym (drop_at (s * n) l p zero64 h) ∙ zeros_at zero64 size p
