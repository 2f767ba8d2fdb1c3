-- Intervals in a buffer, two numbers each. Assumes nothing.
--     joined_no      a stretch that does not continue the last is one more
--     pairs_push     what the buffer holds after one more pair
--     pairs_more, pairs_longer  what it holds after a stretch
--     pairs_take     the first of them
--     step           what a pair of neighbours adds to the stretches; stretches_cons, stretches_nil
use Rattle.std.specs.Prelude.{if◌then◌else◌}
use Prim.Native.Nat.{ℕ, zero, suc, ◌+◌, ◌*◌, ◌-◌, ◌≤◌, ◌<◌}
use native.Mathlib.Omega.{arith}
use native.Mathlib.Decide.{dec_le}
use native.Mathlib.Numerals.{add-one}
use mathlib.Core.Path.{◌≡◌, refl, sym, ap, ◌∙◌, subst}
use mathlib.Core.Logic.{◌≢◌}
use lib.Dec.{T}
use mathlib.Core.Bool.{true, false}
use mathlib.Core.List.{List, [], ◌∷◌, ◌++◌, append_assoc}
use lib.ListN.{length, take, get_or, set, length-append, length-set}
use lib.Seq.{get_or-set_same, get_or-set_other, take-append-le, take_all}
use lib.Ieee.{Float, nan, eq}
use Rattle.better.specs.Stretches.{Interval, interval, joined, shorter_between, stretches}
use Rattle.source.specs.declared.Src.{Src}
use Rattle.better.specs.Buffers.{pairs, last_ends_at}

pub pairs_length : (m : ℕ) (l : List Float) → length (pairs m l) ≡ m
pairs_length zero l = refl
pairs_length (suc m) l = rw length-append (omega (arith, pairs_length m l))

pub pairs_take : (i m : ℕ) (l : List Float) → i ≤ m → take i (pairs m l) ≡ pairs i l
pairs_take i zero l h = let e : i ≡ 0 = omega arith in rw e
pairs_take i (suc m) l h = elim (dec_le i m) [ yes k ↦ rw (take-append-le i (pairs m l) (interval (get_or l (m + m) nan) (get_or l (suc (m + m)) nan) ∷ []) (omega (arith, pairs_length m l))) (pairs_take i m l k) | no k ↦ let e : i ≡ suc m = omega arith in rw e (take_all (suc m) (pairs (suc m) l) (omega (arith, pairs_length (suc m) l))) ]

pub pairs_set : (m : ℕ) (l : List Float) (i : ℕ) (v : Float) → m + m ≤ i → pairs m (set l i v) ≡ pairs m l
pairs_set zero l i v h = refl
pairs_set (suc m) l i v h = rw (pairs_set m l i v (omega arith), get_or-set_other l i (m + m) v nan (omega arith), get_or-set_other l i (suc (m + m)) v nan (omega arith))

joined_last : (gs : List Interval) (g : Interval) (x0 x1 : Float) → joined (gs ++ (g ∷ [])) x0 x1 ≡ gs ++ joined (g ∷ []) x0 x1
unfolding joined
joined_last [] g x0 x1 = refl
joined_last (h ∷ []) g x0 x1 = refl
joined_last (h ∷ k ∷ gs) g x0 x1 = ap (λ (z : List Interval). h ∷ z) (joined_last (k ∷ gs) g x0 x1)

joined_one : (g : Interval) (x0 x1 : Float) → eq g.to x0 ≡ true → joined (g ∷ []) x0 x1 ≡ interval g.from x1 ∷ []
unfolding joined
joined_one g x0 x1 h = rw h

joined_two : (g : Interval) (x0 x1 : Float) → eq g.to x0 ≡ false → joined (g ∷ []) x0 x1 ≡ g ∷ interval x0 x1 ∷ []
unfolding joined
joined_two g x0 x1 h = rw h

joined_none : (x0 x1 : Float) → joined [] x0 x1 ≡ interval x0 x1 ∷ []
unfolding joined
joined_none x0 x1 = refl

pub ends_pos : (m : ℕ) (l : List Float) (x : Float) → last_ends_at m l x ≡ true → 0 < m
ends_pos zero l x h = absurd (subst T (sym h) tt)
ends_pos (suc m) l x h = omega arith

pub ends_read : (m : ℕ) (l : List Float) (x : Float) → m ≢ 0 → last_ends_at m l x ≡ eq (get_or l (2 * m - 1) nan) x
ends_read zero l x h = absurd (h refl)
ends_read (suc m) l x h = let e : 2 * suc m - 1 ≡ suc (m + m) = omega arith in rw e

module _ (l : List Float) (x0 x1 : Float) where
  pub joined_no : (m : ℕ) → last_ends_at m l x0 ≡ false → joined (pairs m l) x0 x1 ≡ pairs m l ++ (interval x0 x1 ∷ [])
  joined_no zero h = joined_none x0 x1
  joined_no (suc m) h =
      let g = interval (get_or l (m + m) nan) (get_or l (suc (m + m)) nan) in
      joined_last (pairs m l) g x0 x1 ∙ ap (λ (z : List Interval). pairs m l ++ z) (joined_two g x0 x1 h) ∙ sym (append_assoc (pairs m l) (g ∷ []) (interval x0 x1 ∷ []))

  pub joined_length : (m : ℕ) → last_ends_at m l x0 ≡ false → length (joined (pairs m l) x0 x1) ≡ suc m
  joined_length m h = rw (joined_no m h, length-append) (omega (arith, pairs_length m l))

  pub pairs_push : (m e : ℕ) → e ≡ m + m → e + 1 < length l → pairs (m + 1) (set (set l e x0) (e + 1) x1) ≡ pairs m l ++ (interval x0 x1 ∷ [])
  pairs_push m e i b =
      rw (add-one m, add-one e, i, pairs_set m (set l (m + m) x0) (suc (m + m)) x1 (omega arith), pairs_set m l (m + m) x0 (omega arith), get_or-set_other (set l (m + m) x0) (suc (m + m)) (m + m) x1 nan (omega arith), get_or-set_same l (m + m) x0 nan (omega arith), get_or-set_same (set l (m + m) x0) (suc (m + m)) x1 nan (rw length-set (omega arith)))

  pub pairs_more : (m e : ℕ) → e ≡ m + m → e + 1 < length l → last_ends_at m l x0 ≡ false → pairs (m + 1) (set (set l e x0) (e + 1) x1) ≡ joined (pairs m l) x0 x1
  pairs_more m e i b h = rw (joined_no m h) (pairs_push m e i b)

  pub pairs_longer : (m i : ℕ) → i + 1 ≡ m + m → i < length l → last_ends_at m l x0 ≡ true → pairs m (set l i x1) ≡ joined (pairs m l) x0 x1
  pairs_longer zero i e b h = let y : ⊥ = omega arith in absurd y
  pairs_longer (suc m) i e b h =
      let g = interval (get_or l (m + m) nan) (get_or l (suc (m + m)) nan) in
      let f : i ≡ suc (m + m) = omega arith in
      rw (joined_last (pairs m l) g x0 x1, joined_one g x0 x1 h, f, pairs_set m l (suc (m + m)) x1 (omega arith), get_or-set_other l (suc (m + m)) (m + m) x1 nan (omega arith), get_or-set_same l (suc (m + m)) x1 nan (omega arith))

-- ---- the loop over neighbours
module _ (p q : Src) where
  abbrev pub step : Float → Float → List Interval → List Interval
  step x0 x1 gs = if shorter_between p q x0 x1 then joined gs x0 x1 else gs

  pub stretches_cons : (x0 x1 : Float) (xs : List Float) (gs : List Interval) → stretches p q x0 (x1 ∷ xs) gs ≡ stretches p q x1 xs (step x0 x1 gs)
  unfolding stretches
  stretches_cons x0 x1 xs gs = refl

  pub stretches_nil : (x0 : Float) (gs : List Interval) → stretches p q x0 [] gs ≡ gs
  unfolding stretches
  stretches_nil x0 gs = refl
