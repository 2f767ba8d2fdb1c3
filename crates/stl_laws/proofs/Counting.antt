-- Points that are numbered from so many numbers, the same number for the same points, have at most so many vertices: each new vertex is a number not used before.
-- Assumes nothing.
use Prim.Native.Nat.{ℕ, zero, suc, ◌+◌, ◌-◌, ◌<◌, ◌≤◌}
use native.Mathlib.Omega.{arith}
use mathlib.Core.Path.{◌≡◌, refl, sym, ap, subst}
use mathlib.Core.Bool.{Bool, true, false, cond}
use mathlib.Core.List.{List, [], ◌∷◌, ◌++◌}
use borrow.Author.Tests.{eqb-true, eqb-false, eq-eqb}
use lib.Dec.{eqb}
use lib.ListN.{length, get_or, length-append}
use Rattle.job_checks.specs.Any.{any_below}
use Rattle.job_checks.proofs.Any.{found, none_all}
use Rattle.stl_format.specs.Format.{link_among, first_points}
use Rattle.stl.proofs.Agreeing.{first_below}
use Rattle.stl_laws.proofs.Numbering.{vertex_same, link_some}

-- how many numbers below m pass a test
count_below : (ℕ → Bool) → ℕ → ℕ
count_below p zero = 0
count_below p (suc m) = cond (p m) 1 0 + count_below p m

one_le : (a b : Bool) → (a ≡ true → b ≡ true) → cond a 1 0 ≤ cond b 1 0
one_le true b f = subst (λ d. 1 ≤ cond d 1 0) (sym (f refl)) (omega arith)
one_le false true f = omega arith
one_le false false f = omega arith

one_most : (a : Bool) → cond a 1 0 ≤ 1
one_most true = omega arith
one_most false = omega arith

count_most : (p : ℕ → Bool) (m : ℕ) → count_below p m ≤ m
unfolding count_below
count_most p zero = omega arith
count_most p (suc m) = omega (arith, one_most (p m), count_most p m)

module _ (p q : ℕ → Bool) (sub : (j : ℕ) → p j ≡ true → q j ≡ true) where
  count_le : (m : ℕ) → count_below p m ≤ count_below q m
  unfolding count_below
  count_le zero = omega arith
  count_le (suc m) = omega (arith, one_le (p m) (q m) (sub m), count_le m)

  at_it : (m i : ℕ) (d : Bool) → eqb i m ≡ d → i < suc m → p i ≡ false → q i ≡ true → (i < m → suc (count_below p m) ≤ count_below q m) → suc (cond (p m) 1 0 + count_below p m) ≤ cond (q m) 1 0 + count_below q m
  at_it m i true e l a b f =
      let k : i ≡ m = eqb-true i m e in
      let pm : ◌≡◌ {A = ℕ} (cond (p m) 1 0) 0 = ap (λ (d : Bool). cond {A = ℕ} d 1 0) (subst (λ (j : ℕ). p j ≡ false) k a) in
      let qm : ◌≡◌ {A = ℕ} (cond (q m) 1 0) 1 = ap (λ (d : Bool). cond {A = ℕ} d 1 0) (subst (λ (j : ℕ). q j ≡ true) k b) in
      omega (arith, pm, qm, count_le m)
  at_it m i false e l a b f = let k : i ≡ m → ⊥ = eqb-false i m e in omega (arith, one_le (p m) (q m) (sub m), f (omega arith))

  count_lt : (m i : ℕ) → i < m → p i ≡ false → q i ≡ true → suc (count_below p m) ≤ count_below q m
  unfolding count_below
  count_lt zero i l a b = absurd (omega arith)
  count_lt (suc m) i l a b = at_it m i (eqb i m) refl l a b (λ k. count_lt m i k a b)

module _ (t : List ℕ) (total : ℕ) (same : ℕ → ℕ → Bool) (n : ℕ) (low : (g : ℕ) → g < n → get_or t g 0 < total) (self : (h : ℕ) → h < n → same h h ≡ true)
    (through : (f g h : ℕ) → f < n → g < n → h < n → same f g ≡ true → same g h ≡ true → same f h ≡ true) (numbered : (g h : ℕ) → g < n → h < n → get_or t g 0 ≡ get_or t h 0 → same g h ≡ true) where
  -- number j is used before point h
  used : ℕ → ℕ → Bool
  used h j = any_below (λ g. eqb (get_or t g 0) j) h

  used_more : (h j : ℕ) → used h j ≡ true → used (suc h) j ≡ true
  unfolding used any_below
  used_more h j e = rw e

  used_here : (h : ℕ) → used (suc h) (get_or t h 0) ≡ true
  unfolding used
  used_here h = found (λ g. eqb (get_or t g 0) (get_or t h 0)) h (suc h) (omega arith) (eq-eqb (get_or t h 0) (get_or t h 0) refl)

  -- a new vertex has a number that was not used
  used_not : (h : ℕ) → h < n → link_among same (first_points same h) (length (first_points same h)) h ≡ 0 → used h (get_or t h 0) ≡ false
  unfolding used
  used_not h l e = none_all (λ g. eqb (get_or t g 0) (get_or t h 0)) h (λ g k. differs g k (eqb (get_or t g 0) (get_or t h 0)) refl)
    where
      differs : (g : ℕ) → g < h → (b : Bool) → eqb (get_or t g 0) (get_or t h 0) ≡ b → eqb (get_or t g 0) (get_or t h 0) ≡ false
      differs g k true q =
          let vs = first_points same h in
          let i = link_among same vs (length vs) g - 1 in
          let r = vertex_same same h (λ j m. self j (omega arith)) g k in
          let w : get_or vs i 0 < n = omega (arith, first_below same h i r.0) in
          absurd (link_some same vs (length vs) h i r.0 (through (get_or vs i 0) g h w (omega arith) l r.1 (numbered g h (omega arith) l (eqb-true _ _ q))) e)
      differs g k false q = q

  grown : (b : Bool) (h : ℕ) → h < n → eqb (link_among same (first_points same h) (length (first_points same h)) h) 0 ≡ b → length (first_points same h) ≤ count_below (used h) total
      → length (cond b (first_points same h ++ (h ∷ [])) (first_points same h)) ≤ count_below (used (suc h)) total
  grown true h l e k = omega (arith, length-append (first_points same h) (h ∷ []), count_lt (used h) (used (suc h)) (used_more h) total (get_or t h 0) (low h l) (used_not h l (eqb-true _ _ e)) (used_here h))
  grown false h l e k = omega (arith, count_le (used h) (used (suc h)) (used_more h) total)

  few : (h : ℕ) → h ≤ n → length (first_points same h) ≤ count_below (used h) total
  unfolding first_points
  few zero l = omega arith
  few (suc h) l = grown (eqb (link_among same (first_points same h) (length (first_points same h)) h) 0) h (omega arith) refl (few h (omega arith))

  pub few_vertices : length (first_points same n) ≤ total
  few_vertices = omega (arith, few n (omega arith), count_most (used n) total)
