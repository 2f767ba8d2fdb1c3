-- Two tests of sameness that agree on the first points have the same vertices there. Assumes nothing.
use Prim.Native.Nat.{ℕ, zero, suc, ◌<◌, ◌≤◌}
use native.Mathlib.Omega.{arith}
use mathlib.Core.Path.{◌≡◌, refl, sym, subst}
use mathlib.Core.Bool.{Bool, true, false, cond}
use mathlib.Core.List.{List, [], ◌∷◌, ◌++◌}
use borrow.Author.Tests.{eqb-true, eqb-false}
use lib.Dec.{eqb}
use lib.ListN.{length, get_or, length-append, get_or-append}
use lib.Seq.{get_or-append_seam}
use Rattle.stl_format.specs.Format.{link_among, first_points}

module _ (same : ℕ → ℕ → Bool) where
  more_below : (b : Bool) (vs : List ℕ) (h : ℕ) → ((i : ℕ) → i < length vs → get_or vs i 0 < h) → (i : ℕ) → i < length (cond b (vs ++ (h ∷ [])) vs) → get_or (cond b (vs ++ (h ∷ [])) vs) i 0 < suc h
  more_below false vs h all i l = omega (arith, all i l)
  more_below true vs h all i l = go (eqb i (length vs)) refl
    where
      go : (d : Bool) → eqb i (length vs) ≡ d → get_or (vs ++ (h ∷ [])) i 0 < suc h
      go true e = let q : i ≡ length vs = eqb-true i (length vs) e in rw (q, get_or-append_seam vs h [] 0) (omega arith)
      go false e =
          let q : i ≡ length vs → ⊥ = eqb-false i (length vs) e in
          let k : i < length vs = omega (arith, length-append vs (h ∷ [])) in
          rw (get_or-append vs (h ∷ []) 0 i k) (omega (arith, all i k))

  -- a vertex is a point that came before
  pub first_below : (h i : ℕ) → i < length (first_points same h) → get_or (first_points same h) i 0 < h
  unfolding first_points
  first_below zero i l = absurd (omega arith)
  first_below (suc h) i l = more_below (eqb (link_among same (first_points same h) (length (first_points same h)) h) 0) (first_points same h) h (first_below h) i l

module _ (same other : ℕ → ℕ → Bool) where
  pub link_agree : (vs : List ℕ) (n h : ℕ) → ((i : ℕ) → i < n → same (get_or vs i 0) h ≡ other (get_or vs i 0) h) → link_among same vs n h ≡ link_among other vs n h
  unfolding link_among
  link_agree vs zero h e = refl
  link_agree vs (suc n) h e = rw (e n (omega arith), link_agree vs n h (λ i l. e i (omega arith)))

  module _ (n : ℕ) (agree : (g h : ℕ) → g < n → h < n → same g h ≡ other g h) where
    pub first_agree : (h : ℕ) → h ≤ n → first_points same h ≡ first_points other h
    unfolding first_points
    first_agree zero l = refl
    first_agree (suc h) l =
        let e : first_points same h ≡ first_points other h = first_agree h (omega arith) in
        let f : link_among same (first_points same h) (length (first_points same h)) h ≡ link_among other (first_points same h) (length (first_points same h)) h =
        link_agree (first_points same h) (length (first_points same h)) h (λ i k. agree (get_or (first_points same h) i 0) h (omega (arith, first_below same h i k)) (omega arith)) in
        rw (f, e)

    pub vertex_agree : (vs : List ℕ) (h : ℕ) → vs ≡ first_points same n → h < n → link_among same vs (length vs) h ≡ link_among other vs (length vs) h
    vertex_agree vs h e l = link_agree vs (length vs) h (λ i k. agree (get_or vs i 0) h (below i k) l)
      where
        below : (i : ℕ) → i < length vs → get_or vs i 0 < n
        below = subst (λ us. (i : ℕ) → i < length us → get_or us i 0 < n) (sym e) (first_below same n)
