-- The numbering of points by a test of sameness that is an equivalence on the first n of them: every point has a vertex, which is the same as it, and two points
-- have one vertex exactly where they are the same. Assumes nothing.
use Prim.Native.Nat.{ℕ, zero, suc, ◌+◌, ◌-◌, ◌<◌}
use native.Mathlib.Nat.{zero-add}
use native.Mathlib.Omega.{arith}
use mathlib.Core.Path.{◌≡◌, refl, sym, ap, ◌∙◌, subst}
use mathlib.Core.Bool.{Bool, true, false, cond, true≢false}
use mathlib.Core.List.{List, [], ◌∷◌, ◌++◌}
use borrow.Author.Tests.{eqb-true, eqb-false}
use lib.Dec.{eqb}
use lib.ListN.{length, get_or, length-append, get_or-append}
use lib.Seq.{get_or-append_seam}
use Rattle.stl_format.specs.Format.{link_among, first_points}
use Rattle.stl.proofs.Agreeing.{first_below}

module _ (same : ℕ → ℕ → Bool) where
  -- a link that is not 0 leads to a vertex that is the same
  leads : (vs : List ℕ) (n h i : ℕ) (b : Bool) → same (get_or vs n 0) h ≡ b → (link_among same vs n h ≡ suc i → (i < n) × (same (get_or vs i 0) h ≡ true))
      → cond b (suc n) (link_among same vs n h) ≡ suc i → (i < suc n) × (same (get_or vs i 0) h ≡ true)
  leads vs n h i true s f q = let k : n ≡ i = omega arith in (omega arith, subst (λ (j : ℕ). same (get_or vs j 0) h ≡ true) k s)
  leads vs n h i false s f q = let r = f q in (omega (arith, r.0), r.1)

  pub link_leads : (vs : List ℕ) (n h i : ℕ) → link_among same vs n h ≡ suc i → (i < n) × (same (get_or vs i 0) h ≡ true)
  unfolding link_among
  link_leads vs zero h i e = absurd (omega arith)
  link_leads vs (suc n) h i e = leads vs n h i (same (get_or vs n 0) h) refl (link_leads vs n h i) e

  pub links_agree : (vs : List ℕ) (m g h : ℕ) → ((i : ℕ) → i < m → same (get_or vs i 0) g ≡ same (get_or vs i 0) h) → link_among same vs m g ≡ link_among same vs m h
  unfolding link_among
  links_agree vs zero g h f = refl
  links_agree vs (suc m) g h f = rw (f m (omega arith), links_agree vs m g h (λ i l. f i (omega arith)))

  -- where a vertex is the same, the link is not 0
  finds : (vs : List ℕ) (n h i : ℕ) (b d : Bool) → same (get_or vs n 0) h ≡ b → eqb i n ≡ d → i < suc n → same (get_or vs i 0) h ≡ true → (i < n → link_among same vs n h ≡ 0 → ⊥)
      → cond b (suc n) (link_among same vs n h) ≡ 0 → ⊥
  finds vs n h i true d s k l p f q = omega arith
  finds vs n h i false true s k l p f q = true≢false (sym p ∙ (ap (λ (j : ℕ). same (get_or vs j 0) h) (eqb-true i n k) ∙ s))
  finds vs n h i false false s k l p f q = let ne : i ≡ n → ⊥ = eqb-false i n k in f (omega arith) q

  pub link_some : (vs : List ℕ) (n h i : ℕ) → i < n → same (get_or vs i 0) h ≡ true → link_among same vs n h ≡ 0 → ⊥
  unfolding link_among
  link_some vs zero h i l s e = omega arith
  link_some vs (suc n) h i l s e = finds vs n h i (same (get_or vs n 0) h) (eqb i n) refl refl l s (λ k q. link_some vs n h i k s q) e

  -- the vertices of more points start with those of fewer
  step_keeps : (b : Bool) (vs : List ℕ) (h i : ℕ) → i < length vs → (i < length (cond b (vs ++ (h ∷ [])) vs)) × (get_or (cond b (vs ++ (h ∷ [])) vs) i 0 ≡ get_or vs i 0)
  step_keeps true vs h i l = (omega (arith, length-append vs (h ∷ [])), get_or-append vs (h ∷ []) 0 i l)
  step_keeps false vs h i l = (l, refl)

  pub first_keeps : (h k i : ℕ) → i < length (first_points same h) → (i < length (first_points same (k + h))) × (get_or (first_points same (k + h)) i 0 ≡ get_or (first_points same h) i 0)
  unfolding first_points
  first_keeps h zero i l = subst (λ (m : ℕ). (i < length (first_points same m)) × (get_or (first_points same m) i 0 ≡ get_or (first_points same h) i 0)) (sym (zero-add h)) (l, refl)
  first_keeps h (suc k) i l =
      let r = first_keeps h k i l in
      let vs = first_points same (k + h) in
      let q = step_keeps (eqb (link_among same vs (length vs) (k + h)) 0) vs (k + h) i r.0 in
      let e : suc k + h ≡ suc (k + h) = omega arith in
      subst (λ (m : ℕ). (i < length (first_points same m)) × (get_or (first_points same m) i 0 ≡ get_or (first_points same h) i 0)) (sym e) (q.0, q.1 ∙ r.1)

  -- point h, entered, is the same as a vertex
  entered : (vs : List ℕ) (h : ℕ) (b : Bool) → eqb (link_among same vs (length vs) h) 0 ≡ b → same h h ≡ true
      → (i : ℕ) × ((i < length (cond b (vs ++ (h ∷ [])) vs)) × (same (get_or (cond b (vs ++ (h ∷ [])) vs) i 0) h ≡ true))
  entered vs h true e s = (length vs, (omega (arith, length-append vs (h ∷ [])), rw (get_or-append_seam vs h [] 0) s))
  entered vs h false e s =
      let m = link_among same vs (length vs) h in
      let k : m ≡ 0 → ⊥ = eqb-false m 0 e in
      let q : m ≡ suc (m - 1) = omega arith in
      (m - 1, link_leads vs (length vs) h (m - 1) q)

  pub some_first : (h : ℕ) → same h h ≡ true → (i : ℕ) × ((i < length (first_points same (suc h))) × (same (get_or (first_points same (suc h)) i 0) h ≡ true))
  unfolding first_points
  some_first h s = entered (first_points same h) h (eqb (link_among same (first_points same h) (length (first_points same h)) h) 0) refl s

-- ---- an equivalence on the first n points
module _ (same : ℕ → ℕ → Bool) (n : ℕ) (self : (h : ℕ) → h < n → same h h ≡ true) where
  abbrev points : List ℕ
  points = first_points same n

  -- every point is the same as a vertex
  pub has_vertex_lem : (h : ℕ) → h < n → link_among same points (length points) h ≡ 0 → ⊥
  has_vertex_lem h l e =
      let r = some_first same h (self h l) in
      let d : n - suc h + suc h ≡ n = omega arith in
      let k = subst (λ (m : ℕ). (r.0 < length (first_points same m)) × (get_or (first_points same m) r.0 0 ≡ get_or (first_points same (suc h)) r.0 0)) d (first_keeps same (suc h) (n - suc h) r.0 r.1.0) in
      link_some same points (length points) h r.0 k.0 (ap (λ (g : ℕ). same g h) k.1 ∙ r.1.1) e

  -- the vertex of point h: its number is below the count, and it is the same as the point
  pub vertex_same : (h : ℕ) → h < n → (link_among same points (length points) h - 1 < length points) × (same (get_or points (link_among same points (length points) h - 1) 0) h ≡ true)
  vertex_same h l =
      let m = link_among same points (length points) h in
      let e : m ≡ suc (m - 1) = positive m (has_vertex_lem h l) in
      link_leads same points (length points) h (m - 1) e
    where
      positive : (m : ℕ) → (m ≡ 0 → ⊥) → m ≡ suc (m - 1)
      positive zero f = absurd (f refl)
      positive (suc m) f = omega arith

  module _ (turned : (g h : ℕ) → g < n → h < n → same g h ≡ true → same h g ≡ true) (through : (f g h : ℕ) → f < n → g < n → h < n → same f g ≡ true → same g h ≡ true → same f h ≡ true) where
    first_low : (i : ℕ) → i < length points → get_or points i 0 < n
    first_low i l = first_below same n i l

    -- the same points have one vertex, and points of one vertex are the same
    pub same_vertex : (g h : ℕ) → g < n → h < n → same g h ≡ true → link_among same points (length points) g ≡ link_among same points (length points) h
    same_vertex g h l k e = links_agree same points (length points) g h agree
      where
        truth : (a b : Bool) → (a ≡ true → b ≡ true) → (b ≡ true → a ≡ true) → a ≡ b
        truth true b f q = sym (f refl)
        truth false true f q = q refl
        truth false false f q = refl

        agree : (i : ℕ) → i < length points → same (get_or points i 0) g ≡ same (get_or points i 0) h
        agree i j = truth (same (get_or points i 0) g) (same (get_or points i 0) h) (λ p. through (get_or points i 0) g h (first_low i j) l k p e) (λ p. through (get_or points i 0) h g (first_low i j) k l p (turned g h l k e))

    pub vertex_one : (g h : ℕ) → g < n → h < n → link_among same points (length points) g - 1 ≡ link_among same points (length points) h - 1 → same g h ≡ true
    vertex_one g h l k e =
        let a = vertex_same g l in
        let b = vertex_same h k in
        let p = get_or points (link_among same points (length points) g - 1) 0 in
        let q : same p h ≡ true = subst (λ (i : ℕ). same (get_or points i 0) h ≡ true) (sym e) b.1 in
        through g p h l (first_low (link_among same points (length points) g - 1) a.0) k (turned p g (first_low (link_among same points (length points) g - 1) a.0) l a.1) q
