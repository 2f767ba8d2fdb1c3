-- The walk along a bucket's chain finds the vertex that the list of vertices has, whatever two points are the same and whatever bucket they are in, if the same
-- points are in one bucket. Assumes nothing.
use Prim.Native.Nat.{ℕ, zero, suc, ◌-◌, ◌<◌, ◌≤◌}
use mathlib.Core.Path.{◌≡◌, refl, sym, ap, ◌∙◌}
use mathlib.Core.Bool.{Bool, true, false, cond}
use mathlib.Core.List.{List}
use mathlib.Core.Logic.{◌≢◌}
use native.Mathlib.Omega.{arith}
use borrow.Author.Tests.{eqb-true, eqb-false}
use lib.Dec.{eqb}
use lib.ListN.{get_or, take}
use lib.Seq.{get_or-take}
use Rattle.stl_format.specs.Format.{link_among}
use Rattle.stl_table.specs.Table.{last_vertex_in, follow_links}

module _ (passes : ℕ → Bool) (links : List ℕ) where
  pub follow_none : (n : ℕ) → follow_links passes links n 0 ≡ 0
  unfolding follow_links
  follow_none zero = refl
  follow_none (suc n) = refl

  module _ (head : ℕ) (falling : (i : ℕ) → i < head → get_or links i 0 ≤ i) where
    -- as many links as the first one's number are enough
    pub enough : (n m at : ℕ) → at ≤ head → at ≤ n → at ≤ m → follow_links passes links n at ≡ follow_links passes links m at
    unfolding follow_links
    enough zero m zero h l k = sym (follow_none m)
    enough (suc n) m zero h l k = sym (follow_none m)
    enough zero m (suc i) h l k = absurd (omega arith)
    enough (suc n) zero (suc i) h l k = absurd (omega arith)
    enough (suc n) (suc m) (suc i) h l k = ap (cond (passes i) (suc i)) (enough n m (get_or links i 0) (omega (arith, falling i (omega arith))) (omega (arith, falling i (omega arith))) (omega (arith, falling i (omega arith))))

    here : (i : ℕ) → passes i ≡ true → follow_links passes links (suc i) (suc i) ≡ suc i
    unfolding follow_links
    here i q = rw q

    on : (i : ℕ) → i < head → passes i ≡ false → follow_links passes links (suc i) (suc i) ≡ follow_links passes links (get_or links i 0) (get_or links i 0)
    unfolding follow_links
    on i h q = rw q (enough i (get_or links i 0) (get_or links i 0) (omega (arith, falling i h)) (falling i h) (omega arith))

    -- the turns of the loop, at a link that is not 0
    module _ (at : ℕ) (live : at ≢ 0) (low : at ≤ head) (inv : follow_links passes links head head ≡ follow_links passes links at at) where
      at_suc : suc (at - 1) ≡ at
      at_suc = omega arith

      pub found : passes (at - 1) ≡ true → at ≡ follow_links passes links head head
      found q = sym at_suc ∙ (sym (here (at - 1) q) ∙ (ap (λ (k : ℕ). follow_links passes links k k) at_suc ∙ sym inv))

      pub next : passes (at - 1) ≡ false → follow_links passes links head head ≡ follow_links passes links (get_or links (at - 1) 0) (get_or links (at - 1) 0)
      next q = inv ∙ (ap (λ (k : ℕ). follow_links passes links k k) (sym at_suc) ∙ on (at - 1) (omega arith) q)

  pub missed : (at head : ℕ) → follow_links passes links head head ≡ follow_links passes links at at → at ≡ 0 → 0 ≡ follow_links passes links head head
  missed at head inv e = sym (inv ∙ (ap (λ (k : ℕ). follow_links passes links k k) e ∙ follow_none 0))

-- ---- links among lists of points

either_le : (t : Bool) (n m : ℕ) → m ≤ n → cond t (suc n) m ≤ suc n
either_le true n m l = omega arith
either_le false n m l = omega arith

module _ (bucket : ℕ → ℕ) (fs : List ℕ) (b : ℕ) where
  pub last_le : (n : ℕ) → last_vertex_in bucket fs b n ≤ n
  unfolding last_vertex_in
  last_le zero = omega arith
  last_le (suc n) = either_le (eqb (bucket (get_or fs n 0)) b) n (last_vertex_in bucket fs b n) (last_le n)

  -- lists that agree below n
  pub last_agree : (gs : List ℕ) (n : ℕ) → ((i : ℕ) → i < n → get_or gs i 0 ≡ get_or fs i 0) → last_vertex_in bucket gs b n ≡ last_vertex_in bucket fs b n
  unfolding last_vertex_in
  last_agree gs zero h = refl
  last_agree gs (suc n) h = rw (h n (omega arith), last_agree gs n (λ i l. h i (omega arith)))

module _ (same : ℕ → ℕ → Bool) (h : ℕ) where
  pub link_take : (fs : List ℕ) (k n : ℕ) → n ≤ k → link_among same (take k fs) n h ≡ link_among same fs n h
  unfolding link_among
  link_take fs k zero l = refl
  link_take fs k (suc n) l = let e : get_or (take k fs) n 0 ≡ get_or fs n 0 = get_or-take k fs n 0 (omega arith) in rw (e, link_take fs k n (omega arith))

-- ---- along the chain of its bucket a point's vertex is found
module _ (same : ℕ → ℕ → Bool) (bucket : ℕ → ℕ) (alike : (g h : ℕ) → same g h ≡ true → bucket g ≡ bucket h) (fs links : List ℕ) (count : ℕ) (linked : (i : ℕ) → i < count → get_or links i 0 ≡ last_vertex_in bucket fs (bucket (get_or fs i 0)) i) (h : ℕ) where
  along : (t : Bool) (n m : ℕ) → t ≡ eqb (bucket (get_or fs m 0)) (bucket h) → m < count
      → follow_links (λ i. same (get_or fs i 0) h) links n (last_vertex_in bucket fs (bucket h) m) ≡ link_among same fs m h
      → follow_links (λ i. same (get_or fs i 0) h) links (suc n) (last_vertex_in bucket fs (bucket h) m) ≡ link_among same fs m h
      → follow_links (λ i. same (get_or fs i 0) h) links (suc n) (cond t (suc m) (last_vertex_in bucket fs (bucket h) m)) ≡ link_among same fs (suc m) h
  unfolding follow_links link_among
  along true n m e l p q =
      let b : bucket (get_or fs m 0) ≡ bucket h = eqb-true _ _ (sym e) in
      ap (cond (same (get_or fs m 0) h) (suc m)) (ap (follow_links (λ i. same (get_or fs i 0) h) links n) (linked m l ∙ ap (λ (k : ℕ). last_vertex_in bucket fs k m) b) ∙ p)
  along false n m e l p q = q ∙ differs (same (get_or fs m 0) h) refl
    where
      differs : (d : Bool) → same (get_or fs m 0) h ≡ d → link_among same fs m h ≡ cond d (suc m) (link_among same fs m h)
      differs true s = absurd (eqb-false _ _ (sym e) (alike (get_or fs m 0) h s))
      differs false s = refl

  pub follow_last : (n m : ℕ) → m ≤ n → m ≤ count → follow_links (λ i. same (get_or fs i 0) h) links n (last_vertex_in bucket fs (bucket h) m) ≡ link_among same fs m h
  unfolding last_vertex_in link_among
  follow_last n zero l k = follow_none (λ i. same (get_or fs i 0) h) links n
  follow_last zero (suc m) l k = absurd (omega arith)
  follow_last (suc n) (suc m) l k = along (eqb (bucket (get_or fs m 0)) (bucket h)) n m refl (omega arith) (follow_last n m (omega arith) (omega arith)) (follow_last (suc n) m (omega arith) (omega arith))

  -- from the head of the bucket
  pub follow_head : (head : ℕ) → head ≡ last_vertex_in bucket fs (bucket h) count → follow_links (λ i. same (get_or fs i 0) h) links head head ≡ link_among same fs count h
  follow_head head e =
      let low : head ≤ count = omega (arith, last_le bucket fs (bucket h) count) in
      enough (λ i. same (get_or fs i 0) h) links head (λ i l. falls i (omega arith)) head count head (omega arith) (omega arith) low
      ∙ (ap (follow_links (λ i. same (get_or fs i 0) h) links count) e ∙ follow_last count count (omega arith) (omega arith))
    where
      falls : (i : ℕ) → i < count → get_or links i 0 ≤ i
      falls i l = omega (arith, linked i l, last_le bucket fs (bucket (get_or fs i 0)) i)
