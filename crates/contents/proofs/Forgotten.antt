-- What is left of the edges' words where each edge has forgotten its link. Assumes nothing.
use Prim.Native.Nat.{ℕ, zero, suc, ◌+◌, ◌*◌, ◌/◌, ◌%◌, ◌≤◌, ◌<◌}
use native.Mathlib.Omega.{arith}
use native.Mathlib.Decide.{ℕ_discrete, dec_le}
use native.Mathlib.Nat.{div-add-mod'}
use mathlib.Core.Bool.{cond}
use mathlib.Core.List.{List}
use mathlib.Core.Logic.{◌≢◌}
use mathlib.Core.Path.{◌≡◌, refl, sym, subst, ◌∙◌}
use borrow.Author.Tests.{eq-eqb, ne_eqb}
use lib.Dec.{eqb}
use lib.ListN.{length, get_or, set, length-set, get_or-eq_default}
use lib.Seq.{get_or-set_same, get_or-set_other, ext_get_or}
use lib.Ieee.{Float}
use Rattle.layout.specs.Layout.{words_per_edge, edge_head, edge_scratch}
use Rattle.nat_laws.proofs.Lists.{length_list_of, get_d_list_of}
use Rattle.windows.specs.declared.WindowRecord.{WindowRecord}
use Rattle.chains.specs.Chains.{links, head_of, first_link}
use Rattle.chains.proofs.Paths.{path_first}
use Rattle.trim_model.specs.Windows.{Window}
use Rattle.live_windows.specs.Live.{nums, HoldsWindows}
use Rattle.live_windows.proofs.Fronts.{hint_holds}
use Rattle.contents.specs.Contents.{forgotten, heads_in}

pub length_forgotten : (n : ℕ) (l : List ℕ) → length (forgotten n l) ≡ length l
unfolding forgotten
length_forgotten zero l = refl
length_forgotten (suc n) l = length-set (forgotten n l) (words_per_edge * n + edge_scratch) 0 ∙ length_forgotten n l

-- a turn of the loop
pub forget_turn : (n : ℕ) (l l' : List ℕ) → l' ≡ set (forgotten n l) (words_per_edge * n + edge_scratch) 0 → l' ≡ forgotten (suc n) l
unfolding forgotten
forget_turn n l l' h = h

pub forget_none : (l : List ℕ) → l ≡ forgotten 0 l
unfolding forgotten
forget_none l = refl

-- the links are gone, and nothing else
pub forgot : (n : ℕ) (l : List ℕ) (e : ℕ) → e < n → get_or (forgotten n l) (words_per_edge * e + edge_scratch) 0 ≡ 0
unfolding forgotten
forgot zero l e h = absurd (omega arith)
forgot (suc n) l e h = go (ℕ_discrete n e) (dec_le (length (forgotten n l)) (words_per_edge * n + edge_scratch)) (forgot n l e) where
  past : (k : List ℕ) → length k ≤ words_per_edge * n + edge_scratch → get_or (set k (words_per_edge * n + edge_scratch) 0) (words_per_edge * n + edge_scratch) 0 ≡ 0
  past k i = get_or-eq_default (set k (words_per_edge * n + edge_scratch) 0) 0 (subst (λ (m : ℕ). m ≤ words_per_edge * n + edge_scratch) (sym (length-set k (words_per_edge * n + edge_scratch) 0)) i)

  go : Dec (n ≡ e) → Dec (length (forgotten n l) ≤ words_per_edge * n + edge_scratch) → (e < n → get_or (forgotten n l) (words_per_edge * e + edge_scratch) 0 ≡ 0) → get_or (set (forgotten n l) (words_per_edge * n + edge_scratch) 0) (words_per_edge * e + edge_scratch) 0 ≡ 0
  go (yes d) (yes i) ih = subst (λ (m : ℕ). get_or (set (forgotten n l) (words_per_edge * n + edge_scratch) 0) (words_per_edge * m + edge_scratch) 0 ≡ 0) d (past (forgotten n l) i)
  go (yes d) (no i) ih = subst (λ (m : ℕ). get_or (set (forgotten n l) (words_per_edge * n + edge_scratch) 0) (words_per_edge * m + edge_scratch) 0 ≡ 0) d (get_or-set_same (forgotten n l) (words_per_edge * n + edge_scratch) 0 0 (omega (arith, i)))
  go (no d) k ih = get_or-set_other (forgotten n l) (words_per_edge * n + edge_scratch) (words_per_edge * e + edge_scratch) 0 0 (λ z. omega (arith, z, d)) ∙ ih (omega (arith, d, h))

pub kept : (n : ℕ) (l : List ℕ) (p : ℕ) → ((e : ℕ) → e < n → p ≢ words_per_edge * e + edge_scratch) → get_or (forgotten n l) p 0 ≡ get_or l p 0
unfolding forgotten
kept zero l p h = refl
kept (suc n) l p h = get_or-set_other (forgotten n l) (words_per_edge * n + edge_scratch) p 0 0 (λ z. h n (omega arith) z) ∙ kept n l p (λ e i. h e (omega (arith, i)))

-- the windows stand as they did
pub forget_holds : (k : ℕ) (n : ℕ) (wins : List WindowRecord) (edges words : List ℕ) (f : List Float) (live : ℕ → List Window) → HoldsWindows n wins (links edges words) f live → HoldsWindows n wins (links (forgotten k edges) words) f live
unfolding forgotten
forget_holds zero n wins edges words f live H = H
forget_holds (suc k) n wins edges words f live H = hint_holds n (links (forgotten k edges) words) k 0 wins f live (forget_holds k n wins edges words f live H)

-- where nothing but the heads and the links of the first m edges was written on zeros, the heads are all that is left
module _ (m k n : ℕ) (wins : List WindowRecord) (edges words : List ℕ) (f : List Float) (live : ℕ → List Window) (H : HoldsWindows n wins (links edges words) f live) (few : m ≤ k)
    (zeros : (p : ℕ) → ((e : ℕ) → e < m → (p ≢ words_per_edge * e + edge_head) × (p ≢ words_per_edge * e + edge_scratch)) → get_or edges p 0 ≡ 0) where
  head_is : (e : ℕ) → get_or (forgotten k edges) (words_per_edge * e + edge_head) 0 ≡ first_link (nums (live e))
  head_is e = path_first words (head_of (forgotten k edges) e) (nums (live e)) ((forget_holds k n wins edges words f live H).on_edge e).chain.path

  rest_is : (p : ℕ) → p % words_per_edge ≢ edge_head → get_or (forgotten k edges) p 0 ≡ 0
  rest_is p h = go (ℕ_discrete (p % words_per_edge) edge_scratch) (dec_le k (p / words_per_edge)) where
    is : p / words_per_edge * words_per_edge + p % words_per_edge ≡ p
    is = div-add-mod' p words_per_edge

    go : Dec (p % words_per_edge ≡ edge_scratch) → Dec (k ≤ p / words_per_edge) → get_or (forgotten k edges) p 0 ≡ 0
    go (yes d) (no i) = subst (λ (q : ℕ). get_or (forgotten k edges) q 0 ≡ 0) (omega (arith, is, d)) (forgot k edges (p / words_per_edge) (omega (arith, i)))
    go (yes d) (yes i) = kept k edges p (λ e j z. omega (arith, is, d, i, j, z)) ∙ zeros p (λ e j. ((λ z. omega (arith, is, d, z)), (λ z. omega (arith, is, d, i, j, few, z))))
    go (no d) i = kept k edges p (λ e j z. omega (arith, is, d, z)) ∙ zeros p (λ e j. ((λ z. omega (arith, is, h, z)), (λ z. omega (arith, is, d, z))))

  pub heads_only : forgotten k edges ≡ heads_in live (length edges)
  heads_only =
      let g : ℕ → ℕ = λ p. cond (eqb (p % words_per_edge) edge_head) (first_link (nums (live (p / words_per_edge)))) 0 in
      ext_get_or 0 (forgotten k edges) (heads_in live (length edges)) (length_forgotten k edges ∙ sym (length_list_of (length edges) g))
      (λ p l. at p (ℕ_discrete (p % words_per_edge) edge_head) ∙ sym (get_d_list_of (length edges) g p 0 (subst (λ (j : ℕ). p < j) (length_forgotten k edges) l))) where
        at : (p : ℕ) → Dec (p % words_per_edge ≡ edge_head) → get_or (forgotten k edges) p 0 ≡ cond (eqb (p % words_per_edge) edge_head) (first_link (nums (live (p / words_per_edge)))) 0
        at p (yes d) = let is = div-add-mod' p words_per_edge in rw (eq-eqb (p % words_per_edge) edge_head d) (subst (λ (q : ℕ). get_or (forgotten k edges) q 0 ≡ first_link (nums (live (p / words_per_edge)))) (omega (arith, is, d)) (head_is (p / words_per_edge)))
        at p (no d) = rw (ne_eqb (p % words_per_edge) edge_head d) (rest_is p d)
