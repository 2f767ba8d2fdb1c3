-- The words of the edges where only chain heads and scratch words were written on those of a mesh as it was built, and the scratch words are zeroed. Assumes nothing.
use Prim.Native.Nat.{ℕ, suc, ◌+◌, ◌*◌, ◌/◌, ◌%◌, ◌<◌}
use native.Mathlib.Omega.{arith}
use native.Mathlib.Decide.{ℕ_discrete}
use native.Mathlib.Nat.{div-add-mod'}
use mathlib.Core.Bool.{cond}
use mathlib.Core.List.{List, [], ◌∷◌}
use mathlib.Core.Logic.{◌≢◌}
use mathlib.Core.Path.{◌≡◌, refl, sym, subst, ◌∙◌}
use borrow.Author.Tests.{eq-eqb, ne_eqb}
use lib.Dec.{eqb}
use lib.ListN.{length, get_or}
use lib.Seq.{ext_get_or}
use lib.Ieee.{Float}
use Rattle.layout.specs.Layout.{words_per_edge, edge_head, edge_scratch}
use Rattle.nat_laws.specs.Lists.{list_of}
use Rattle.nat_laws.proofs.Lists.{length_list_of, get_d_list_of}
use Rattle.windows.specs.declared.WindowRecord.{WindowRecord}
use Rattle.chains.specs.Chains.{links, head_of, first_link}
use Rattle.chains.proofs.Paths.{path_first}
use Rattle.contents.specs.of_trim_model.Windows.{Window}
use Rattle.contents.specs.of_live_windows.Live.{nums, HoldsWindows}
use Rattle.contents.specs.Contents.{forgotten}
use Rattle.contents.proofs.Forgotten.{length_forgotten, forgot, kept, forget_holds}
use Rattle.finish.specs.Contents.{edge_word_with, edges_with}

module _ (built edges : List ℕ) (same : length edges ≡ length built) (made : ℕ) (wins : List WindowRecord) (words : List ℕ) (f : List Float) (live : ℕ → List Window) (H : HoldsWindows made wins (links edges words) f live)
    (no-scratch : (e : ℕ) → get_or built (words_per_edge * e + edge_scratch) 0 ≡ 0)
    (others : (i : ℕ) → ((e : ℕ) → (i ≢ words_per_edge * e + edge_head) × (i ≢ words_per_edge * e + edge_scratch)) → get_or edges i 0 ≡ get_or built i 0) where
  abbrev k : ℕ
  k = length edges / words_per_edge

  -- the windows stand as they did
  pub windows_stand : HoldsWindows made wins (links (forgotten k edges) words) f live
  windows_stand = forget_holds k made wins edges words f live H

  head_is : (e : ℕ) → get_or (forgotten k edges) (words_per_edge * e + edge_head) 0 ≡ first_link (nums (live e))
  head_is e = path_first words (head_of (forgotten k edges) e) (nums (live e)) (windows_stand.on_edge e).chain.path

  rest_is : (p : ℕ) → p < length edges → p % words_per_edge ≢ edge_head → get_or (forgotten k edges) p 0 ≡ get_or built p 0
  rest_is p l h = go (ℕ_discrete (p % words_per_edge) edge_scratch) where
    is : p / words_per_edge * words_per_edge + p % words_per_edge ≡ p
    is = div-add-mod' p words_per_edge

    go : Dec (p % words_per_edge ≡ edge_scratch) → get_or (forgotten k edges) p 0 ≡ get_or built p 0
    go (yes d) =
        let e : words_per_edge * (p / words_per_edge) + edge_scratch ≡ p = omega (arith, is, d) in
        let m : p / words_per_edge < k = omega (arith, e, l) in
        subst (λ (q : ℕ). get_or (forgotten k edges) q 0 ≡ get_or built q 0) e (forgot k edges (p / words_per_edge) m ∙ sym (no-scratch (p / words_per_edge)))
    go (no d) = kept k edges p (λ e j z. omega (arith, is, d, z)) ∙ others p (λ e. ((λ z. omega (arith, is, h, z)), (λ z. omega (arith, is, d, z))))

  word_is : (p : ℕ) → p < length edges → get_or (forgotten k edges) p 0 ≡ edge_word_with built live p
  unfolding edge_word_with
  word_is p l = go (ℕ_discrete (p % words_per_edge) edge_head) where
    go : Dec (p % words_per_edge ≡ edge_head) → get_or (forgotten k edges) p 0 ≡ cond (eqb (p % words_per_edge) edge_head) (first_link (nums (live (p / words_per_edge)))) (get_or built p 0)
    go (yes d) =
        let is = div-add-mod' p words_per_edge in
        rw (eq-eqb (p % words_per_edge) edge_head d) (subst (λ (q : ℕ). get_or (forgotten k edges) q 0 ≡ first_link (nums (live (p / words_per_edge)))) (omega (arith, is, d)) (head_is (p / words_per_edge)))
    go (no d) = rw (ne_eqb (p % words_per_edge) edge_head d) (rest_is p l d)

  pub edge_words_are : forgotten k edges ≡ edges_with built live
  edge_words_are =
      ext_get_or 0 (forgotten k edges) (edges_with built live) (length_forgotten k edges ∙ same ∙ sym (length_list_of (length built) (edge_word_with built live)))
      (λ p l. let m : p < length edges = subst (λ (j : ℕ). p < j) (length_forgotten k edges) l in
      word_is p m ∙ sym (get_d_list_of (length built) (edge_word_with built live) p 0 (subst (λ (j : ℕ). p < j) same m)))

-- ---- two edges, and one window on the second
example_edges : (u : Window) → edges_with (7 ∷ 8 ∷ 0 ∷ 1 ∷ 0 ∷ 0 ∷ 7 ∷ 9 ∷ 0 ∷ 2 ∷ 0 ∷ 0 ∷ []) (λ e. cond (eqb e 1) (u ∷ []) []) ≡ 7 ∷ 8 ∷ 0 ∷ 1 ∷ 0 ∷ 0 ∷ 7 ∷ 9 ∷ 0 ∷ 2 ∷ suc u.num ∷ 0 ∷ []
unfolding list_of edge_word_with nums first_link
example_edges u = refl
