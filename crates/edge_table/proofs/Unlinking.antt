-- The links of the edges zeroed: every other word is as it was, and what the words hold is the finished table. Assumes nothing.
use Prim.Native.Nat.{ℕ, zero, suc, ◌+◌, ◌*◌, ◌<◌, ◌≤◌}
use mathlib.Core.Path.{◌≡◌, refl, sym, ap, ◌∙◌}
use mathlib.Core.Bool.{Bool, true, false, cond}
use mathlib.Core.List.{List}
use mathlib.Core.Logic.{⊎_elim, ◌≢◌}
use native.Mathlib.Decide.{ℕ_discrete, dec_le}
use native.Mathlib.Nat.{le_of_suc-le-suc, not-suc-le-zero, eq-or-lt_of_le, le_antisymm}
use native.Mathlib.Numerals.{add-one}
use native.Mathlib.Omega.{arith}
use borrow.Author.Tests.{le-ltb}
use lib.Dec.{ltb}
use lib.ListN.{length, get_or, set, length-set, get_or-eq_default}
use lib.Seq.{get_or-set_same, get_or-set_other}
use Rattle.layout.specs.Layout.{words_per_edge, edge_scratch}
use Rattle.topology.specs.Edges.{EndPair}
use Rattle.edge_table.specs.Words.{edge_row, edge_word}
use Rattle.edge_table.specs.Sides.{HoldsWords, linked_row, linked_word, without_links}

-- a zero that was written, whether or not the list has the place
zeroed_at : (l : List ℕ) (i : ℕ) → get_or (set l i 0) i 0 ≡ 0
zeroed_at l i = go (dec_le (length l) i) where
  go : Dec (length l ≤ i) → get_or (set l i 0) i 0 ≡ 0
  go (yes p) = get_or-eq_default (set l i 0) 0 (simp length-set p)
  go (no p) = get_or-set_same l i 0 0 (omega arith)

module _ (w : List ℕ) where
  pub length_unlinked : (n : ℕ) → length (without_links n w) ≡ length w
  unfolding without_links
  length_unlinked zero = refl
  length_unlinked (suc n) = simp length-set (length_unlinked n)

  other_kept : (n i : ℕ) → ((e : ℕ) → e < n → i ≢ words_per_edge * e + edge_scratch) → get_or (without_links n w) i 0 ≡ get_or w i 0
  unfolding without_links
  other_kept zero i ne = refl
  other_kept (suc n) i ne = get_or-set_other (without_links n w) (words_per_edge * n + edge_scratch) i 0 0 (ne n (omega arith)) ∙ other_kept n i (λ e l. ne e (omega arith))

  link_zeroed : (n e : ℕ) → e < n → get_or (without_links n w) (words_per_edge * e + edge_scratch) 0 ≡ 0
  unfolding without_links
  link_zeroed zero e l = absurd (not-suc-le-zero l)
  link_zeroed (suc n) e l =
      ⊎_elim (λ q. rw q (zeroed_at (without_links n w) (words_per_edge * n + edge_scratch)))
      (λ m. get_or-set_other (without_links n w) (words_per_edge * n + edge_scratch) (words_per_edge * e + edge_scratch) 0 0 (λ z. omega arith) ∙ link_zeroed n e m)
      (eq-or-lt_of_le (le_of_suc-le-suc l))

  -- the loop's turns
  pub unlinked_none : w ≡ without_links 0 w
  unfolding without_links
  unlinked_none = refl

  pub unlinked_more : (e : ℕ) (w₁ w₂ : List ℕ) → w₁ ≡ without_links e w → w₂ ≡ set w₁ (words_per_edge * e + edge_scratch) 0 → w₂ ≡ without_links (e + 1) w
  unfolding without_links
  unlinked_more e w₁ w₂ p q = rw (add-one e) (q ∙ rw p refl)

  pub unlinked_all : (w₁ : List ℕ) (e n : ℕ) → w₁ ≡ without_links e w → e ≤ n → n ≤ e → w₁ ≡ without_links n w
  unlinked_all w₁ e n p l m = p ∙ ap (λ (k : ℕ). without_links k w) (le_antisymm l m)

-- The rows of an edge differ in the link alone.
module _ (size : ℕ) (es : List EndPair) (faces : ℕ → List ℕ) where
  row_same : (e a : ℕ) (fs : List ℕ) → a ≢ edge_scratch → get_or (linked_row size es e fs) a 0 ≡ get_or (edge_row es e fs) a 0
  unfolding linked_row edge_row
  row_same e zero fs n = refl
  row_same e (suc zero) fs n = refl
  row_same e (suc (suc zero)) fs n = refl
  row_same e (suc (suc (suc zero))) fs n = refl
  row_same e (suc (suc (suc (suc zero)))) fs n = refl
  row_same e (suc (suc (suc (suc (suc zero))))) fs n = absurd (n refl)
  row_same e (suc (suc (suc (suc (suc (suc a)))))) fs n = refl

  word_same : (e a : ℕ) → a ≢ edge_scratch → linked_word size es faces e a ≡ edge_word es faces e a
  unfolding linked_word edge_word
  word_same e a n = rw (row_same e a (faces e) n) refl

  link_word : (e : ℕ) → edge_word es faces e edge_scratch ≡ 0
  unfolding edge_word edge_row
  link_word e = go (ltb e (length es)) where
    go : (b : Bool) → ◌≡◌ {A = ℕ} (cond b 0 0) 0
    go true = refl
    go false = refl

  past_word : (e a : ℕ) → length es ≤ e → linked_word size es faces e a ≡ 0
  unfolding linked_word
  past_word e a l = rw (le-ltb e (length es) l) refl

  module _ (w : List ℕ) (holds : HoldsWords words_per_edge w (linked_word size es faces)) where
    link_held : (e : ℕ) → get_or (without_links (length es) w) (words_per_edge * e + edge_scratch) 0 ≡ 0
    link_held e = go (dec_le (length es) e) where
      go : Dec (length es ≤ e) → get_or (without_links (length es) w) (words_per_edge * e + edge_scratch) 0 ≡ 0
      go (yes p) = other_kept w (length es) (words_per_edge * e + edge_scratch) (λ k l z. omega arith) ∙ (holds e edge_scratch (omega arith) ∙ past_word e edge_scratch p)
      go (no p) = link_zeroed w (length es) e (omega arith)

    pub unlinked : HoldsWords words_per_edge (without_links (length es) w) (edge_word es faces)
    unlinked e a l = go (ℕ_discrete a edge_scratch) where
      go : Dec (a ≡ edge_scratch) → get_or (without_links (length es) w) (words_per_edge * e + a) 0 ≡ edge_word es faces e a
      go (yes q) = rw q (link_held e ∙ sym (link_word e))
      go (no q) = other_kept w (length es) (words_per_edge * e + a) (λ k m z. q (omega arith)) ∙ (holds e a l ∙ word_same e a q)
