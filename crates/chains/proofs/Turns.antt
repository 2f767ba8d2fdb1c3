-- What a link that is read is, and the two kinds of link, the head of an edge and the link of a window, as the functions tell them apart.
use Prim.Native.Nat.{ℕ, zero, suc, ◌+◌, ◌*◌, ◌-◌, ◌<◌, ◌≤◌}
use native.Mathlib.Omega.{arith}
use native.Mathlib.Decide.{dec_le}
use mathlib.Core.Path.{◌≡◌, refl, sym}
use mathlib.Core.Logic.{◌≢◌}
use borrow.Author.Tests.{le-leb, lt-leb}
use lib.ListN.{set}
use Rattle.layout.specs.Layout.{words_per_edge, edge_head}
use Rattle.windows.specs.Windows.{link_with}
use Rattle.chains.specs.Chains.{Links, links, head_of, next_link, link_in, link_at, with_link}

-- ---- a link that is read: up to the count it is as it stands, above it is none, so none leads past the count
module _ (count l : ℕ) where
  pub link_in_lem : l ≤ count → link_in count l ≡ l
  unfolding link_in
  link_in_lem h = rw (le-leb l count h) refl

  pub link_none : count < l → link_in count l ≡ 0
  unfolding link_in
  link_none h = rw (lt-leb l count h) refl

  pub link_le : (r : ℕ) → r ≡ link_in count l → r ≤ count
  link_le r e = go (dec_le l count) where
    go : Dec (l ≤ count) → r ≤ count
    go (yes h) = omega (arith, e, link_in_lem h)
    go (no h) = omega (arith, e, link_none (omega arith))

-- a link that goes on is that of window l - 1
from_link_lem : {A : Type 0} (f g : ℕ → A) → ((i : ℕ) → f (suc i) ≡ g i) → (l : ℕ) → l ≢ 0 → f l ≡ g (l - 1)
from_link_lem f g h zero q = absurd (q refl)
from_link_lem f g h (suc i) q = let e : suc i - 1 ≡ i = omega arith in rw e (h i)

-- the two kinds of link
module _ (b : Links) (e : ℕ) where
  pub link_head : (k : ℕ) → k ≡ 0 → head_of b.edges e ≡ link_at b e k
  unfolding link_at
  link_head k h = rw h refl

  pub link_next : (k : ℕ) → k ≢ 0 → next_link b.words (k - 1) ≡ link_at b e k
  unfolding link_at
  link_next k h = sym (from_link_lem (link_at b e) (next_link b.words) (λ i. refl) k h)

  pub with_head : (k v : ℕ) → k ≡ 0 → links (set b.edges (words_per_edge * e + edge_head) v) b.words ≡ with_link b e k v
  unfolding with_link
  with_head k v h = rw h refl

  pub with_next_lem : (k v : ℕ) → k ≢ 0 → links b.edges (link_with b.words (k - 1) v) ≡ with_link b e k v
  unfolding with_link
  with_next_lem k v h = sym (from_link_lem (λ k. with_link b e k v) (λ i. links b.edges (link_with b.words i v)) (λ i. refl) k h)
