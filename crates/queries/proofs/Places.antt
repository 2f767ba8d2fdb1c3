-- The turns of the walk to a place in an edge's list. Assumes nothing.
use Prim.Native.Nat.{ℕ, zero, suc, ◌-◌, ◌<◌}
use native.Mathlib.Omega.{arith}
use mathlib.Core.List.{List, [], ◌∷◌}
use mathlib.Core.Logic.{◌≢◌}
use mathlib.Core.Path.{◌≡◌, refl, sym, ap, ◌∙◌}
use lib.Ieee.{Float}
use Rattle.std.specs.declared.result.Result.TheVariants.{Ok, Err}
use Rattle.windows.specs.Windows.{window_at}
use Rattle.windows.specs.declared.WindowRecord.{WindowRecord}
use Rattle.chains.specs.Chains.{Links, link_in, link_at}
use Rattle.edge_query.specs.of_last_pass.Buffers.{chain_behind}
use Rattle.edge_query.proofs.laws_of_last_pass.Chains.{chain_end, chain_next, chain_out}
use Rattle.queries.specs.declared.WindowRefusal.TheVariants.{PastEnd}
use Rattle.queries.specs.Queries.{place_link, linked_window}

place_none : (i : ℕ) → place_link i [] ≡ 0
unfolding place_link
place_none zero = refl
place_none (suc i) = refl

head : (k : ℕ) (ks : List ℕ) → place_link 0 (k ∷ ks) ≡ suc k
unfolding place_link
head k ks = refl

tail : (i k : ℕ) (ks : List ℕ) → i ≢ 0 → place_link i (k ∷ ks) ≡ place_link (i - 1) ks
unfolding place_link
tail zero k ks q = absurd (q refl)
tail (suc i) k ks q = ap (λ (n : ℕ). place_link n ks) (let g : i ≡ suc i - 1 = omega arith in g)

-- the window of a link
pub linked_none : (w : List ℕ) (f : List Float) (l : ℕ) → l ≡ 0 → Err PastEnd ≡ linked_window w f l
unfolding linked_window
linked_none w f l h = rw h refl

pub linked_some : (w : List ℕ) (f : List Float) (l : ℕ) (x : WindowRecord) → l ≢ 0 → x ≡ window_at w f (l - 1) → Ok (record { id = record { 0 = l - 1 }; window = x }) ≡ linked_window w f l
unfolding linked_window
linked_some w f zero x q h = absurd (q refl)
linked_some w f (suc i) x q h =
    ap (λ (y : WindowRecord). Ok (record { id = record { 0 = suc i - 1 }; window = y })) h
    ∙ ap (λ (n : ℕ). Ok (record { id = record { 0 = n }; window = window_at w f n })) (let g : suc i - 1 ≡ i = omega arith in g)

module _ (made : ℕ) (b : Links) (e : ℕ) where
  abbrev pub to_come : ℕ → ℕ → ℕ → ℕ
  to_come i left k = place_link i (chain_behind made b e left k)

  pub place_past : (i left k r : ℕ) → r ≡ link_in made (link_at b e k) → r ≡ 0 → 0 ≡ to_come i left k
  place_past i left k r read h = sym (ap (place_link i) (chain_end made b e left k r read h) ∙ place_none i)

  pub place_out : (i left k : ℕ) → left ≡ 0 → 0 ≡ to_come i left k
  place_out i left k h = sym (ap (place_link i) (chain_out made b e left k h) ∙ place_none i)

  module _ (i left k r : ℕ) (read : r ≡ link_in made (link_at b e k)) (m : 0 < left) (q : r ≢ 0) where
    met : to_come i left k ≡ place_link i ((r - 1) ∷ chain_behind made b e (left - 1) r)
    met = ap (place_link i) (chain_next made b e left k r read m q)

    pub place_here : i ≡ 0 → r ≡ to_come i left k
    place_here h = sym (met ∙ ap (λ (n : ℕ). place_link n ((r - 1) ∷ chain_behind made b e (left - 1) r)) h ∙ head (r - 1) (chain_behind made b e (left - 1) r) ∙ (let g : suc (r - 1) ≡ r = omega arith in g))

    pub place_on : i ≢ 0 → to_come (i - 1) (left - 1) r ≡ to_come i left k
    place_on h = sym (met ∙ tail i (r - 1) (chain_behind made b e (left - 1) r) h)
