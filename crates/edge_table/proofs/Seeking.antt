-- The walk along a bucket's chain finds the edge where the list of edges has it. Assumes nothing.
use Prim.Native.Nat.{ℕ, zero, suc, ◌+◌, ◌*◌, ◌-◌, ◌<◌, ◌≤◌}
use mathlib.Core.Path.{◌≡◌, refl, sym, ap, subst, ◌∙◌}
use mathlib.Core.Bool.{Bool, true, false, cond, ◌&&◌}
use mathlib.Core.List.{List}
use mathlib.Core.Logic.{⊎_elim, ◌≢◌}
use native.Mathlib.Omega.{arith}
use borrow.Author.Tests.{eq-eqb, ne_eqb, eqb-true, eqb-false, lt-ltb, le-ltb, ltb-true, ltb-false}
use lib.Dec.{ltb, eqb}
use lib.ListN.{length, get_or}
use Rattle.layout.specs.Layout.{words_per_edge, edge_low, edge_high, edge_scratch}
use Rattle.topology.specs.Edges.{EndPair, no_edge, same_edge, find}
use Rattle.topology.proofs.Find.{either, same_edge_lem, same_self, find_at, Numbered}
use Rattle.edge_table.specs.Words.{bucket_of, last_in}
use Rattle.edge_table.specs.Sides.{Falling, seek}
use Rattle.edge_table.proofs.Buckets.{last_le}

module _ (w : List ℕ) (low high : ℕ) where
  pub seek_none : (n : ℕ) → seek w low high n 0 ≡ 0
  unfolding seek
  seek_none zero = refl
  seek_none (suc n) = refl

  -- as many links as the first one's number are enough
  pub enough : Falling w → (n m at : ℕ) → at ≤ n → at ≤ m → seek w low high n at ≡ seek w low high m at
  unfolding seek
  enough fall zero m zero l k = sym (seek_none m)
  enough fall (suc n) m zero l k = sym (seek_none m)
  enough fall zero m (suc e) l k = absurd (omega arith)
  enough fall (suc n) zero (suc e) l k = absurd (omega arith)
  enough fall (suc n) (suc m) (suc e) l k =
      ap (cond (eqb (get_or w (words_per_edge * e + edge_low) 0) low && eqb (get_or w (words_per_edge * e + edge_high) 0) high) (suc e)) (enough fall n m (get_or w (words_per_edge * e + edge_scratch) 0) (omega (arith, fall e)) (omega (arith, fall e)))

  -- The turns of the loop: the edge at a link, or on to the next.
  module _ (fall : Falling w) (e : ℕ) where
    pub seek_here : get_or w (words_per_edge * e + edge_low) 0 ≡ low → get_or w (words_per_edge * e + edge_high) 0 ≡ high → seek w low high (suc e) (suc e) ≡ suc e
    unfolding seek
    seek_here p q = rw (eq-eqb _ _ p, eq-eqb _ _ q) refl

    on : (eqb (get_or w (words_per_edge * e + edge_low) 0) low && eqb (get_or w (words_per_edge * e + edge_high) 0) high) ≡ false → seek w low high (suc e) (suc e) ≡ seek w low high (get_or w (words_per_edge * e + edge_scratch) 0) (get_or w (words_per_edge * e + edge_scratch) 0)
    unfolding seek
    on q = rw q (enough fall e (get_or w (words_per_edge * e + edge_scratch) 0) (get_or w (words_per_edge * e + edge_scratch) 0) (fall e) (omega arith))

    pub seek_on_low : get_or w (words_per_edge * e + edge_low) 0 ≢ low → seek w low high (suc e) (suc e) ≡ seek w low high (get_or w (words_per_edge * e + edge_scratch) 0) (get_or w (words_per_edge * e + edge_scratch) 0)
    seek_on_low p = on (rw (ne_eqb _ _ p) refl)

    pub seek_on_high : get_or w (words_per_edge * e + edge_low) 0 ≡ low → get_or w (words_per_edge * e + edge_high) 0 ≢ high → seek w low high (suc e) (suc e) ≡ seek w low high (get_or w (words_per_edge * e + edge_scratch) 0) (get_or w (words_per_edge * e + edge_scratch) 0)
    seek_on_high p q = on (rw (eq-eqb _ _ p, ne_eqb _ _ q) refl)

pub seek_end : (w : List ℕ) (low high at head : ℕ) → seek w low high head head ≡ seek w low high at at → at ≡ 0 → 0 ≡ seek w low high head head
seek_end w low high at head inv e = sym (inv ∙ (ap (λ (k : ℕ). seek w low high k k) e ∙ seek_none w low high 0))

-- the next link is a lower one
pub falls : (w : List ℕ) (at : ℕ) → Falling w → at ≢ 0 → (k : ℕ) → k ≡ get_or w (words_per_edge * (at - 1) + edge_scratch) 0 → k < at
falls w at fall live k e = omega (arith, fall (at - 1))

-- The same at a link that is not 0, for the values that the loop read.
module _ (w : List ℕ) (low high at head a : ℕ) (fall : Falling w) (live : at ≢ 0) (inv : seek w low high head head ≡ seek w low high at at) (read : a ≡ get_or w (words_per_edge * (at - 1) + edge_low) 0) where
  at_suc : suc (at - 1) ≡ at
  at_suc = omega arith

  pub seek_at_here : (b : ℕ) → b ≡ get_or w (words_per_edge * (at - 1) + edge_high) 0 → a ≡ low → b ≡ high → at ≡ seek w low high head head
  seek_at_here b e p q = sym at_suc ∙ (sym (seek_here w low high fall (at - 1) (sym read ∙ p) (sym e ∙ q)) ∙ (ap (λ (k : ℕ). seek w low high k k) at_suc ∙ sym inv))

  module _ (k : ℕ) (e : k ≡ get_or w (words_per_edge * (at - 1) + edge_scratch) 0) where
    on_from : seek w low high (suc (at - 1)) (suc (at - 1)) ≡ seek w low high (get_or w (words_per_edge * (at - 1) + edge_scratch) 0) (get_or w (words_per_edge * (at - 1) + edge_scratch) 0) → seek w low high head head ≡ seek w low high k k
    on_from s = inv ∙ (ap (λ (j : ℕ). seek w low high j j) (sym at_suc) ∙ (s ∙ ap (λ (j : ℕ). seek w low high j j) (sym e)))

    pub seek_at_low : a ≢ low → seek w low high head head ≡ seek w low high k k
    seek_at_low p = on_from (seek_on_low w low high fall (at - 1) (λ z. p (read ∙ z)))

    pub seek_at_high : (b : ℕ) → b ≡ get_or w (words_per_edge * (at - 1) + edge_high) 0 → a ≡ low → b ≢ high → seek w low high head head ≡ seek w low high k k
    seek_at_high b f p q = on_from (seek_on_high w low high fall (at - 1) (sym read ∙ p) (λ z. q (f ∙ z)))

-- one more number below, which is not k
ltb_suc : (k m : ℕ) → (k ≡ m → ⊥) → ltb k (suc m) ≡ ltb k m
ltb_suc k m ne = ⊎_elim (λ q. rw q (lt-ltb k (suc m) (omega (arith, ltb-true k m q)))) (λ q. rw q (le-ltb k (suc m) (omega (arith, ltb-false k m q)))) (either (ltb k m))

-- Words that hold the first fields and the links of a list of edges.
pub record Linked (size : ℕ) (es : List EndPair) (w : List ℕ) : Type 0 where
  pub low_at_held : (e : ℕ) → e < length es → get_or w (words_per_edge * e + edge_low) 0 ≡ (get_or es e no_edge).low
  pub high_at_held : (e : ℕ) → e < length es → get_or w (words_per_edge * e + edge_high) 0 ≡ (get_or es e no_edge).high
  pub next_at : (e : ℕ) → e < length es → get_or w (words_per_edge * e + edge_scratch) 0 ≡ last_in size es (bucket_of size (get_or es e no_edge)) e

module _ (size : ℕ) (es : List EndPair) (w : List ℕ) (all : Numbered es) (linked : Linked size es w) (x : EndPair) where
  -- the link of an edge that is among the first m
  link_below : ℕ → ℕ
  link_below m = cond (ltb (find x es) m) (suc (find x es)) 0

  not_here : (m : ℕ) → m < length es → same_edge (get_or es m no_edge) x ≡ false → find x es ≡ m → ⊥
  not_here m l s q =
      let t : same_edge (get_or es m no_edge) x ≡ true = rw (subst (λ (k : ℕ). get_or es k no_edge ≡ x) q (find_at x es (omega arith))) (same_self x) in
      let z : ◌≡◌ {A = ℕ} 0 1 = cc in
      omega arith

  here : (m : ℕ) → m < length es → same_edge (get_or es m no_edge) x ≡ true → find x es ≡ m
  here m l s = subst (λ (y : EndPair). find y es ≡ m) (same_edge_lem (get_or es m no_edge) x s) (all m l)

  less : (m : ℕ) → (find x es ≡ m → ⊥) → link_below m ≡ link_below (suc m)
  unfolding link_below
  less m ne = rw (ltb_suc (find x es) m ne) refl

  -- edge m stands at the link: it is looked at, and its link followed
  look : (n m : ℕ) → m < length es → seek w x.low x.high (suc n) (suc m) ≡ cond (same_edge (get_or es m no_edge) x) (suc m) (seek w x.low x.high n (last_in size es (bucket_of size (get_or es m no_edge)) m))
  unfolding seek
  look n m l = rw (linked.low_at_held m l, linked.high_at_held m l, linked.next_at m l) refl

  at_edge : (m : ℕ) → m < length es → find x es ≡ m → link_below (suc m) ≡ suc m
  unfolding link_below
  at_edge m l q = rw (q, lt-ltb m (suc m) (omega arith)) refl

  pick : (b : Bool) (m k : ℕ) → m < length es → (b ≡ true → find x es ≡ m) → (b ≡ false → k ≡ link_below (suc m)) → cond b (suc m) k ≡ link_below (suc m)
  pick true m k l p q = sym (at_edge m l (p refl))
  pick false m k l p q = q refl

  last_in_lem : (m : ℕ) → bucket_of size (get_or es m no_edge) ≡ bucket_of size x → last_in size es (bucket_of size x) (suc m) ≡ suc m
  unfolding last_in
  last_in_lem m q = rw (eq-eqb (bucket_of size (get_or es m no_edge)) (bucket_of size x) q) refl

  last_off : (m : ℕ) → eqb (bucket_of size (get_or es m no_edge)) (bucket_of size x) ≡ false → last_in size es (bucket_of size x) (suc m) ≡ last_in size es (bucket_of size x) m
  unfolding last_in
  last_off m q = rw q refl

  seek_zero : (n : ℕ) → seek w x.low x.high n (last_in size es (bucket_of size x) 0) ≡ link_below 0
  unfolding last_in link_below
  seek_zero n = rw (le-ltb (find x es) 0 (omega arith)) (seek_none w x.low x.high n)

  seek_last : (n m : ℕ) → m ≤ n → m ≤ length es → seek w x.low x.high n (last_in size es (bucket_of size x) m) ≡ link_below m
  seek_last n zero l k = seek_zero n
  seek_last zero (suc m) l k = absurd (omega arith)
  seek_last (suc n) (suc m) l k =
      ⊎_elim
      (λ q. let e : bucket_of size (get_or es m no_edge) ≡ bucket_of size x = eqb-true (bucket_of size (get_or es m no_edge)) (bucket_of size x) q in
      ap (seek w x.low x.high (suc n)) (last_in_lem m e)
      ∙ (look n m (omega arith)
      ∙ pick (same_edge (get_or es m no_edge) x) m (seek w x.low x.high n (last_in size es (bucket_of size (get_or es m no_edge)) m)) (omega arith) (here m (omega arith))
      (λ s. ap (λ (b : ℕ). seek w x.low x.high n (last_in size es b m)) e ∙ (seek_last n m (omega arith) (omega arith) ∙ less m (not_here m (omega arith) s)))))
      (λ q. ap (seek w x.low x.high (suc n)) (last_off m q)
      ∙ (seek_last (suc n) m (omega arith) (omega arith)
      ∙ less m (λ z. eqb-false (bucket_of size (get_or es m no_edge)) (bucket_of size x) q (ap (bucket_of size) (subst (λ (j : ℕ). get_or es j no_edge ≡ x) z (find_at x es (omega arith)))))))
      (either (eqb (bucket_of size (get_or es m no_edge)) (bucket_of size x)))

  -- from the head of its bucket
  module _ (fall : Falling w) (head r : ℕ) (at_head : head ≡ last_in size es (bucket_of size x) (length es)) (said : r ≡ seek w x.low x.high head head) where
    link_is : r ≡ link_below (length es)
    link_is =
        said
        ∙ (enough w x.low x.high fall head (length es) head (omega arith) (omega (arith, last_le size es (bucket_of size x) (length es)))
        ∙ (ap (seek w x.low x.high (length es)) at_head ∙ seek_last (length es) (length es) (omega arith) (omega arith)))

    pub seek_missing : r ≡ 0 → length es ≤ find x es
    unfolding link_below
    seek_missing e =
        ⊎_elim (λ q. absurd (let z : r ≡ suc (find x es) = link_is ∙ rw q refl in omega arith)) (λ q. ltb-false (find x es) (length es) q) (either (ltb (find x es) (length es)))

    pub seek_found : r ≢ 0 → (find x es < length es) × (r - 1 ≡ find x es)
    unfolding link_below
    seek_found e =
        ⊎_elim (λ q. let z : r ≡ suc (find x es) = link_is ∙ rw q refl in (ltb-true (find x es) (length es) q, omega arith))
        (λ q. absurd (e (link_is ∙ rw q refl)))
        (either (ltb (find x es) (length es)))
