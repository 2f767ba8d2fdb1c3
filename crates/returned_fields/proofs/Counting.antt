-- Chains that are lists of places, each place on the chain of its label alone, have together no more links than there are places: chains_sound. Assumes nothing.
use Prim.Native.Nat.{ℕ, zero, suc, ◌+◌, ◌≤◌, ◌<◌}
use native.Mathlib.Omega.{arith}
use native.Mathlib.Decide.{dec_le, ℕ_discrete}
use mathlib.Core.Bool.{Bool, false, cond, ◌||◌}
use mathlib.Core.List.{List, [], ◌∷◌, ◌++◌}
use mathlib.Core.Logic.{◌≢◌}
use mathlib.Core.Path.{◌≡◌, refl, sym, ap, subst, ◌∙◌}
use borrow.Author.Tests.{lt-ltb, le-ltb}
use lib.Dec.{ltb}
use lib.ListN.{length, length-append}
use Rattle.nat_laws.specs.Lists.{All, Pairs}
use Rattle.nat_laws.proofs.Lists.{all_map, all_append}
use Rattle.nat_laws.proofs.Tests.{by_cases}
use Rattle.job_checks.proofs.Any.{none_all}
use Rattle.queries.specs.of_field_check.Chains.{links_from, any_bad, chain_of, link_total, chains_unsound}

-- ---- numbers below n that all differ are at most n
abbrev pub Differ : List ℕ → Type 0
Differ is = Pairs (λ (i j : ℕ). i ≢ j) is

-- how many of a list are below n
unfoldable below : ℕ → List ℕ → ℕ
below n [] = 0
below n (i ∷ is) = cond (ltb i n) (suc (below n is)) (below n is)

same_test : (i n : ℕ) → n ≢ i → ltb i (suc n) ≡ ltb i n
same_test i n q = go (dec_le n i) where
  go : Dec (n ≤ i) → ltb i (suc n) ≡ ltb i n
  go (yes h) = le-ltb i (suc n) (omega (arith, h, q)) ∙ sym (le-ltb i n h)
  go (no h) = lt-ltb i (suc n) (omega (arith, h)) ∙ sym (lt-ltb i n (omega (arith, h)))

below_same : (n : ℕ) (is : List ℕ) → All (λ (j : ℕ). n ≢ j) is → below (suc n) is ≡ below n is
unfolding below
below_same n [] o = refl
below_same n (i ∷ is) o = let e = below_same n is o.1 in (λ t. cond (same_test i n o.0 t) (suc (e t)) (e t))

below_more : (n : ℕ) (is : List ℕ) → Differ is → below (suc n) is ≤ suc (below n is)
unfolding below
below_more n [] d = omega arith
below_more n (i ∷ is) d = go (ℕ_discrete n i) (below_more n is d.1) where
  go : Dec (n ≡ i) → below (suc n) is ≤ suc (below n is) → cond (ltb i (suc n)) (suc (below (suc n) is)) (below (suc n) is) ≤ suc (cond (ltb i n) (suc (below n is)) (below n is))
  go (yes e) r =
      let s = below_same n is (subst (λ (k : ℕ). All (λ (j : ℕ). k ≢ j) is) (sym e) d.0) in
      rw (lt-ltb i (suc n) (omega (arith, e)), le-ltb i n (omega (arith, e))) (omega (arith, s))
  go (no q) r = rw (same_test i n q) (by_cases (λ (b : Bool). cond b (suc (below (suc n) is)) (below (suc n) is) ≤ suc (cond b (suc (below n is)) (below n is))) (ltb i n) (λ y. omega (arith, r)) (λ y. r))

below_none : (is : List ℕ) → below 0 is ≡ 0
unfolding below
below_none [] = refl
below_none (i ∷ is) = ap (λ (b : Bool). cond b (suc (below 0 is)) (below 0 is)) (le-ltb i 0 (omega arith)) ∙ below_none is

below_few : (n : ℕ) (is : List ℕ) → Differ is → below n is ≤ n
below_few zero is d = omega (arith, below_none is)
below_few (suc n) is d = omega (arith, below_more n is d, below_few n is d)

below_all : (n : ℕ) (is : List ℕ) → All (λ (i : ℕ). i < n) is → below n is ≡ length is
unfolding below
below_all n [] a = refl
below_all n (i ∷ is) a = ap (λ (b : Bool). cond b (suc (below n is)) (below n is)) (lt-ltb i n a.0) ∙ ap suc (below_all n is a.1)

at_most : (n : ℕ) (is : List ℕ) → All (λ (i : ℕ). i < n) is → Differ is → length is ≤ n
at_most n is a d = omega (arith, below_all n is a, below_few n is d)

-- ---- chains
module _ (next : ℕ → ℕ) where
  -- from link l on the numbers are those of the list, and the chain ends there
  unfoldable pub Run : ℕ → List ℕ → Type 0
  Run l [] = l ≡ 0
  Run l (i ∷ is) = (l ≡ suc i) × Run (next i) is

  run_unique : (l : ℕ) (is js : List ℕ) → Run l is → Run l js → is ≡ js
  unfolding Run
  run_unique l [] [] p q = refl
  run_unique l [] (j ∷ js) p q = absurd (omega (arith, p, q.0))
  run_unique l (i ∷ is) [] p q = absurd (omega (arith, p.0, q))
  run_unique l (i ∷ is) (j ∷ js) p q =
      let e : i ≡ j = omega (arith, p.0, q.0) in
      (λ t. e t ∷ run_unique (next j) is js (subst (λ (k : ℕ). Run (next k) is) e p.1) q.1 t)

  run_drop : (l : ℕ) (xs : List ℕ) (i : ℕ) (zs : List ℕ) → Run l (xs ++ i ∷ zs) → Run (next i) zs
  unfolding Run
  run_drop l [] i zs p = p.1
  run_drop l (x ∷ xs) i zs p = run_drop (next x) xs i zs p.1

  -- a run ends, so no number comes twice on it
  run_once : (i : ℕ) (is xs zs : List ℕ) → Run (next i) is → is ≡ xs ++ i ∷ zs → ⊥
  run_once i is xs zs p e =
      let n : length is ≡ length zs = ap length (run_unique (next i) is zs p (run_drop (next i) xs i zs (subst (Run (next i)) e p))) in
      omega (arith, n, ap length e ∙ length-append xs (i ∷ zs))

  out_of : (i : ℕ) (ys : List ℕ) → ((xs zs : List ℕ) → ys ≡ xs ++ i ∷ zs → ⊥) → All (λ (j : ℕ). i ≢ j) ys
  out_of i [] f = tt
  out_of i (y ∷ ys) f = (λ e. f [] ys (ap (λ (k : ℕ). k ∷ ys) (sym e)), out_of i ys (λ xs zs e. f (y ∷ xs) zs (ap (λ (t : List ℕ). y ∷ t) e)))

  run_differ : (l : ℕ) (is : List ℕ) → Run l is → Differ is
  unfolding Run
  run_differ l [] p = tt
  run_differ l (i ∷ is) p = (out_of i is (λ xs zs e. run_once i is xs zs p.1 e), run_differ (next i) is p.1)

  module _ (bad : ℕ → ℕ → Bool) where
    pub links_run : (n l : ℕ) (is : List ℕ) → Run l is → length is ≤ n → links_from next bad n l ≡ is
    unfolding Run links_from
    links_run zero l [] r h = refl
    links_run zero l (i ∷ is) r h = absurd (omega (arith, h))
    links_run (suc n) l [] r h = ap (links_from next bad (suc n)) r
    links_run (suc n) l (i ∷ is) r h = ap (links_from next bad (suc n)) r.0 ∙ ap (λ (t : List ℕ). i ∷ t) (links_run n (next i) is r.1 (omega (arith, h)))

-- ---- all chains together
unfoldable pub joined : (ℕ → List ℕ) → ℕ → List ℕ
joined on zero = []
joined on (suc m) = joined on m ++ on m

differ_append : (label : ℕ → ℕ) (m : ℕ) (xs ys : List ℕ) → All (λ (i : ℕ). label i < m) xs → All (λ (i : ℕ). label i ≡ m) ys → Differ xs → Differ ys → Differ (xs ++ ys)
differ_append label m [] ys a b d e = e
differ_append label m (x ∷ xs) ys a b d e =
    (all_append (λ (j : ℕ). x ≢ j) xs ys d.0 (all_map {P = λ (j : ℕ). label j ≡ m} {Q = λ (j : ℕ). x ≢ j} (λ j h q. let z = a.0 in omega (arith, ap label q, h, z)) ys b), differ_append label m xs ys a.1 b d.1 e)

module _ (next : ℕ → ℕ) (bad : ℕ → ℕ → Bool) (head : ℕ → ℕ) (count : ℕ) (label : ℕ → ℕ) (on : ℕ → List ℕ) where
  -- chain k is the list of k: places that there are, with its label
  pub record Listed (k : ℕ) : Type 0 where
    pub run : Run next (head k) (on k)
    pub places : All (λ (i : ℕ). (label i ≡ k) × (i < count)) (on k)

  -- those of the first m chains
  pub record Joined (m : ℕ) : Type 0 where
    pub labels : All (λ (i : ℕ). label i < m) (joined on m)
    pub there : All (λ (i : ℕ). i < count) (joined on m)
    pub differ : Differ (joined on m)
    pub total : link_total next bad head count m ≡ length (joined on m)

  chain_there : (k : ℕ) → Listed k → All (λ (i : ℕ). i < count) (on k)
  chain_there k l = all_map {P = λ (i : ℕ). (label i ≡ k) × (i < count)} {Q = λ (i : ℕ). i < count} (λ i h. h.1) (on k) l.places

  pub chain_list : (k : ℕ) → Listed k → chain_of next bad head count k ≡ on k
  chain_list k l = let z = at_most count (on k) (chain_there k l) (run_differ next (head k) (on k) l.run) in links_run next bad (suc count) (head k) (on k) l.run (omega (arith, z))

  joins : (m : ℕ) → ((k : ℕ) → k < m → Listed k) → Joined m
  unfolding joined link_total
  joins zero l = record { labels = tt; there = tt; differ = tt; total = refl }
  joins (suc m) l =
      let J = joins m (λ k h. l k (omega (arith, h))) in
      let L = l m (omega arith) in
      let own = all_map {P = λ (i : ℕ). (label i ≡ m) × (i < count)} {Q = λ (i : ℕ). label i ≡ m} (λ i h. h.0) (on m) L.places in
      record {
        labels = all_append (λ (i : ℕ). label i < suc m) (joined on m) (on m) (all_map {P = λ (i : ℕ). label i < m} {Q = λ (i : ℕ). label i < suc m} (λ i h. omega (arith, h)) (joined on m) J.labels)
            (all_map {P = λ (i : ℕ). label i ≡ m} {Q = λ (i : ℕ). label i < suc m} (λ i h. omega (arith, h)) (on m) own);
        there = all_append (λ (i : ℕ). i < count) (joined on m) (on m) J.there (chain_there m L);
        differ = differ_append label m (joined on m) (on m) J.labels own J.differ (run_differ next (head m) (on m) L.run);
        total = (λ t. J.total t + length (chain_list m L t)) ∙ sym (length-append (joined on m) (on m));
      }

  pub chains_sound : (m : ℕ) → ((k : ℕ) → k < m → Listed k) → ((k : ℕ) → k < m → any_bad next bad 0 (on k) ≡ false) → chains_unsound next bad head count m ≡ false
  unfolding chains_unsound
  chains_sound m l h =
      let J = joins m l in
      let few = at_most count (joined on m) J.there J.differ in
      (λ t. le-ltb count (link_total next bad head count m) (omega (arith, few, J.total)) t
      || none_all (λ (k : ℕ). any_bad next bad 0 (chain_of next bad head count k)) m (λ k g. ap (any_bad next bad 0) (chain_list k (l k g)) ∙ h k g) t)
