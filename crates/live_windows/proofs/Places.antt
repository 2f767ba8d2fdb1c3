-- Chains of numbers, between two places: what is read behind a link, a link that is pointed elsewhere, and how long a chain can be. Assumes nothing.
use Prim.Native.Nat.{ℕ, zero, suc, ◌+◌, ◌*◌, ◌≤◌, ◌<◌}
use native.Mathlib.Omega.{arith}
use native.Mathlib.Decide.{ℕ_discrete}
use mathlib.Core.Bool.{Bool, true, false, cond}
use mathlib.Core.Path.{◌≡◌, refl, sym, ap, subst, ◌∙◌}
use mathlib.Core.List.{List, [], ◌∷◌, ◌++◌}
use mathlib.Core.Logic.{◌≢◌}
use borrow.Author.Tests.{eq-eqb, ne_eqb}
use lib.Dec.{eqb}
use lib.ListN.{length}
use lib.Seq.{get_or-set_same, append_snoc}
use Rattle.layout.specs.Layout.{words_per_edge, edge_head}
use Rattle.chains.proofs.Turns.{link_in_lem}
use Rattle.nat_laws.specs.Lists.{All, Pairs}
use Rattle.nat_laws.proofs.Lists.{all_map2, all_append, all_left, all_right}
use Rattle.chains.specs.Chains.{Links, link_in, head_of, next_link, link_at, with_link, Path, Out, Belongs, AllBelong, Before, first_link, OnEdge}
use Rattle.chains.proofs.Paths.{path_once, path_first, front_out, front_of, splice}
use Rattle.chains.proofs.OnEdges.{all_set, all_counted}
use Rattle.trim_model.specs.Windows.{Window}
use Rattle.live_windows.specs.Live.{nums, end_link}

-- ---- numbers and links of lists
pub nums_append : (xs ys : List Window) → nums (xs ++ ys) ≡ nums xs ++ nums ys
unfolding nums
nums_append [] ys = refl
nums_append (x ∷ xs) ys = ap (λ l. x.num ∷ l) (nums_append xs ys)

pub nums_cons : (u : Window) (us : List Window) → nums (u ∷ us) ≡ u.num ∷ nums us
unfolding nums
nums_cons u us = refl

pub end_append : (k : ℕ) (is js : List ℕ) → end_link k (is ++ js) ≡ end_link (end_link k is) js
unfolding end_link
end_append k [] js = refl
end_append k (i ∷ is) js = end_append (suc i) is js

-- the last of a list that has one
pub record Snoc (is : List ℕ) : Type 0 where
  pub front : List ℕ
  pub end : ℕ
  pub is_it : is ≡ front ++ (end ∷ [])
  pub link : (k : ℕ) → end_link k is ≡ suc end

pub snoc : (i : ℕ) (is : List ℕ) → Snoc (i ∷ is)
unfolding end_link
snoc i [] = record { front = []; end = i; is_it = refl; link = λ k. refl }
snoc i (j ∷ is) =
    let s = snoc j is in
    record { front = i ∷ s.front; end = s.end; is_it = ap (λ l. i ∷ l) s.is_it; link = λ k. s.link (suc i) }

-- ---- what stands behind a link
-- the path behind the last link of xs
pub path_behind : (b : Links) (e k : ℕ) (xs zs : List ℕ) → Path b.words (link_at b e k) (xs ++ zs) → Path b.words (link_at b e (end_link k xs)) zs
unfolding end_link Path link_at
path_behind b e k [] zs p = p
path_behind b e k (x ∷ xs) zs p = path_behind b e (suc x) xs zs p.1

-- the whole chain is behind 0
pub head_path : (b : Links) (e : ℕ) (is : List ℕ) → Path b.words (head_of b.edges e) is → Path b.words (link_at b e 0) is
unfolding link_at
head_path b e is p = p

module _ (made : ℕ) where
  pub first_in : (w : List ℕ) (e : ℕ) (zs : List ℕ) → AllBelong made w e zs → first_link zs ≤ made
  unfolding first_link
  first_in w e [] h = omega arith
  first_in w e (z ∷ zs) h = let a = h.0.made in omega arith

  -- what is read behind the last link of xs
  pub next_is : (b : Links) (e k : ℕ) (xs zs : List ℕ) → k ≡ end_link 0 xs → OnEdge made b e (xs ++ zs) → link_in made (link_at b e k) ≡ first_link zs
  next_is b e k xs zs h o =
      let p : Path b.words (link_at b e 0) (xs ++ zs) = head_path b e (xs ++ zs) o.path in
      let f : link_at b e k ≡ first_link zs = ap (link_at b e) h ∙ path_first b.words (link_at b e (end_link 0 xs)) zs (path_behind b e 0 xs zs p) in
      ap (link_in made) f ∙ link_in_lem made (first_link zs) (first_in b.words e zs (all_right (Belongs made b.words e) xs zs o.belong))

  -- ---- the link behind xs points at another path
  point_head : (b : Links) (e : ℕ) (vs : List ℕ) (v : ℕ) → words_per_edge * e + words_per_edge ≤ length b.edges → Path b.words v vs → AllBelong made b.words e vs → OnEdge made (with_link b e 0 v) e vs
  unfolding with_link
  point_head b e vs v h p a = record { path = rw (get_or-set_same b.edges (words_per_edge * e + edge_head) v 0 (omega arith)) p; belong = a }

  point_after : (b : Links) (e k : ℕ) (front ys vs : List ℕ) (v : ℕ) → OnEdge made b e (front ++ k ∷ ys) → Path b.words v vs → AllBelong made b.words e vs → Out k vs
      → OnEdge made (with_link b e (suc k) v) e (front ++ k ∷ vs)
  unfolding with_link
  point_after b e k front ys vs v o p a out =
      let w = b.words in
      let l = head_of b.edges e in
      let m = all_right (Belongs made w e) front (k ∷ ys) o.belong in
      record {
        path = splice w l front k vs v m.0.there (front_out w l front k ys o.path).0 out (front_of w l front k ys o.path) p;
        belong = all_set made w e (front ++ k ∷ vs) k v (all_append (Belongs made w e) front (k ∷ vs) (all_left (Belongs made w e) front (k ∷ ys) o.belong) (m.0, a));
      }

  pub point : (b : Links) (e k : ℕ) (xs ys vs : List ℕ) (v : ℕ) → words_per_edge * e + words_per_edge ≤ length b.edges → k ≡ end_link 0 xs → OnEdge made b e (xs ++ ys) → Path b.words v vs → AllBelong made b.words e vs
      → ((front : List ℕ) (i : ℕ) → xs ≡ front ++ (i ∷ []) → Out i vs) → OnEdge made (with_link b e k v) e (xs ++ vs)
  unfolding end_link
  point b e k [] ys vs v h q o p a out = rw q (point_head b e vs v h p a)
  point b e k (x ∷ xs) ys vs v h q o p a out =
      let s = snoc x xs in
      let f = s.front in
      let i = s.end in
      let o' : OnEdge made b e (f ++ i ∷ ys) = subst (OnEdge made b e) (ap (λ l. l ++ ys) s.is_it ∙ append_snoc f i ys) o in
      let r : OnEdge made (with_link b e (suc i) v) e (f ++ i ∷ vs) = point_after b e i f ys vs v o' p a (out f i s.is_it) in
      rw (q ∙ s.link 0) (subst (OnEdge made (with_link b e (suc i) v) e) (sym (append_snoc f i vs) ∙ ap (λ l. l ++ vs) (sym s.is_it)) r)

  -- ---- the last of xs is a window of the edge
  pub before_is : (b : Links) (e k : ℕ) (xs ys : List ℕ) → k ≡ end_link 0 xs → OnEdge made b e (xs ++ ys) → Before made b.words e k
  unfolding end_link Before
  before_is b e k [] ys q o = rw q tt
  before_is b e k (x ∷ xs) ys q o =
      let s = snoc x xs in
      let a : AllBelong made b.words e (s.front ++ (s.end ∷ [])) = subst (AllBelong made b.words e) s.is_it (all_left (Belongs made b.words e) (x ∷ xs) ys o.belong) in
      rw (q ∙ s.link 0) (all_right (Belongs made b.words e) s.front (s.end ∷ []) a).0

-- ---- numbers below n that all differ are at most n
abbrev Differ : List ℕ → Type 0
Differ is = Pairs (λ i j. i ≢ j) is

-- the first i taken out
unfoldable less : ℕ → List ℕ → List ℕ
less i [] = []
less i (j ∷ js) = cond (eqb i j) js (j ∷ less i js)

below_less : (n : ℕ) (is : List ℕ) → All (λ i. i < suc n) is → Out n is → All (λ i. i < n) is
below_less n is = all_map2 {P = λ i. i < suc n} {Q = λ i. n ≢ i} {R = λ i. i < n} (λ i a d. omega (arith, a, d)) is

out_less : (x i : ℕ) (is : List ℕ) → Out x is → Out x (less i is)
unfolding less
out_less x i [] o = tt
out_less x i (j ∷ js) o = go (eqb i j) (out_less x i js o.1) where
  go : (c : Bool) → Out x (less i js) → Out x (cond c js (j ∷ less i js))
  go true r = o.1
  go false r = (o.0, r)

differ_less : (i : ℕ) (is : List ℕ) → Differ is → Differ (less i is)
unfolding less
differ_less i [] d = tt
differ_less i (j ∷ js) d = go (eqb i j) (differ_less i js d.1) where
  go : (c : Bool) → Differ (less i js) → Differ (cond c js (j ∷ less i js))
  go true r = d.1
  go false r = (out_less j i js d.0, r)

each_less : (n : ℕ) (is : List ℕ) → All (λ i. i < suc n) is → Differ is → All (λ i. i < n) (less n is)
unfolding less
each_less n [] h d = tt
each_less n (j ∷ js) h d = go (ℕ_discrete n j) (each_less n js h.1 d.1) where
  go : Dec (n ≡ j) → All (λ i. i < n) (less n js) → All (λ i. i < n) (cond (eqb n j) js (j ∷ less n js))
  go (yes e) r = rw (eq-eqb n j e) (below_less n js h.1 (subst (λ k. Out k js) (sym e) d.0))
  go (no e) r = rw (ne_eqb n j e) (omega (arith, e, h.0), r)

length_less : (i : ℕ) (is : List ℕ) → length is ≤ suc (length (less i is))
unfolding less
length_less i [] = omega arith
length_less i (j ∷ js) = go (eqb i j) (length_less i js) where
  go : (c : Bool) → length js ≤ suc (length (less i js)) → suc (length js) ≤ suc (length (cond c js (j ∷ less i js)))
  go true r = omega arith
  go false r = omega arith

at_most : (n : ℕ) (is : List ℕ) → All (λ i. i < n) is → Differ is → length is ≤ n
at_most zero [] h d = omega arith
at_most zero (i ∷ is) h d = let a = h.0 in absurd (omega arith)
at_most (suc n) is h d = omega (arith, length_less n is, at_most n (less n is) (each_less n is h d) (differ_less n is d))

differ_path : (w : List ℕ) (l : ℕ) (is : List ℕ) → Path w l is → Differ is
unfolding Path
differ_path w l [] p = tt
differ_path w l (i ∷ is) p = (path_once w l i is p, differ_path w (next_link w i) is p.1)

-- a chain has at most as many windows as were made
pub short : (made : ℕ) (w : List ℕ) (e l : ℕ) (is : List ℕ) → Path w l is → AllBelong made w e is → length is ≤ made
short made w e l is p a = at_most made is (all_counted made made (omega arith) w e is a) (differ_path w l is p)
