-- A point is entered into the table, and the table of the first points follows the definition. Assumes nothing.
use Prim.Native.Nat.{ℕ, zero, suc, ◌+◌, ◌-◌, ◌<◌, ◌≤◌}
use mathlib.Core.Path.{◌≡◌, refl, sym, ap, ◌∙◌, subst}
use mathlib.Core.Bool.{Bool, true, false, cond, ◌&&◌, true≢false}
use mathlib.Core.List.{List, [], ◌∷◌, ◌++◌}
use native.Mathlib.Omega.{arith}
use native.Mathlib.Numerals.{add-one}
use native.Mathlib.Nat.{add-zero, add-suc}
use borrow.Author.Tests.{eqb-true, eqb-false, eq-eqb, ne_eqb}
use lib.Dec.{eqb}
use lib.ListN.{length, get_or, set, take, replicate, length-set, length-append, length-replicate, get_or-replicate}
use lib.Seq.{get_or-set_same, get_or-set_other, take-suc-set, length-take-le}
use Rattle.stl_format.specs.Format.{link_among, first_points}
use Rattle.stl_table.specs.declared.PointKey.{PointKey}
use Rattle.stl_table.specs.Keys.{same_key, same_at, key_at, mixed_key, key_bucket, key_bucket_at}
use Rattle.stl_table.specs.Table.{HasPoint, last_vertex_in, follow_links, Walkable, found_at, VertexTable, is_new, PointEntered, TableBuilt}
use Rattle.stl_table.proofs.Following.{last_le, last_agree, link_take, follow_head}

both : (a b : Bool) → a && b ≡ true → (a ≡ true) × (b ≡ true)
both true b h = (refl, h)
both false b h = (h, absurd (true≢false (sym h)))

together : (p q r : Bool) → p && q && r ≡ p && (q && r)
together true q r = refl
together false q r = refl

-- `==` of two keys, as it is derived
pub same_key_from : (a b : PointKey) → same_key a b ≡ eqb a.x b.x && (eqb a.y b.y && eqb a.z b.z)
unfolding same_key
same_key_from a b = together (eqb a.x b.x) (eqb a.y b.y) (eqb a.z b.z)

-- points with the same key are in one bucket
same_key_is : (a b : PointKey) → same_key a b ≡ true → a ≡ b
unfolding same_key
same_key_is a b h =
    let two = both (eqb a.x b.x && eqb a.y b.y) (eqb a.z b.z) h in
    let one = both (eqb a.x b.x) (eqb a.y b.y) two.0 in
    λ i. record { x = eqb-true a.x b.x one.0 i; y = eqb-true a.y b.y one.1 i; z = eqb-true a.z b.z two.1 i }

pub alike : (s : List ℕ) (g h : ℕ) → same_at s g h ≡ true → key_bucket_at s g ≡ key_bucket_at s h
unfolding same_at key_bucket_at
alike s g h e = ap key_bucket (same_key_is (key_at s g) (key_at s h) e)

-- 17 binary places of 32
pub bucket_below : (s : List ℕ) (h : ℕ) → key_bucket_at s h < 131072
unfolding key_bucket_at key_bucket mixed_key
bucket_below s h = omega arith

pub bucket_is : (s : List ℕ) (h : ℕ) (k : PointKey) (b : ℕ) → k ≡ key_at s h → b ≡ key_bucket k → b ≡ key_bucket_at s h
unfolding key_bucket_at
bucket_is s h k b e f = f ∙ ap key_bucket e

pub found_is : (s heads links fs : List ℕ) (h r : ℕ) (k : PointKey) (b : ℕ) → k ≡ key_at s h → b ≡ key_bucket_at s h → r ≡ follow_links (λ i. same_key (key_at s (get_or fs i 0)) k) links (get_or heads b 0) (get_or heads b 0) → r ≡ found_at s heads links fs h
found_is s heads links fs h r k b ek eb e =
    e ∙ (ap (λ (j : ℕ). follow_links (λ i. same_key (key_at s (get_or fs i 0)) k) links (get_or heads j 0) (get_or heads j 0)) eb ∙ ap (λ m. follow_links (λ i. same_key (key_at s (get_or fs i 0)) m) links (get_or heads (key_bucket_at s h) 0) (get_or heads (key_bucket_at s h) 0)) ek)

module _ (s : List ℕ) (count : ℕ) (heads links fs : List ℕ) (t : VertexTable s count heads links fs) where
  head_low : (b : ℕ) → b < 131072 → get_or heads b 0 ≤ count
  head_low b l = omega (arith, t.head b l, last_le (key_bucket_at s) fs b count)

  pub walk : (b : ℕ) → b < 131072 → Walkable s links fs (get_or heads b 0)
  walk b l = record {
    links_fit = omega (arith, head_low b l, t.few, t.links_fit);
    firsts_fit = omega (arith, head_low b l, t.few, t.firsts_fit);
    falling = λ i h. omega (arith, t.link i (omega (arith, head_low b l)), last_le (key_bucket_at s) fs (key_bucket_at s (get_or fs i 0)) i);
    there = λ i h. t.there i (omega (arith, head_low b l));
  }

  -- what the walk from the head of its bucket finds
  pub link_found : (h head : ℕ) → key_bucket_at s h < 131072 → head ≡ get_or heads (key_bucket_at s h) 0 → follow_links (λ i. same_key (key_at s (get_or fs i 0)) (key_at s h)) links head head ≡ link_among (same_at s) fs count h
  unfolding same_at
  link_found h head l e = follow_head (same_at s) (key_bucket_at s) (alike s) fs links count t.link h head (e ∙ t.head (key_bucket_at s h) l)

  pub link_sought : (h r : ℕ) (k : PointKey) (b : ℕ) → k ≡ key_at s h → b ≡ key_bucket_at s h → r ≡ follow_links (λ i. same_key (key_at s (get_or fs i 0)) k) links (get_or heads b 0) (get_or heads b 0) → r ≡ link_among (same_at s) fs count h
  link_sought h r k b ek eb e = found_is s heads links fs h r k b ek eb e ∙ link_found h (get_or heads (key_bucket_at s h) 0) (bucket_below s h) refl

  module _ (h : ℕ) (low : count ≤ 65535) (p : HasPoint s h) where
    abbrev more : List ℕ
    more = set fs count h

    new_at : get_or more count 0 ≡ h
    new_at = get_or-set_same fs count h 0 (omega (arith, t.firsts_fit))

    old_at : (i : ℕ) → i < count → get_or more i 0 ≡ get_or fs i 0
    old_at i l = get_or-set_other fs count i h 0 (λ e. omega arith)

    last_old : (b n : ℕ) → n ≤ count → last_vertex_in (key_bucket_at s) more b n ≡ last_vertex_in (key_bucket_at s) fs b n
    last_old b n l = last_agree (key_bucket_at s) fs b more n (λ i k. old_at i (omega arith))

    last_new : (b : ℕ) → key_bucket_at s h ≡ b → last_vertex_in (key_bucket_at s) more b (count + 1) ≡ count + 1
    unfolding last_vertex_in
    last_new b e = rw (add-one count, new_at, eq-eqb (key_bucket_at s h) b e)

    last_kept : (b : ℕ) → (key_bucket_at s h ≡ b → ⊥) → last_vertex_in (key_bucket_at s) more b (count + 1) ≡ last_vertex_in (key_bucket_at s) fs b count
    unfolding last_vertex_in
    last_kept b e = rw (add-one count, new_at, ne_eqb (key_bucket_at s h) b e) (last_old b count (omega arith))

    module _ (b : ℕ) (is : b ≡ key_bucket_at s h) (l : b < 131072) where
      head_there : (a : ℕ) → a < 131072 → (d : Bool) → eqb a b ≡ d → get_or (set heads b (count + 1)) a 0 ≡ last_vertex_in (key_bucket_at s) more a (count + 1)
      head_there a k true e =
          let q : a ≡ b = eqb-true a b e in
          rw q (get_or-set_same heads b (count + 1) 0 (omega (arith, t.heads_fit)) ∙ sym (last_new b (sym is)))
      head_there a k false e =
          let q : a ≡ b → ⊥ = eqb-false a b e in
          get_or-set_other heads b a (count + 1) 0 q ∙ (t.head a k ∙ sym (last_kept a (λ z. q (sym z ∙ sym is))))

      link_there : (i : ℕ) → i < count + 1 → (d : Bool) → eqb i count ≡ d → get_or (set links count (get_or heads b 0)) i 0 ≡ last_vertex_in (key_bucket_at s) more (key_bucket_at s (get_or more i 0)) i
      link_there i k true e =
          let q : i ≡ count = eqb-true i count e in
          rw (q, new_at) (get_or-set_same links count (get_or heads b 0) 0 (omega (arith, t.links_fit)) ∙ (t.head b l ∙ (ap (λ (z : ℕ). last_vertex_in (key_bucket_at s) fs z count) is ∙ sym (last_old (key_bucket_at s h) count (omega arith)))))
      link_there i k false e =
          let q : i ≡ count → ⊥ = eqb-false i count e in
          let j : i < count = omega arith in
          rw (old_at i j) (get_or-set_other links count i (get_or heads b 0) 0 q ∙ (t.link i j ∙ sym (last_old (key_bucket_at s (get_or fs i 0)) i (omega arith))))

      point_there : (i : ℕ) → i < count + 1 → (d : Bool) → eqb i count ≡ d → HasPoint s (get_or more i 0)
      point_there i k true e = let q : i ≡ count = eqb-true i count e in rw (q, new_at) p
      point_there i k false e =
          let q : i ≡ count → ⊥ = eqb-false i count e in
          let j : i < count = omega arith in
          rw (old_at i j) (t.there i j)

      more_table : VertexTable s (count + 1) (set heads b (count + 1)) (set links count (get_or heads b 0)) more
      more_table = record {
        heads_fit = omega (arith, length-set heads b (count + 1), t.heads_fit);
        links_fit = omega (arith, length-set links count (get_or heads b 0), t.links_fit);
        firsts_fit = omega (arith, length-set fs count h, t.firsts_fit);
        few = omega arith;
        head = λ a k. head_there a k (eqb a b) refl;
        link = λ i k. link_there i k (eqb i count) refl;
        there = λ i k. point_there i k (eqb i count) refl;
      }

      -- the two answers, by the link that was found
      pub entered_new : link_among (same_at s) fs count h ≡ 0 → PointEntered s h count fs (count + 1) (set heads b (count + 1)) (set links count (get_or heads b 0)) more
      entered_new e =
          let q : is_new s fs count h ≡ true = eq-eqb _ _ e in
          record { counted = rw q; points = rw q; table = more_table }

    pub entered_old : (link_among (same_at s) fs count h ≡ 0 → ⊥) → PointEntered s h count fs count heads links fs
    entered_old e =
        let q : is_new s fs count h ≡ false = ne_eqb _ _ e in
        record { counted = rw q; points = rw q; table = t }

-- ---- the definition's points

module _ (same : ℕ → ℕ → Bool) where
  first_more : (b : Bool) (h : ℕ) (vs : List ℕ) → vs ≡ first_points same h → eqb (link_among same vs (length vs) h) 0 ≡ b → first_points same (suc h) ≡ cond b (vs ++ (h ∷ [])) vs
  unfolding first_points
  first_more b h vs e q = rw (sym e, q)

  module _ (fs : List ℕ) (count h : ℕ) (long : count < length fs) (e : take count fs ≡ first_points same h) where
    link_same : link_among same (take count fs) (length (take count fs)) h ≡ link_among same fs count h
    link_same = rw (length-take-le count fs (omega arith)) (link_take same h fs count count (omega arith))

    pub points_more : (b : Bool) (r : ℕ) (gs : List ℕ) → eqb (link_among same fs count h) 0 ≡ b → r ≡ cond b (count + 1) count → gs ≡ cond b (set fs count h) fs → take r gs ≡ first_points same (h + 1)
    points_more true r gs q er eg = rw (er, eg, add-one count, add-one h) (take-suc-set fs count h long ∙ sym (first_more true h (take count fs) e (ap (λ (k : ℕ). eqb k 0) link_same ∙ q)))
    points_more false r gs q er eg = rw (er, eg, add-one h) (sym (first_more false h (take count fs) e (ap (λ (k : ℕ). eqb k 0) link_same ∙ q)))

  grow : (b : Bool) (vs : List ℕ) (h : ℕ) → length vs ≤ length (cond b (vs ++ (h ∷ [])) vs)
  grow true vs h = omega (arith, length-append vs (h ∷ []))
  grow false vs h = omega arith

  pub grows : (h k : ℕ) → length (first_points same h) ≤ length (first_points same (h + k))
  unfolding first_points
  grows h zero = rw add-zero (omega arith)
  grows h (suc k) = rw add-suc (omega (arith, grows h k, grow (eqb (link_among same (first_points same (h + k)) (length (first_points same (h + k))) (h + k)) 0) (first_points same (h + k)) (h + k)))

-- ---- the loop over the points

pub none_entered : (s heads links fs : List ℕ) → 131072 ≤ length heads → 65536 ≤ length links → 65536 ≤ length fs → (n : ℕ) → heads ≡ replicate n 0 → VertexTable s 0 heads links fs
unfolding last_vertex_in
none_entered s heads links fs a b c n e = record {
  heads_fit = a;
  links_fit = b;
  firsts_fit = c;
  few = omega arith;
  head = λ k l. rw e (get_or-replicate n k 0 0 (omega (arith, ap length e, length-replicate {A = ℕ} n 0)));
  link = λ i l. absurd (omega arith);
  there = λ i l. absurd (omega arith);
}

pub none_first : (same : ℕ → ℕ → Bool) (fs : List ℕ) → take 0 fs ≡ first_points same 0
unfolding first_points
none_first same fs = refl

module _ (s : List ℕ) (n h r : ℕ) (heads links fs : List ℕ) (t : VertexTable s r heads links fs) (e : take r fs ≡ first_points (same_at s) h) where
  length_is : r ≡ length (first_points (same_at s) h)
  length_is = sym (length-take-le r fs (omega (arith, t.few, t.firsts_fit))) ∙ ap length e

  pub built_all : h ≡ n → r ≤ 65535 → TableBuilt s n r heads links fs
  built_all q l = record { few = λ _. (t, (e ∙ ap (first_points (same_at s)) q, length_is ∙ ap (λ (k : ℕ). length (first_points (same_at s) k)) q)); many = λ m. absurd (omega arith) }

  pub built_many : h ≤ n → 65535 < r → TableBuilt s n r heads links fs
  built_many q l =
      let d : h + (n - h) ≡ n = omega arith in
      let g : length (first_points (same_at s) h) ≤ length (first_points (same_at s) n) = subst (λ (k : ℕ). length (first_points (same_at s) h) ≤ length (first_points (same_at s) k)) d (grows (same_at s) h (n - h)) in
      record { few = λ m. absurd (omega arith); many = λ _. omega (arith, g, length_is) }
