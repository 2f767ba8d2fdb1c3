-- Numbers of windows: below the number of windows made, and no two live windows have one, on one edge or on two. Assumes nothing.
--
-- An addition gives numbers that its edge has already, each once, and new ones from `made` on, each once: so how often a number occurs on two edges together never exceeds one.
use Prim.Native.Nat.{ℕ, suc, ◌+◌, ◌≤◌, ◌<◌, zero-le, pred}
use mathlib.Core.Bool.{Bool, cond}
use mathlib.Core.List.{List, [], ◌∷◌, ◌++◌}
use mathlib.Core.Path.{◌≡◌, refl, sym, ap, ◌∙◌, subst}
use native.Mathlib.Decide.{dec_le, ℕ_discrete}
use native.Mathlib.Nat.{le_refl}
use native.Mathlib.Omega.{arith}
use lib.Dec.{eqb}
use lib.ListN.{length}
use lib.Ieee.{Float, le}
use Rattle.nat_laws.specs.Lists.{insert_by, sort_by}
use Rattle.float64.specs.TotalOrder.{total_less}
use Rattle.better.specs.Stretches.{Interval}
use Rattle.trim_model.specs.Intervals.{width, tiny_of, pieces, wide_of}
use Rattle.trim_model.specs.Windows.{Window, fresh, split, insert, sorted}
use Rattle.trim_model.specs.Add.{Better, Walk, before, run, behind, start, untouched, meet, visit, visits, add_to, shared_lo, shared_hi}
use Rattle.trim_model.specs.Model.{Candidate, EdgeState, Model, empty, as_window, admits, updated, admit, step, steps}
use Rattle.better.specs.Claim.{All, Pairs}
use Rattle.trim_model.specs.Claim.{Numbered}
use Rattle.trim_model.proofs.Ranks.{by_cases}
use Rattle.trim_model.proofs.Count.{has, has_yes, has_left, has_right, has_one, has_two}
use Rattle.trim_model.proofs.Lists.{all_map}
use Rattle.trim_model.proofs.Windows.{parted}
use Rattle.trim_model.proofs.Steps.{admit_other}

-- 1 where a ≤ n < b
abbrev range : ℕ → ℕ → ℕ → ℕ
range n a b = has n (suc n) a b

two : (n : ℕ) {a m b : ℕ} → a ≤ m → m ≤ b → range n a m + range n m b ≤ range n a b
two n h k = has_two n (suc n) (le_refl (suc n)) h k

-- how often n is a window's number
unfoldable times : ℕ → List Window → ℕ
times n [] = 0
times n (u ∷ us) = range n u.num (suc u.num) + times n us

times_append : (n : ℕ) (l m : List Window) → times n (l ++ m) ≡ times n l + times n m
unfolding times
times_append n [] m = omega arith
times_append n (u ∷ us) m = omega (arith, times_append n us m)

fresh_times : (n : ℕ) (v : Window) (a : ℕ) (ps : List Interval) → times n (fresh v a ps) ≤ range n a (a + length ps)
unfolding times fresh
fresh_times n v a [] = zero-le
fresh_times n v a (p ∷ ps) =
    let i : a ≤ suc a = omega arith in
    let j : suc a ≤ suc a + length ps = omega arith in
    let e : suc a + length ps ≡ a + suc (length ps) = omega arith in
    omega (arith, fresh_times n v (suc a) ps, two n {a = a} {m = suc a} {b = suc a + length ps} i j, ap (λ (b : ℕ). range n a b) e)

split_times : (n : ℕ) (u : Window) (a : ℕ) (ps : List Interval) → times n (split u a ps) ≤ range n u.num (suc u.num) + range n a (a + pred (length ps))
unfolding times split
split_times n u a [] = zero-le
split_times n u a (p ∷ ps) = let f = fresh_times n u a ps in omega arith

insert_times : (n : ℕ) (u : Window) (l : List Window) → times n (insert u l) ≡ range n u.num (suc u.num) + times n l
unfolding times insert_by
insert_times n u [] = refl
insert_times n u (v ∷ vs) = by_cases (λ (c : Bool). times n (cond c (v ∷ insert u vs) (u ∷ v ∷ vs)) ≡ range n u.num (suc u.num) + times n (v ∷ vs)) (total_less v.b0 u.b0) (λ z. omega (arith, insert_times n u vs)) (λ y. refl)

sorted_times : (n : ℕ) (l : List Window) → times n (sorted l) ≡ times n l
unfolding times sort_by
sorted_times n [] = refl
sorted_times n (u ∷ us) = omega (arith, insert_times n u (sorted us), sorted_times n us)

module _ (better : Better) (t : Float) (w : Window) (n : ℕ) where
  record Given (extra : ℕ) (s s' : Walk) : Type 0 where
    more : s.made ≤ s'.made
    few : times n s'.survivors ≤ times n s.survivors + extra + range n s.made s'.made

  meet_given : (u : Window) (lo hi : Float) (gs : List Interval) (s : Walk) → Given (range n u.num (suc u.num)) s (meet t u lo hi gs s)
  unfolding meet times
  meet_given u lo hi [] s = record { more = le_refl s.made; few = omega (arith, times_append n s.survivors (u ∷ [])) }
  meet_given u lo hi (g ∷ gs) s =
      let ps = pieces t u.b0 u.b1 (g ∷ gs) in
      record { more = omega arith; few = omega (arith, times_append n s.survivors (split u s.made ps), split_times n u s.made ps) }

  visit_given : (u : Window) (s : Walk) → Given (range n u.num (suc u.num)) s (visit better t w u s)
  unfolding visit times
  visit_given u s =
      let lo = shared_lo w u in
      let hi = shared_hi w u in
      by_cases (λ (c : Bool). Given (range n u.num (suc u.num)) s (cond c (untouched u s) (meet t u lo hi (better w.src u.src lo hi) s))) (le (width lo hi) t)
      (λ y. record { more = le_refl s.made; few = omega (arith, times_append n s.survivors (u ∷ [])) })
      (λ z. meet_given u lo hi (better w.src u.src lo hi) s)

  visits_given : (us : List Window) (s : Walk) → Given (times n us) s (visits better t w us s)
  unfolding visits times
  visits_given [] s = record { more = le_refl s.made; few = omega arith }
  visits_given (u ∷ us) s =
      let a = visit_given u s in
      let b = visits_given us (visit better t w u s) in
      let am = a.more in
      let bm = b.more in
      record { more = omega arith; few = omega (arith, two n {a = s.made} {m = (visit better t w u s).made} {b = (visits better t w us (visit better t w u s)).made} am bm) }

  -- an addition uses numbers that are there already, and new ones once
  add_times : (l : List Window) (made : ℕ) → times n (add_to better t w l made).live ≤ times n l + range n made (add_to better t w l made).made
  unfolding add_to times
  add_times l made =
      let s = visits better t w (run t w l) (start w made) in
      let ks = wide_of t s.keep in
      let ns = fresh w s.made ks in
      let g = visits_given (run t w l) (start w made) in
      let gm = g.more in
      let gf = g.few in
      let j : s.made ≤ s.made + length ks = omega arith in
      omega (arith, ap (times n) (parted t w l), times_append n (before t w l) (run t w l ++ behind t w l), times_append n (run t w l) (behind t w l), times_append n (before t w l) (sorted (s.survivors ++ ns) ++ behind t w l), times_append n (sorted (s.survivors ++ ns)) (behind t w l), sorted_times n (s.survivors ++ ns), times_append n s.survivors ns, fresh_times n w s.made ks, two n {a = made} {m = s.made} {b = s.made + length ks} gm j)

  add_made : (l : List Window) (made : ℕ) → made ≤ (add_to better t w l made).made
  unfolding add_to
  add_made l made =
      let s = visits better t w (run t w l) (start w made) in
      let gm = (visits_given (run t w l) (start w made)).more in
      omega arith

-- a window's number is counted
each_times : (l S : List Window) → ((n : ℕ) → times n l ≤ times n S) → All (λ (u : Window). 1 ≤ times u.num S) l
unfolding times
each_times [] S f = tt
each_times (u ∷ us) S f = (omega (arith, f u.num, has_yes u.num (suc u.num) (le_refl u.num) (le_refl (suc u.num))), each_times us S (λ n. omega (arith, f n)))

differ_of : (l : List Window) → ((n : ℕ) → times n l ≤ 1) → Pairs (λ (u v : Window). (u.num ≡ v.num) → ⊥) l
unfolding times
differ_of [] h = tt
differ_of (u ∷ us) h = (all_map (λ v i x. let a : u.num ≤ v.num = omega arith in let b : suc v.num ≤ suc u.num = omega arith in let z : ⊥ = omega (arith, h v.num, has_yes v.num (suc v.num) a b) in z) us (each_times us us (λ n. le_refl (times n us))), differ_of us (λ n. omega (arith, h n)))

-- each number below `made` at most once, on any two edges together, and no other
record Counted (m : Model) : Type 0 where
  once : (e f n : ℕ) → ((e ≡ f) → ⊥) → times n (m.edge e).live + times n (m.edge f).live ≤ 1
  below : (e n : ℕ) → m.made ≤ n → times n (m.edge e).live ≡ 0

-- what an admitted candidate does to the counts: a number on its edge is new, or was there before
record Numbers (c : Candidate) (m m' : Model) : Type 0 where
  grows : m.made ≤ m'.made
  here : (e n : ℕ) → (e ≡ c.edge) → times n (m'.edge e).live ≤ times n (m.edge e).live + range n m.made m'.made
  there : (e n : ℕ) → ((e ≡ c.edge) → ⊥) → times n (m'.edge e).live ≡ times n (m.edge e).live

counted_on : (c : Candidate) (m m' : Model) → Counted m → Numbers c m m' → Counted m'
counted_on c m m' h g = record {
  once = λ e f n d. both e f n d (ℕ_discrete e c.edge) (ℕ_discrete f c.edge) (dec_le m.made n);
  below = λ e n i.
      let k = g.grows in
      let a : m.made ≤ n = omega arith in
      let b : m'.made < suc n = omega arith in
      elim (ℕ_discrete e c.edge) [
        | yes x ↦ omega (arith, g.here e n x, h.below e n a, has_right n (suc n) m.made m'.made b)
        | no x ↦ omega (arith, g.there e n x, h.below e n a)
      ];
}
  where
    both : (e f n : ℕ) → ((e ≡ f) → ⊥) → Dec (e ≡ c.edge) → Dec (f ≡ c.edge) → Dec (m.made ≤ n) → times n (m'.edge e).live + times n (m'.edge f).live ≤ 1
    both e f n d (yes x) (yes y) k = absurd (d (x ∙ sym y))
    both e f n d (yes x) (no y) (yes i) = omega (arith, g.here e n x, g.there f n y, h.below e n i, h.below f n i, has_one n (suc n) m.made m'.made)
    both e f n d (yes x) (no y) (no i) = let j : n < m.made = omega arith in omega (arith, g.here e n x, g.there f n y, h.once e f n d, has_left n (suc n) m.made m'.made j)
    both e f n d (no x) (yes y) (yes i) = omega (arith, g.there e n x, g.here f n y, h.below e n i, h.below f n i, has_one n (suc n) m.made m'.made)
    both e f n d (no x) (yes y) (no i) = let j : n < m.made = omega arith in omega (arith, g.there e n x, g.here f n y, h.once e f n d, has_left n (suc n) m.made m'.made j)
    both e f n d (no x) (no y) k = omega (arith, g.there e n x, g.there f n y, h.once e f n d)

module _ (better : Better) (limit : Float) (len : ℕ → Float) where
  admit_numbers : (c : Candidate) (m : Model) → Numbers c m (admit better limit len c m)
  unfolding admit
  admit_numbers c m =
      let t = tiny_of (len c.edge) in
      let s = m.edge c.edge in
      let a = add_to better t (as_window c) s.live m.made in
      record {
        grows = add_made better t (as_window c) 0 s.live m.made;
        here = λ e n x.
            by_cases (λ (b : Bool). times n (cond b (updated c s a) (m.edge e)).live ≤ times n (m.edge e).live + range n m.made a.made) (eqb e c.edge)
            (λ y. subst (λ (i : ℕ). times n a.live ≤ times n (m.edge i).live + range n m.made a.made) (sym x) (add_times better t (as_window c) n s.live m.made))
            (λ y. omega arith);
        there = λ e n x. ap (λ (k : EdgeState). times n k.live) (admit_other better limit len c m e x);
      }

  steps_counted : (cs : List Candidate) (m : Model) → Counted m → Counted (steps better limit len cs m)
  unfolding steps step
  steps_counted [] m h = h
  steps_counted (c ∷ cs) m h = steps_counted cs (step better limit len c m) (by_cases (λ (b : Bool). Counted (cond b (admit better limit len c m) m)) (admits limit len c) (λ y. counted_on c m (admit better limit len c m) h (admit_numbers c m)) (λ y. h))

  empty_counted : Counted empty
  unfolding times
  empty_counted = record { once = λ e f n d. omega arith; below = λ e n i. refl }

  pub numbered : (cs : List Candidate) → Numbered (steps better limit len cs empty)
  numbered cs = record {
    below = λ e. all_map (λ u i. under e u.num i) (live e) (each (live e));
    differ = λ e. differ_of (live e) (once e);
    apart = λ e f d. all_map (λ u i. all_map (λ v j x. let z : ⊥ = omega (arith, ap (λ (n : ℕ). times n (live e)) x, k.once e f v.num d) in z) (live f) (each (live f))) (live e) (each (live e));
  }
    where
      k : Counted (steps better limit len cs empty)
      k = steps_counted cs empty empty_counted

      live : ℕ → List Window
      live e = ((steps better limit len cs empty).edge e).live

      each : (l : List Window) → All (λ (u : Window). 1 ≤ times u.num l) l
      each l = each_times l l (λ n. le_refl (times n l))

      under : (e n : ℕ) → 1 ≤ times n (live e) → n < (steps better limit len cs empty).made
      under e n i = elim (dec_le (steps better limit len cs empty).made n) [ yes j ↦ let z : ⊥ = omega (arith, k.below e n j) in absurd z | no f ↦ omega arith ]

      -- with an edge beside it
      once : (e n : ℕ) → times n (live e) ≤ 1
      once e n = omega (arith, k.once e (suc e) n (λ x. let z : ⊥ = omega arith in z))
