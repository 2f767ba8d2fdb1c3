-- The `queued` flags take no part in an addition: windows that differ in them alone give results that differ in them alone. Assumes nothing.
use Prim.Native.Nat.{ℕ, suc, ◌+◌, ◌≤◌, pred}
use mathlib.Core.Bool.{Bool, cond, ◌&&◌}
use mathlib.Core.List.{List, [], ◌∷◌, ◌++◌, map, map-append}
use mathlib.Core.Logic.{inl, inr, ⊎_elim}
use mathlib.Core.Path.{◌≡◌, refl, sym, ap, ◌∙◌, subst}
use lib.Dec.{T}
use lib.Ieee.{Float, lt, le}
use lib.ListN.{length}
use Rattle.nat_laws.specs.Lists.{insert_by, sort_by}
use Rattle.float64.specs.Notation.{◌⊕◌, ◌⊖◌}
use Rattle.float64.specs.Scalar.{min_of, max_of}
use Rattle.float64.specs.TotalOrder.{total_less}
use Rattle.better.specs.Stretches.{Interval}
use Rattle.trim_model.specs.Intervals.{width, next, pieces, piece_slivers, wide_of, keep_slivers}
use Rattle.trim_model.specs.Windows.{Window, part, fresh, split, unqueued, insert, sorted, take_while, drop_while, all, take_while_end, drop_while_end}
use Rattle.trim_model.specs.Add.{Better, Walk, AddOutcome, starts_before, ends_after, before, onward, run, behind, start, untouched, meet, visit, visits, add_to, shared_lo, shared_hi}
use Rattle.trim_model.specs.Model.{EdgeState}
use Rattle.better.specs.Claim.{All, Pairs}
use Rattle.trim_model.specs.Claim.{Any, InWindow, Trimmed}
use Rattle.trim_model.proofs.Ranks.{rank, by_cases}
use Rattle.trim_model.proofs.Count.{has}
use Rattle.trim_model.proofs.Windows.{wcount, Steps, Ordered, Wide}
use Rattle.trim_model.proofs.Order.{Tidy}

-- a walk and a result with every flag cleared
abbrev pub walk_flags : Walk → Walk
walk_flags s = record { survivors = map unqueued s.survivors; keep = s.keep; made = s.made; slivers = s.slivers }

abbrev pub added_flags : AddOutcome → AddOutcome
added_flags a = record { live = map unqueued a.live; made = a.made; slivers = a.slivers }

-- ---- parts and sorting
fresh_flags : (u : Window) (n : ℕ) (ps : List Interval) → map unqueued (fresh u n ps) ≡ fresh (unqueued u) n ps
unfolding fresh
fresh_flags u n [] = refl
fresh_flags u n (p ∷ ps) = ap (λ (l : List Window). unqueued (part u p.from p.to n) ∷ l) (fresh_flags u (suc n) ps)

split_flags : (u : Window) (n : ℕ) (ps : List Interval) → map unqueued (split u n ps) ≡ split (unqueued u) n ps
unfolding split
split_flags u n [] = refl
split_flags u n (p ∷ ps) = ap (λ (l : List Window). unqueued (part u p.from p.to u.num) ∷ l) (fresh_flags u n ps)

-- `insert` looks at the starts only
pub insert_flags : (u : Window) (l : List Window) → map unqueued (insert u l) ≡ insert (unqueued u) (map unqueued l)
unfolding insert_by
insert_flags u [] = refl
insert_flags u (v ∷ vs) = by_cases (λ (c : Bool). map unqueued (cond c (v ∷ insert u vs) (u ∷ v ∷ vs)) ≡ cond c (unqueued v ∷ insert (unqueued u) (map unqueued vs)) (unqueued u ∷ unqueued v ∷ map unqueued vs)) (total_less v.b0 u.b0)
    (λ y. ap (λ (l : List Window). unqueued v ∷ l) (insert_flags u vs))
    (λ n. refl)

sorted_flags : (l : List Window) → map unqueued (sorted l) ≡ sorted (map unqueued l)
unfolding sort_by
sorted_flags [] = refl
sorted_flags (u ∷ us) = insert_flags u (sorted us) ∙ ap (insert (unqueued u)) (sorted_flags us)

-- ---- the parts of a list, by a test that does not look at the flag
module _ (p : Window → Bool) (h : (u : Window) → p (unqueued u) ≡ p u) where
  take_flags : (l : List Window) → map unqueued (take_while p l) ≡ take_while p (map unqueued l)
  unfolding take_while
  take_flags [] = refl
  take_flags (u ∷ us) =
      by_cases (λ (c : Bool). map unqueued (cond c (u ∷ take_while p us) []) ≡ cond c (unqueued u ∷ take_while p (map unqueued us)) []) (p u) (λ y. ap (λ (l : List Window). unqueued u ∷ l) (take_flags us)) (λ n. refl)
      ∙ ap (λ (c : Bool). cond c (unqueued u ∷ take_while p (map unqueued us)) []) (sym (h u))

  drop_flags : (l : List Window) → map unqueued (drop_while p l) ≡ drop_while p (map unqueued l)
  unfolding drop_while
  drop_flags [] = refl
  drop_flags (u ∷ us) =
      by_cases (λ (c : Bool). map unqueued (cond c (drop_while p us) (u ∷ us)) ≡ cond c (drop_while p (map unqueued us)) (unqueued u ∷ map unqueued us)) (p u) (λ y. drop_flags us) (λ n. refl)
      ∙ ap (λ (c : Bool). cond c (drop_while p (map unqueued us)) (unqueued u ∷ map unqueued us)) (sym (h u))

  all_flags : (l : List Window) → all p l ≡ all p (map unqueued l)
  unfolding all
  all_flags [] = refl
  all_flags (u ∷ us) = ap (λ (c : Bool). c && all p us) (sym (h u)) ∙ ap (λ (c : Bool). p (unqueued u) && c) (all_flags us)

  take_end_flags : (l : List Window) → map unqueued (take_while_end p l) ≡ take_while_end p (map unqueued l)
  unfolding take_while_end
  take_end_flags [] = refl
  take_end_flags (u ∷ us) =
      by_cases (λ (c : Bool). map unqueued (cond c (u ∷ us) (take_while_end p us)) ≡ cond c (unqueued u ∷ map unqueued us) (take_while_end p (map unqueued us))) (all p (u ∷ us)) (λ y. refl) (λ n. take_end_flags us)
      ∙ ap (λ (c : Bool). cond c (unqueued u ∷ map unqueued us) (take_while_end p (map unqueued us))) (all_flags (u ∷ us))

  drop_end_flags : (l : List Window) → map unqueued (drop_while_end p l) ≡ drop_while_end p (map unqueued l)
  unfolding drop_while_end
  drop_end_flags [] = refl
  drop_end_flags (u ∷ us) =
      by_cases (λ (c : Bool). map unqueued (cond c [] (u ∷ drop_while_end p us)) ≡ cond c [] (unqueued u ∷ drop_while_end p (map unqueued us))) (all p (u ∷ us)) (λ y. refl) (λ n. ap (λ (l : List Window). unqueued u ∷ l) (drop_end_flags us))
      ∙ ap (λ (c : Bool). cond c [] (unqueued u ∷ drop_while_end p (map unqueued us))) (all_flags (u ∷ us))

module _ (t : Float) (w : Window) where
  before_flags : (l : List Window) → map unqueued (before t w l) ≡ before t (unqueued w) (map unqueued l)
  before_flags l =
      drop_end_flags (ends_after (w.b0 ⊖ t)) (λ u. refl) (take_while (starts_before w.b0) l)
      ∙ ap (drop_while_end (ends_after (w.b0 ⊖ t))) (take_flags (starts_before w.b0) (λ u. refl) l)

  onward_flags : (l : List Window) → map unqueued (onward t w l) ≡ onward t (unqueued w) (map unqueued l)
  onward_flags l =
      map-append unqueued (take_while_end (ends_after (w.b0 ⊖ t)) (take_while (starts_before w.b0) l)) (drop_while (starts_before w.b0) l)
      ∙ ap (λ (m : List Window). m ++ map unqueued (drop_while (starts_before w.b0) l)) (take_end_flags (ends_after (w.b0 ⊖ t)) (λ u. refl) (take_while (starts_before w.b0) l) ∙ ap (take_while_end (ends_after (w.b0 ⊖ t))) (take_flags (starts_before w.b0) (λ u. refl) l))
      ∙ ap (λ (m : List Window). take_while_end (ends_after (w.b0 ⊖ t)) (take_while (starts_before w.b0) (map unqueued l)) ++ m) (drop_flags (starts_before w.b0) (λ u. refl) l)

  run_flags : (l : List Window) → map unqueued (run t w l) ≡ run t (unqueued w) (map unqueued l)
  run_flags l = take_flags (starts_before (w.b1 ⊕ t)) (λ u. refl) (onward t w l) ∙ ap (take_while (starts_before (w.b1 ⊕ t))) (onward_flags l)

  behind_flags : (l : List Window) → map unqueued (behind t w l) ≡ behind t (unqueued w) (map unqueued l)
  behind_flags l = drop_flags (starts_before (w.b1 ⊕ t)) (λ u. refl) (onward t w l) ∙ ap (drop_while (starts_before (w.b1 ⊕ t))) (onward_flags l)

-- ---- the walk
meet_flags : (t : Float) (u : Window) (lo hi : Float) (gs : List Interval) (s : Walk) → walk_flags (meet t u lo hi gs s) ≡ meet t (unqueued u) lo hi gs (walk_flags s)
unfolding meet
meet_flags t u lo hi [] s = ap (λ (l : List Window). with_survivors l) (map-append unqueued s.survivors (u ∷ []))
  where
    with_survivors : List Window → Walk
    with_survivors l = record { survivors = l; keep = next lo hi [] s.keep; made = s.made; slivers = s.slivers }
meet_flags t u lo hi (g ∷ gs) s =
    ap (λ (l : List Window). with_survivors l) (map-append unqueued s.survivors (split u s.made ps) ∙ ap (λ (l : List Window). map unqueued s.survivors ++ l) (split_flags u s.made ps))
  where
    ps : List Interval
    ps = pieces t u.b0 u.b1 (g ∷ gs)

    with_survivors : List Window → Walk
    with_survivors l = record { survivors = l; keep = next lo hi (g ∷ gs) s.keep; made = s.made + pred (length ps); slivers = s.slivers ++ piece_slivers t u.b0 u.b1 (g ∷ gs) }

module _ (better : Better) (t : Float) (w : Window) where
  -- one turn of the walk
  pub visit_flags : (u : Window) (s : Walk) → walk_flags (visit better t w u s) ≡ visit better t (unqueued w) (unqueued u) (walk_flags s)
  unfolding visit
  visit_flags u s =
      let lo = shared_lo w u in
      let hi = shared_hi w u in
      let gs = better w.src u.src lo hi in
      by_cases (λ (c : Bool). walk_flags (cond c (untouched u s) (meet t u lo hi gs s)) ≡ cond c (untouched (unqueued u) (walk_flags s)) (meet t (unqueued u) lo hi gs (walk_flags s))) (le (width lo hi) t)
      (λ y. ap (λ (l : List Window). with_survivors l) (map-append unqueued s.survivors (u ∷ [])))
      (λ n. meet_flags t u lo hi gs s)
    where
      with_survivors : List Window → Walk
      with_survivors l = record { survivors = l; keep = s.keep; made = s.made; slivers = s.slivers }

  -- the whole walk
  pub visits_flags : (us : List Window) (s : Walk) → walk_flags (visits better t w us s) ≡ visits better t (unqueued w) (map unqueued us) (walk_flags s)
  unfolding visits
  visits_flags [] s = refl
  visits_flags (u ∷ us) s = visits_flags us (visit better t w u s) ∙ ap (visits better t (unqueued w) (map unqueued us)) (visit_flags u s)

  ended_flags : (l : List Window) (made : ℕ) → walk_flags (visits better t w (run t w l) (start w made)) ≡ visits better t (unqueued w) (run t (unqueued w) (map unqueued l)) (start (unqueued w) made)
  ended_flags l made = visits_flags (run t w l) (start w made) ∙ ap (λ (us : List Window). visits better t (unqueued w) us (start (unqueued w) made)) (run_flags t w l)

-- what an addition leaves, from its parts
abbrev result_of : Float → Window → List Window → List Window → Walk → AddOutcome
result_of t w pre suf s = record {
  live = pre ++ (sorted (s.survivors ++ fresh w s.made (wide_of t s.keep)) ++ suf);
  made = s.made + length (wide_of t s.keep);
  slivers = s.slivers ++ keep_slivers t s.keep;
}

result_flags : (t : Float) (w : Window) (pre suf : List Window) (s : Walk) → added_flags (result_of t w pre suf s) ≡ result_of t (unqueued w) (map unqueued pre) (map unqueued suf) (walk_flags s)
result_flags t w pre suf s = ap (λ (l : List Window). with_live_lem l)
    (map-append unqueued pre (sorted (s.survivors ++ ns) ++ suf)
    ∙ ap (λ (l : List Window). map unqueued pre ++ l)
    (map-append unqueued (sorted (s.survivors ++ ns)) suf
    ∙ ap (λ (l : List Window). l ++ map unqueued suf) (sorted_flags (s.survivors ++ ns) ∙ ap sorted (map-append unqueued s.survivors ns ∙ ap (λ (l : List Window). map unqueued s.survivors ++ l) (fresh_flags w s.made (wide_of t s.keep))))))
  where
    ns : List Window
    ns = fresh w s.made (wide_of t s.keep)

    with_live_lem : List Window → AddOutcome
    with_live_lem l = record { live = l; made = s.made + length (wide_of t s.keep); slivers = s.slivers ++ keep_slivers t s.keep }

module _ (better : Better) (t : Float) where
  -- an addition with every flag cleared, before or after
  pub add_flags : (w : Window) (l : List Window) (made : ℕ) → added_flags (add_to better t w l made) ≡ add_to better t (unqueued w) (map unqueued l) made
  unfolding add_to
  add_flags w l made =
      result_flags t w (before t w l) (behind t w l) (visits better t w (run t w l) (start w made))
      ∙ ap (λ (m : List Window). result_of t (unqueued w) m (map unqueued (behind t w l)) (walk_flags (visits better t w (run t w l) (start w made)))) (before_flags t w l)
      ∙ ap (λ (m : List Window). result_of t (unqueued w) (before t (unqueued w) (map unqueued l)) m (walk_flags (visits better t w (run t w l) (start w made)))) (behind_flags t w l)
      ∙ ap (result_of t (unqueued w) (before t (unqueued w) (map unqueued l)) (behind t (unqueued w) (map unqueued l))) (ended_flags better t w l made)

  -- windows and lists that differ in flags alone
  module _ (w w' : Window) (l l' : List Window) (made : ℕ) (h : unqueued w ≡ unqueued w') (k : map unqueued l ≡ map unqueued l') where
    -- give results that differ in flags alone
    pub add_same : added_flags (add_to better t w l made) ≡ added_flags (add_to better t w' l' made)
    add_same =
        add_flags w l made
        ∙ ap (λ (v : Window). add_to better t v (map unqueued l) made) h
        ∙ ap (λ (m : List Window). add_to better t (unqueued w') m made) k
        ∙ sym (add_flags w' l' made)

    -- of them the live windows
    pub add_same_live : map unqueued (add_to better t w l made).live ≡ map unqueued (add_to better t w' l' made).live
    add_same_live = ap (λ (a : AddOutcome). a.live) add_same

    -- the number made
    pub add_same_made : (add_to better t w l made).made ≡ (add_to better t w' l' made).made
    add_same_made = ap (λ (a : AddOutcome). a.made) add_same

-- ---- what does not look at the flag holds of both lists or of neither
module _ (P : Window → Type 0) (f : (u : Window) → P u → P (unqueued u)) (g : (u : Window) → P (unqueued u) → P u) where
  all_to : (l : List Window) → All P l → All P (map unqueued l)
  all_to [] h = tt
  all_to (u ∷ us) h = (f u h.0, all_to us h.1)

  all_from : (l : List Window) → All P (map unqueued l) → All P l
  all_from [] h = tt
  all_from (u ∷ us) h = (g u h.0, all_from us h.1)

  -- each element
  pub all_same : (l l' : List Window) → map unqueued l ≡ map unqueued l' → All P l → All P l'
  all_same l l' e h = all_from l' (subst (All P) e (all_to l h))

  any_to : (l : List Window) → Any P l → Any P (map unqueued l)
  any_to [] h = h
  any_to (u ∷ us) (inl h) = inl (f u h)
  any_to (u ∷ us) (inr h) = inr (any_to us h)

  any_from : (l : List Window) → Any P (map unqueued l) → Any P l
  any_from [] h = h
  any_from (u ∷ us) (inl h) = inl (g u h)
  any_from (u ∷ us) (inr h) = inr (any_from us h)

  -- some element
  pub any_same : (l l' : List Window) → map unqueued l ≡ map unqueued l' → Any P l → Any P l'
  any_same l l' e h = any_from l' (subst (Any P) e (any_to l h))

module _ (R : Window → Window → Type 0) (f : (u v : Window) → R u v → R (unqueued u) (unqueued v)) (g : (u v : Window) → R (unqueued u) (unqueued v) → R u v) where
  beside_to : (u : Window) (l : List Window) → All (R u) l → All (R (unqueued u)) (map unqueued l)
  beside_to u [] h = tt
  beside_to u (v ∷ vs) h = (f u v h.0, beside_to u vs h.1)

  beside_from : (u : Window) (l : List Window) → All (R (unqueued u)) (map unqueued l) → All (R u) l
  beside_from u [] h = tt
  beside_from u (v ∷ vs) h = (g u v h.0, beside_from u vs h.1)

  pairs_to : (l : List Window) → Pairs R l → Pairs R (map unqueued l)
  pairs_to [] h = tt
  pairs_to (u ∷ us) h = (beside_to u us h.0, pairs_to us h.1)

  pairs_from : (l : List Window) → Pairs R (map unqueued l) → Pairs R l
  pairs_from [] h = tt
  pairs_from (u ∷ us) h = (beside_from u us h.0, pairs_from us h.1)

  -- each two elements
  pub pairs_same : (l l' : List Window) → map unqueued l ≡ map unqueued l' → Pairs R l → Pairs R l'
  pairs_same l l' e h = pairs_from l' (subst (Pairs R) e (pairs_to l h))

  cross_to : (l m : List Window) → All (λ (u : Window). All (R u) m) l → All (λ (u : Window). All (R u) (map unqueued m)) (map unqueued l)
  cross_to [] m h = tt
  cross_to (u ∷ us) m h = (beside_to u m h.0, cross_to us m h.1)

  cross_from : (l m : List Window) → All (λ (u : Window). All (R u) (map unqueued m)) (map unqueued l) → All (λ (u : Window). All (R u) m) l
  cross_from [] m h = tt
  cross_from (u ∷ us) m h = (beside_from u m h.0, cross_from us m h.1)

  -- each of one list and each of another
  pub cross_same : (l l' m m' : List Window) → map unqueued l ≡ map unqueued l' → map unqueued m ≡ map unqueued m' → All (λ (u : Window). All (R u) m) l → All (λ (u : Window). All (R u) m') l'
  cross_same l l' m m' e d h = cross_from l' m' (subst (λ (x : List Window). All (λ (u : Window). All (R u) (map unqueued m')) x) e (subst (λ (x : List Window). All (λ (u : Window). All (R u) x) (map unqueued l)) d (cross_to l m h)))

steps_to : (u : Window) (l : List Window) → Steps u l → Steps (unqueued u) (map unqueued l)
steps_to u [] h = tt
steps_to u (v ∷ vs) h = (h.0, h.1, steps_to v vs h.2)

steps_from : (u : Window) (l : List Window) → Steps (unqueued u) (map unqueued l) → Steps u l
steps_from u [] h = tt
steps_from u (v ∷ vs) h = (h.0, h.1, steps_from v vs h.2)

ordered_to : (l : List Window) → Ordered l → Ordered (map unqueued l)
ordered_to [] h = tt
ordered_to (u ∷ us) h = steps_to u us h

ordered_of : (l : List Window) → Ordered (map unqueued l) → Ordered l
ordered_of [] h = tt
ordered_of (u ∷ us) h = steps_from u us h

count_flags : (X Y : ℕ) (l : List Window) → wcount X Y (map unqueued l) ≡ wcount X Y l
unfolding wcount
count_flags X Y [] = refl
count_flags X Y (u ∷ us) = ap (λ (n : ℕ). has X Y (rank u.b0) (rank u.b1) + n) (count_flags X Y us)

-- tidy lists stay tidy
pub tidy_same : (t : Float) (l l' : List Window) → map unqueued l ≡ map unqueued l' → Tidy t l → Tidy t l'
tidy_same t l l' e h = record {
  wides = all_same (Wide t) (λ u k. record { point0 = k.point0; point1 = k.point1; wide = k.wide }) (λ u k. record { point0 = k.point0; point1 = k.point1; wide = k.wide }) l l' e h.wides;
  ordered = ordered_of l' (subst Ordered e (ordered_to l h.ordered));
  lone = λ x y gx gy w. subst (λ (n : ℕ). n ≤ 1) (sym (count_flags (rank x) (rank y) l) ∙ ap (wcount (rank x) (rank y)) e ∙ count_flags (rank x) (rank y) l') (h.lone x y gx gy w);
}

-- demand 3 of an edge speaks of no flag
pub trimmed_same : (t : Float) (n : ℕ) (s : EdgeState) (l : List Window) → map unqueued s.live ≡ map unqueued l → Trimmed t n s → Trimmed t n (record { live = l; admitted = s.admitted; slivers = s.slivers })
trimmed_same t n s l e h = record {
  order = pairs_same (λ (u v : Window). T (lt u.b0 v.b0) × T (lt u.b1 v.b1)) (λ u v k. k) (λ u v k. k) s.live l e h.order;
  widths = all_same (λ (u : Window). T (lt t (width u.b0 u.b1))) (λ u k. k) (λ u k. k) s.live l e h.widths;
  shares = pairs_same (λ (u v : Window). T (le (width (max_of u.b0 v.b0) (min_of u.b1 v.b1)) t)) (λ u v k. k) (λ u v k. k) s.live l e h.shares;
  cover = λ x g a. ⊎_elim (λ k. inl (any_same (InWindow x) (λ u i. i) (λ u i. i) s.live l e k)) inr (h.cover x g a);
  narrow = h.narrow;
  count = h.count;
}
