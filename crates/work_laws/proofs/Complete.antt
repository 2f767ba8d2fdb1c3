-- After an addition each window that is alive was alive before and is none of the run's, or is one of those that the addition left on its edge: adding_comes. Assumes nothing.
use Prim.Native.Nat.{ℕ, suc, ◌+◌, ◌≤◌, ◌<◌, pred}
use native.Mathlib.Omega.{arith}
use native.Mathlib.Decide.{ℕ_discrete, dec_le}
use mathlib.Core.Bool.{Bool, true, false, cond}
use mathlib.Core.List.{List, [], ◌∷◌, ◌++◌, append-nil, append_assoc}
use mathlib.Core.Logic.{⊎_elim, ◌⊎◌, inl, inr}
use mathlib.Core.Path.{◌≡◌, sym, ap, subst, ◌∙◌}
use lib.Dec.{T}
use lib.ListN.{length, length-append, get_or}
use lib.Ieee.{Float, le}
use Rattle.source.specs.Distance.{lowest_of}
use Rattle.nat_laws.specs.Lists.{insert_by, sort_by}
use Rattle.float64.specs.TotalOrder.{total_less}
use Rattle.last_pass.specs.of_better.Claim.{All}
use Rattle.last_pass.specs.of_better.Points.{pts_of, walk_of}
use Rattle.last_pass.specs.of_better.Stretches.{Interval, better_of}
use Rattle.windows.specs.declared.Edge.{Edge}
use Rattle.windows.specs.declared.WindowRecord.{WindowRecord}
use Rattle.windows.specs.Windows.{trimmed, reflagged, relinked, dead, adjust}
use Rattle.actions.specs.Actions.{Action, list, trim, kill, wins_with, wins_after}
use Rattle.last_pass.specs.of_trim_model.Intervals.{width, tiny_of, next, pieces, wide_of}
use Rattle.last_pass.specs.of_trim_model.Windows.{Window, part, fresh, split, insert, sorted}
use Rattle.last_pass.specs.of_trim_model.Add.{Walk, run, shared_lo, shared_hi, start, untouched, meet, visit, visits}
use Rattle.last_pass.proofs.laws_of_trim_model.Ranks.{by_cases}
use Rattle.last_pass.proofs.laws_of_trim_model.Lists.{all_append, all_left, all_right}
use Rattle.last_pass.specs.of_trim_state.Trace.{record_of, making, makings, splitting, losing, visiting, visitings, touching, keeping, adding}
use Rattle.work_laws.proofs.Recorded.{Spares, after_append, after_spared, length_adjust, adjust_here, making_wins, making_spares, makings_length, touching_wins, touching_spares}

-- no window of the list has number i; not none of them has it
abbrev pub Absent : ℕ → List Window → Type 0
Absent i us = All (λ (u : Window). u.num ≡ i → ⊥) us

abbrev pub Present : ℕ → List Window → Type 0
Present i us = Absent i us → ⊥

here : (u : Window) (i : ℕ) → u.num ≡ i → (us : List Window) → Present i (u ∷ us)
here u i h us a = a.0 h

module _ (d : WindowRecord) where
  -- window i is there, and alive
  abbrev pub AliveAt : List WindowRecord → ℕ → Type 0
  AliveAt wins i = (i < length wins) × ((get_or wins i d).alive ≡ true)

  -- of the windows alive after the actions each was there before, is none of vs and is spared, or it is one of us
  abbrev pub Comes : List WindowRecord → List Action → List Window → List Window → Type 0
  Comes wins todo vs us = (i : ℕ) → AliveAt (wins_after todo wins) i → ((i < length wins) × (All (Spares i) todo × Absent i vs)) ⊎ Present i us

  comes_then : (wins : List WindowRecord) (xs ys : List Action) (vs us vs' us' : List Window) → Comes wins xs vs us → Comes (wins_after xs wins) ys vs' us' → Comes wins (xs ++ ys) (vs ++ vs') (us ++ us')
  comes_then wins xs ys vs us vs' us' A B i alive =
      let W = wins_after xs wins in
      let P : Window → Type 0 = λ u. u.num ≡ i → ⊥ in
      ⊎_elim
      (λ b.
      let same = (after_spared ys i b.1.0 W b.0).1 d in
      let then : AliveAt (wins_after ys W) i = subst (λ (l : List WindowRecord). AliveAt l i) (after_append xs ys wins) alive in
      ⊎_elim
      (λ a. inl (a.0, (all_append (Spares i) xs ys a.1.0 b.1.0, all_append P vs vs' a.1.1 b.1.1)))
      (λ p. inr (λ o. p (all_left P us us' o)))
      (A i (b.0, ap (λ (x : WindowRecord). x.alive) (sym same) ∙ then.1)))
      (λ p. inr (λ o. p (all_right P us us' o)))
      (B i (subst (λ (l : List WindowRecord). AliveAt l i) (after_append xs ys wins) alive))

  comes_none : (wins : List WindowRecord) → Comes wins [] [] []
  unfolding wins_after
  comes_none wins i alive = inl (alive.0, (tt, tt))

  -- a list that comes to so many entries
  comes_list : (wins : List WindowRecord) (n : ℕ) (todo : List Action) (vs us : List Window) → Comes wins todo vs us → Comes wins (list n ∷ todo) vs us
  unfolding wins_after wins_with
  comes_list wins n todo vs us A i alive = ⊎_elim (λ a. inl (a.0, ((tt, a.1.0), a.1.1))) (λ p. inr p) (A i alive)

  -- a window that stays as it is
  comes_same : (wins : List WindowRecord) (u : Window) → Comes wins [] (u ∷ []) (u ∷ [])
  unfolding wins_after
  comes_same wins u i alive = go (ℕ_discrete u.num i) where
    go : Dec (u.num ≡ i) → ((i < length wins) × (Unit {0} × Absent i (u ∷ []))) ⊎ Present i (u ∷ [])
    go (yes h) = inr (here u i h [])
    go (no h) = inl (alive.0, (tt, (h, tt)))

  -- ---- parts that are made
  making_comes : (wins : List WindowRecord) (e : ℕ) (u : Window) (n : ℕ) (p : Interval) → n ≡ length wins → Comes wins (making e u n p) [] (part u p.from p.to n ∷ [])
  making_comes wins e u n p h i alive = go (dec_le (length wins) i) where
    v : Window
    v = part u p.from p.to n

    more : length (wins_after (making e u n p) wins) ≡ length wins + 1
    more = ap length (making_wins e u n p wins) ∙ length-append wins (record_of e v ∷ [])

    go : Dec (length wins ≤ i) → ((i < length wins) × (All (Spares i) (making e u n p) × Unit {0})) ⊎ Present i (v ∷ [])
    go (yes l) = inr (here v i (omega (arith, h, l, alive.0, more)) [])
    go (no l) = inl (omega (arith, l), (making_spares i e u n p, tt))

  makings_come : (wins : List WindowRecord) (e : ℕ) (u : Window) (n : ℕ) (ps : List Interval) → n ≡ length wins → Comes wins (makings e u n ps) [] (fresh u n ps)
  unfolding makings fresh
  makings_come wins e u n [] h = comes_none wins
  makings_come wins e u n (p ∷ ps) h =
      let W = wins_after (making e u n p) wins in
      let more : length W ≡ length wins + 1 = ap length (making_wins e u n p wins) ∙ length-append wins (record_of e (part u p.from p.to n) ∷ []) in
      comes_then wins (making e u n p) (makings e u (suc n) ps) [] (part u p.from p.to n ∷ []) [] (fresh u (suc n) ps) (making_comes wins e u n p h) (makings_come W e u (suc n) ps (omega (arith, h, more)))

  -- ---- a window of the run
  kill_comes : (wins : List WindowRecord) (u : Window) → Comes wins (kill u.num ∷ []) (u ∷ []) []
  unfolding wins_after wins_with relinked reflagged
  kill_comes wins u i alive = go (ℕ_discrete u.num i) where
    long : i < length wins
    long = omega (arith, alive.0, length_adjust dead u.num wins)

    go : Dec (u.num ≡ i) → ((i < length wins) × (((u.num ≡ i → ⊥) × Unit {0}) × Absent i (u ∷ []))) ⊎ Present i []
    go (yes h) =
        let gone : get_or (adjust u.num dead wins) i d ≡ dead (get_or wins i d) = subst (λ (j : ℕ). get_or (adjust j dead wins) i d ≡ dead (get_or wins i d)) (sym h) (adjust_here dead i wins d long) in
        absurd (subst T (sym alive.1 ∙ ap (λ (x : WindowRecord). x.alive) gone) tt)
    go (no h) = inl (long, ((h, tt), (h, tt)))

  trim_comes : (wins : List WindowRecord) (u : Window) (b0 b1 low : Float) → Comes wins (trim u.num b0 b1 low ∷ []) (u ∷ []) (part u b0 b1 u.num ∷ [])
  unfolding wins_after wins_with
  trim_comes wins u b0 b1 low i alive = go (ℕ_discrete u.num i) where
    go : Dec (u.num ≡ i) → ((i < length wins) × (((u.num ≡ i → ⊥) × Unit {0}) × Absent i (u ∷ []))) ⊎ Present i (part u b0 b1 u.num ∷ [])
    go (yes h) = inr (here (part u b0 b1 u.num) i h [])
    go (no h) = inl (omega (arith, alive.0, length_adjust (λ x. trimmed x b0 b1 low) u.num wins), ((h, tt), (h, tt)))

  splitting_length : (wins : List WindowRecord) (e : ℕ) (u : Window) (n : ℕ) (ps : List Interval) → length (wins_after (splitting e u n ps) wins) ≡ length wins + pred (length ps)
  unfolding splitting wins_after wins_with
  splitting_length wins e u n [] = omega (arith, length_adjust dead u.num wins)
  splitting_length wins e u n (p ∷ ps) =
      let g : WindowRecord → WindowRecord = λ x. trimmed x p.from p.to (lowest_of u.src p.from p.to) in
      omega (arith, makings_length e u n ps (adjust u.num g wins), length_adjust g u.num wins)

  splitting_comes : (wins : List WindowRecord) (e : ℕ) (u : Window) (n : ℕ) (ps : List Interval) → n ≡ length wins → Comes wins (splitting e u n ps) (u ∷ []) (split u n ps)
  unfolding splitting split wins_after wins_with
  splitting_comes wins e u n [] h = kill_comes wins u
  splitting_comes wins e u n (p ∷ ps) h =
      let low = lowest_of u.src p.from p.to in
      let g : WindowRecord → WindowRecord = λ x. trimmed x p.from p.to low in
      comes_then wins (trim u.num p.from p.to low ∷ []) (makings e u n ps) (u ∷ []) (part u p.from p.to u.num ∷ []) [] (fresh u n ps)
      (trim_comes wins u p.from p.to low) (makings_come (adjust u.num g wins) e u n ps (omega (arith, h, length_adjust g u.num wins)))

  -- ---- the walk over the run, from `wins` on: vs are met, and ss survive
  record WalkComes (wins : List WindowRecord) (todo : List Action) (made : ℕ) (vs ss : List Window) : Type 0 where
    count : made ≡ length (wins_after todo wins)
    comes : Comes wins todo vs ss

  meet_comes : (a b c e : ℕ) (t : Float) (u : Window) (lo hi : Float) (gs : List Interval) (s : Walk) (wins : List WindowRecord) (todo : List Action) (vs : List Window) → WalkComes wins todo s.made vs s.survivors
      → WalkComes wins (todo ++ list a ∷ list b ∷ list c ∷ losing e t u s.made gs) (meet t u lo hi gs s).made (vs ++ (u ∷ [])) (meet t u lo hi gs s).survivors
  unfolding losing meet wins_after wins_with
  meet_comes a b c e t u lo hi [] s wins todo vs W =
      let acts = list a ∷ list b ∷ list c ∷ [] in
      let W1 = wins_after todo wins in
      record {
        count = W.count ∙ ap length (sym (after_append todo acts wins));
        comes = comes_then wins todo acts vs s.survivors (u ∷ []) (u ∷ []) W.comes (comes_list W1 a (list b ∷ list c ∷ []) (u ∷ []) (u ∷ []) (comes_list W1 b (list c ∷ []) (u ∷ []) (u ∷ []) (comes_list W1 c [] (u ∷ []) (u ∷ []) (comes_same W1 u))));
      }
  meet_comes a b c e t u lo hi (g ∷ gs) s wins todo vs W =
      let ps = pieces t u.b0 u.b1 (g ∷ gs) in
      let split' = split u s.made ps in
      let rest = splitting e u s.made ps in
      let acts = list a ∷ list b ∷ list c ∷ list (length ps) ∷ rest in
      let W1 = wins_after todo wins in
      record {
        count = omega (arith, W.count, splitting_length W1 e u s.made ps, ap length (after_append todo acts wins));
        comes = comes_then wins todo acts vs s.survivors (u ∷ []) split' W.comes
            (comes_list W1 a (list b ∷ list c ∷ list (length ps) ∷ rest) (u ∷ []) split' (comes_list W1 b (list c ∷ list (length ps) ∷ rest) (u ∷ []) split'
            (comes_list W1 c (list (length ps) ∷ rest) (u ∷ []) split' (comes_list W1 (length ps) rest (u ∷ []) split' (splitting_comes W1 e u s.made ps W.count)))));
      }

  visit_comes : (e : ℕ) (t : Float) (w u : Window) (s : Walk) (wins : List WindowRecord) (todo : List Action) (vs : List Window) → WalkComes wins todo s.made vs s.survivors
      → WalkComes wins (todo ++ visiting e t w u s) (visit better_of t w u s).made (vs ++ (u ∷ [])) (visit better_of t w u s).survivors
  unfolding visiting visit
  visit_comes e t w u s wins todo vs W =
      let lo = shared_lo w u in
      let hi = shared_hi w u in
      let gs = better_of w.src u.src lo hi in
      let a = length (walk_of w.src u.src (pts_of w.src u.src lo hi)) in
      let c = length (next lo hi gs s.keep) in
      let more = list a ∷ list (length gs) ∷ list c ∷ losing e t u s.made gs in
      by_cases (λ (b : Bool). WalkComes wins (todo ++ cond b [] more) (cond b (untouched u s) (meet t u lo hi gs s)).made (vs ++ (u ∷ [])) (cond b (untouched u s) (meet t u lo hi gs s)).survivors) (le (width lo hi) t)
      (λ y. record { count = W.count ∙ ap (λ (l : List Action). length (wins_after l wins)) (sym (append-nil todo)); comes = comes_then wins todo [] vs s.survivors (u ∷ []) (u ∷ []) W.comes (comes_same (wins_after todo wins) u) })
      (λ n. meet_comes a (length gs) c e t u lo hi gs s wins todo vs W)

  visits_come : (e : ℕ) (t : Float) (w : Window) (us : List Window) (s : Walk) (wins : List WindowRecord) (todo : List Action) (vs : List Window) → WalkComes wins todo s.made vs s.survivors
      → WalkComes wins (todo ++ visitings e t w us s) (visits better_of t w us s).made (vs ++ us) (visits better_of t w us s).survivors
  unfolding visitings visits
  visits_come e t w [] s wins todo vs W = subst (λ (l : List Action). WalkComes wins l s.made (vs ++ []) s.survivors) (sym (append-nil todo)) (subst (λ (l : List Window). WalkComes wins todo s.made l s.survivors) (sym (append-nil vs)) W)
  visits_come e t w (u ∷ us) s wins todo vs W =
      let s1 = visit better_of t w u s in
      let r = visits_come e t w us s1 wins (todo ++ visiting e t w u s) (vs ++ (u ∷ [])) (visit_comes e t w u s wins todo vs W) in
      subst (λ (l : List Action). WalkComes wins l (visits better_of t w us s1).made (vs ++ u ∷ us) (visits better_of t w us s1).survivors) (append_assoc todo (visiting e t w u s) (visitings e t w us s1))
      (subst (λ (l : List Window). WalkComes wins ((todo ++ visiting e t w u s) ++ visitings e t w us s1) (visits better_of t w us s1).made l (visits better_of t w us s1).survivors) (append_assoc vs (u ∷ []) us) r)

  -- ---- the windows that are kept of the new one
  touching_comes : (wins : List WindowRecord) (e : Edge) (nw : Window) → Comes wins (touching e nw) [] []
  touching_comes wins e nw i alive = inl ((subst (λ (l : List WindowRecord). AliveAt l i) (touching_wins e nw wins) alive).0, (touching_spares e nw i, tt))

  keeping_comes : (wins : List WindowRecord) (e : Edge) (w : Window) (n : ℕ) (ks : List Interval) → n ≡ length wins → Comes wins (keeping e w n ks) [] (fresh w n ks)
  unfolding keeping fresh
  keeping_comes wins e w n [] h = comes_none wins
  keeping_comes wins e w n (k ∷ ks) h =
      let nw = part w k.from k.to n in
      let acts = making e.id.0 w n k in
      let W = wins_after acts wins in
      let W1 = wins_after (touching e nw) W in
      let more : length W1 ≡ length wins + 1 = ap length (touching_wins e nw W ∙ making_wins e.id.0 w n k wins) ∙ length-append wins (record_of e.id.0 nw ∷ []) in
      comes_then wins acts (touching e nw ++ keeping e w (suc n) ks) [] (nw ∷ []) [] (fresh w (suc n) ks) (making_comes wins e.id.0 w n k h)
      (comes_then W (touching e nw) (keeping e w (suc n) ks) [] [] [] (fresh w (suc n) ks) (touching_comes W e nw) (keeping_comes W1 e w (suc n) ks (omega (arith, h, more))))

  -- ---- the whole
  pub adding_comes : (e : Edge) (w : Window) (live : List Window) (made : ℕ) (wins : List WindowRecord) → made ≡ length wins
      → let t = tiny_of e.len in
      let s = visits better_of t w (run t w live) (start w made) in
      Comes wins (adding e w live made) (run t w live) (s.survivors ++ fresh w s.made (wide_of t s.keep))
  unfolding adding
  adding_comes e w live made wins h =
      let t = tiny_of e.len in
      let met = run t w live in
      let s = visits better_of t w met (start w made) in
      let ks = wide_of t s.keep in
      let acts = visitings e.id.0 t w met (start w made) in
      let W = visits_come e.id.0 t w met (start w made) wins [] [] (unfold wins_after in record { count = h; comes = comes_none wins }) in
      let all = comes_then wins acts (keeping e w s.made ks) met s.survivors [] (fresh w s.made ks) W.comes (keeping_comes (wins_after acts wins) e w s.made ks W.count) in
      comes_list wins 1 (acts ++ keeping e w s.made ks) met (s.survivors ++ fresh w s.made ks)
      (subst (λ (l : List Window). Comes wins (acts ++ keeping e w s.made ks) l (s.survivors ++ fresh w s.made ks)) (append-nil met) all)

-- ---- sorting loses none
insert_absent : (i : ℕ) (u : Window) (l : List Window) → Absent i (insert u l) → Absent i (u ∷ l)
unfolding insert_by
insert_absent i u [] a = a
insert_absent i u (v ∷ vs) a = go (total_less v.b0 u.b0) a (insert_absent i u vs) where
  go : (b : Bool) → Absent i (cond b (v ∷ insert u vs) (u ∷ v ∷ vs)) → (Absent i (insert u vs) → Absent i (u ∷ vs)) → Absent i (u ∷ v ∷ vs)
  go true a ih = ((ih a.1).0, (a.0, (ih a.1).1))
  go false a ih = a

pub sorted_absent : (i : ℕ) (l : List Window) → Absent i (sorted l) → Absent i l
unfolding sort_by
sorted_absent i [] a = tt
sorted_absent i (u ∷ us) a = let k = insert_absent i u (sorted us) a in (k.0, sorted_absent i us k.1)
