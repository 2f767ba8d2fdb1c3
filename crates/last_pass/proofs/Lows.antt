-- Actions keep `low` right of every window made, dead ones too, where each trim has the source of the window that it trims. Those of an addition are such. Assumes nothing.
use Prim.Native.Nat.{ℕ, zero, suc, ◌<◌}
use mathlib.Core.Bool.{Bool, true, false, cond}
use mathlib.Core.List.{List, [], ◌∷◌, ◌++◌, append_assoc}
use mathlib.Core.Path.{◌≡◌, refl, sym, ap, subst, ◌∙◌}
use lib.ListN.{length, get_or, get_or-append}
use lib.Ieee.{Float, le}
use Rattle.float64.specs.Scalar.{zero64}
use Rattle.float64.specs.Notation.{◌⊖◌, ◌⊗◌}
use Rattle.source.specs.declared.Src.{Src}
use Rattle.source.specs.Distance.{lowest_of, eval_of}
use Rattle.pop.specs.of_better.Claim.{All}
use Rattle.pop.specs.of_better.Points.{pts_of, walk_of}
use Rattle.pop.specs.of_better.Stretches.{Interval, better_of}
use Rattle.windows.specs.declared.Edge.{Edge}
use Rattle.windows.specs.declared.WindowRecord.{WindowRecord}
use Rattle.windows.specs.Windows.{trimmed, trimmed_win, reflagged, relinked, dead, adjust}
use Rattle.actions.specs.Actions.{Action, list, make, trim, kill, push, touch, wins_with, wins_after}
use Rattle.pop.specs.of_trim_model.Intervals.{width, tiny_of, push_if, next, pieces, wide_of}
use Rattle.pop.specs.of_trim_model.Windows.{Window, part}
use Rattle.pop.specs.of_trim_model.Add.{Walk, before, run, behind, shared_lo, shared_hi, start, visit, visits}
use Rattle.pop.proofs.laws_of_trim_model.Ranks.{by_cases}
use Rattle.pop.proofs.laws_of_trim_model.Lists.{all_append, all_left, all_right}
use Rattle.pop.proofs.laws_of_trim_model.Windows.{parted}
use Rattle.pop.specs.of_trim_state.Trace.{window_event, win_of, making, makings, splitting, losing, visiting, visitings, near, touching, keeping, adding}
use Rattle.last_pass.specs.Finished.{LowIs, sources_of, Sourced}
use Rattle.last_pass.proofs.Sources.{made_by, sources_with}

-- window i, which has the source of the trim, is trimmed to where its lowest value is low
pub record RightTrim (S : List Src) (i : ℕ) (b0 b1 low : Float) : Type 0 where
  pub src : Src
  pub made : i < length S
  pub at : (d : Src) → get_or S i d ≡ src
  pub is : low ≡ lowest_of src b0 b1

abbrev pub Right : List Src → Action → Type 0
Right S (list n) = Unit {0}
Right S (make x) = LowIs x
Right S (trim i b0 b1 low) = RightTrim S i b0 b1 low
Right S (kill i) = Unit {0}
Right S (push e) = Unit {0}
Right S (touch v d) = Unit {0}

pub adjust_lows : (g : WindowRecord → WindowRecord) → ((x : WindowRecord) → LowIs x → LowIs (g x)) → (i : ℕ) (wins : List WindowRecord) → All LowIs wins → All LowIs (adjust i g wins)
unfolding adjust
adjust_lows g h i [] a = tt
adjust_lows g h zero (x ∷ wins) a = (h x a.0, a.1)
adjust_lows g h (suc i) (x ∷ wins) a = (a.0, adjust_lows g h i wins a.1)

trim_lows : (b0 b1 low : Float) (src : Src) → low ≡ lowest_of src b0 b1 → (i : ℕ) (wins : List WindowRecord) → ((d : Src) → get_or (sources_of wins) i d ≡ src) → All LowIs wins → All LowIs (adjust i (λ x. trimmed x b0 b1 low) wins)
unfolding adjust trimmed trimmed_win
trim_lows b0 b1 low src h i [] at a = tt
trim_lows b0 b1 low src h zero (x ∷ wins) at a = (h ∙ ap (λ (s : Src). lowest_of s b0 b1) (sym (at src)), a.1)
trim_lows b0 b1 low src h (suc i) (x ∷ wins) at a = (a.0, trim_lows b0 b1 low src h i wins at a.1)

lows_with : (a : Action) (wins : List WindowRecord) (S more : List Src) → sources_of wins ≡ S ++ more → Right S a → All LowIs wins → All LowIs (wins_with a wins)
unfolding wins_with relinked reflagged
lows_with (list n) wins S more e r h = h
lows_with (make x) wins S more e r h = all_append LowIs wins (x ∷ []) h (r, tt)
lows_with (trim i b0 b1 low) wins S more e r h = trim_lows b0 b1 low r.src r.is i wins (λ d. ap (λ (l : List Src). get_or l i d) e ∙ get_or-append S more d i r.made ∙ r.at d) h
lows_with (kill i) wins S more e r h = adjust_lows dead (λ x k. k) i wins h
lows_with (push v) wins S more e r h = h
lows_with (touch v d) wins S more e r h = h

pub lows_after : (todo : List Action) (wins : List WindowRecord) (S more : List Src) → sources_of wins ≡ S ++ more → All (Right S) todo → All LowIs wins → All LowIs (wins_after todo wins)
unfolding wins_after
lows_after [] wins S more e r h = h
lows_after (a ∷ rest) wins S more e r h =
    lows_after rest (wins_with a wins) S (more ++ made_by a) (sources_with a wins ∙ ap (λ (l : List Src). l ++ made_by a) e ∙ append_assoc S more (made_by a)) r.1 (lows_with a wins S more e r.0 h)

-- ---- the actions of an addition are right, where the live windows have the sources of their numbers
module _ (S : List Src) where
  abbrev Rights : List Action → Type 0
  Rights todo = All (Right S) todo

  making_right : (e : ℕ) (u : Window) (n : ℕ) (p : Interval) → Rights (making e u n p)
  making_right e u n p = (refl, by_cases (λ (b : Bool). Rights (push_if b (push (window_event (lowest_of u.src p.from p.to) n)))) u.carried.queued (λ y. (tt, tt)) (λ y. tt))

  makings_right : (e : ℕ) (u : Window) (n : ℕ) (ps : List Interval) → Rights (makings e u n ps)
  unfolding makings
  makings_right e u n [] = tt
  makings_right e u n (p ∷ ps) = all_append (Right S) (making e u n p) (makings e u (suc n) ps) (making_right e u n p) (makings_right e u (suc n) ps)

  splitting_right : (e : ℕ) (u : Window) (n : ℕ) (ps : List Interval) → Sourced S u → Rights (splitting e u n ps)
  unfolding splitting
  splitting_right e u n [] k = (tt, tt)
  splitting_right e u n (p ∷ ps) k = (record { src = u.src; made = k.made; at = k.source; is = refl }, makings_right e u n ps)

  losing_right : (e : ℕ) (t : Float) (u : Window) (n : ℕ) (gs : List Interval) → Sourced S u → Rights (losing e t u n gs)
  unfolding losing
  losing_right e t u n [] k = tt
  losing_right e t u n (g ∷ gs) k = (tt, splitting_right e u n (pieces t u.b0 u.b1 (g ∷ gs)) k)

  visiting_right : (e : ℕ) (t : Float) (w u : Window) (s : Walk) → Sourced S u → Rights (visiting e t w u s)
  unfolding visiting
  visiting_right e t w u s k =
      let lo = shared_lo w u in
      let hi = shared_hi w u in
      let gs = better_of w.src u.src lo hi in
      let more = list (length (walk_of w.src u.src (pts_of w.src u.src lo hi))) ∷ list (length gs) ∷ list (length (next lo hi gs s.keep)) ∷ losing e t u s.made gs in
      by_cases (λ (b : Bool). Rights (cond b [] more)) (le (width lo hi) t) (λ y. tt) (λ n. (tt, (tt, (tt, losing_right e t u s.made gs k))))

  visitings_right : (e : ℕ) (t : Float) (w : Window) (us : List Window) (s : Walk) → All (Sourced S) us → Rights (visitings e t w us s)
  unfolding visitings
  visitings_right e t w [] s k = tt
  visitings_right e t w (u ∷ us) s k =
      all_append (Right S) (visiting e t w u s) (visitings e t w us (visit better_of t w u s)) (visiting_right e t w u s k.0) (visitings_right e t w us (visit better_of t w u s) k.1)

  touch_right : (b : Bool) (v : ℕ) (d : Float) → Rights (push_if b (touch v d))
  touch_right true v d = (tt, tt)
  touch_right false v d = tt

  touching_right : (e : Edge) (nw : Window) → Rights (touching e nw)
  unfolding touching
  touching_right e nw =
      let l = e.len in
      let x = le nw.b0 (near ⊗ l) in
      let y = le (l ⊖ near ⊗ l) nw.b1 in
      let da = eval_of (win_of nw) zero64 zero64 in
      let db = eval_of (win_of nw) l zero64 in
      all_append (Right S) (push_if x (touch e.a.0 da)) (push_if y (touch e.b.0 db)) (touch_right x e.a.0 da) (touch_right y e.b.0 db)

  keeping_right : (e : Edge) (w : Window) (n : ℕ) (ks : List Interval) → Rights (keeping e w n ks)
  unfolding keeping
  keeping_right e w n [] = tt
  keeping_right e w n (k ∷ ks) =
      let nw = part w k.from k.to n in
      all_append (Right S) (making e.id.0 w n k) (touching e nw ++ keeping e w (suc n) ks) (making_right e.id.0 w n k) (all_append (Right S) (touching e nw) (keeping e w (suc n) ks) (touching_right e nw) (keeping_right e w (suc n) ks))

  pub adding_right : (e : Edge) (w : Window) (live : List Window) (made : ℕ) → All (Sourced S) live → Rights (adding e w live made)
  unfolding adding
  adding_right e w live made k =
      let t = tiny_of e.len in
      let r = run t w live in
      let s = visits better_of t w r (start w made) in
      let all = all_right (Sourced S) (before t w live) (r ++ behind t w live) (subst (All (Sourced S)) (parted t w live) k) in
      (tt, all_append (Right S) (visitings e.id.0 t w r (start w made)) (keeping e w s.made (wide_of t s.keep)) (visitings_right e.id.0 t w r (start w made) (all_left (Sourced S) r (behind t w live) all)) (keeping_right e w s.made (wide_of t s.keep)))
