-- A walk that goes on from windows that survived already: they stay in front, and nothing else depends on them. Assumes nothing.
use Prim.Native.Nat.{ℕ}
use mathlib.Core.Bool.{Bool, cond}
use mathlib.Core.List.{List, [], ◌∷◌, ◌++◌, append_assoc, append-nil}
use mathlib.Core.Path.{◌≡◌, refl, sym, ap, ◌∙◌}
use lib.Ieee.{Float, le}
use Rattle.trim_split.specs.of_better.Stretches.{Interval, better_of}
use Rattle.actions.specs.Actions.{Action}
use Rattle.trim_split.specs.of_trim_model.Intervals.{width, next, pieces, piece_slivers}
use Rattle.trim_split.specs.of_trim_model.Windows.{Window, split}
use Rattle.trim_split.specs.of_trim_model.Add.{Walk, shared_lo, shared_hi, untouched, meet, visit, visits}
use Rattle.trim_split.proofs.laws_of_trim_model.Ranks.{by_cases}
use Rattle.trim_split.specs.of_trim_state.Trace.{visiting, visitings}
use Rattle.trim_visit.specs.Visiting.{from}

-- with windows and slivers in front
abbrev behind : List Window → List Interval → Walk → Walk
behind a g s = record { survivors = a ++ s.survivors; keep = s.keep; made = s.made; slivers = g ++ s.slivers }

walk_of : (a a' : List Window) (keep : List Interval) (made : ℕ) (g g' : List Interval) → a ≡ a' → g ≡ g' → ◌≡◌ {A = Walk} (record { survivors = a; keep = keep; made = made; slivers = g }) (record { survivors = a'; keep = keep; made = made; slivers = g' })
walk_of a a' keep made g g' h k = rw (h, k)

module _ (e : ℕ) (t : Float) (w : Window) (a : List Window) (g : List Interval) where
  meet_behind : (u : Window) (lo hi : Float) (gs : List Interval) (s : Walk) → meet t u lo hi gs (behind a g s) ≡ behind a g (meet t u lo hi gs s)
  unfolding meet
  meet_behind u lo hi [] s = walk_of ((a ++ s.survivors) ++ (u ∷ [])) (a ++ (s.survivors ++ (u ∷ []))) (next lo hi [] s.keep) s.made (g ++ s.slivers) (g ++ s.slivers) (append_assoc a s.survivors (u ∷ [])) refl
  meet_behind u lo hi (h ∷ gs) s =
      let n = split u s.made (pieces t u.b0 u.b1 (h ∷ gs)) in
      let l = piece_slivers t u.b0 u.b1 (h ∷ gs) in
      walk_of ((a ++ s.survivors) ++ n) (a ++ (s.survivors ++ n)) (next lo hi (h ∷ gs) s.keep) (meet t u lo hi (h ∷ gs) s).made ((g ++ s.slivers) ++ l) (g ++ (s.slivers ++ l)) (append_assoc a s.survivors n) (append_assoc g s.slivers l)

  visit_behind : (u : Window) (s : Walk) → visit better_of t w u (behind a g s) ≡ behind a g (visit better_of t w u s)
  unfolding visit
  visit_behind u s =
      let lo = shared_lo w u in
      let hi = shared_hi w u in
      by_cases (λ (c : Bool). cond c (untouched u (behind a g s)) (meet t u lo hi (better_of w.src u.src lo hi) (behind a g s)) ≡ behind a g (cond c (untouched u s) (meet t u lo hi (better_of w.src u.src lo hi) s))) (le (width lo hi) t)
      (λ y. walk_of ((a ++ s.survivors) ++ (u ∷ [])) (a ++ (s.survivors ++ (u ∷ []))) s.keep s.made (g ++ s.slivers) (g ++ s.slivers) (append_assoc a s.survivors (u ∷ [])) refl)
      (λ n. meet_behind u lo hi (better_of w.src u.src lo hi) s)

  visits_behind : (us : List Window) (s : Walk) → visits better_of t w us (behind a g s) ≡ behind a g (visits better_of t w us s)
  unfolding visits
  visits_behind [] s = refl
  visits_behind (u ∷ us) s = ap (visits better_of t w us) (visit_behind u s) ∙ visits_behind us (visit better_of t w u s)

  visiting_behind : (u : Window) (s : Walk) → visiting e t w u (behind a g s) ≡ visiting e t w u s
  unfolding visiting
  visiting_behind u s = refl

  visitings_behind : (us : List Window) (s : Walk) → visitings e t w us (behind a g s) ≡ visitings e t w us s
  unfolding visitings
  visitings_behind [] s = refl
  visitings_behind (u ∷ us) s =
      ap (λ (l : List Action). l ++ visitings e t w us (visit better_of t w u (behind a g s))) (visiting_behind u s)
      ∙ ap (λ (z : Walk). visiting e t w u s ++ visitings e t w us z) (visit_behind u s)
      ∙ ap (λ (l : List Action). visiting e t w u s ++ l) (visitings_behind us (visit better_of t w u s))

restart : (s : Walk) → s ≡ behind s.survivors s.slivers (from s.keep s.made)
restart s = walk_of s.survivors (s.survivors ++ []) s.keep s.made s.slivers (s.slivers ++ []) (sym (append-nil s.survivors)) (sym (append-nil s.slivers))

-- a turn, and then the others from there
module _ (e : ℕ) (t : Float) (w u : Window) (us : List Window) (keep : List Interval) (made : ℕ) where
  abbrev turned : Walk
  turned = visit better_of t w u (from keep made)

  abbrev rest : Walk
  rest = visits better_of t w us (from turned.keep turned.made)

  whole : visits better_of t w (u ∷ us) (from keep made) ≡ behind turned.survivors turned.slivers rest
  unfolding visits
  whole = ap (visits better_of t w us) (restart turned) ∙ visits_behind e t w turned.survivors turned.slivers us (from turned.keep turned.made)

  pub turn_survivors : (visits better_of t w (u ∷ us) (from keep made)).survivors ≡ turned.survivors ++ rest.survivors
  turn_survivors = ap (λ (s : Walk). s.survivors) whole

  pub turn_keep : (visits better_of t w (u ∷ us) (from keep made)).keep ≡ rest.keep
  turn_keep = ap (λ (s : Walk). s.keep) whole

  pub turn_made : (visits better_of t w (u ∷ us) (from keep made)).made ≡ rest.made
  turn_made = ap (λ (s : Walk). s.made) whole

  pub turn_actions : visitings e t w (u ∷ us) (from keep made) ≡ visiting e t w u (from keep made) ++ visitings e t w us (from turned.keep turned.made)
  unfolding visitings
  turn_actions = ap (λ (l : List Action). visiting e t w u (from keep made) ++ l) (ap (visitings e t w us) (restart turned) ∙ visitings_behind e t w turned.survivors turned.slivers us (from turned.keep turned.made))
