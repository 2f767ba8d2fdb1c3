-- The live lists follow the reference model through additions and pops, and so have what demand 3 and the laws of numbers say of it. Assumes nothing.
use Prim.Native.Nat.{ℕ, ◌<◌}
use mathlib.Core.Bool.{Bool, true, false, not, cond}
use mathlib.Core.List.{List, [], ◌∷◌, ◌++◌, map}
use mathlib.Core.Path.{◌≡◌, refl, sym, ap, ◌∙◌, subst}
use lib.Dec.{T, eqb}
use lib.Ieee.{Float}
use Rattle.better.specs.Stretches.{better_of}
use Rattle.better.specs.Claim.{All, Pairs}
use Rattle.better.proofs.Stretches.{better_separates}
use Rattle.trim_model.specs.Intervals.{tiny_of}
use Rattle.trim_model.specs.Windows.{Window, unqueued}
use Rattle.trim_model.specs.Add.{add_to}
use Rattle.trim_model.specs.Model.{Candidate, Model, empty, as_window, admits, updated, admit, step, steps, steps_bound}
use Rattle.trim_model.specs.Claim.{Proper, AdmittedProper, Trimmed}
use Rattle.trim_model.proofs.Ranks.{by_cases}
use Rattle.trim_model.proofs.Lists.{all_append}
use Rattle.trim_model.proofs.Order.{Tidy}
use Rattle.trim_model.proofs.Model.{model_ok}
use Rattle.trim_model.proofs.Demand3.{stretches, demand3_of_better}
use Rattle.trim_model.proofs.Steps.{step_not, step_admitted, steps_append}
use Rattle.trim_model.proofs.Numbers.{numbered}
use Rattle.trim_model.proofs.Flags.{add_same_live, add_same_made, all_same, pairs_same, cross_same, tidy_same, trimmed_same}
use Rattle.trim_state.specs.State.{put}
use Rattle.trim_state.specs.Follows.{Follows}

never : (b : Bool) → T b → T (not b) → ⊥
never true y n = n
never false y n = y

-- one candidate more
steps_one : (limit : Float) (len : ℕ → Float) (cs : List Candidate) (c : Candidate) → steps better_of limit len (cs ++ (c ∷ [])) empty ≡ step better_of limit len c (steps better_of limit len cs empty)
unfolding steps
steps_one limit len cs c = steps_append better_of limit len cs (c ∷ []) empty

-- lists that differ in flags alone, on every edge, before and after
module _ (limit : Float) (len : ℕ → Float) (c : Candidate) (m : Model) (live : ℕ → List Window) (h : (e : ℕ) → map unqueued (live e) ≡ map unqueued (m.edge e).live) where
  abbrev t : Float
  t = tiny_of (len c.edge)

  admit_same : (e : ℕ) → map unqueued (put c.edge (add_to better_of t (as_window c) (live c.edge) m.made).live live e) ≡ map unqueued ((admit better_of limit len c m).edge e).live
  unfolding admit
  admit_same e =
      let s = m.edge c.edge in
      let a = add_to better_of t (as_window c) s.live m.made in
      by_cases (λ (b : Bool). map unqueued (cond b (add_to better_of t (as_window c) (live c.edge) m.made).live (live e)) ≡ map unqueued (cond b (updated c s a) (m.edge e)).live) (eqb e c.edge)
      (λ y. add_same_live better_of t (as_window c) (as_window c) (live c.edge) s.live m.made refl (h c.edge))
      (λ n. h e)

  admit_made : (add_to better_of t (as_window c) (live c.edge) m.made).made ≡ (admit better_of limit len c m).made
  unfolding admit
  admit_made = add_same_made better_of t (as_window c) (as_window c) (live c.edge) (m.edge c.edge).live m.made refl (h c.edge)

module _ {limit : Float} {len : ℕ → Float} where
  -- at first there are no windows
  pub follows_empty : Follows limit len [] 0 (λ (e : ℕ). [])
  unfolding steps
  follows_empty = record { proper = tt; same = λ e. refl; count = refl }

  module _ {cs : List Candidate} {made : ℕ} {live : ℕ → List Window} (F : Follows limit len cs made live) where
    abbrev now : Model
    now = steps better_of limit len cs empty

    -- each edge's list is tidy
    pub follows_tidy : (e : ℕ) → Tidy (tiny_of (len e)) (live e)
    follows_tidy e = tidy_same (tiny_of (len e)) (now.edge e).live (live e) (sym (F.same e)) (model_ok (stretches better_separates) limit len cs F.proper e).tidy

    -- an admitted candidate is added to its edge's list
    pub follows_add : (c : Candidate) → Proper len c → T (admits limit len c)
        → Follows limit len (cs ++ (c ∷ [])) (add_to better_of (tiny_of (len c.edge)) (as_window c) (live c.edge) made).made (put c.edge (add_to better_of (tiny_of (len c.edge)) (as_window c) (live c.edge) made).live live)
    follows_add c p y =
        let e1 = steps_one limit len cs c ∙ step_admitted better_of limit len c now y in
        record {
          proper = all_append (AdmittedProper limit len) cs (c ∷ []) F.proper ((λ z. p), tt);
          same = λ e.
              ap (λ (n : ℕ). map unqueued (put c.edge (add_to better_of (tiny_of (len c.edge)) (as_window c) (live c.edge) n).live live e)) F.count
              ∙ admit_same limit len c now live F.same e
              ∙ ap (λ (m : Model). map unqueued (m.edge e).live) (sym e1);
          count =
              ap (λ (n : ℕ). (add_to better_of (tiny_of (len c.edge)) (as_window c) (live c.edge) n).made) F.count
              ∙ admit_made limit len c now live F.same
              ∙ ap (λ (m : Model). m.made) (sym e1);
        }

    -- a candidate that is not admitted changes nothing
    pub follows_skip : (c : Candidate) → T (not (admits limit len c)) → Follows limit len (cs ++ (c ∷ [])) made live
    follows_skip c y =
        let e1 = steps_one limit len cs c ∙ step_not better_of limit len c now y in
        record {
          proper = all_append (AdmittedProper limit len) cs (c ∷ []) F.proper ((λ z. absurd (never (admits limit len c) z y)), tt);
          same = λ e. F.same e ∙ ap (λ (m : Model). map unqueued (m.edge e).live) (sym e1);
          count = F.count ∙ ap (λ (m : Model). m.made) (sym e1);
        }

    -- flags may be cleared
    pub follows_unqueue : (live' : ℕ → List Window) → ((e : ℕ) → map unqueued (live' e) ≡ map unqueued (live e)) → Follows limit len cs made live'
    follows_unqueue live' h = record { proper = F.proper; same = λ e. h e ∙ F.same e; count = F.count }

    -- demand 3 for the live lists
    pub follows_demand3 : (e : ℕ) → Trimmed (tiny_of (len e)) (steps_bound better_of limit len e cs empty) (record { live = live e; admitted = ((steps better_of limit len cs empty).edge e).admitted; slivers = ((steps better_of limit len cs empty).edge e).slivers })
    follows_demand3 e = trimmed_same (tiny_of (len e)) (steps_bound better_of limit len e cs empty) (now.edge e) (live e) (sym (F.same e)) (demand3_of_better limit len cs F.proper e)

    -- the live windows' numbers were given out
    pub follows_below : (e : ℕ) → All (λ (u : Window). u.num < made) (live e)
    follows_below e = subst (λ (n : ℕ). All (λ (u : Window). u.num < n) (live e)) (sym F.count) (all_same (λ (u : Window). u.num < now.made) (λ u k. k) (λ u k. k) (now.edge e).live (live e) (sym (F.same e)) ((numbered better_of limit len cs).below e))

    -- no two of an edge have one number
    pub follows_differ : (e : ℕ) → Pairs (λ (u v : Window). (u.num ≡ v.num) → ⊥) (live e)
    follows_differ e = pairs_same (λ (u v : Window). (u.num ≡ v.num) → ⊥) (λ u v k. k) (λ u v k. k) (now.edge e).live (live e) (sym (F.same e)) ((numbered better_of limit len cs).differ e)

    -- nor of two edges
    pub follows_apart : (e f : ℕ) → ((e ≡ f) → ⊥) → All (λ (u : Window). All (λ (v : Window). (u.num ≡ v.num) → ⊥) (live f)) (live e)
    follows_apart e f d = cross_same (λ (u v : Window). (u.num ≡ v.num) → ⊥) (λ u v k. k) (λ u v k. k) (now.edge e).live (live e) (now.edge f).live (live f) (sym (F.same e)) (sym (F.same f)) ((numbered better_of limit len cs).apart e f d)
