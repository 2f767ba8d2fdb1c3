-- The model's steps: a candidate that is not admitted changes nothing, an admitted one leaves the other edges, and a list is taken in two parts. Assumes nothing.
use Prim.Native.Nat.{ℕ}
use mathlib.Core.Bool.{Bool, not, cond}
use mathlib.Core.List.{List, [], ◌∷◌, ◌++◌}
use mathlib.Core.Path.{◌≡◌, refl, ap}
use lib.Dec.{T, eqb, eqb→eq}
use lib.Ieee.{Float}
use lib.Ieee.Bits.{is_true, is_false}
use Rattle.trim_model.specs.Intervals.{tiny_of}
use Rattle.trim_model.specs.Add.{Better, add_to}
use Rattle.trim_model.specs.Model.{Candidate, Model, as_window, admits, updated, admit, step, steps}
use Rattle.trim_model.proofs.Ranks.{by_cases}

module _ (better : Better) (limit : Float) (len : ℕ → Float) where
  pub step_not : (c : Candidate) (m : Model) → T (not (admits limit len c)) → step better limit len c m ≡ m
  unfolding step
  step_not c m h = ap (λ (b : Bool). cond b (admit better limit len c m) m) (is_false (admits limit len c) h)

  pub step_admitted : (c : Candidate) (m : Model) → T (admits limit len c) → step better limit len c m ≡ admit better limit len c m
  unfolding step
  step_admitted c m h = ap (λ (b : Bool). cond b (admit better limit len c m) m) (is_true (admits limit len c) h)

  pub admit_other : (c : Candidate) (m : Model) (e : ℕ) → ((e ≡ c.edge) → ⊥) → (admit better limit len c m).edge e ≡ m.edge e
  unfolding admit
  admit_other c m e x =
      let s = m.edge c.edge in
      let a = add_to better (tiny_of (len c.edge)) (as_window c) s.live m.made in
      by_cases (λ (b : Bool). (T b → e ≡ c.edge) → cond b (updated c s a) (m.edge e) ≡ m.edge e) (eqb e c.edge) (λ y f. absurd (x (f tt))) (λ y f. refl) (eqb→eq e c.edge)

  pub steps_append : (cs ds : List Candidate) (m : Model) → steps better limit len (cs ++ ds) m ≡ steps better limit len ds (steps better limit len cs m)
  unfolding steps
  steps_append [] ds m = refl
  steps_append (c ∷ cs) ds m = steps_append cs ds (step better limit len c m)
