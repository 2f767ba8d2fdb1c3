-- What every list of candidates leaves on every edge, by ranks: an induction over the list. Assumes nothing.
use Prim.Native.Nat.{ℕ, ◌+◌, ◌≤◌, zero-le}
use mathlib.Core.Bool.{Bool, true, false, not, cond, ◌&&◌, ◌||◌}
use mathlib.Core.List.{List, [], ◌∷◌, ◌++◌}
use mathlib.Core.Logic.{◌⊎◌, inl, inr, ⊎_elim}
use mathlib.Core.Path.{◌≡◌, sym, subst}
use native.Mathlib.Nat.{le_trans}
use native.Mathlib.Omega.{arith}
use lib.Dec.{T, eqb, eqb→eq}
use lib.ListN.{length, length-append}
use lib.Ieee.{Float, lt, le}
use Rattle.source.specs.Distance.{lowest_of}
use Rattle.better.specs.Stretches.{Interval, interval}
use Rattle.trim_model.specs.Intervals.{width, tiny_of}
use Rattle.trim_model.specs.Windows.{Window}
use Rattle.trim_model.specs.Add.{Better, AddOutcome, add_to, add_bound}
use Rattle.trim_model.specs.Model.{Candidate, EdgeState, Model, empty, as_window, admits, updated, admit, step, steps, step_bound, steps_bound}
use Rattle.better.specs.Claim.{All, Point}
use Rattle.trim_model.specs.Claim.{Any, Proper, AdmittedProper}
use Rattle.trim_model.proofs.Ranks.{Nonneg, wide_no, tiny_nonneg, by_cases}
use Rattle.trim_model.proofs.Lists.{all_append, any_left, any_right, any_split}
use Rattle.trim_model.proofs.Windows.{wcount, Wide}
use Rattle.trim_model.proofs.Run.{Stretches}
use Rattle.trim_model.proofs.Order.{Tidy, add_tidy}
use Rattle.trim_model.proofs.Slivers.{Sliver, add_slivers}
use Rattle.trim_model.proofs.Bound.{add_few}
use Rattle.trim_model.proofs.Cover.{Holds, HoldsWindow, add_cover}

-- between points
abbrev pub Between : Interval → Type 0
Between k = Point k.from × Point k.to

pub record EdgeOk (t : Float) (bound : ℕ) (s : EdgeState) : Type 0 where
  pub tidy : Tidy t s.live
  pub cover : (X : ℕ) → Any (Holds X) s.admitted → Any (HoldsWindow X) s.live ⊎ Any (Holds X) s.slivers
  pub ranges : All Between s.admitted
  pub narrow : All (Sliver t) s.slivers
  pub few : length s.slivers ≤ bound

ok_more : {t : Float} {n : ℕ} {s : EdgeState} (n' : ℕ) → n ≤ n' → EdgeOk t n s → EdgeOk t n' s
ok_more n' h k = record { tidy = k.tidy; cover = k.cover; ranges = k.ranges; narrow = k.narrow; few = le_trans k.few h }

pub not_or : (a b : Bool) → T (not (a || b)) → T (not a)
not_or true b h = absurd h
not_or false b h = tt

-- an addition to an edge
module _ {t : Float} (t0 : Nonneg t) {better : Better} (B : Stretches better) (c : Candidate) (W : Wide t (as_window c)) (made n : ℕ) (s : EdgeState) (h : EdgeOk t n s) where
  abbrev w : Window
  w = as_window c

  abbrev a : AddOutcome
  a = add_to better t w s.live made

  covered : (X : ℕ) → HoldsWindow X w ⊎ Any (HoldsWindow X) s.live → Any (HoldsWindow X) a.live ⊎ Any (Holds X) (s.slivers ++ a.slivers)
  covered X i = ⊎_elim inl (λ r. inr (any_right (Holds X) s.slivers a.slivers r)) (add_cover t0 B W made X s.live h.tidy i)

  updated_ok : EdgeOk t (n + add_bound better t w s.live) (updated c s a)
  updated_ok = record {
    tidy = add_tidy t0 B W made s.live h.tidy;
    cover = λ X i. ⊎_elim
        (λ j. ⊎_elim (λ r. covered X (inr r)) (λ r. inr (any_left (Holds X) s.slivers a.slivers r)) (h.cover X j))
        (λ j. ⊎_elim (λ r. covered X (inl r)) (λ r. absurd r) j)
        (any_split (Holds X) s.admitted (interval c.b0 c.b1 ∷ []) i);
    ranges = all_append Between s.admitted (interval c.b0 c.b1 ∷ []) h.ranges ((W.point0, W.point1), tt);
    narrow = all_append (Sliver t) s.slivers a.slivers h.narrow (add_slivers t0 B W made s.live h.tidy);
    few = omega (arith, length-append s.slivers a.slivers, h.few, add_few t0 B W made s.live h.tidy);
  }

module _ {better : Better} (B : Stretches better) (limit : Float) (len : ℕ → Float) where
  abbrev Ok : (ℕ → ℕ) → Model → Type 0
  Ok b m = (e : ℕ) → EdgeOk (tiny_of (len e)) (b e) (m.edge e)

  -- on its own edge the candidate is added, and every other edge stays
  admit_ok : (c : Candidate) → Proper len c → T (admits limit len c) → (b : ℕ → ℕ) (m : Model) → Ok b m → (e : ℕ) → EdgeOk (tiny_of (len e)) (b e + cond (eqb e c.edge) (add_bound better (tiny_of (len c.edge)) (as_window c) (m.edge e).live) 0) ((admit better limit len c m).edge e)
  unfolding admit
  admit_ok c p y b m h e =
      let t = tiny_of (len c.edge) in
      let s = m.edge c.edge in
      let t0 = tiny_nonneg (len c.edge) p.length p.positive in
      let W : Wide t (as_window c) = record { point0 = p.start; point1 = p.end; wide = wide_no t0 p.start p.end (not_or (le (width c.b0 c.b1) t) (lt limit (lowest_of c.src c.b0 c.b1)) y) } in
      let a = add_to better t (as_window c) s.live m.made in
      by_cases (λ (q : Bool). (T q → e ≡ c.edge) → EdgeOk (tiny_of (len e)) (b e + cond q (add_bound better t (as_window c) (m.edge e).live) 0) (cond q (updated c s a) (m.edge e))) (eqb e c.edge)
      (λ q f. subst (λ (i : ℕ). EdgeOk (tiny_of (len i)) (b i + add_bound better t (as_window c) (m.edge i).live) (updated c s a)) (sym (f tt)) (updated_ok t0 B c W m.made (b c.edge) s (h c.edge)))
      (λ q f. ok_more (b e + 0) (omega arith) (h e))
      (eqb→eq e c.edge)

  step_ok : (c : Candidate) → AdmittedProper limit len c → (b : ℕ → ℕ) (m : Model) → Ok b m → Ok (λ (e : ℕ). b e + step_bound better limit len e c m) (step better limit len c m)
  unfolding step step_bound
  step_ok c p b m h e =
      by_cases (λ (q : Bool). (T q → T (admits limit len c)) → EdgeOk (tiny_of (len e)) (b e + cond (q && eqb e c.edge) (add_bound better (tiny_of (len c.edge)) (as_window c) (m.edge e).live) 0) ((cond q (admit better limit len c m) m).edge e)) (admits limit len c)
      (λ q f. admit_ok c (p (f tt)) (f tt) b m h e)
      (λ q f. ok_more (b e + 0) (omega arith) (h e))
      (λ z. z)

  steps_ok : (cs : List Candidate) → All (AdmittedProper limit len) cs → (b : ℕ → ℕ) (m : Model) → Ok b m → Ok (λ (e : ℕ). b e + steps_bound better limit len e cs m) (steps better limit len cs m)
  unfolding steps steps_bound
  steps_ok [] p b m h e = ok_more (b e + 0) (omega arith) (h e)
  steps_ok (c ∷ cs) p b m h e = ok_more (b e + (step_bound better limit len e c m + steps_bound better limit len e cs (step better limit len c m))) (omega arith) (steps_ok cs p.1 (λ (i : ℕ). b i + step_bound better limit len i c m) (step better limit len c m) (step_ok c p.0 b m h) e)

  empty_ok : Ok (λ (e : ℕ). 0) empty
  unfolding wcount
  empty_ok e = record { tidy = record { wides = tt; ordered = tt; lone = λ x y gx gy w. zero-le }; cover = λ X a. absurd a; ranges = tt; narrow = tt; few = zero-le }

  pub model_ok : (cs : List Candidate) → All (AdmittedProper limit len) cs → (e : ℕ) → EdgeOk (tiny_of (len e)) (steps_bound better limit len e cs empty) ((steps better limit len cs empty).edge e)
  model_ok cs p e = ok_more (steps_bound better limit len e cs empty) (omega arith) (steps_ok cs p (λ (i : ℕ). 0) empty empty_ok e)
