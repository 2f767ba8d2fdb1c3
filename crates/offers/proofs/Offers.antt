-- Lists of candidates are added piece by piece: none, one by what `trim::add` ensures, and one list behind another. Assumes nothing.
use Prim.Native.Nat.{ℕ}
use mathlib.Core.List.{List, [], ◌∷◌, ◌++◌, append-nil, append_assoc}
use mathlib.Core.Path.{◌≡◌, refl, sym, ap, ◌∙◌, subst}
use lib.Ieee.{Float}
use Rattle.windows.specs.declared.Edge.{Edge}
use Rattle.windows.specs.declared.NewWindow.{NewWindow}
use Rattle.trim.specs.of_trim_model.Model.{Candidate}
use Rattle.trim.specs.of_trim_model.Claim.{AdmittedProper}
use Rattle.trim.proofs.laws_of_trim_model.Lists.{all_left, all_right}
use Rattle.trim.specs.of_trim_state.State.{State, Result, stopped, went, EdgeData, edge_in, add_of}
use Rattle.trim.specs.of_trim_state.Follows.{Follows}
use Rattle.trim.proofs.laws_of_trim_state.Made.{follows_step}
use Rattle.trim.specs.of_trim_split.Running as running
use Rattle.trim.specs.of_trim_split.Running.{Snapshot, stock_of, End, Untouched}
use Rattle.trim.proofs.laws_of_trim_split.Untouched.{untouched_same, untouched_then, untouched_wider}
use Rattle.trim.specs.Adding.{candidate_of, Given, AddsFrom}
use Rattle.offers.specs.Offers.{and_next, add_all, StandsFor, Offers}

-- a result that is one more step, or the last
next_went : (r : Result) → and_next r went ≡ r
unfolding and_next
next_went (stopped n) = refl
next_went (went s) = refl

next_stopped : (r : Result) (n : ℕ) (f : State → Result) → r ≡ stopped n → and_next r f ≡ stopped n
unfolding and_next
next_stopped r n f h = ap (λ (x : Result). and_next x f) h

next_state : (r : Result) (s : State) (f : State → Result) → r ≡ went s → and_next r f ≡ f s
unfolding and_next
next_state r s f h = ap (λ (x : Result). and_next x f) h

next_next : (r : Result) (f g : State → Result) → and_next (and_next r f) g ≡ and_next r (λ s. and_next (f s) g)
unfolding and_next
next_next (stopped n) f g = refl
next_next (went s) f g = refl

next_same : (r : Result) (f g : State → Result) → ((s : State) → f s ≡ g s) → and_next r f ≡ and_next r g
unfolding and_next
next_same (stopped n) f g h = refl
next_same (went s) f g h = h s

module _ (cuts windows : ℕ) (limit : Float) (flags : List ℕ) (mesh : EdgeData) where
  abbrev all : List Candidate → State → Result
  all = add_all cuts windows limit flags mesh

  -- a list behind another
  pub add_append : (cs ds : List Candidate) (s : State) → all (cs ++ ds) s ≡ and_next (all cs s) (all ds)
  unfolding add_all and_next
  add_append [] ds s = refl
  add_append (c ∷ cs) ds s =
      next_same (add_of cuts windows limit flags mesh c s) (all (cs ++ ds)) (λ t. and_next (all cs t) (all ds)) (add_append cs ds)
      ∙ sym (next_next (add_of cuts windows limit flags mesh c s) (all cs) (all ds))

  add_one : (c : Candidate) (s : State) → all (c ∷ []) s ≡ add_of cuts windows limit flags mesh c s
  unfolding add_all
  add_one c s = next_went (add_of cuts windows limit flags mesh c s)

  abbrev Does : List Candidate → Snapshot → End → Type 0
  Does = Offers cuts windows limit flags mesh

  -- nothing is offered
  pub offers_none : (p : Snapshot) → Does [] p (running.at p)
  unfolding add_all
  offers_none p past s S a = record {
    state = s;
    is = refl;
    stands = record { holds = S.holds; stock = S.stock; follows = subst (λ (l : List Candidate). Follows limit mesh.len l s.stock.made s.live) (sym (append-nil past)) S.follows };
    untouched = untouched_same (λ e. Unit {0}) p p.queued p.last p.queue p.vertex;
  }

  -- one candidate, by what `add` ensures
  module _ (e : Edge) (w : NewWindow) (there : edge_in mesh e.id.0 ≡ e) where
    abbrev c : Candidate
    c = candidate_of e w

    given : (past : List Candidate) (s : State) (p : Snapshot) → StandsFor limit mesh past s p → AdmittedProper limit mesh.len c → Given cuts windows limit flags e w mesh s p
    given past s p S a = record { edge = there; holds = S.holds; same = S.stock; candidates = past; follows = S.follows; proper = a }

    pub offers_one : (p : Snapshot) (end : End) → AddsFrom cuts windows limit flags e w p end → Does (c ∷ []) p end
    offers_one p (running.stopped n) h past s S a = add_one c s ∙ h mesh s (given past s p S a.0)
    offers_one p (running.at p') h past s S a =
        let r = h mesh s (given past s p S a.0) in
        let t : State = record { wins = r.wins; live = r.live; stock = stock_of p' } in
        record {
          state = t;
          is = add_one c s ∙ r.is;
          stands = record { holds = r.holds; stock = refl; follows = follows_step cuts windows limit flags mesh c s a.0 S.follows t r.is };
          untouched = untouched_wider (λ k. k ≡ e.id.0) (λ k. Unit {0}) (λ k h. tt) p p' r.untouched;
        }

  -- a list that stops, and a list behind one that went: what it offers may depend on what was not touched
  module _ (cs ds : List Candidate) (p : Snapshot) where
    pub offers_stop : (n : ℕ) → Does cs p (running.stopped n) → Does (cs ++ ds) p (running.stopped n)
    offers_stop n h past s S a = add_append cs ds s ∙ next_stopped (all cs s) n (all ds) (h past s S (all_left (AdmittedProper limit mesh.len) cs ds a))

    module _ (p' : Snapshot) (h : Does cs p (running.at p')) where
      pub offers_then : (end : End) → (Untouched (λ e. Unit {0}) p p' → Does ds p' end) → Does (cs ++ ds) p end
      offers_then (running.stopped n) g past s S a =
          let r = h past s S (all_left (AdmittedProper limit mesh.len) cs ds a) in
          add_append cs ds s ∙ next_state (all cs s) r.state (all ds) r.is ∙ g r.untouched (past ++ cs) r.state r.stands (all_right (AdmittedProper limit mesh.len) cs ds a)
      offers_then (running.at q) g past s S a =
          let r = h past s S (all_left (AdmittedProper limit mesh.len) cs ds a) in
          let o = g r.untouched (past ++ cs) r.state r.stands (all_right (AdmittedProper limit mesh.len) cs ds a) in
          record {
            state = o.state;
            is = add_append cs ds s ∙ next_state (all cs s) r.state (all ds) r.is ∙ o.is;
            stands = subst (λ (l : List Candidate). StandsFor limit mesh l o.state q) (append_assoc past cs ds) o.stands;
            untouched = untouched_then (λ e. Unit {0}) p p' q r.untouched o.untouched;
          }
