-- Each operation keeps the live lists those of the reference model. Assumes nothing.
use Prim.Native.Nat.{ℕ}
use mathlib.Core.Bool.{Bool, cond, ◌&&◌}
use mathlib.Core.List.{List, [], ◌∷◌, ◌++◌, append-nil}
use mathlib.Core.Path.{◌≡◌, sym, subst}
use native.Mathlib.Omega.{arith}
use lib.Dec.{T, ltb}
use lib.Ieee.{Float, binary64, fits, lt, le}
use lib.Ieee.Fits.{and_l, and_r}
use lib.Ieee.Scale.{finite}
use Rattle.float64.specs.Scalar.{zero64}
use Rattle.float_laws.proofs.Order.{finite_between, zero_finite}
use Rattle.std.specs.Prelude.{None, Some}
use Rattle.heap.specs.Queue.{Queue, popping, Popped}
use Rattle.actions.specs.Actions as actions
use Rattle.actions.specs.Actions.{act}
use Rattle.pop.specs.of_better.Claim.{Point}
use Rattle.pop.specs.of_trim_model.Windows.{Window}
use Rattle.pop.specs.of_trim_model.Model.{Candidate}
use Rattle.pop.specs.of_trim_model.Claim.{Proper}
use Rattle.pop.proofs.laws_of_trim_model.Ranks.{by_cases}
use Rattle.pop.specs.of_trim_state.State as state
use Rattle.pop.specs.of_trim_state.State.{State, Result, finish, EdgeData}
use Rattle.pop.specs.of_trim_state.Follows.{Follows}
use Rattle.pop.proofs.laws_of_trim_state.Follows.{follows_unqueue, follows_demand3}
use Rattle.pop.proofs.laws_of_trim_state.Made.{Made, act_made, After, finish_after, add_after}
use Rattle.pop.specs.State.{wins_claimed, live_claimed, after_pop}
use Rattle.pop.proofs.Answers.{live_claimed_lem}
use Rattle.trim_operations.specs.Operations.{Operation, add, pop, touch, unknown, candidates_of, Doubles, DoublesOf}
use Rattle.trim_operations.specs.Run.{has_length, is_on_edge, try_add, operate}
use Rattle.trim_operations.specs.Demand3.{Demand3}

-- a candidate that is not refused
pub proper : (len : ℕ → Float) (c : Candidate) → Doubles len c → T (has_length (len c.edge)) → T (is_on_edge (len c.edge) c.b0) → T (is_on_edge (len c.edge) c.b1) → Proper len c
proper len c d h i j =
    let l = len c.edge in
    let fl = and_r (lt zero64 l) (finite l) h in
    record {
      start = on c.b0 d.start i fl;
      end = on c.b1 d.end j fl;
      length = record { number = fl; double = d.length };
      positive = and_l (lt zero64 l) (finite l) h;
    }
  where
    on : (x : Float) → T (fits binary64 x) → T (is_on_edge (len c.edge) x) → T (finite (len c.edge)) → Point x
    on x f k fl = record { number = finite_between zero64 x (len c.edge) zero_finite fl (and_l (le zero64 x) (le x (len c.edge)) k) (and_r (le zero64 x) (le x (len c.edge)) k); double = f }

module _ (cuts windows : ℕ) (limit : Float) (flags : List ℕ) (mesh : EdgeData) (edges vertices : ℕ) (cs : List Candidate) (s : State) (F : Follows limit mesh.len cs s.stock.made s.live) where
  -- the state follows the model with more candidates
  abbrev Next : List Candidate → State → Type 0
  Next more t = Follows limit mesh.len (cs ++ more) t.stock.made t.live

  same_list : (t : State) → Follows limit mesh.len cs t.stock.made t.live → Next [] t
  same_list t k = subst (λ (l : List Candidate). Follows limit mesh.len l t.stock.made t.live) (sym (append-nil cs)) k

  pop_after : (x : Popped × Queue) → Next [] (after_pop s x)
  unfolding after_pop
  pop_after (None, q) = same_list s F
  pop_after (Some (x, n), q) =
      same_list (record { wins = wins_claimed x.item s.wins; live = λ (e : ℕ). live_claimed x.item (s.live e); stock = actions.stock s.stock.made n q s.stock.vertex })
      (follows_unqueue F (λ (e : ℕ). live_claimed x.item (s.live e)) (λ e. live_claimed_lem x.item (s.live e)))

  abbrev Go : (State → Type 0) → Result → Type 0
  Go P r = After cuts windows limit flags P r

  candidate_after : (c : Candidate) → Doubles mesh.len c → Go (Next (c ∷ [])) (try_add cuts windows limit flags mesh edges vertices c s)
  unfolding try_add
  candidate_after c d =
      let l = mesh.len c.edge in
      by_cases (λ (b : Bool). (T b → T (ltb c.edge edges && has_length l)) → Go (Next (c ∷ [])) (cond b (cond (is_on_edge l c.b0 && is_on_edge l c.b1) (state.add_of cuts windows limit flags mesh c s) (state.stopped 72)) (state.stopped 71))) (ltb c.edge edges && has_length l)
      (λ y f. by_cases (λ (b : Bool). (T b → T (is_on_edge l c.b0 && is_on_edge l c.b1)) → Go (Next (c ∷ [])) (cond b (state.add_of cuts windows limit flags mesh c s) (state.stopped 72))) (is_on_edge l c.b0 && is_on_edge l c.b1)
      (λ z g. add_after cuts windows limit flags mesh c s (λ ok. proper mesh.len c d (and_r (ltb c.edge edges) (has_length l) (f tt)) (and_l (is_on_edge l c.b0) (is_on_edge l c.b1) (g tt)) (and_r (is_on_edge l c.b0) (is_on_edge l c.b1) (g tt))) F)
      (λ z g. tt) (λ z. z))
      (λ y f. tt) (λ z. z)

  touch_after : (v : ℕ) (d : Float) → Go (Next []) (finish s.wins s.live (act cuts windows limit flags (actions.touch v d) s.stock))
  touch_after v d =
      finish_after cuts windows limit flags (Next []) s.wins s.live s.stock.made (act cuts windows limit flags (actions.touch v d) s.stock)
      (subst (λ (n : ℕ). Made n (act cuts windows limit flags (actions.touch v d) s.stock)) (omega arith) (act_made cuts windows limit flags (actions.touch v d) s.stock))
      (λ k i. same_list (record { wins = s.wins; live = s.live; stock = k }) (subst (λ (n : ℕ). Follows limit mesh.len cs n s.live) (sym i) F))

  operate_after : (o : Operation) → DoublesOf mesh.len o → Go (Next (candidates_of o)) (operate cuts windows limit flags mesh edges vertices o s)
  unfolding operate candidates_of
  operate_after (add c) d = candidate_after c d
  operate_after pop d = pop_after (popping s.stock.queue s.stock.queued)
  operate_after (touch v d) k = by_cases (λ (b : Bool). Go (Next []) (cond b (finish s.wins s.live (act cuts windows limit flags (actions.touch v d) s.stock)) (state.stopped 73))) (ltb v vertices) (λ y. touch_after v d) (λ y. tt)
  operate_after unknown d = tt

  -- an operation that goes through leaves lists that follow the model with its candidate
  pub operate_follows : (o : Operation) → DoublesOf mesh.len o → (t : State) → operate cuts windows limit flags mesh edges vertices o s ≡ state.went t → Follows limit mesh.len (cs ++ candidates_of o) t.stock.made t.live
  operate_follows o d t h = subst (Go (Next (candidates_of o))) h (operate_after o d)

-- demand 3 for lists that follow the model
pub demand3_follows : {limit : Float} {len : ℕ → Float} {cs : List Candidate} {made : ℕ} {live : ℕ → List Window} → Follows limit len cs made live → (e : ℕ) → Demand3 limit len cs e (live e)
demand3_follows F e = record { exact = F.same e; trimmed = follows_demand3 F e }
