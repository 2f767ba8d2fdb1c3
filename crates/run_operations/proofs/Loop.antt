-- The loop over the operations of a list. Assumes nothing.
use Prim.Native.Nat.{ℕ, zero, suc, ◌+◌, ◌≤◌, ◌<◌}
use native.Mathlib.Omega.{arith}
use mathlib.Core.List.{List, [], ◌∷◌, ◌++◌, append_assoc, append-nil}
use mathlib.Core.Path.{◌≡◌, refl, sym, ap, subst, ◌∙◌}
use lib.ListN.{length}
use lib.Ieee.{Float}
use Rattle.layout.specs.Layout.{reals_per_vertex}
use Rattle.windows.specs.Windows.{capacity_of}
use Rattle.buffers.specs.Slots.{slots_of}
use Rattle.chains.specs.Chains.{links, head_of}
use Rattle.heap.specs.Queue.{queue}
use Rattle.trim.specs.of_trim_model.Model.{Candidate}
use Rattle.trim.specs.of_trim_state.State.{State, Result, went, stopped}
use Rattle.trim.specs.of_trim_state.Follows.{Follows}
use Rattle.trim.proofs.laws_of_trim_state.Follows.{follows_empty}
use Rattle.contents.proofs.laws_of_live_windows.Standing.{no_live}
use Rattle.trim.specs.of_trim_split.Running.{Snapshot, Untouched}
use Rattle.trim.proofs.laws_of_trim_split.Untouched.{untouched_same, untouched_then}
use Rattle.trim_operations.specs.declared.Op.{Op}
use Rattle.trim_operations.specs.Operations.{Operation, operation_at, operations, candidates_of, candidates, as_operation, DoublesOf}
use Rattle.trim_operations.specs.Run.{operate, Run, then_run, run_from, start_state}
use Rattle.trim_operations.specs.Run.{ran as Run·ran}
use Rattle.trim_operations.specs.Run.{ended as Run·ended}
use Rattle.trim_operations.specs.Demand3.{Demand3}
use Rattle.trim_operations.proofs.Follow.{operate_follows, demand3_follows}
use Rattle.std.specs.Prelude.{Ok, Err}
use Rattle.trim_operations.specs.declared.OperationRefusal.{OperationRefusal}
use Rattle.trim_operations.specs.Represents.{refusal_number}
use Rattle.trim.specs.of_trim_split.declared.Counts.{Counts}
use Rattle.run_operations.specs.Lists.{Step, mesh_of, Setting, setting_of, ReadyToRun, StandsIn, Goes, Operated, run_of, Finishes, Ends, Runs, snapshot_in}
use Rattle.trim.specs.Buffers.{Slices}
use Rattle.trim.specs.of_cut_lists.Buffers.{Cuts}

-- ---- lists of operations
candidates_last : (os : List Operation) (o : Operation) → candidates (os ++ (o ∷ [])) ≡ candidates os ++ candidates_of o
unfolding candidates
candidates_last [] o = append-nil (candidates_of o)
candidates_last (x ∷ os) o = ap (λ (l : List Candidate). candidates_of x ++ l) (candidates_last os o) ∙ sym (append_assoc (candidates_of x) (candidates os) (candidates_of o))

-- a run that went is no run that ended
ran_same : (s t : State) → Run·ran s ≡ Run·ran t → s ≡ t
ran_same s t h = ap (from s) h where
  from : State → Run → State
  from d (Run·ended k n x) = d
  from d (Run·ran x) = x

HasEnded : Run → Type 0
HasEnded (Run·ended k n s) = Unit {0}
HasEnded (Run·ran s) = ⊥

never_ran : (k n : ℕ) (s t : State) → Run·ended k n s ≡ Run·ran t → ⊥
unfolding HasEnded
never_ran k n s t h = subst HasEnded h tt

module _ (ops : List ℕ) (args : List Float) where
  -- j operations from number k on
  unfoldable pub rest : ℕ → ℕ → List Operation
  rest k zero = []
  rest k (suc j) = operation_at ops args k ∷ rest (suc k) j

  rest_is : (k j : ℕ) → operations ops args k ++ rest k j ≡ operations ops args (k + j)
  unfolding rest operations
  rest_is k zero = let e : k ≡ k + zero = omega arith in append-nil (operations ops args k) ∙ ap (operations ops args) e
  rest_is k (suc j) =
      let e : suc k + j ≡ k + suc j = omega arith in
      sym (append_assoc (operations ops args k) (operation_at ops args k ∷ []) (rest (suc k) j))
      ∙ rest_is (suc k) j
      ∙ ap (operations ops args) e

  rest_all : (n : ℕ) → operations ops args n ≡ rest 0 n
  unfolding operations
  rest_all n = let e : 0 + n ≡ n = omega arith in sym (rest_is 0 n ∙ ap (operations ops args) e)

  candidates_next : (k : ℕ) → candidates (operations ops args (suc k)) ≡ candidates (operations ops args k) ++ candidates_of (operation_at ops args k)
  unfolding operations
  candidates_next k = candidates_last (operations ops args k) (operation_at ops args k)

-- ---- the run so far
module _ (g : Setting) (ops : List ℕ) (args : List Float) (n : ℕ) (p : Snapshot) where
  abbrev run_on : ℕ → List Operation → State → Run
  run_on = run_from g.cuts g.windows g.limit g.flags g.mesh g.edges g.vertices

  abbrev result : ℕ → State → Result
  result k s = operate g.cuts g.windows g.limit g.flags g.mesh g.edges g.vertices (operation_at ops args k) s

  -- after k operations a state stands in the buffers, and what is left to do from it is what the whole comes to
  pub record Along (k made queued : ℕ) (b : Slices) : Type 0 where
    pub state : State
    pub left : ℕ
    pub count : k + left ≡ n
    pub stands : StandsIn made queued b state
    pub untouched : Untouched (λ e. e < g.edges) p (snapshot_in made queued b)
    pub follows : Follows g.limit g.mesh.len (candidates (operations ops args k)) state.stock.made state.live
    pub same : run_of g ops args n p n ≡ run_on k (rest ops args k left) state
    pub so_far : run_of g ops args n p k ≡ Run·ran state

  turn : (k j : ℕ) (s t : State) → result k s ≡ went t → run_on k (rest ops args k (suc j)) s ≡ run_on (suc k) (rest ops args (suc k) j) t
  unfolding run_from then_run rest
  turn k j s t h = ap (λ (r : Result). then_run g.cuts g.windows g.limit g.flags g.mesh g.edges g.vertices k s r (run_on (suc k) (rest ops args (suc k) j))) h

  halt : (k j number : ℕ) (s : State) → result k s ≡ stopped number → run_on k (rest ops args k (suc j)) s ≡ Run·ended k number s
  unfolding run_from then_run rest
  halt k j number s h = ap (λ (r : Result). then_run g.cuts g.windows g.limit g.flags g.mesh g.edges g.vertices k s r (run_on (suc k) (rest ops args (suc k) j))) h

  -- one operation more
  run_snoc : (k : ℕ) (os : List Operation) (o : Operation) (s t u : State) → run_on k os s ≡ Run·ran t → operate g.cuts g.windows g.limit g.flags g.mesh g.edges g.vertices o t ≡ went u → run_on k (os ++ (o ∷ [])) s ≡ Run·ran u
  unfolding run_from then_run
  run_snoc k [] o s t u h d = ap (λ (r : Result). then_run g.cuts g.windows g.limit g.flags g.mesh g.edges g.vertices k s r (run_on (suc k) [])) (ap (operate g.cuts g.windows g.limit g.flags g.mesh g.edges g.vertices o) (ran_same s t h) ∙ d)
  run_snoc k (x ∷ os) o s t u h d = step (operate g.cuts g.windows g.limit g.flags g.mesh g.edges g.vertices x s) (λ v i. run_snoc (suc k) os o v t u i d) h where
    step : (r : Result) → ((v : State) → run_on (suc k) os v ≡ Run·ran t → run_on (suc k) (os ++ (o ∷ [])) v ≡ Run·ran u)
        → then_run g.cuts g.windows g.limit g.flags g.mesh g.edges g.vertices k s r (run_on (suc k) os) ≡ Run·ran t → then_run g.cuts g.windows g.limit g.flags g.mesh g.edges g.vertices k s r (run_on (suc k) (os ++ (o ∷ []))) ≡ Run·ran u
    step (stopped n) ih h = absurd (never_ran k n s t h)
    step (went v) ih h = ih v h

  over : (k : ℕ) (s : State) → run_on k (rest ops args k 0) s ≡ Run·ran s
  unfolding run_from rest
  over k s = refl

  module _ (k made queued : ℕ) (b : Slices) (A : Along k made queued b) where
    next_follows : DoublesOf g.mesh.len (operation_at ops args k) → (t : State) → result k A.state ≡ went t → Follows g.limit g.mesh.len (candidates (operations ops args (suc k))) t.stock.made t.live
    next_follows d t h =
        subst (λ (cs : List Candidate). Follows g.limit g.mesh.len cs t.stock.made t.live) (sym (candidates_next ops args k))
        (operate_follows g.cuts g.windows g.limit g.flags g.mesh g.edges g.vertices (candidates (operations ops args k)) A.state A.follows (operation_at ops args k) d t h)

    more : (t : State) → result k A.state ≡ went t → run_of g ops args n p (suc k) ≡ Run·ran t
    unfolding operations
    more t h = run_snoc 0 (operations ops args k) (operation_at ops args k) (start_state p.queue p.vertex) A.state t A.so_far h

    module _ (before : k < n) where
      along_next : (made' queued' : ℕ) (b' : Slices) → DoublesOf g.mesh.len (operation_at ops args k) → Goes g.edges (snapshot_in made queued b) made' queued' b' (result k A.state) → Along (suc k) made' queued' b'
      along_next made' queued' b' d G = go A.left A.count A.same where
        go : (left : ℕ) → k + left ≡ n → run_of g ops args n p n ≡ run_on k (rest ops args k left) A.state → Along (suc k) made' queued' b'
        go zero h e = absurd (omega (arith, h, before))
        go (suc j) h e = record { state = G.state; left = j; count = omega (arith, h); stands = G.stands; untouched = untouched_then (λ e. e < g.edges) p (snapshot_in made queued b) (snapshot_in made' queued' b') A.untouched G.untouched; follows = next_follows d G.state G.is; same = e ∙ turn k j A.state G.state G.is; so_far = more G.state G.is }

      along_ends : (number : ℕ) → result k A.state ≡ stopped number → Ends g ops args n p k number
      along_ends number r = record { state = A.state; is = go A.left A.count A.same; shorter = A.so_far; demand3 = demand3_follows A.follows } where
        go : (left : ℕ) → k + left ≡ n → run_of g ops args n p n ≡ run_on k (rest ops args k left) A.state → run_of g ops args n p n ≡ Run·ended k number A.state
        go zero h e = absurd (omega (arith, h, before))
        go (suc j) h e = e ∙ halt k j number A.state r

    along_done : n ≤ k → made ≤ g.windows → Finishes g ops args n p made queued b
    along_done h room =
        let z : A.left ≡ 0 = omega (arith, A.count, h) in
        let e : k ≡ n = omega (arith, A.count, h) in
        record {
          state = A.state;
          is = A.same ∙ ap (λ (j : ℕ). run_on k (rest ops args k j) A.state) z ∙ over k A.state;
          fits = room;
          stands = A.stands;
          untouched = A.untouched;
          demand3 = subst (λ (j : ℕ). (e : ℕ) → Demand3 g.limit g.mesh.len (candidates (operations ops args j)) e (A.state.live e)) e (demand3_follows A.follows);
        }

-- ---- the loop
-- the slices keep their lengths
pub record SameLengths (b b₀ : Slices) : Type 0 where
  pub edges : length b.edges ≡ length b₀.edges
  pub words : length b.words ≡ length b₀.words
  pub reals : length b.reals ≡ length b₀.reals
  pub keys : length b.keys ≡ length b₀.keys
  pub events : length b.events ≡ length b₀.events
  pub vertex : length b.vertex ≡ length b₀.vertex

pub record SameCuts (c c₀ : Cuts) : Type 0 where
  pub pts : length c.pts ≡ length c₀.pts
  pub out : length c.out ≡ length c₀.out
  pub keep : length c.keep ≡ length c₀.keep
  pub next : length c.next ≡ length c₀.next

module _ (limit : Float) (flags ends : List ℕ) (lens : List Float) (m : ℕ) where
  abbrev setting_for : ℕ → ℕ → ℕ → ℕ → Setting
  setting_for pts words reals vertex = record { cuts = pts; windows = capacity_of words reals; limit = limit; flags = flags; mesh = mesh_of ends lens; edges = m; vertices = slots_of vertex reals_per_vertex }

  setting_same : (c c₀ : Cuts) (b b₀ : Slices) → SameCuts c c₀ → SameLengths b b₀ → setting_of c b limit flags ends lens m ≡ setting_of c₀ b₀ limit flags ends lens m
  setting_same c c₀ b b₀ u v = λ t. setting_for (u.pts t) (v.words t) (v.reals t) (v.vertex t)

  module _ (ops : List ℕ) (args : List Float) (n : ℕ) (b₀ : Slices) (c₀ : Cuts) where
    abbrev setting : Setting
    setting = setting_of c₀ b₀ limit flags ends lens m

    pub record Inv (k made queued : ℕ) (b : Slices) (c : Cuts) : Type 0 where
      pub along : Along setting ops args n (snapshot_in 0 0 b₀) k made queued b
      pub fits : made ≤ setting.windows
      pub same : SameLengths b b₀
      pub same_cuts : SameCuts c c₀

    pub inv_start : ReadyToRun m 0 b₀ c₀ → ((e : ℕ) → head_of b₀.edges e ≡ 0) → Inv 0 0 0 b₀ c₀
    unfolding operations candidates run_from
    inv_start r h = record {
      along = record {
        state = start_state (queue b₀.keys b₀.events) b₀.vertex;
        left = n;
        count = omega arith;
        stands = record { holds = no_live (links b₀.edges b₀.words) b₀.reals h; stock = refl };
        untouched = untouched_same (λ e. e < m) (snapshot_in 0 0 b₀) 0 0 (queue b₀.keys b₀.events) b₀.vertex;
        follows = follows_empty;
        same = ap (λ (os : List Operation). run_from setting.cuts setting.windows limit flags setting.mesh m setting.vertices 0 os (start_state (queue b₀.keys b₀.events) b₀.vertex)) (rest_all ops args n);
        so_far = refl;
      };
      fits = omega arith;
      same = record { edges = refl; words = refl; reals = refl; keys = refl; events = refl; vertex = refl };
      same_cuts = record { pts = refl; out = refl; keep = refl; next = refl };
    }

    module _ (r : ReadyToRun m 0 b₀ c₀) (k made queued : ℕ) (b : Slices) (c : Cuts) (I : Inv k made queued b c) where
      pub inv_ready : ReadyToRun m made b c
      inv_ready = record {
        fits = rw (I.same.words, I.same.reals) I.fits;
        edges = rw I.same.edges r.edges;
        outs = rw (I.same_cuts.out, I.same_cuts.pts) r.outs;
        keeps = rw (I.same_cuts.keep, I.same_cuts.pts) r.keeps;
        nexts = rw (I.same_cuts.next, I.same_cuts.pts) r.nexts;
      }

      module _ (before : k < n) (op : Op) (is : as_operation op ≡ operation_at ops args k) (step : Step) (b' : Slices) (O : Operated (setting_of c b limit flags ends lens m) (as_operation op) made queued b step b') where
        moved : Operated setting (operation_at ops args k) made queued b step b'
        moved =
            subst (λ (o : Operation). Operated setting o made queued b step b') is
            (subst (λ (h : Setting). Operated h (as_operation op) made queued b step b') (setting_same c c₀ b b₀ I.same_cuts I.same) O)

        pub inv_stopped : (refusal : OperationRefusal) → step ≡ Err refusal → Runs setting ops args n (snapshot_in 0 0 b₀) (Err (record { at = k; refusal = refusal })) b'
        inv_stopped refusal h =
            let M = subst (λ (z : Step). Operated setting (operation_at ops args k) made queued b z b') h moved in
            along_ends setting ops args n (snapshot_in 0 0 b₀) k made queued b I.along before (refusal_number refusal) (M.says I.along.state (candidates (operations ops args k)) I.along.stands I.along.follows)

        pub inv_next : (now : Counts) (k' : ℕ) → k' ≡ suc k → step ≡ Ok now → (c' : Cuts) → SameLengths b' b₀ → SameCuts c' c₀ → Inv k' now.made now.queued b' c'
        inv_next now k' e h c' u v =
            let M = subst (λ (z : Step). Operated setting (operation_at ops args k) made queued b z b') h moved in
            subst (λ (z : ℕ). Inv z now.made now.queued b' c') (sym e)
            (record {
              along = along_next setting ops args n (snapshot_in 0 0 b₀) k made queued b I.along before now.made now.queued b' M.doubles (M.says I.along.state (candidates (operations ops args k)) I.along.stands I.along.follows);
              fits = M.fits;
              same = u;
              same_cuts = v;
            })

      pub inv_done : n ≤ k → Runs setting ops args n (snapshot_in 0 0 b₀) (Ok (record { made = made; queued = queued })) b
      inv_done h = along_done setting ops args n (snapshot_in 0 0 b₀) k made queued b I.along h I.fits
