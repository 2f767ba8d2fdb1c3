-- Additions, pops and marks keep the live windows on record: accounted_none, accounted_add, accounted_pop, accounted_stock. Assumes nothing.
use Prim.Native.Nat.{ℕ, zero, suc, ◌+◌, ◌-◌, ◌≤◌, ◌<◌}
use native.Mathlib.Omega.{arith}
use mathlib.Core.Bool.{Bool, true, false, cond, ◌&&◌}
use mathlib.Core.List.{List, [], ◌∷◌, ◌++◌}
use mathlib.Core.Logic.{⊎_elim}
use mathlib.Core.Path.{◌≡◌, refl, sym, ap, subst, ◌∙◌}
use borrow.Author.Tests.{eqb-true, eqb-false, ne_eqb, ltb-true, leb-true}
use lib.Dec.{eqb, leb, ltb}
use lib.ListN.{length, get_or}
use lib.Ieee.{Float, le}
use Rattle.float64.specs.Scalar.{zero64}
use Rattle.float64.specs.Notation.{◌⊖◌, ◌⊗◌}
use Rattle.source.specs.Distance.{lowest_of, eval_of}
use Rattle.last_pass.specs.of_better.Claim.{All}
use Rattle.last_pass.specs.of_better.Points.{pts_of, walk_of}
use Rattle.last_pass.specs.of_better.Stretches.{Interval, better_of}
use Rattle.heap.specs.declared.Item.{Item}
use Rattle.heap.specs.declared.Item.TheVariants.{Window as Item-as-Window, Vertex as Item-as-Vertex}
use Rattle.std.specs.Prelude.{None, Some}
use Rattle.heap.specs.Queue.{Queue, at, slots, popped, popping, Popped}
use Rattle.heap.specs.Model.{weight_of}
use Rattle.heap.proofs.HeapOrder.{pop_weight}
use Rattle.heap.proofs.SameAnswers.{has_slots}
use Rattle.windows.specs.declared.Edge.{Edge}
use Rattle.windows.specs.declared.WindowRecord.{WindowRecord}
use Rattle.windows.specs.Windows.{trimmed, reflagged, relinked, dead, unqueued_record, adjust}
use Rattle.actions.specs.Actions as actions
use Rattle.actions.specs.Actions.{Action, list, make, trim, kill, push, touch, wins_with, wins_after, Stock, stock, Outcome, play}
use Rattle.last_pass.specs.of_trim_model.Intervals.{width, tiny_of, push_if, next, pieces, wide_of}
use Rattle.last_pass.specs.of_trim_model.Windows.{Window, part, fresh, sorted, unqueued}
use Rattle.last_pass.specs.of_trim_model.Add.{Walk, before, run, behind, shared_lo, shared_hi, start, visit, visits, add_to}
use Rattle.last_pass.specs.of_trim_model.Model.{Candidate, as_window, admits}
use Rattle.last_pass.proofs.laws_of_trim_model.Ranks.{by_cases}
use Rattle.last_pass.proofs.laws_of_trim_model.Lists.{all_map, all_map2, all_append, all_left, all_right}
use Rattle.last_pass.proofs.laws_of_trim_model.Windows.{parted}
use Rattle.last_pass.specs.of_trim_state.Trace.{window_event, win_of, record_of, making, makings, splitting, losing, visiting, visitings, near, touching, keeping, adding}
use Rattle.last_pass.specs.of_trim_state.State as state
use Rattle.last_pass.specs.of_trim_state.State.{State, EdgeData, edge_in, put, finish, admit_of, add_of}
use Rattle.last_pass.specs.of_trim_state.Follows.{Follows}
use Rattle.last_pass.proofs.laws_of_trim_state.Follows.{follows_differ, follows_apart}
use Rattle.chains.specs.Chains.{Out}
use Rattle.last_pass.specs.of_live_windows.Live.{nums, Among, unqueued_in}
use Rattle.last_pass.proofs.laws_of_live_windows.Fronts.{Found, find}
use Rattle.last_pass.proofs.laws_of_live_windows.Lists.{put_here}
use Rattle.last_pass.specs.of_pop.State.{claimed_win, wins_claimed, live_claimed, after_pop}
use Rattle.work_laws.specs.Kept.{EndsIn}
use Rattle.work_laws.specs.Account.{names_item, names, waiting, OnRecord, Accounted}
use Rattle.work_laws.proofs.Recorded.{events_after, Waits, play_waits, after_spared, length_adjust, adjust_here, adjust_other, more_events, other_on, add_on}
use Rattle.work_laws.proofs.Complete.{Absent, AliveAt, adding_comes, sorted_absent}

by_test : (P : Bool → Type 0) (b : Bool) → (b ≡ true → P true) → (b ≡ false → P false) → P b
by_test P true y n = y refl
by_test P false y n = n refl

abbrev Unlinked : WindowRecord → Type 0
Unlinked x = x.link ≡ 0

-- at first there are no windows
pub accounted_none : (s : State) → s.wins ≡ [] → ((e : ℕ) → s.live e ≡ []) → Accounted s
accounted_none s w l = record {
  on_record = λ e. subst (All (OnRecord s.wins (waiting s.stock) e)) (sym (l e)) tt;
  complete = λ d i h. let z = ap length w in absurd (omega (arith, h, z));
  unlinked = subst (All Unlinked) (sym w) tt;
}

-- nothing but the vertices changes
pub accounted_stock : (s : State) → Accounted s → (made : ℕ) (vertex : List Float) → Accounted (record { wins = s.wins; live = s.live; stock = stock made s.stock.queued s.stock.queue vertex })
accounted_stock s A made vertex = record { on_record = A.on_record; complete = A.complete; unlinked = A.unlinked }

-- ---- no window is made with a link
abbrev Plain : Action → Type 0
Plain (list n) = Unit {0}
Plain (make x) = Unlinked x
Plain (trim i b0 b1 low) = Unit {0}
Plain (kill i) = Unit {0}
Plain (push e) = Unit {0}
Plain (touch v d) = Unit {0}

adjust_plain : (g : WindowRecord → WindowRecord) → ((x : WindowRecord) → Unlinked x → Unlinked (g x)) → (i : ℕ) (wins : List WindowRecord) → All Unlinked wins → All Unlinked (adjust i g wins)
unfolding adjust
adjust_plain g h i [] a = tt
adjust_plain g h zero (x ∷ wins) a = (h x a.0, a.1)
adjust_plain g h (suc i) (x ∷ wins) a = (a.0, adjust_plain g h i wins a.1)

with_plain : (a : Action) (wins : List WindowRecord) → Plain a → All Unlinked wins → All Unlinked (wins_with a wins)
unfolding wins_with trimmed relinked
with_plain (list n) wins m h = h
with_plain (make x) wins m h = all_append Unlinked wins (x ∷ []) h (m, tt)
with_plain (trim i b0 b1 low) wins m h = adjust_plain (λ x. trimmed x b0 b1 low) (λ x k. k) i wins h
with_plain (kill i) wins m h = adjust_plain dead (λ x k. refl) i wins h
with_plain (push e) wins m h = h
with_plain (touch v d) wins m h = h

after_plain : (todo : List Action) (wins : List WindowRecord) → All Plain todo → All Unlinked wins → All Unlinked (wins_after todo wins)
unfolding wins_after
after_plain [] wins m h = h
after_plain (a ∷ rest) wins m h = after_plain rest (wins_with a wins) m.1 (with_plain a wins m.0 h)

making_plain : (e : ℕ) (u : Window) (n : ℕ) (p : Interval) → All Plain (making e u n p)
making_plain e u n p = (refl, by_cases (λ (b : Bool). All Plain (push_if b (push (window_event (lowest_of u.src p.from p.to) n)))) u.carried.queued (λ y. (tt, tt)) (λ y. tt))

makings_plain : (e : ℕ) (u : Window) (n : ℕ) (ps : List Interval) → All Plain (makings e u n ps)
unfolding makings
makings_plain e u n [] = tt
makings_plain e u n (p ∷ ps) = all_append Plain (making e u n p) (makings e u (suc n) ps) (making_plain e u n p) (makings_plain e u (suc n) ps)

splitting_plain : (e : ℕ) (u : Window) (n : ℕ) (ps : List Interval) → All Plain (splitting e u n ps)
unfolding splitting
splitting_plain e u n [] = (tt, tt)
splitting_plain e u n (p ∷ ps) = (tt, makings_plain e u n ps)

losing_plain : (e : ℕ) (t : Float) (u : Window) (n : ℕ) (gs : List Interval) → All Plain (losing e t u n gs)
unfolding losing
losing_plain e t u n [] = tt
losing_plain e t u n (g ∷ gs) = (tt, splitting_plain e u n (pieces t u.b0 u.b1 (g ∷ gs)))

visiting_plain : (e : ℕ) (t : Float) (w u : Window) (s : Walk) → All Plain (visiting e t w u s)
unfolding visiting
visiting_plain e t w u s =
    let lo = shared_lo w u in
    let hi = shared_hi w u in
    let gs = better_of w.src u.src lo hi in
    let more = list (length (walk_of w.src u.src (pts_of w.src u.src lo hi))) ∷ list (length gs) ∷ list (length (next lo hi gs s.keep)) ∷ losing e t u s.made gs in
    by_cases (λ (b : Bool). All Plain (cond b [] more)) (le (width lo hi) t) (λ y. tt) (λ n. (tt, (tt, (tt, losing_plain e t u s.made gs))))

visitings_plain : (e : ℕ) (t : Float) (w : Window) (us : List Window) (s : Walk) → All Plain (visitings e t w us s)
unfolding visitings
visitings_plain e t w [] s = tt
visitings_plain e t w (u ∷ us) s = all_append Plain (visiting e t w u s) (visitings e t w us (visit better_of t w u s)) (visiting_plain e t w u s) (visitings_plain e t w us (visit better_of t w u s))

touch_plain : (b : Bool) (v : ℕ) (d : Float) → All Plain (push_if b (touch v d))
touch_plain true v d = (tt, tt)
touch_plain false v d = tt

touching_plain : (e : Edge) (nw : Window) → All Plain (touching e nw)
unfolding touching
touching_plain e nw =
    let l = e.len in
    let x = le nw.b0 (near ⊗ l) in
    let y = le (l ⊖ near ⊗ l) nw.b1 in
    let da = eval_of (win_of nw) zero64 zero64 in
    let db = eval_of (win_of nw) l zero64 in
    all_append Plain (push_if x (touch e.a.0 da)) (push_if y (touch e.b.0 db)) (touch_plain x e.a.0 da) (touch_plain y e.b.0 db)

keeping_plain : (e : Edge) (w : Window) (n : ℕ) (ks : List Interval) → All Plain (keeping e w n ks)
unfolding keeping
keeping_plain e w n [] = tt
keeping_plain e w n (k ∷ ks) =
    let nw = part w k.from k.to n in
    all_append Plain (making e.id.0 w n k) (touching e nw ++ keeping e w (suc n) ks) (making_plain e.id.0 w n k) (all_append Plain (touching e nw) (keeping e w (suc n) ks) (touching_plain e nw) (keeping_plain e w (suc n) ks))

adding_plain : (e : Edge) (w : Window) (live : List Window) (made : ℕ) → All Plain (adding e w live made)
unfolding adding
adding_plain e w live made =
    let t = tiny_of e.len in
    let r = run t w live in
    let s = visits better_of t w r (start w made) in
    (tt, all_append Plain (visitings e.id.0 t w r (start w made)) (keeping e w s.made (wide_of t s.keep)) (visitings_plain e.id.0 t w r (start w made)) (keeping_plain e w s.made (wide_of t s.keep)))

-- ---- the numbers of a list
out_absent : (i : ℕ) (us : List Window) → Out i (nums us) → Absent i us
unfolding nums
out_absent i [] o = tt
out_absent i (u ∷ us) o = ((λ z. o.0 (sym z)), out_absent i us o.1)

absent_out : (i : ℕ) (us : List Window) → Absent i us → Out i (nums us)
unfolding nums
absent_out i [] a = tt
absent_out i (u ∷ us) a = ((λ z. a.0 (sym z)), absent_out i us a.1)

-- the window of a number that is in a list
all_found : (P : Window → Type 0) (us : List Window) → All P us → (i : ℕ) → (f : Found us i) → P f.it
all_found P us a i f = (all_right P f.front (f.it ∷ f.rest) (subst (All P) f.is a)).0

-- ---- an addition
module _ (cuts windows : ℕ) (limit : Float) (flags : List ℕ) (mesh : EdgeData) {past : List Candidate} (c : Candidate) (s : State) (count : s.stock.made ≡ length s.wins) (F : Follows limit mesh.len past s.stock.made s.live) (A : Accounted s) where
  abbrev e : ℕ
  e = c.edge

  abbrev todo : List Action
  todo = adding (edge_in mesh e) (as_window c) (s.live e) s.stock.made

  abbrev wins' : List WindowRecord
  wins' = wins_after todo s.wins

  abbrev here : List Window
  here = (add_to better_of (tiny_of (mesh.len e)) (as_window c) (s.live e) s.stock.made).live

  abbrev events' : ℕ → ℕ
  events' = events_after todo (waiting s.stock)

  here_on : All (OnRecord wins' events' e) here
  here_on = add_on (edge_in mesh e) (as_window c) (s.live e) s.stock.made s.wins (waiting s.stock) count (A.on_record e) (follows_differ F e)

  edge_on : (g : ℕ) → All (OnRecord wins' events' g) (put e here s.live g)
  edge_on g = go (eqb g e) refl where
    go : (b : Bool) → eqb g e ≡ b → All (OnRecord wins' events' g) (cond b here (s.live g))
    go true h = subst (λ (k : ℕ). All (OnRecord wins' events' k) here) (sym (eqb-true g e h)) here_on
    go false h =
        all_map2 {P = OnRecord s.wins (waiting s.stock) g} {Q = λ (v : Window). All (λ (u : Window). v.num ≡ u.num → ⊥) (s.live e)} {R = OnRecord wins' events' g}
        (λ v k q. other_on (edge_in mesh e) (as_window c) (s.live e) s.stock.made s.wins (waiting s.stock) g v (all_map {P = λ (u : Window). v.num ≡ u.num → ⊥} {Q = λ (u : Window). u.num ≡ v.num → ⊥} (λ u n x. n (sym x)) (s.live e) q) k)
        (s.live g) (A.on_record g) (follows_apart F g e (eqb-false g e h))

  here_complete : (d : WindowRecord) (i : ℕ) → AliveAt d wins' i → Among i (nums (put e here s.live (get_or wins' i d).edge.0))
  unfolding add_to
  here_complete d i alive =
      let t = tiny_of (mesh.len e) in
      let w = as_window c in
      let live = s.live e in
      let met = run t w live in
      let z = visits better_of t w met (start w s.stock.made) in
      let new = z.survivors ++ fresh w z.made (wide_of t z.keep) in
      let pre = before t w live in
      let suf = behind t w live in
      let P : Window → Type 0 = λ u. u.num ≡ i → ⊥ in
      ⊎_elim
      (λ a.
      let same = (after_spared todo i a.1.0 s.wins a.0).1 d in
      let g = (get_or s.wins i d).edge.0 in
      let was = A.complete d i a.0 (ap (λ (x : WindowRecord). x.alive) (sym same) ∙ alive.1) in
      let gone : eqb g e ≡ true → Absent i (pre ++ (sorted new ++ suf)) → ⊥ = λ h b.
      let r = all_right P pre (sorted new ++ suf) b in
      let back = subst (Absent i) (sym (parted t w live)) (all_append P pre (met ++ suf) (all_left P pre (sorted new ++ suf) b) (all_append P met suf a.1.1 (all_right P (sorted new) suf r))) in
      was (subst (λ (k : ℕ). Out i (nums (s.live k))) (sym (eqb-true g e h)) (absent_out i live back)) in
      subst (λ (x : WindowRecord). Among i (nums (put e here s.live x.edge.0))) (sym same)
      (by_test (λ (b : Bool). Among i (nums (cond b here (s.live g)))) (eqb g e) (λ h o. gone h (out_absent i here o)) (λ h. was)))
      (λ p.
      let present : Among i (nums here) = λ o. p (sorted_absent i new (all_left P (sorted new) suf (all_right P pre (sorted new ++ suf) (out_absent i here o)))) in
      let f = find here i present in
      let k = all_found (OnRecord wins' events' e) here here_on i f in
      let edge : (get_or wins' i d).edge.0 ≡ e = subst (λ (n : ℕ). (get_or wins' n d).edge.0 ≡ e) f.number (ap (λ (x : WindowRecord). x.edge.0) (k.is d)) in
      subst (λ (l : ℕ). Among i (nums (put e here s.live l))) (sym edge) (subst (λ (l : List Window). Among i (nums l)) (sym (put_here e here s.live)) present))
      (adding_comes d (edge_in mesh e) w live s.stock.made s.wins count i alive)

  finish_accounted : (o : Outcome) → ((i : ℕ) → Waits i (events' i) o) → EndsIn Accounted (finish wins' (put e here s.live) o)
  unfolding finish
  finish_accounted (actions.stopped n) h = tt
  finish_accounted (actions.went k) h = record {
    on_record = λ g. all_map {P = OnRecord wins' events' g} {Q = OnRecord wins' (waiting k) g} (more_events wins' events' (waiting k) (λ i. omega (arith, h i)) g) (put e here s.live g) (edge_on g);
    complete = λ d i l a. here_complete d i (l, a);
    unlinked = after_plain todo s.wins (adding_plain (edge_in mesh e) (as_window c) (s.live e) s.stock.made) A.unlinked;
  }

  admit_accounted : EndsIn Accounted (admit_of cuts windows limit flags mesh c s)
  unfolding admit_of
  admit_accounted = finish_accounted (play cuts windows limit flags todo s.stock) (λ i. play_waits i cuts windows limit flags todo s.stock)

  pub accounted_add : EndsIn Accounted (add_of cuts windows limit flags mesh c s)
  unfolding add_of
  accounted_add = by_cases (λ (b : Bool). EndsIn Accounted (cond b (admit_of cuts windows limit flags mesh c s) (state.went s))) (admits limit mesh.len c) (λ y. admit_accounted) (λ n. A)

-- ---- a pop
module _ (wins : List WindowRecord) (f g : ℕ → ℕ) (e i : ℕ) (fewer : (n : ℕ) → f n ≤ g n + cond (eqb i n) 1 0) where
  claim_one : (u : Window) → OnRecord wins f e u → OnRecord (adjust i claimed_win wins) g e (cond (eqb u.num i) (unqueued u) u)
  unfolding reflagged
  claim_one u k = go (eqb u.num i) refl where
    long : u.num < length (adjust i claimed_win wins)
    long = omega (arith, k.made, length_adjust claimed_win i wins)

    go : (b : Bool) → eqb u.num i ≡ b → OnRecord (adjust i claimed_win wins) g e (cond b (unqueued u) u)
    go true h = record {
      made = long;
      is = λ d. subst (λ (j : ℕ). get_or (adjust j claimed_win wins) u.num d ≡ record_of e (unqueued u)) (eqb-true u.num i h) (adjust_here claimed_win u.num wins d k.made ∙ ap claimed_win (k.is d));
      waits = λ q. absurd (subst (λ (b : Bool). cond b ⊥ (Unit {0})) q tt);
    }
    go false h =
        let n = eqb-false u.num i h in
        record {
          made = long;
          is = λ d. adjust_other claimed_win i u.num (λ x. n (sym x)) wins d ∙ k.is d;
          waits = λ q. let z = k.waits q in let w = fewer u.num in let y : cond {A = ℕ} (eqb i u.num) 1 0 ≡ 0 = ap (λ (b : Bool). cond {A = ℕ} b 1 0) (ne_eqb i u.num (λ x. n (sym x))) in omega (arith, z, w, y);
        }

  claim_list : (us : List Window) → All (OnRecord wins f e) us → All (OnRecord (adjust i claimed_win wins) g e) (unqueued_in i us)
  unfolding unqueued_in
  claim_list [] a = tt
  claim_list (u ∷ us) a = (claim_one u a.0, claim_list us a.1)

unqueued_absent : (k i : ℕ) (us : List Window) → Absent i (unqueued_in k us) → Absent i us
unfolding unqueued_in
unqueued_absent k i [] a = tt
unqueued_absent k i (u ∷ us) a = (by_cases (λ (b : Bool). ((cond b (unqueued u) u).num ≡ i → ⊥) → u.num ≡ i → ⊥) (eqb u.num k) (λ y z. z) (λ y z. z) a.0, unqueued_absent k i us a.1)

claimed_alive : (x : WindowRecord) → (claimed_win x).alive ≡ x.alive
unfolding reflagged
claimed_alive x = by_cases (λ (b : Bool). (cond b (unqueued_record x) x).alive ≡ x.alive) x.alive (λ y. refl) (λ n. refl)

claimed_edge : (x : WindowRecord) → (claimed_win x).edge.0 ≡ x.edge.0
unfolding reflagged
claimed_edge x = by_cases (λ (b : Bool). (cond b (unqueued_record x) x).edge.0 ≡ x.edge.0) x.alive (λ y. refl) (λ n. refl)

adjust_part : {A : Type 0} (f : WindowRecord → A) (g : WindowRecord → WindowRecord) → ((x : WindowRecord) → f (g x) ≡ f x) → (k : ℕ) (wins : List WindowRecord) (i : ℕ) (d : WindowRecord) → f (get_or (adjust k g wins) i d) ≡ f (get_or wins i d)
unfolding adjust
adjust_part f g h k [] i d = refl
adjust_part f g h zero (x ∷ wins) zero d = h x
adjust_part f g h zero (x ∷ wins) (suc i) d = refl
adjust_part f g h (suc k) (x ∷ wins) zero d = refl
adjust_part f g h (suc k) (x ∷ wins) (suc i) d = adjust_part f g h k wins i d

claimed_link : (x : WindowRecord) → Unlinked x → Unlinked (claimed_win x)
unfolding reflagged
claimed_link x h = by_cases (λ (b : Bool). Unlinked (cond b (unqueued_record x) x)) x.alive (λ y. h) (λ n. h)

claim_accounted : (s : State) → Accounted s → (x : Item) (k : Stock) → ((i : ℕ) → waiting s.stock i ≤ waiting k i + names_item i x) → Accounted (record { wins = wins_claimed x s.wins; live = λ (e : ℕ). live_claimed x (s.live e); stock = k })
unfolding wins_claimed live_claimed names_item
claim_accounted s A (Item-as-Vertex v) k h = record {
  on_record = λ e. all_map {P = OnRecord s.wins (waiting s.stock) e} {Q = OnRecord s.wins (waiting k) e} (more_events s.wins (waiting s.stock) (waiting k) (λ i. omega (arith, h i)) e) (s.live e) (A.on_record e);
  complete = A.complete;
  unlinked = A.unlinked;
}
claim_accounted s A (Item-as-Window id) k h = record {
  on_record = λ e. claim_list s.wins (waiting s.stock) (waiting k) e id.0 h (s.live e) (A.on_record e);
  complete = λ d i l a o.
      let edge = adjust_part (λ (x : WindowRecord). x.edge.0) claimed_win claimed_edge id.0 s.wins i d in
      let long = length_adjust claimed_win id.0 s.wins in
      let f = (get_or (adjust id.0 claimed_win s.wins) i d).edge.0 in
      A.complete d i (omega (arith, l, long)) (sym (adjust_part (λ (x : WindowRecord). x.alive) claimed_win claimed_alive id.0 s.wins i d) ∙ a)
      (subst (λ (e : ℕ). Out i (nums (s.live e))) edge (absent_out i (s.live f) (unqueued_absent id.0 i (s.live f) (out_absent i (unqueued_in id.0 (s.live f)) o))));
  unlinked = adjust_plain claimed_win claimed_link id.0 s.wins A.unlinked;
}

-- the event that it takes out is no more in the queue
abbrev Fewer : Queue → ℕ → Popped × Queue → Type 0
Fewer q m (None, r) = Unit {0}
Fewer q m (Some (x, k), r) = (i : ℕ) → weight_of (names i) m q ≤ weight_of (names i) k r + names_item i x.item

pop_fewer : (q : Queue) (m : ℕ) → Fewer q m (popping q m)
pop_fewer q m = go (ltb 0 m) refl (leb m (slots q)) refl where
  go : (a : Bool) → ltb 0 m ≡ a → (b : Bool) → leb m (slots q) ≡ b → Fewer q m (cond {A = Popped × Queue} (a && b) (Some (at q 0, m - 1), popped q (m - 1)) (None, q))
  go true x true y = λ i.
      let l = ltb-true 0 m x in
      let z : (m - 1) + 1 ≡ m = omega (arith, l) in
      let w = pop_weight (names i) (m - 1) q (has_slots ((m - 1) + 1) q (omega (arith, l, leb-true m (slots q) y))) in
      let t : weight_of (names i) ((m - 1) + 1) q ≡ weight_of (names i) m q = ap (λ (k : ℕ). weight_of (names i) k q) z in
      omega (arith, w, t)
  go true x false y = tt
  go false x b y = tt

pop_accounted : (s : State) → Accounted s → (p : Popped × Queue) → Fewer s.stock.queue s.stock.queued p → Accounted (after_pop s p)
unfolding after_pop
pop_accounted s A (None, q) h = A
pop_accounted s A (Some (x, k), q) h = claim_accounted s A x.item (stock s.stock.made k q s.stock.vertex) h

pub accounted_pop : (s : State) → Accounted s → Accounted (after_pop s (popping s.stock.queue s.stock.queued))
accounted_pop s A = pop_accounted s A (popping s.stock.queue s.stock.queued) (pop_fewer s.stock.queue s.stock.queued)
