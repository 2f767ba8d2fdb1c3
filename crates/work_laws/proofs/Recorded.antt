-- What actions do to the list of all windows and to the events of each window, and that an addition leaves each live window on record. Assumes nothing.
use Prim.Native.Nat.{ℕ, zero, suc, ◌+◌, ◌*◌, ◌≤◌, ◌<◌, pred}
use native.Mathlib.Omega.{arith}
use mathlib.Core.Bool.{Bool, true, false, cond, ◌&&◌}
use mathlib.Core.List.{List, [], ◌∷◌, ◌++◌}
use mathlib.Core.Logic.{⊎_elim, ◌⊎◌, inl, inr}
use mathlib.Core.Path.{◌≡◌, refl, sym, ap, subst, ◌∙◌}
use borrow.Author.Tests.{ltb-true, eq-eqb}
use lib.Dec.{eqb, leb, ltb}
use lib.ListN.{length, length-append, get_or, get_or-append}
use lib.Seq.{get_or_at}
use lib.Ieee.{Float, lt, le}
use Rattle.float64.specs.Scalar.{zero64}
use Rattle.float64.specs.Notation.{◌⊖◌, ◌⊗◌}
use Rattle.source.specs.Distance.{lowest_of, eval_of}
use Rattle.last_pass.specs.of_better.Claim.{All, Pairs}
use Rattle.last_pass.specs.of_better.Points.{pts_of, walk_of}
use Rattle.last_pass.specs.of_better.Stretches.{Interval, better_of}
use Rattle.heap.specs.declared.Event.{Event}
use Rattle.heap.specs.declared.Item.TheVariants.{Vertex as Item-as-Vertex}
use Rattle.std.specs.Prelude.{Err, Ok}
use Rattle.buffers.specs.declared.Lack.TheVariants.{Events}
use Rattle.heap.specs.Queue.{Queue, slots, pushed, pushing}
use Rattle.heap.proofs.SameAnswers.{push_adds}
use Rattle.windows.specs.declared.Edge.{Edge}
use Rattle.windows.specs.declared.WindowRecord.{WindowRecord}
use Rattle.windows.specs.Windows.{trimmed, trimmed_win, dead, adjust}
use Rattle.actions.specs.Actions.{Action, list, make, trim, kill, push, touch, wins_with, wins_after, Stock, stock, Outcome, stopped, went, distance_of, with_distance, queueing, and_then, act, play}
use Rattle.last_pass.specs.of_trim_model.Intervals.{width, tiny_of, push_if, next, pieces, wide_of}
use Rattle.last_pass.specs.of_trim_model.Windows.{Window, part, fresh, split, sorted}
use Rattle.last_pass.specs.of_trim_model.Add.{Walk, before, run, behind, shared_lo, shared_hi, start, untouched, meet, visit, visits, add_to}
use Rattle.last_pass.proofs.laws_of_trim_model.Ranks.{by_cases}
use Rattle.last_pass.proofs.laws_of_trim_model.Lists.{all_map, all_map2, all_append, all_left, all_right}
use Rattle.last_pass.proofs.laws_of_trim_model.Windows.{parted, sorted_all}
use Rattle.last_pass.specs.of_trim_state.Trace.{window_event, win_of, record_of, making, makings, splitting, losing, visiting, visitings, near, touching, keeping, adding}
use Rattle.work_laws.specs.Account.{names_item, names, waiting, OnRecord}

-- ---- events
-- how many events of window i an action pushes, and a list of them
abbrev push_of : ℕ → Action → ℕ
push_of i (list n) = 0
push_of i (make x) = 0
push_of i (trim j b0 b1 low) = 0
push_of i (kill j) = 0
push_of i (push e) = names i e
push_of i (touch v d) = 0

unfoldable pub pushes : List Action → ℕ → ℕ
pushes [] i = 0
pushes (a ∷ rest) i = push_of i a + pushes rest i

-- with those of `events`
abbrev pub events_after : List Action → (ℕ → ℕ) → ℕ → ℕ
events_after todo events i = events i + pushes todo i

pushes_append : (xs ys : List Action) (i : ℕ) → pushes (xs ++ ys) i ≡ pushes xs i + pushes ys i
unfolding pushes
pushes_append [] ys i = omega arith
pushes_append (a ∷ xs) ys i = omega (arith, pushes_append xs ys i)

-- if it went through, window i has m events
abbrev pub Waits : ℕ → ℕ → Outcome → Type 0
Waits i m (stopped n) = Unit {0}
Waits i m (went k) = waiting k i ≡ m

module _ (i : ℕ) where
  push_waits : (made : ℕ) (vertex : List Float) (q : Queue) (m : ℕ) (e : Event) (w : ℕ) → waiting (stock made m q vertex) i + names i e ≡ w → Waits i w (queueing made vertex (pushing q m e))
  unfolding queueing
  push_waits made vertex q m e w h = go (ltb m (slots q)) refl where
    go : (b : Bool) → ltb m (slots q) ≡ b → Waits i w (queueing made vertex (cond b (Ok (m + 1), pushed q m e) (Err Events, q)))
    go true l = push_adds m q e (names i) (ltb-true m (slots q) l) ∙ h
    go false l = tt

  same_waits : (k : Stock) → waiting k i ≡ waiting k i + 0
  same_waits k = omega arith

  module _ (cuts windows : ℕ) (limit : Float) (flags : List ℕ) where
    act_waits : (a : Action) (k : Stock) → Waits i (waiting k i + push_of i a) (act cuts windows limit flags a k)
    unfolding act names_item
    act_waits (list m) k = by_cases (λ (b : Bool). Waits i (waiting k i + 0) (cond b (went k) (stopped 14))) (leb m cuts) (λ y. same_waits k) (λ y. tt)
    act_waits (make x) k = by_cases (λ (b : Bool). Waits i (waiting k i + 0) (cond b (went (stock (suc k.made) k.queued k.queue k.vertex)) (stopped 12))) (ltb k.made windows) (λ y. same_waits k) (λ y. tt)
    act_waits (trim j b0 b1 low) k = same_waits k
    act_waits (kill j) k = same_waits k
    act_waits (push e) k = push_waits k.made k.vertex k.queue k.queued e (waiting k i + names i e) refl
    act_waits (touch v d) k =
        let vertex = with_distance k.vertex v d in
        let e : Event = record { key = d; item = Item-as-Vertex (record { 0 = v }) } in
        let q = queueing k.made vertex (pushing k.queue k.queued e) in
        let r = went (stock k.made k.queued k.queue vertex) in
        by_cases (λ (b : Bool). Waits i (waiting k i + 0) (cond b (cond (eqb (get_or flags (3 * v + 2) 0) 1 && le d limit) q r) (went k))) (lt d (distance_of k.vertex v))
        (λ y. by_cases (λ (b : Bool). Waits i (waiting k i + 0) (cond b q r)) (eqb (get_or flags (3 * v + 2) 0) 1 && le d limit) (λ z. push_waits k.made vertex k.queue k.queued e (waiting k i + 0) refl) (λ z. same_waits k))
        (λ y. same_waits k)

    pub play_waits : (todo : List Action) (k : Stock) → Waits i (events_after todo (waiting k) i) (play cuts windows limit flags todo k)
    unfolding play pushes
    play_waits [] k = same_waits k
    play_waits (a ∷ rest) k = go (act cuts windows limit flags a k) (act_waits a k) (play_waits rest) where
      go : (o : Outcome) → Waits i (waiting k i + push_of i a) o → ((t : Stock) → Waits i (waiting t i + pushes rest i) (play cuts windows limit flags rest t)) → Waits i (waiting k i + (push_of i a + pushes rest i)) (and_then o (play cuts windows limit flags rest))
      go (stopped n) h ih = tt
      go (went t) h ih =
          let e : waiting t i + pushes rest i ≡ waiting k i + (push_of i a + pushes rest i) = omega (arith, h) in
          subst (λ (m : ℕ). Waits i m (play cuts windows limit flags rest t)) e (ih t)

-- ---- the list of all windows
module _ {A : Type 0} (g : A → A) where
  pub length_adjust : (i : ℕ) (l : List A) → length (adjust i g l) ≡ length l
  unfolding adjust
  length_adjust i [] = refl
  length_adjust zero (x ∷ l) = refl
  length_adjust (suc i) (x ∷ l) = ap suc (length_adjust i l)

  pub adjust_here : (i : ℕ) (l : List A) (d : A) → i < length l → get_or (adjust i g l) i d ≡ g (get_or l i d)
  unfolding adjust
  adjust_here i [] d h = absurd (omega (arith, h))
  adjust_here zero (x ∷ l) d h = refl
  adjust_here (suc i) (x ∷ l) d h = adjust_here i l d (omega (arith, h))

  pub adjust_other : (i j : ℕ) → (i ≡ j → ⊥) → (l : List A) (d : A) → get_or (adjust i g l) j d ≡ get_or l j d
  unfolding adjust
  adjust_other i j n [] d = refl
  adjust_other zero zero n (x ∷ l) d = absurd (n refl)
  adjust_other zero (suc j) n (x ∷ l) d = refl
  adjust_other (suc i) zero n (x ∷ l) d = refl
  adjust_other (suc i) (suc j) n (x ∷ l) d = adjust_other i j (λ e. n (ap suc e)) l d

pub after_append : (xs ys : List Action) (wins : List WindowRecord) → wins_after (xs ++ ys) wins ≡ wins_after ys (wins_after xs wins)
unfolding wins_after
after_append [] ys wins = refl
after_append (a ∷ xs) ys wins = after_append xs ys (wins_with a wins)

-- window i is neither trimmed nor killed
abbrev pub Spares : ℕ → Action → Type 0
Spares i (list n) = Unit {0}
Spares i (make x) = Unit {0}
Spares i (trim j b0 b1 low) = j ≡ i → ⊥
Spares i (kill j) = j ≡ i → ⊥
Spares i (push e) = Unit {0}
Spares i (touch v d) = Unit {0}

with_spared : (a : Action) (i : ℕ) → Spares i a → (wins : List WindowRecord) → i < length wins → (i < length (wins_with a wins)) × ((d : WindowRecord) → get_or (wins_with a wins) i d ≡ get_or wins i d)
unfolding wins_with
with_spared (list n) i s wins l = (l, λ d. refl)
with_spared (make x) i s wins l = (omega (arith, l, length-append wins (x ∷ [])), λ d. get_or-append wins (x ∷ []) d i l)
with_spared (trim j b0 b1 low) i s wins l = (omega (arith, l, length_adjust (λ x. trimmed x b0 b1 low) j wins), adjust_other (λ x. trimmed x b0 b1 low) j i s wins)
with_spared (kill j) i s wins l = (omega (arith, l, length_adjust dead j wins), adjust_other dead j i s wins)
with_spared (push e) i s wins l = (l, λ d. refl)
with_spared (touch v d) i s wins l = (l, λ d. refl)

pub after_spared : (todo : List Action) (i : ℕ) → All (Spares i) todo → (wins : List WindowRecord) → i < length wins → (i < length (wins_after todo wins)) × ((d : WindowRecord) → get_or (wins_after todo wins) i d ≡ get_or wins i d)
unfolding wins_after
after_spared [] i s wins l = (l, λ d. refl)
after_spared (a ∷ rest) i s wins l =
    let h = with_spared a i s.0 wins l in
    let k = after_spared rest i s.1 (wins_with a wins) h.0 in
    (k.0, λ d. k.1 d ∙ h.1 d)

-- ---- windows on record
pub more_events : (wins : List WindowRecord) (f g : ℕ → ℕ) → ((i : ℕ) → f i ≤ g i) → (e : ℕ) (u : Window) → OnRecord wins f e u → OnRecord wins g e u
more_events wins f g h e u k = record { made = k.made; is = k.is; waits = λ q. let z = k.waits q in omega (arith, z, h u.num) }

spared : (todo : List Action) (wins : List WindowRecord) (f : ℕ → ℕ) (e : ℕ) (u : Window) → All (Spares u.num) todo → OnRecord wins f e u → OnRecord (wins_after todo wins) (events_after todo f) e u
spared todo wins f e u s k =
    let h = after_spared todo u.num s wins k.made in
    record { made = h.0; is = λ d. h.1 d ∙ k.is d; waits = λ q. let z = k.waits q in omega (arith, z) }

-- of two lists of actions
then_on : (xs ys : List Action) (wins : List WindowRecord) (f : ℕ → ℕ) (e : ℕ) (us : List Window) → All (OnRecord (wins_after ys (wins_after xs wins)) (events_after ys (events_after xs f)) e) us → All (OnRecord (wins_after (xs ++ ys) wins) (events_after (xs ++ ys) f) e) us
then_on xs ys wins f e us k =
    let g = events_after ys (events_after xs f) in
    let W = wins_after ys (wins_after xs wins) in
    subst (λ (l : List WindowRecord). All (OnRecord l (events_after (xs ++ ys) f) e) us) (sym (after_append xs ys wins))
    (all_map {P = OnRecord W g e} {Q = OnRecord W (events_after (xs ++ ys) f) e} (more_events W g (events_after (xs ++ ys) f) (λ i. omega (arith, pushes_append xs ys i)) e) us k)

-- ---- parts that are made
pub making_wins : (e : ℕ) (u : Window) (n : ℕ) (p : Interval) (wins : List WindowRecord) → wins_after (making e u n p) wins ≡ wins ++ (record_of e (part u p.from p.to n) ∷ [])
unfolding wins_after wins_with
making_wins e u n p wins =
    let x = record_of e (part u p.from p.to n) in
    by_cases (λ (b : Bool). wins_after (make x ∷ push_if b (push (window_event (lowest_of u.src p.from p.to) n))) wins ≡ wins ++ (x ∷ [])) u.carried.queued (λ y. refl) (λ y. refl)

making_pushes : (e : ℕ) (u : Window) (n : ℕ) (p : Interval) → u.carried.queued ≡ true → 1 ≤ pushes (making e u n p) n
unfolding pushes names_item
making_pushes e u n p q =
    let x = record_of e (part u p.from p.to n) in
    let v = push (window_event (lowest_of u.src p.from p.to) n) in
    let one : cond {A = ℕ} (eqb n n) 1 0 ≡ 1 = ap (λ (b : Bool). cond {A = ℕ} b 1 0) (eq-eqb n n refl) in
    subst (λ (b : Bool). 1 ≤ pushes (make x ∷ push_if b v) n) (sym q) (omega (arith, one))

pub making_spares : (i e : ℕ) (u : Window) (n : ℕ) (p : Interval) → All (Spares i) (making e u n p)
making_spares i e u n p = (tt, by_cases (λ (b : Bool). All (Spares i) (push_if b (push (window_event (lowest_of u.src p.from p.to) n)))) u.carried.queued (λ y. (tt, tt)) (λ y. tt))

makings_spares : (i e : ℕ) (u : Window) (n : ℕ) (ps : List Interval) → All (Spares i) (makings e u n ps)
unfolding makings
makings_spares i e u n [] = tt
makings_spares i e u n (p ∷ ps) = all_append (Spares i) (making e u n p) (makings e u (suc n) ps) (making_spares i e u n p) (makings_spares i e u (suc n) ps)

pub makings_length : (e : ℕ) (u : Window) (n : ℕ) (ps : List Interval) (wins : List WindowRecord) → length (wins_after (makings e u n ps) wins) ≡ length wins + length ps
unfolding makings wins_after
makings_length e u n [] wins = omega arith
makings_length e u n (p ∷ ps) wins =
    let x = record_of e (part u p.from p.to n) in
    let W = wins_after (making e u n p) wins in
    omega (arith, ap length (after_append (making e u n p) (makings e u (suc n) ps) wins), makings_length e u (suc n) ps W, ap length (making_wins e u n p wins), length-append wins (x ∷ []))

fresh_on : (e : ℕ) (u : Window) (n : ℕ) (ps : List Interval) (wins : List WindowRecord) (f : ℕ → ℕ) → n ≡ length wins → All (OnRecord (wins_after (makings e u n ps) wins) (events_after (makings e u n ps) f) e) (fresh u n ps)
unfolding fresh makings
fresh_on e u n [] wins f h = tt
fresh_on e u n (p ∷ ps) wins f h =
    let acts = making e u n p in
    let bs = makings e u (suc n) ps in
    let new = part u p.from p.to n in
    let x = record_of e new in
    let W = wins_after acts wins in
    let long = ap length (making_wins e u n p wins) in
    let more = length-append wins (x ∷ []) in
    let here : OnRecord W (events_after acts f) e new = record {
      made = omega (arith, h, long, more);
      is = λ d. ap (λ (l : List WindowRecord). get_or l n d) (making_wins e u n p wins) ∙ get_or_at wins x [] d n (sym h);
      waits = λ q. let z = making_pushes e u n p q in omega (arith, z);
    } in
    then_on acts bs wins f e (new ∷ fresh u (suc n) ps)
    (spared bs W (events_after acts f) e new (makings_spares n e u (suc n) ps) here, fresh_on e u (suc n) ps W (events_after acts f) (omega (arith, h, long, more)))

-- ---- a walk over the run
-- so many windows are made, and these are on record
record OnWalk (wins : List WindowRecord) (f : ℕ → ℕ) (e made : ℕ) (us : List Window) : Type 0 where
  count : made ≡ length wins
  each : All (OnRecord wins f e) us

abbrev Unlike : Window → Window → Type 0
Unlike u v = u.num ≡ v.num → ⊥

splitting_spares : (i e : ℕ) (u : Window) (n : ℕ) (ps : List Interval) → (u.num ≡ i → ⊥) → All (Spares i) (splitting e u n ps)
unfolding splitting
splitting_spares i e u n [] d = (d, tt)
splitting_spares i e u n (p ∷ ps) d = (d, makings_spares i e u n ps)

split_on : (e : ℕ) (u : Window) (n : ℕ) (ps : List Interval) (wins : List WindowRecord) (f : ℕ → ℕ) → OnRecord wins f e u → n ≡ length wins → OnWalk (wins_after (splitting e u n ps) wins) (events_after (splitting e u n ps) f) e (n + pred (length ps)) (split u n ps)
unfolding splitting split wins_after wins_with pushes trimmed trimmed_win
split_on e u n [] wins f k h = record { count = omega (arith, h, length_adjust dead u.num wins); each = tt }
split_on e u n (p ∷ ps) wins f k h =
    let b0 = p.from in
    let b1 = p.to in
    let low = lowest_of u.src b0 b1 in
    let g : WindowRecord → WindowRecord = λ x. trimmed x b0 b1 low in
    let W = adjust u.num g wins in
    let long = length_adjust g u.num wins in
    let bs = makings e u n ps in
    let new = part u b0 b1 u.num in
    let here : OnRecord W f e new = record {
      made = omega (arith, k.made, long);
      is = λ d. adjust_here g u.num wins d k.made ∙ ap g (k.is d);
      waits = k.waits;
    } in
    let W2 = wins_after bs W in
    record {
      count = omega (arith, h, makings_length e u n ps W, long);
      each =
          all_map {P = OnRecord W2 (events_after bs f) e} {Q = OnRecord W2 (λ i. f i + (0 + pushes bs i)) e} (more_events W2 (events_after bs f) (λ i. f i + (0 + pushes bs i)) (λ i. omega arith) e)
          (new ∷ fresh u n ps) (spared bs W f e new (makings_spares u.num e u n ps) here, fresh_on e u n ps W f (omega (arith, h, long)));
    }

-- the numbers of parts: that of the window, or new ones
fresh_nums : (u : Window) (m n : ℕ) (ps : List Interval) → m ≤ n → All (λ (v : Window). (v.num ≡ u.num) ⊎ (m ≤ v.num)) (fresh u n ps)
unfolding fresh
fresh_nums u m n [] h = tt
fresh_nums u m n (p ∷ ps) h = (inr h, fresh_nums u m (suc n) ps (omega (arith, h)))

split_nums : (u : Window) (n : ℕ) (ps : List Interval) → All (λ (v : Window). (v.num ≡ u.num) ⊎ (n ≤ v.num)) (split u n ps)
unfolding split
split_nums u n [] = tt
split_nums u n (p ∷ ps) = (inl refl, fresh_nums u n n ps (omega arith))

-- what is met so far, ss, and what is to be met, us
record WalkOn (wins : List WindowRecord) (f : ℕ → ℕ) (e made : ℕ) (ss us : List Window) : Type 0 where
  count : made ≡ length wins
  done : All (OnRecord wins f e) ss
  rest : All (OnRecord wins f e) us
  differ : Pairs Unlike us
  apart : All (λ (u : Window). All (Unlike u) ss) us

step_on : (acts : List Action) (new : List Window) (made' : ℕ) (wins : List WindowRecord) (f : ℕ → ℕ) (e made : ℕ) (ss : List Window) (u : Window) (us : List Window) → WalkOn wins f e made ss (u ∷ us)
    → made' ≡ length (wins_after acts wins) → All (OnRecord (wins_after acts wins) (events_after acts f) e) new → ((i : ℕ) → (u.num ≡ i → ⊥) → All (Spares i) acts) → All (λ (v : Window). (v.num ≡ u.num) ⊎ (made ≤ v.num)) new
    → WalkOn (wins_after acts wins) (events_after acts f) e made' (ss ++ new) us
step_on acts new made' wins f e made ss u us W c n s b =
    let P = OnRecord wins f e in
    let Q = OnRecord (wins_after acts wins) (events_after acts f) e in
    let keeps : (v : Window) → P v → Unlike u v → Q v = λ v k d. spared acts wins f e v (s v.num d) k in
    let clear : (v : Window) → P v → Unlike u v → (x : Window) → (x.num ≡ u.num) ⊎ (made ≤ x.num) → Unlike v x = λ v k d x o z. ⊎_elim (λ i. d (sym (z ∙ i))) (λ m. let k1 = k.made in let w : ⊥ = omega (arith, m, z, k1, W.count) in w) o in
    record {
      count = c;
      done = all_append Q ss new (all_map2 {P = P} {Q = Unlike u} {R = Q} keeps ss W.done W.apart.0) n;
      rest = all_map2 {P = P} {Q = Unlike u} {R = Q} keeps us W.rest.1 W.differ.0;
      differ = W.differ.1;
      apart =
          all_map2 {P = λ (v : Window). All (Unlike v) ss} {Q = λ (v : Window). P v × Unlike u v} {R = λ (v : Window). All (Unlike v) (ss ++ new)}
          (λ v a q. all_append (Unlike v) ss new a (all_map {P = λ (x : Window). (x.num ≡ u.num) ⊎ (made ≤ x.num)} {Q = Unlike v} (clear v q.0 q.1) new b)) us W.apart.1
          (all_map2 {P = P} {Q = Unlike u} {R = λ (v : Window). P v × Unlike u v} (λ v k d. (k, d)) us W.rest.1 W.differ.0);
    }

meet_on : (a b c e : ℕ) (t : Float) (u : Window) (lo hi : Float) (gs : List Interval) (s : Walk) (us : List Window) (wins : List WindowRecord) (f : ℕ → ℕ) → WalkOn wins f e s.made s.survivors (u ∷ us)
    → WalkOn (wins_after (list a ∷ list b ∷ list c ∷ losing e t u s.made gs) wins) (events_after (list a ∷ list b ∷ list c ∷ losing e t u s.made gs) f) e (meet t u lo hi gs s).made (meet t u lo hi gs s).survivors us
unfolding losing meet wins_after wins_with pushes
meet_on a b c e t u lo hi [] s us wins f W =
    let acts = list a ∷ list b ∷ list c ∷ [] in
    step_on acts (u ∷ []) s.made wins f e s.made s.survivors u us W W.count (spared acts wins f e u (tt, (tt, (tt, tt))) W.rest.0, tt) (λ i d. (tt, (tt, (tt, tt)))) (inl refl, tt)
meet_on a b c e t u lo hi (g ∷ gs) s us wins f W =
    let ps = pieces t u.b0 u.b1 (g ∷ gs) in
    let bs = splitting e u s.made ps in
    let acts = list a ∷ list b ∷ list c ∷ list (length ps) ∷ bs in
    let r = split_on e u s.made ps wins f W.rest.0 W.count in
    let W2 = wins_after bs wins in
    step_on acts (split u s.made ps) (s.made + pred (length ps)) wins f e s.made s.survivors u us W r.count
    (all_map {P = OnRecord W2 (events_after bs f) e} {Q = OnRecord W2 (events_after acts f) e} (more_events W2 (events_after bs f) (events_after acts f) (λ i. omega arith) e) (split u s.made ps) r.each)
    (λ i d. (tt, (tt, (tt, (tt, splitting_spares i e u s.made ps d))))) (split_nums u s.made ps)

visit_on : (e : ℕ) (t : Float) (w u : Window) (s : Walk) (us : List Window) (wins : List WindowRecord) (f : ℕ → ℕ) → WalkOn wins f e s.made s.survivors (u ∷ us)
    → WalkOn (wins_after (visiting e t w u s) wins) (events_after (visiting e t w u s) f) e (visit better_of t w u s).made (visit better_of t w u s).survivors us
unfolding visiting visit wins_after
visit_on e t w u s us wins f W =
    let lo = shared_lo w u in
    let hi = shared_hi w u in
    let gs = better_of w.src u.src lo hi in
    let a = length (walk_of w.src u.src (pts_of w.src u.src lo hi)) in
    let c = length (next lo hi gs s.keep) in
    let more = list a ∷ list (length gs) ∷ list c ∷ losing e t u s.made gs in
    by_cases (λ (b : Bool). WalkOn (wins_after (cond b [] more) wins) (events_after (cond b [] more) f) e (cond b (untouched u s) (meet t u lo hi gs s)).made (cond b (untouched u s) (meet t u lo hi gs s)).survivors us) (le (width lo hi) t)
    (λ y. step_on [] (u ∷ []) s.made wins f e s.made s.survivors u us W W.count (spared [] wins f e u tt W.rest.0, tt) (λ i d. tt) (inl refl, tt))
    (λ n. meet_on a (length gs) c e t u lo hi gs s us wins f W)

visits_on : (e : ℕ) (t : Float) (w : Window) (us : List Window) (s : Walk) (wins : List WindowRecord) (f : ℕ → ℕ) → WalkOn wins f e s.made s.survivors us
    → OnWalk (wins_after (visitings e t w us s) wins) (events_after (visitings e t w us s) f) e (visits better_of t w us s).made (visits better_of t w us s).survivors
unfolding visitings visits wins_after pushes
visits_on e t w [] s wins f W = record { count = W.count; each = all_map {P = OnRecord wins f e} {Q = OnRecord wins (λ i. f i + 0) e} (more_events wins f (λ i. f i + 0) (λ i. omega arith) e) s.survivors W.done }
visits_on e t w (u ∷ us) s wins f W =
    let acts = visiting e t w u s in
    let s1 = visit better_of t w u s in
    let bs = visitings e t w us s1 in
    let r = visits_on e t w us s1 (wins_after acts wins) (events_after acts f) (visit_on e t w u s us wins f W) in
    record { count = r.count ∙ ap length (sym (after_append acts bs wins)); each = then_on acts bs wins f e (visits better_of t w us s1).survivors r.each }

-- ---- the windows that are kept of the new one
touch_wins : (b : Bool) (v : ℕ) (d : Float) (wins : List WindowRecord) → wins_after (push_if b (touch v d)) wins ≡ wins
unfolding wins_after wins_with
touch_wins true v d wins = refl
touch_wins false v d wins = refl

touch_pushes : (b : Bool) (v : ℕ) (d : Float) (i : ℕ) → pushes (push_if b (touch v d)) i ≡ 0
unfolding pushes
touch_pushes true v d i = refl
touch_pushes false v d i = refl

touch_spares : (i : ℕ) (b : Bool) (v : ℕ) (d : Float) → All (Spares i) (push_if b (touch v d))
touch_spares i true v d = (tt, tt)
touch_spares i false v d = tt

module _ (e : Edge) (nw : Window) where
  abbrev low_touch : List Action
  low_touch = push_if (le nw.b0 (near ⊗ e.len)) (touch e.a.0 (eval_of (win_of nw) zero64 zero64))

  abbrev high_touch : List Action
  high_touch = push_if (le (e.len ⊖ near ⊗ e.len) nw.b1) (touch e.b.0 (eval_of (win_of nw) e.len zero64))

  pub touching_wins : (wins : List WindowRecord) → wins_after (touching e nw) wins ≡ wins
  unfolding touching
  touching_wins wins =
      after_append low_touch high_touch wins
      ∙ touch_wins (le (e.len ⊖ near ⊗ e.len) nw.b1) e.b.0 (eval_of (win_of nw) e.len zero64) (wins_after low_touch wins)
      ∙ touch_wins (le nw.b0 (near ⊗ e.len)) e.a.0 (eval_of (win_of nw) zero64 zero64) wins

  touching_pushes : (i : ℕ) → pushes (touching e nw) i ≡ 0
  unfolding touching
  touching_pushes i =
      omega (arith, pushes_append low_touch high_touch i, touch_pushes (le nw.b0 (near ⊗ e.len)) e.a.0 (eval_of (win_of nw) zero64 zero64) i, touch_pushes (le (e.len ⊖ near ⊗ e.len) nw.b1) e.b.0 (eval_of (win_of nw) e.len zero64) i)

  pub touching_spares : (i : ℕ) → All (Spares i) (touching e nw)
  unfolding touching
  touching_spares i =
      all_append (Spares i) low_touch high_touch (touch_spares i (le nw.b0 (near ⊗ e.len)) e.a.0 (eval_of (win_of nw) zero64 zero64)) (touch_spares i (le (e.len ⊖ near ⊗ e.len) nw.b1) e.b.0 (eval_of (win_of nw) e.len zero64))

module _ (e : Edge) (w : Window) where
  keeping_spares : (i n : ℕ) (ks : List Interval) → All (Spares i) (keeping e w n ks)
  unfolding keeping
  keeping_spares i n [] = tt
  keeping_spares i n (k ∷ ks) =
      let nw = part w k.from k.to n in
      all_append (Spares i) (making e.id.0 w n k) (touching e nw ++ keeping e w (suc n) ks) (making_spares i e.id.0 w n k) (all_append (Spares i) (touching e nw) (keeping e w (suc n) ks) (touching_spares e nw i) (keeping_spares i (suc n) ks))

  -- the touches between them aside, they are made one after the other
  keeping_wins : (n : ℕ) (ks : List Interval) (wins : List WindowRecord) → wins_after (makings e.id.0 w n ks) wins ≡ wins_after (keeping e w n ks) wins
  unfolding keeping makings
  keeping_wins n [] wins = refl
  keeping_wins n (k ∷ ks) wins =
      let nw = part w k.from k.to n in
      let acts = making e.id.0 w n k in
      let W = wins_after acts wins in
      after_append acts (makings e.id.0 w (suc n) ks) wins
      ∙ keeping_wins (suc n) ks W
      ∙ ap (wins_after (keeping e w (suc n) ks)) (sym (touching_wins e nw W))
      ∙ sym (after_append (touching e nw) (keeping e w (suc n) ks) W)
      ∙ sym (after_append acts (touching e nw ++ keeping e w (suc n) ks) wins)

  keeping_pushes : (n : ℕ) (ks : List Interval) (i : ℕ) → pushes (makings e.id.0 w n ks) i ≡ pushes (keeping e w n ks) i
  unfolding keeping makings
  keeping_pushes n [] i = refl
  keeping_pushes n (k ∷ ks) i =
      let nw = part w k.from k.to n in
      let acts = making e.id.0 w n k in
      omega (arith, pushes_append acts (makings e.id.0 w (suc n) ks) i, pushes_append acts (touching e nw ++ keeping e w (suc n) ks) i, pushes_append (touching e nw) (keeping e w (suc n) ks) i, touching_pushes e nw i, keeping_pushes (suc n) ks i)

  keeping_on : (n : ℕ) (ks : List Interval) (wins : List WindowRecord) (f : ℕ → ℕ) → n ≡ length wins → All (OnRecord (wins_after (keeping e w n ks) wins) (events_after (keeping e w n ks) f) e.id.0) (fresh w n ks)
  keeping_on n ks wins f h =
      let acts = makings e.id.0 w n ks in
      let W = wins_after acts wins in
      subst (λ (l : List WindowRecord). All (OnRecord l (events_after (keeping e w n ks) f) e.id.0) (fresh w n ks)) (keeping_wins n ks wins)
      (all_map {P = OnRecord W (events_after acts f) e.id.0} {Q = OnRecord W (events_after (keeping e w n ks) f) e.id.0}
      (more_events W (events_after acts f) (events_after (keeping e w n ks) f) (λ i. omega (arith, keeping_pushes n ks i)) e.id.0) (fresh w n ks) (fresh_on e.id.0 w n ks wins f h))

-- ---- which windows an addition spares
losing_spares : (i e : ℕ) (t : Float) (u : Window) (n : ℕ) (gs : List Interval) → (u.num ≡ i → ⊥) → All (Spares i) (losing e t u n gs)
unfolding losing
losing_spares i e t u n [] d = tt
losing_spares i e t u n (g ∷ gs) d = (tt, splitting_spares i e u n (pieces t u.b0 u.b1 (g ∷ gs)) d)

visiting_spares : (i e : ℕ) (t : Float) (w u : Window) (s : Walk) → (u.num ≡ i → ⊥) → All (Spares i) (visiting e t w u s)
unfolding visiting
visiting_spares i e t w u s d =
    let lo = shared_lo w u in
    let hi = shared_hi w u in
    let gs = better_of w.src u.src lo hi in
    let more = list (length (walk_of w.src u.src (pts_of w.src u.src lo hi))) ∷ list (length gs) ∷ list (length (next lo hi gs s.keep)) ∷ losing e t u s.made gs in
    by_cases (λ (b : Bool). All (Spares i) (cond b [] more)) (le (width lo hi) t) (λ y. tt) (λ n. (tt, (tt, (tt, losing_spares i e t u s.made gs d))))

visitings_spares : (i e : ℕ) (t : Float) (w : Window) (us : List Window) (s : Walk) → All (λ (u : Window). u.num ≡ i → ⊥) us → All (Spares i) (visitings e t w us s)
unfolding visitings
visitings_spares i e t w [] s d = tt
visitings_spares i e t w (u ∷ us) s d =
    all_append (Spares i) (visiting e t w u s) (visitings e t w us (visit better_of t w u s)) (visiting_spares i e t w u s d.0) (visitings_spares i e t w us (visit better_of t w u s) d.1)

-- a list in two parts of which any two elements are related
module _ {A : Type 0} (R : A → A → Type 0) where
  pairs_right : (xs ys : List A) → Pairs R (xs ++ ys) → Pairs R ys
  pairs_right [] ys h = h
  pairs_right (x ∷ xs) ys h = pairs_right xs ys h.1

  pairs_left : (xs ys : List A) → Pairs R (xs ++ ys) → Pairs R xs
  pairs_left [] ys h = tt
  pairs_left (x ∷ xs) ys h = (all_left (R x) xs ys h.0, pairs_left xs ys h.1)

  -- of one part with the other
  pairs_across : (xs ys : List A) → Pairs R (xs ++ ys) → All (λ (x : A). All (R x) ys) xs
  pairs_across [] ys h = tt
  pairs_across (x ∷ xs) ys h = (all_right (R x) xs ys h.0, pairs_across xs ys h.1)

  across_turned : (xs ys : List A) → All (λ (x : A). All (R x) ys) xs → All (λ (y : A). All (λ (x : A). R x y) xs) ys
  across_turned xs [] h = tt
  across_turned xs (y ∷ ys) h = (all_map {P = λ (x : A). All (R x) (y ∷ ys)} {Q = λ (x : A). R x y} (λ x k. k.0) xs h, across_turned xs ys (all_map {P = λ (x : A). All (R x) (y ∷ ys)} {Q = λ (x : A). All (R x) ys} (λ x k. k.1) xs h))

-- ---- the whole
module _ (e : Edge) (w : Window) (live : List Window) (made : ℕ) (wins : List WindowRecord) (f : ℕ → ℕ) where
  abbrev t : Float
  t = tiny_of e.len

  abbrev met : List Window
  met = run t w live

  -- a window that is none of the run's
  adding_spares : (i : ℕ) → All (λ (u : Window). u.num ≡ i → ⊥) met → All (Spares i) (adding e w live made)
  unfolding adding
  adding_spares i d =
      let s = visits better_of t w met (start w made) in
      (tt, all_append (Spares i) (visitings e.id.0 t w met (start w made)) (keeping e w s.made (wide_of t s.keep)) (visitings_spares i e.id.0 t w met (start w made) d) (keeping_spares e w i s.made (wide_of t s.keep)))

  -- a window of another edge
  pub other_on : (g : ℕ) (v : Window) → All (λ (u : Window). u.num ≡ v.num → ⊥) live → OnRecord wins f g v → OnRecord (wins_after (adding e w live made) wins) (events_after (adding e w live made) f) g v
  other_on g v d k =
      let D : Window → Type 0 = λ u. u.num ≡ v.num → ⊥ in
      spared (adding e w live made) wins f g v
      (adding_spares v.num (all_left D met (behind t w live) (all_right D (before t w live) (met ++ behind t w live) (subst (All D) (parted t w live) d)))) k

  pub add_on : made ≡ length wins → All (OnRecord wins f e.id.0) live → Pairs Unlike live → All (OnRecord (wins_after (adding e w live made) wins) (events_after (adding e w live made) f) e.id.0) (add_to better_of (tiny_of e.len) w live made).live
  unfolding adding add_to wins_after wins_with pushes
  add_on h k d =
      let pre = before t w live in
      let suf = behind t w live in
      let s0 = start w made in
      let s = visits better_of t w met s0 in
      let ks = wide_of t s.keep in
      let acts = visitings e.id.0 t w met s0 in
      let bs = keeping e w s.made ks in
      let W1 = wins_after acts wins in
      let P = OnRecord wins f e.id.0 in
      let Q1 = OnRecord (wins_after (acts ++ bs) wins) (events_after (acts ++ bs) f) e.id.0 in
      let Q = OnRecord (wins_after (acts ++ bs) wins) (λ i. f i + (0 + pushes (acts ++ bs) i)) e.id.0 in
      let old = subst (All P) (parted t w live) k in
      let unlike = subst (Pairs Unlike) (parted t w live) d in
      let rest = all_right P pre (met ++ suf) old in
      let inner = pairs_right Unlike pre (met ++ suf) unlike in
      let here : (v : Window) → P v → All (λ (u : Window). u.num ≡ v.num → ⊥) met → Q1 v = λ v z q. spared (acts ++ bs) wins f e.id.0 v
      (all_append (Spares v.num) acts bs (visitings_spares v.num e.id.0 t w met s0 q) (keeping_spares e w v.num s.made ks)) z in
      let r = visits_on e.id.0 t w met s0 wins f (record { count = h; done = tt; rest = all_left P met suf rest; differ = pairs_left Unlike met suf inner; apart = all_map {P = P} {Q = λ (u : Window). All (Unlike u) []} (λ u z. tt) met (all_left P met suf rest) }) in
      let survivors = all_map {P = OnRecord W1 (events_after acts f) e.id.0} {Q = OnRecord (wins_after bs W1) (events_after bs (events_after acts f)) e.id.0} (λ v z. spared bs W1 (events_after acts f) e.id.0 v (keeping_spares e w v.num s.made ks) z) s.survivors r.each in
      let new = s.survivors ++ fresh w s.made ks in
      let news : All Q1 new = then_on acts bs wins f e.id.0 new (all_append (OnRecord (wins_after bs W1) (events_after bs (events_after acts f)) e.id.0) s.survivors (fresh w s.made ks) survivors (keeping_on e w s.made ks W1 (events_after acts f) r.count)) in
      let left : All Q1 pre = all_map2 {P = P} {Q = λ (v : Window). All (Unlike v) (met ++ suf)} {R = Q1} (λ v z q. here v z (all_map {P = Unlike v} {Q = λ (u : Window). u.num ≡ v.num → ⊥} (λ u n x. n (sym x)) met (all_left (Unlike v) met suf q))) pre (all_left P pre (met ++ suf) old) (pairs_across Unlike pre (met ++ suf) unlike) in
      let right : All Q1 suf = all_map2 {P = P} {Q = λ (v : Window). All (λ (u : Window). Unlike u v) met} {R = Q1} here suf (all_right P met suf rest) (across_turned Unlike met suf (pairs_across Unlike met suf inner)) in
      all_map {P = Q1} {Q = Q} (more_events (wins_after (acts ++ bs) wins) (events_after (acts ++ bs) f) (λ i. f i + (0 + pushes (acts ++ bs) i)) (λ i. omega arith) e.id.0) (pre ++ (sorted new ++ suf))
      (all_append Q1 pre (sorted new ++ suf) left (all_append Q1 (sorted new) suf (sorted_all Q1 new news) right))
