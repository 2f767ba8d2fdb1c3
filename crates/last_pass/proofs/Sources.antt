-- The sources of the windows that actions make, and those of the windows that an addition leaves alive. Assumes nothing.
use Prim.Native.Nat.{ℕ, zero, suc, ◌+◌, pred}
use native.Mathlib.Omega.{arith}
use mathlib.Core.Bool.{Bool, true, false, cond}
use mathlib.Core.List.{List, [], ◌∷◌, ◌++◌, append-nil, append_assoc}
use mathlib.Core.Path.{◌≡◌, refl, sym, ap, subst, ◌∙◌}
use lib.ListN.{length, length-append, get_or-append}
use lib.Seq.{get_or_at, append_snoc}
use lib.Ieee.{Float, le}
use Rattle.float64.specs.Scalar.{zero64}
use Rattle.float64.specs.Notation.{◌⊖◌, ◌⊗◌}
use Rattle.source.specs.declared.Src.{Src}
use Rattle.source.specs.Distance.{lowest_of, eval_of}
use Rattle.pop.specs.of_better.Claim.{All}
use Rattle.pop.specs.of_better.Points.{pts_of, walk_of}
use Rattle.pop.specs.of_better.Stretches.{Interval, better_of}
use Rattle.windows.specs.declared.Edge.{Edge}
use Rattle.windows.specs.declared.WindowRecord.{WindowRecord}
use Rattle.windows.specs.Windows.{trimmed, trimmed_win, reflagged, relinked, dead, adjust}
use Rattle.actions.specs.Actions.{Action, list, make, trim, kill, push, touch, wins_with, wins_after, Stock, Outcome, stopped, went, and_then, act, play}
use Rattle.pop.specs.of_trim_model.Intervals.{width, tiny_of, push_if, next, pieces, wide_of}
use Rattle.pop.specs.of_trim_model.Windows.{Window, part, fresh, split, sorted}
use Rattle.pop.specs.of_trim_model.Add.{Walk, before, run, behind, shared_lo, shared_hi, start, untouched, meet, visit, visits, add_to}
use Rattle.pop.proofs.laws_of_trim_model.Ranks.{by_cases}
use Rattle.pop.proofs.laws_of_trim_model.Lists.{all_map, all_append, all_left, all_right}
use Rattle.pop.proofs.laws_of_trim_model.Windows.{parted, sorted_all}
use Rattle.pop.specs.of_trim_state.Trace.{window_event, win_of, making, makings, splitting, losing, visiting, visitings, near, touching, keeping, adding}
use Rattle.pop.proofs.laws_of_trim_state.Made.{one, Made, act_made}
use Rattle.last_pass.specs.Finished.{sources_of, Sourced}

-- ---- the sources of the windows made
-- those that an action adds, and a list of them
abbrev pub made_by : Action → List Src
made_by (list n) = []
made_by (make x) = x.win.src ∷ []
made_by (trim i b0 b1 low) = []
made_by (kill i) = []
made_by (push e) = []
made_by (touch v d) = []

unfoldable pub made_by_all : List Action → List Src
made_by_all [] = []
made_by_all (a ∷ rest) = made_by a ++ made_by_all rest

made_append : (xs ys : List Action) → made_by_all (xs ++ ys) ≡ made_by_all xs ++ made_by_all ys
unfolding made_by_all
made_append [] ys = refl
made_append (a ∷ xs) ys = ap (λ (l : List Src). made_by a ++ l) (made_append xs ys) ∙ sym (append_assoc (made_by a) (made_by_all xs) (made_by_all ys))

pub sources_adjust : (g : WindowRecord → WindowRecord) → ((x : WindowRecord) → (g x).win.src ≡ x.win.src) → (i : ℕ) (wins : List WindowRecord) → sources_of (adjust i g wins) ≡ sources_of wins
unfolding adjust
sources_adjust g h i [] = refl
sources_adjust g h zero (x ∷ wins) = ap (λ (s : Src). s ∷ sources_of wins) (h x)
sources_adjust g h (suc i) (x ∷ wins) = ap (λ (l : List Src). x.win.src ∷ l) (sources_adjust g h i wins)

sources_append : (wins : List WindowRecord) (x : WindowRecord) → sources_of (wins ++ (x ∷ [])) ≡ sources_of wins ++ (x.win.src ∷ [])
sources_append [] x = refl
sources_append (y ∷ wins) x = ap (λ (l : List Src). y.win.src ∷ l) (sources_append wins x)

pub sources_with : (a : Action) (wins : List WindowRecord) → sources_of (wins_with a wins) ≡ sources_of wins ++ made_by a
unfolding wins_with trimmed trimmed_win relinked reflagged
sources_with (list n) wins = sym (append-nil (sources_of wins))
sources_with (make x) wins = sources_append wins x
sources_with (trim i b0 b1 low) wins = sources_adjust (λ x. trimmed x b0 b1 low) (λ x. refl) i wins ∙ sym (append-nil (sources_of wins))
sources_with (kill i) wins = sources_adjust dead (λ x. refl) i wins ∙ sym (append-nil (sources_of wins))
sources_with (push e) wins = sym (append-nil (sources_of wins))
sources_with (touch v d) wins = sym (append-nil (sources_of wins))

pub sources_after : (todo : List Action) (wins : List WindowRecord) → sources_of (wins_after todo wins) ≡ sources_of wins ++ made_by_all todo
unfolding wins_after made_by_all
sources_after [] wins = sym (append-nil (sources_of wins))
sources_after (a ∷ rest) wins = sources_after rest (wins_with a wins) ∙ ap (λ (l : List Src). l ++ made_by_all rest) (sources_with a wins) ∙ append_assoc (sources_of wins) (made_by a) (made_by_all rest)

pub length_sources : (wins : List WindowRecord) → length (sources_of wins) ≡ length wins
length_sources [] = refl
length_sources (x ∷ wins) = ap suc (length_sources wins)

-- ---- how many there are
one_made : (a : Action) → one a ≡ length (made_by a)
one_made (list n) = refl
one_made (make x) = refl
one_made (trim i b0 b1 low) = refl
one_made (kill i) = refl
one_made (push e) = refl
one_made (touch v d) = refl

module _ (cuts windows : ℕ) (limit : Float) (flags : List ℕ) where
  pub count_play : (todo : List Action) (s : Stock) → Made (s.made + length (made_by_all todo)) (play cuts windows limit flags todo s)
  unfolding play made_by_all
  count_play [] s = omega arith
  count_play (a ∷ rest) s = go (act cuts windows limit flags a s) (act_made cuts windows limit flags a s) (count_play rest) where
    go : (o : Outcome) → Made (s.made + one a) o → ((t : Stock) → Made (t.made + length (made_by_all rest)) (play cuts windows limit flags rest t)) → Made (s.made + length (made_by a ++ made_by_all rest)) (and_then o (play cuts windows limit flags rest))
    go (stopped n) h ih = tt
    go (went t) h ih =
        let e : t.made + length (made_by_all rest) ≡ s.made + length (made_by a ++ made_by_all rest) = omega (arith, h, one_made a, length-append (made_by a) (made_by_all rest)) in
        subst (λ (n : ℕ). Made n (play cuts windows limit flags rest t)) e (ih t)

-- ---- the windows that are alive then
grow : (S more : List Src) (u : Window) → Sourced S u → Sourced (S ++ more) u
grow S more u k = record { made = omega (arith, k.made, length-append S more); source = λ d. get_or-append S more d u.num k.made ∙ k.source d }

pub grow_all : (S more : List Src) (us : List Window) → All (Sourced S) us → All (Sourced (S ++ more)) us
grow_all S more us = all_map {P = Sourced S} {Q = Sourced (S ++ more)} (grow S more) us

making_made : (e : ℕ) (u : Window) (n : ℕ) (p : Interval) → made_by_all (making e u n p) ≡ u.src ∷ []
unfolding made_by_all
making_made e u n p = by_cases (λ (b : Bool). u.src ∷ made_by_all (push_if b (push (window_event (lowest_of u.src p.from p.to) n))) ≡ u.src ∷ []) u.carried.queued (λ y. refl) (λ y. refl)

-- those of parts of u: one source for each
makings_made : (e : ℕ) (u : Window) (n : ℕ) (p : Interval) (ps : List Interval) → made_by_all (makings e u n (p ∷ ps)) ≡ u.src ∷ made_by_all (makings e u (suc n) ps)
unfolding makings
makings_made e u n p ps = made_append (making e u n p) (makings e u (suc n) ps) ∙ ap (λ (l : List Src). l ++ made_by_all (makings e u (suc n) ps)) (making_made e u n p)

length_makings : (e : ℕ) (u : Window) (n : ℕ) (ps : List Interval) → length (made_by_all (makings e u n ps)) ≡ length ps
unfolding makings made_by_all
length_makings e u n [] = refl
length_makings e u n (p ∷ ps) = ap length (makings_made e u n p ps) ∙ ap suc (length_makings e u (suc n) ps)

fresh_sourced : (e : ℕ) (u : Window) (n : ℕ) (ps : List Interval) (S : List Src) → n ≡ length S → All (Sourced (S ++ made_by_all (makings e u n ps))) (fresh u n ps)
unfolding fresh
fresh_sourced e u n [] S h = tt
fresh_sourced e u n (p ∷ ps) S h =
    let R = made_by_all (makings e u (suc n) ps) in
    let S1 = S ++ (u.src ∷ []) in
    let new = part u p.from p.to n in
    let here : Sourced S1 new = record { made = omega (arith, h, length-append S (u.src ∷ [])); source = λ d. get_or_at S u.src [] d n (sym h) } in
    let all : S1 ++ R ≡ S ++ made_by_all (makings e u n (p ∷ ps)) = append_snoc S u.src R ∙ ap (λ (l : List Src). S ++ l) (sym (makings_made e u n p ps)) in
    subst (λ (l : List Src). All (Sourced l) (new ∷ fresh u (suc n) ps)) all
    (grow S1 R new here, fresh_sourced e u (suc n) ps S1 (omega (arith, h, length-append S (u.src ∷ []))))

-- a walk over the run: so many windows are made, and the survivors have their sources
record WalkSourced (S : List Src) (made : ℕ) (us : List Window) : Type 0 where
  count : made ≡ length S
  each : All (Sourced S) us

more_nil : (S : List Src) (n : ℕ) → n ≡ length S → n ≡ length (S ++ [])
more_nil S n h = omega (arith, h, length-append S [])

split_sourced : (e : ℕ) (u : Window) (n : ℕ) (ps : List Interval) (S : List Src) → Sourced S u → n ≡ length S → WalkSourced (S ++ made_by_all (splitting e u n ps)) (n + pred (length ps)) (split u n ps)
unfolding splitting split made_by_all
split_sourced e u n [] S k h = record { count = omega (arith, h, length-append S []); each = tt }
split_sourced e u n (p ∷ ps) S k h =
    let R = made_by_all (makings e u n ps) in
    record {
      count = omega (arith, h, length-append S R, length_makings e u n ps);
      each = (grow S R (part u p.from p.to u.num) (record { made = k.made; source = k.source }), fresh_sourced e u n ps S h);
    }

meet_sourced : (e : ℕ) (t : Float) (u : Window) (lo hi : Float) (gs : List Interval) (s : Walk) (S : List Src) → Sourced S u → WalkSourced S s.made s.survivors
    → WalkSourced (S ++ made_by_all (losing e t u s.made gs)) (meet t u lo hi gs s).made (meet t u lo hi gs s).survivors
unfolding losing meet made_by_all
meet_sourced e t u lo hi [] s S k W = record {
  count = more_nil S s.made W.count;
  each = all_append (Sourced (S ++ [])) s.survivors (u ∷ []) (grow_all S [] s.survivors W.each) (grow S [] u k, tt);
}
meet_sourced e t u lo hi (g ∷ gs) s S k W =
    let ps = pieces t u.b0 u.b1 (g ∷ gs) in
    let M = made_by_all (splitting e u s.made ps) in
    let r = split_sourced e u s.made ps S k W.count in
    record { count = r.count; each = all_append (Sourced (S ++ M)) s.survivors (split u s.made ps) (grow_all S M s.survivors W.each) r.each }

visit_sourced : (e : ℕ) (t : Float) (w u : Window) (s : Walk) (S : List Src) → Sourced S u → WalkSourced S s.made s.survivors
    → WalkSourced (S ++ made_by_all (visiting e t w u s)) (visit better_of t w u s).made (visit better_of t w u s).survivors
unfolding visiting visit made_by_all
visit_sourced e t w u s S k W =
    let lo = shared_lo w u in
    let hi = shared_hi w u in
    let gs = better_of w.src u.src lo hi in
    let more = list (length (walk_of w.src u.src (pts_of w.src u.src lo hi))) ∷ list (length gs) ∷ list (length (next lo hi gs s.keep)) ∷ losing e t u s.made gs in
    by_cases (λ (b : Bool). WalkSourced (S ++ made_by_all (cond b [] more)) (cond b (untouched u s) (meet t u lo hi gs s)).made (cond b (untouched u s) (meet t u lo hi gs s)).survivors) (le (width lo hi) t)
    (λ y. record { count = more_nil S s.made W.count; each = all_append (Sourced (S ++ [])) s.survivors (u ∷ []) (grow_all S [] s.survivors W.each) (grow S [] u k, tt) })
    (λ n. meet_sourced e t u lo hi gs s S k W)

visits_sourced : (e : ℕ) (t : Float) (w : Window) (us : List Window) (s : Walk) (S : List Src) → All (Sourced S) us → WalkSourced S s.made s.survivors
    → WalkSourced (S ++ made_by_all (visitings e t w us s)) (visits better_of t w us s).made (visits better_of t w us s).survivors
unfolding visitings visits made_by_all
visits_sourced e t w [] s S k W = record { count = more_nil S s.made W.count; each = grow_all S [] s.survivors W.each }
visits_sourced e t w (u ∷ us) s S k W =
    let s1 = visit better_of t w u s in
    let M = made_by_all (visiting e t w u s) in
    let R = made_by_all (visitings e t w us s1) in
    let all : (S ++ M) ++ R ≡ S ++ made_by_all (visiting e t w u s ++ visitings e t w us s1) = append_assoc S M R ∙ ap (λ (l : List Src). S ++ l) (sym (made_append (visiting e t w u s) (visitings e t w us s1))) in
    subst (λ (l : List Src). WalkSourced l (visits better_of t w us s1).made (visits better_of t w us s1).survivors) all
    (visits_sourced e t w us s1 (S ++ M) (grow_all S M us k.1) (visit_sourced e t w u s S k.0 W))

-- touches make none
touch_made : (b : Bool) (v : ℕ) (d : Float) → made_by_all (push_if b (touch v d)) ≡ []
unfolding made_by_all
touch_made true v d = refl
touch_made false v d = refl

touching_made : (e : Edge) (nw : Window) → made_by_all (touching e nw) ≡ []
unfolding touching
touching_made e nw =
    let l = e.len in
    let x = le nw.b0 (near ⊗ l) in
    let y = le (l ⊖ near ⊗ l) nw.b1 in
    let da = eval_of (win_of nw) zero64 zero64 in
    let db = eval_of (win_of nw) l zero64 in
    made_append (push_if x (touch e.a.0 da)) (push_if y (touch e.b.0 db)) ∙ (λ i. touch_made x e.a.0 da i ++ touch_made y e.b.0 db i)

keeping_made : (e : Edge) (w : Window) (n : ℕ) (ks : List Interval) → made_by_all (makings e.id.0 w n ks) ≡ made_by_all (keeping e w n ks)
unfolding makings keeping
keeping_made e w n [] = refl
keeping_made e w n (k ∷ ks) =
    let nw = part w k.from k.to n in
    let m = making e.id.0 w n k in
    made_append m (makings e.id.0 w (suc n) ks)
    ∙ ap (λ (l : List Src). made_by_all m ++ l) (keeping_made e w (suc n) ks ∙ ap (λ (l : List Src). l ++ made_by_all (keeping e w (suc n) ks)) (sym (touching_made e nw)) ∙ sym (made_append (touching e nw) (keeping e w (suc n) ks)))
    ∙ sym (made_append m (touching e nw ++ keeping e w (suc n) ks))

-- the whole
pub add_sourced : (e : Edge) (w : Window) (live : List Window) (made : ℕ) (S : List Src) → made ≡ length S → All (Sourced S) live → All (Sourced (S ++ made_by_all (adding e w live made))) (add_to better_of (tiny_of e.len) w live made).live
unfolding adding add_to made_by_all
add_sourced e w live made S h k =
    let t = tiny_of e.len in
    let pre = before t w live in
    let r = run t w live in
    let suf = behind t w live in
    let s = visits better_of t w r (start w made) in
    let ks = wide_of t s.keep in
    let met = visitings e.id.0 t w r (start w made) in
    let kept = keeping e w s.made ks in
    let S1 = S ++ made_by_all met in
    let S2 = S ++ made_by_all (met ++ kept) in
    let all : S1 ++ made_by_all kept ≡ S2 = append_assoc S (made_by_all met) (made_by_all kept) ∙ ap (λ (l : List Src). S ++ l) (sym (made_append met kept)) in
    let old = subst (All (Sourced S)) (parted t w live) k in
    let rest = all_right (Sourced S) pre (r ++ suf) old in
    let W = visits_sourced e.id.0 t w r (start w made) S (all_left (Sourced S) r suf rest) (record { count = h; each = tt }) in
    let news : All (Sourced S2) (fresh w s.made ks) = subst (λ (l : List Src). All (Sourced l) (fresh w s.made ks)) (ap (λ (l : List Src). S1 ++ l) (keeping_made e w s.made ks) ∙ all) (fresh_sourced e.id.0 w s.made ks S1 W.count) in
    let survivors : All (Sourced S2) s.survivors = subst (λ (l : List Src). All (Sourced l) s.survivors) all (grow_all S1 (made_by_all kept) s.survivors W.each) in
    all_append (Sourced S2) pre (sorted (s.survivors ++ fresh w s.made ks) ++ suf) (grow_all S (made_by_all (met ++ kept)) pre (all_left (Sourced S) pre (r ++ suf) old))
    (all_append (Sourced S2) (sorted (s.survivors ++ fresh w s.made ks)) suf
    (sorted_all (Sourced S2) (s.survivors ++ fresh w s.made ks) (all_append (Sourced S2) s.survivors (fresh w s.made ks) survivors news))
    (grow_all S (made_by_all (met ++ kept)) suf (all_right (Sourced S) r suf rest)))
