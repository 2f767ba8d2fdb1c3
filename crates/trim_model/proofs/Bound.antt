-- How many slivers an addition drops. Assumes nothing.
--
-- An existing window with n stretches drops n + 1 slivers of its own at most. `keep` grows by n + 2 at most: along `keep` from left to right, each entry beyond one for one uses up a
-- stretch that ends ahead, or lo, or hi, and none of them twice (`potential`). In the end each entry of `keep` is one sliver at most. So a window met adds 2 n + 3 at most.
use Prim.Native.Nat.{ℕ, ◌+◌, ◌*◌, ◌≤◌, ◌<◌, min, ◌-◌}
use mathlib.Core.Bool.{Bool, true, false, cond}
use mathlib.Core.List.{List, [], ◌∷◌, ◌++◌}
use mathlib.Core.Path.{◌≡◌, ap}
use native.Mathlib.Decide.{dec_le}
use native.Mathlib.Nat.{le_refl}
use native.Mathlib.Omega.{arith}
use lib.ListN.{length, length-append}
use lib.Ieee.{Float, lt, le}
use Rattle.float64.specs.Scalar.{min_of, max_of}
use Rattle.better.specs.Stretches.{Interval, interval}
use Rattle.trim_model.specs.Intervals.{width, push_if, is_sliver, sliver, cuts_within, next_of, next, piece_slivers, keep_slivers}
use Rattle.trim_model.specs.Windows.{Window}
use Rattle.trim_model.specs.Add.{Better, Walk, before, run, behind, start, untouched, meet, visit, visits, add_to, met_bound, met_bounds, add_bound, shared_lo, shared_hi}
use Rattle.better.specs.Claim.{All, Point}
use Rattle.trim_model.proofs.Ranks.{rank, lt_yes, max_point, max_rank, min_point, min_rank, le_no, Nonneg, by_cases}
use Rattle.trim_model.proofs.Intervals.{Rise}
use Rattle.trim_model.proofs.Windows.{parted, Wide, FineWindow}
use Rattle.trim_model.proofs.Run.{Stretches, shared, WalkOk, met, visit_walk}
use Rattle.trim_model.proofs.Order.{Tidy, top, start_ok, run_fine}

-- 1 where p < q, and 0 elsewhere
more : ℕ → ℕ → ℕ
more p q = min 1 (q - p)

more_yes : (p q : ℕ) → p < q → more p q ≡ 1
unfolding more
more_yes p q h = omega arith

more_no : (p q : ℕ) → q ≤ p → more p q ≡ 0
unfolding more
more_no p q h = omega arith

more_one : (p q : ℕ) → more p q ≤ 1
unfolding more
more_one p q = omega arith

more_anti : (p p' q : ℕ) → p ≤ p' → more p' q ≤ more p q
unfolding more
more_anti p p' q h = omega arith

if_one : {A : Type 0} (b : Bool) (x : A) → length (push_if b x) ≤ 1
if_one true x = omega arith
if_one false x = omega arith

-- how many stretches end above p
ahead : ℕ → List Interval → ℕ
ahead p [] = 0
ahead p (g ∷ gs) = more p (rank g.to) + ahead p gs

ahead_anti : (p p' : ℕ) (gs : List Interval) → p ≤ p' → ahead p' gs ≤ ahead p gs
unfolding ahead
ahead_anti p p' [] h = omega arith
ahead_anti p p' (g ∷ gs) h = omega (arith, more_anti p p' (rank g.to) h, ahead_anti p p' gs h)

ahead_all : (p : ℕ) (gs : List Interval) → ahead p gs ≤ length gs
unfolding ahead
ahead_all p [] = omega arith
ahead_all p (g ∷ gs) = omega (arith, more_one p (rank g.to), ahead_all p gs)

-- stretches behind o1 give no cut
cuts_behind : (o0 o1 : Float) → Point o0 → Point o1 → rank o0 < rank o1 → (p : ℕ) (gs : List Interval) (q : ℕ) → Rise p gs q → rank o1 ≤ p → length (cuts_within o0 o1 gs) + ahead (rank o1) gs ≤ ahead (rank o0) gs
unfolding cuts_within ahead
cuts_behind o0 o1 g0 g1 z p [] q h i = omega arith
cuts_behind o0 o1 g0 g1 z p (g ∷ gs) q h i =
    let s = h.0 in
    let c0 = max_of g.from o0 in
    let c1 = min_of g.to o1 in
    let e0 = max_rank s.point0 g0 in
    let e1 = min_rank s.point1 g1 in
    let j : rank o0 < rank g.to = omega arith in
    let r = cuts_behind o0 o1 g0 g1 z (rank g.to) gs q h.1 (omega arith) in
    by_cases (λ (c : Bool). length (push_if c (interval c0 c1) ++ cuts_within o0 o1 gs) + (more (rank o1) (rank g.to) + ahead (rank o1) gs) ≤ more (rank o0) (rank g.to) + ahead (rank o0) gs) (lt c0 c1)
    (λ y. let k = lt_yes (max_point s.point0 g0) (min_point s.point1 g1) y in omega arith)
    (λ n. omega (arith, more_yes (rank o0) (rank g.to) j, more_one (rank o1) (rank g.to)))

cuts_bound : (o0 o1 : Float) → Point o0 → Point o1 → rank o0 < rank o1 → (p : ℕ) (gs : List Interval) (q : ℕ) → Rise p gs q → length (cuts_within o0 o1 gs) + ahead (rank o1) gs ≤ ahead (rank o0) gs + 1
unfolding cuts_within ahead
cuts_bound o0 o1 g0 g1 z p [] q h = omega arith
cuts_bound o0 o1 g0 g1 z p (g ∷ gs) q h =
    let s = h.0 in
    let c0 = max_of g.from o0 in
    let c1 = min_of g.to o1 in
    let e0 = max_rank s.point0 g0 in
    let e1 = min_rank s.point1 g1 in
    by_cases (λ (c : Bool). length (push_if c (interval c0 c1) ++ cuts_within o0 o1 gs) + (more (rank o1) (rank g.to) + ahead (rank o1) gs) ≤ more (rank o0) (rank g.to) + ahead (rank o0) gs + 1) (lt c0 c1)
    (λ y.
    let k = lt_yes (max_point s.point0 g0) (min_point s.point1 g1) y in
    let j : rank o0 < rank g.to = omega arith in
    elim (dec_le (rank g.to) (rank o1)) [
      | yes l ↦ omega (arith, more_yes (rank o0) (rank g.to) j, more_no (rank o1) (rank g.to) l, cuts_bound o0 o1 g0 g1 z (rank g.to) gs q h.1)
      | no f ↦ let l : rank o1 ≤ rank g.to = omega arith in omega (arith, more_yes (rank o0) (rank g.to) j, more_one (rank o1) (rank g.to), cuts_behind o0 o1 g0 g1 z (rank g.to) gs q h.1 l)
    ])
    (λ n. let i : rank o0 ≤ rank o1 = omega arith in omega (arith, more_anti (rank o0) (rank o1) (rank g.to) i, cuts_bound o0 o1 g0 g1 z (rank g.to) gs q h.1))

module _ (lo hi : Float) (gl : Point lo) (gh : Point hi) (p q : ℕ) (gs : List Interval) (R : Rise p gs q) where
  potential : ℕ → ℕ
  potential n = ahead n gs + (more n (rank lo) + more n (rank hi))

  potential_anti : (a b : ℕ) → a ≤ b → potential b ≤ potential a
  unfolding potential
  potential_anti a b h = omega (arith, ahead_anti a b gs h, more_anti a b (rank lo) h, more_anti a b (rank hi) h)

  first_bound : (k : Interval) → Point k.from → Point k.to → rank (max_of k.from lo) < rank (min_of k.to hi) → length (push_if (lt k.from (max_of k.from lo)) (interval k.from (max_of k.from lo))) + more (rank k.to) (rank lo) ≤ more (rank k.from) (rank lo)
  first_bound k g0 g1 z =
      let e0 = max_rank g0 gl in
      let e1 = min_rank g1 gh in
      let i : rank lo ≤ rank k.to = omega arith in
      by_cases (λ (c : Bool). length (push_if c (interval k.from (max_of k.from lo))) + more (rank k.to) (rank lo) ≤ more (rank k.from) (rank lo)) (lt k.from (max_of k.from lo))
      (λ y. let r = lt_yes g0 (max_point g0 gl) y in let j : rank k.from < rank lo = omega arith in omega (arith, more_yes (rank k.from) (rank lo) j, more_no (rank k.to) (rank lo) i))
      (λ n. omega (arith, more_no (rank k.to) (rank lo) i))

  last_bound : (k : Interval) → Point k.from → Point k.to → rank (max_of k.from lo) < rank (min_of k.to hi) → length (push_if (lt (min_of k.to hi) k.to) (interval (min_of k.to hi) k.to)) + more (rank k.to) (rank hi) ≤ more (rank k.from) (rank hi)
  last_bound k g0 g1 z =
      let e0 = max_rank g0 gl in
      let e1 = min_rank g1 gh in
      let i : rank k.from < rank hi = omega arith in
      by_cases (λ (c : Bool). length (push_if c (interval (min_of k.to hi) k.to)) + more (rank k.to) (rank hi) ≤ more (rank k.from) (rank hi)) (lt (min_of k.to hi) k.to)
      (λ y. let r = lt_yes (min_point g1 gh) g1 y in let j : rank hi ≤ rank k.to = omega arith in omega (arith, more_yes (rank k.from) (rank hi) i, more_no (rank k.to) (rank hi) j))
      (λ n. omega (arith, more_yes (rank k.from) (rank hi) i, more_one (rank k.to) (rank hi)))

  next_of_bound : (k : Interval) → Point k.from → Point k.to → rank k.from < rank k.to → length (next_of lo hi gs k) + potential (rank k.to) ≤ potential (rank k.from) + 1
  unfolding next_of potential
  next_of_bound k g0 g1 l =
      let o0 = max_of k.from lo in
      let o1 = min_of k.to hi in
      let e0 = max_rank g0 gl in
      let e1 = min_rank g1 gh in
      let G0 = max_point g0 gl in
      let G1 = min_point g1 gh in
      let l' : rank k.from ≤ rank k.to = omega arith in
      by_cases (λ (c : Bool). length (cond c (k ∷ []) (push_if (lt k.from o0) (interval k.from o0) ++ (cuts_within o0 o1 gs ++ push_if (lt o1 k.to) (interval o1 k.to)))) + potential (rank k.to) ≤ potential (rank k.from) + 1) (le o1 o0)
      (λ y. omega (arith, potential_anti (rank k.from) (rank k.to) l'))
      (λ n.
      let z = le_no G1 G0 n in
      let i : rank k.from ≤ rank o0 = omega arith in
      let j : rank o1 ≤ rank k.to = omega arith in
      let f = first_bound k g0 g1 z in
      let h = last_bound k g0 g1 z in
      let c = cuts_bound o0 o1 G0 G1 z p gs q R in
      let u = ahead_anti (rank k.from) (rank o0) gs i in
      let v = ahead_anti (rank o1) (rank k.to) gs j in
      omega (arith, length-append (push_if (lt k.from o0) (interval k.from o0)) (cuts_within o0 o1 gs ++ push_if (lt o1 k.to) (interval o1 k.to)), length-append (cuts_within o0 o1 gs) (push_if (lt o1 k.to) (interval o1 k.to))))

  next_bound : (a : ℕ) (ks : List Interval) (b : ℕ) → Rise a ks b → length (next lo hi gs ks) + potential b ≤ potential a + length ks
  unfolding next
  next_bound a [] b h = omega (arith, potential_anti a b h)
  next_bound a (k ∷ ks) b h =
      let s = h.0 in
      omega (arith, length-append (next_of lo hi gs k) (next lo hi gs ks), next_of_bound k s.point0 s.point1 s.rises, potential_anti a (rank k.from) s.above, next_bound (rank k.to) ks b h.1)

  pub next_bound_all : (a : ℕ) (ks : List Interval) (b : ℕ) → Rise a ks b → length (next lo hi gs ks) ≤ length ks + length gs + 2
  unfolding potential
  next_bound_all a ks b h = omega (arith, next_bound a ks b h, ahead_all a gs, more_one a (rank lo), more_one a (rank hi))

module _ (t : Float) where
  sliver_one : (a b : Float) → length (sliver t a b) ≤ 1
  unfolding sliver
  sliver_one a b = if_one (is_sliver t a b) (interval a b)

  piece_slivers_bound : (at b1 : Float) (gs : List Interval) → length (piece_slivers t at b1 gs) ≤ length gs + 1
  unfolding piece_slivers
  piece_slivers_bound at b1 [] = omega (arith, sliver_one at b1)
  piece_slivers_bound at b1 (g ∷ gs) = omega (arith, length-append (sliver t at g.from) (piece_slivers t (max_of at g.to) b1 gs), sliver_one at g.from, piece_slivers_bound (max_of at g.to) b1 gs)

  pub keep_slivers_bound : (ks : List Interval) → length (keep_slivers t ks) ≤ length ks
  unfolding keep_slivers
  keep_slivers_bound [] = omega arith
  keep_slivers_bound (k ∷ ks) = omega (arith, length-append (sliver t k.from k.to) (keep_slivers t ks), sliver_one k.from k.to, keep_slivers_bound ks)

module _ {t : Float} (t0 : Nonneg t) {better : Better} (B : Stretches better) {w : Window} (W : Wide t w) (m M : ℕ) where
  abbrev pub Few : ℕ → Walk → Type 0
  Few b s = length s.slivers + length s.keep ≤ b

  meet_few : (u : Window) → FineWindow t m M u → (gs : List Interval) → Rise (rank (shared_lo w u)) gs (rank (shared_hi w u)) → (b : ℕ) (s : Walk) → WalkOk t w m M s → Few b s → Few (b + (3 + 3 * length gs)) (meet t u (shared_lo w u) (shared_hi w u) gs s)
  unfolding meet
  meet_few u f [] R b s k e =
      let h = shared W u f in
      omega (arith, next_bound_all (shared_lo w u) (shared_hi w u) h.point_lo h.point_hi (rank (shared_lo w u)) (rank (shared_hi w u)) [] R (rank w.b0) s.keep (rank w.b1) k.rise)
  meet_few u f (g ∷ gs) R b s k e =
      let h = shared W u f in
      omega (
        arith,
        next_bound_all (shared_lo w u) (shared_hi w u) h.point_lo h.point_hi (rank (shared_lo w u)) (rank (shared_hi w u)) (g ∷ gs) R (rank w.b0) s.keep (rank w.b1) k.rise,
        length-append s.slivers (piece_slivers t u.b0 u.b1 (g ∷ gs)),
        piece_slivers_bound t u.b0 u.b1 (g ∷ gs),
      )

  visit_few : (u : Window) → FineWindow t m M u → (b : ℕ) (s : Walk) → WalkOk t w m M s → Few b s → Few (b + met_bound better t w u) (visit better t w u s)
  unfolding visit met_bound
  visit_few u f b s k e =
      let lo = shared_lo w u in
      let hi = shared_hi w u in
      let h = shared W u f in
      by_cases (λ (c : Bool). Few (b + cond c 0 (3 + 3 * length (better w.src u.src lo hi))) (cond c (untouched u s) (meet t u lo hi (better w.src u.src lo hi) s))) (le (width lo hi) t)
      (λ y. omega arith)
      (λ n. meet_few u f (better w.src u.src lo hi) (B.rising w.src u.src lo hi h.point_lo h.point_hi (met t0 B W m M u f n)) b s k e)

  pub visits_few : (us : List Window) → All (FineWindow t m M) us → (b : ℕ) (s : Walk) → WalkOk t w m M s → Few b s → Few (b + met_bounds better t w us) (visits better t w us s)
  unfolding visits met_bounds
  visits_few [] f b s k e = omega arith
  visits_few (u ∷ us) f b s k e =
      let r = visits_few us f.1 (b + met_bound better t w u) (visit better t w u s) (visit_walk t0 B W m M u f.0 s k) (visit_few u f.0 b s k e) in
      omega arith

module _ (better : Better) (t : Float) (w : Window) where
  met_append : (l m : List Window) → met_bounds better t w (l ++ m) ≡ met_bounds better t w l + met_bounds better t w m
  unfolding met_bounds
  met_append [] m = omega arith
  met_append (u ∷ us) m = omega (arith, met_append us m)

-- 01's bound for one addition
pub add_few : {t : Float} (t0 : Nonneg t) {better : Better} (B : Stretches better) {w : Window} (W : Wide t w) (made : ℕ) (l : List Window) → Tidy t l → length (add_to better t w l made).slivers ≤ add_bound better t w l
unfolding add_to
add_few {t} t0 {better} B {w} W made l h =
    let rn = run t w l in
    let s = visits better t w rn (start w made) in
    omega (
      arith,
      visits_few t0 B W 0 (top rn) rn (run_fine t0 B W made l h) 1 (start w made) (start_ok t0 B W made 0 (top rn)) (le_refl 1),
      length-append s.slivers (keep_slivers t s.keep),
      keep_slivers_bound t s.keep,
      ap (λ (x : List Window). met_bounds better t w x) (parted t w l),
      met_append better t w (before t w l) (rn ++ behind t w l),
      met_append better t w rn (behind t w l),
    )
