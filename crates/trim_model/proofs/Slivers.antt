-- What an addition drops are slivers: between points, wider than zero, and at most t. Assumes nothing.
use Prim.Native.Nat.{ℕ}
use mathlib.Core.Bool.{Bool, cond}
use mathlib.Core.List.{List, [], ◌∷◌}
use lib.Dec.{T}
use lib.Ieee.{Float, lt, le}
use lib.Ieee.Fits.{and_l, and_r}
use Rattle.float64.specs.Scalar.{max_of}
use Rattle.float64.specs.Scalar as scalar
use Rattle.better.specs.Stretches.{Interval, interval}
use Rattle.trim_model.specs.Intervals.{width, push_if, is_sliver, sliver, piece_slivers, keep_slivers}
use Rattle.trim_model.specs.Windows.{Window}
use Rattle.trim_model.specs.Add.{Better, Walk, run, start, untouched, meet, visit, visits, add_to, shared_lo, shared_hi}
use Rattle.better.specs.Claim.{All, Point}
use Rattle.trim_model.proofs.Ranks.{rank, max_point, Nonneg, by_cases}
use Rattle.trim_model.proofs.Lists.{all_append}
use Rattle.trim_model.proofs.Intervals.{Rise}
use Rattle.trim_model.proofs.Windows.{Wide, FineWindow}
use Rattle.trim_model.proofs.Run.{Stretches, shared, met}
use Rattle.trim_model.proofs.Order.{Tidy, top, walked_ok, run_fine}

pub record Sliver (t : Float) (k : Interval) : Type 0 where
  pub point0 : Point k.from
  pub point1 : Point k.to
  pub positive : T (lt scalar.zero64 (width k.from k.to))
  pub narrow : T (le (width k.from k.to) t)

module _ (t : Float) where
  sliver_is : (a b : Float) → Point a → Point b → All (Sliver t) (sliver t a b)
  unfolding sliver
  sliver_is a b ga gb =
      let p = lt scalar.zero64 (width a b) in
      let q = le (width a b) t in
      by_cases (λ (c : Bool). (T c → T (is_sliver t a b)) → All (Sliver t) (push_if c (interval a b))) (is_sliver t a b) (λ y k. (record { point0 = ga; point1 = gb; positive = and_l p q (k tt); narrow = and_r p q (k tt) }, tt)) (λ n k. tt) (λ k. k)

  piece_slivers_are : (at b1 : Float) → Point at → Point b1 → (p : ℕ) (gs : List Interval) (q : ℕ) → Rise p gs q → All (Sliver t) (piece_slivers t at b1 gs)
  unfolding piece_slivers
  piece_slivers_are at b1 ga gb p [] q h = sliver_is at b1 ga gb
  piece_slivers_are at b1 ga gb p (g ∷ gs) q h = all_append (Sliver t) (sliver t at g.from) (piece_slivers t (max_of at g.to) b1 gs) (sliver_is at g.from ga h.0.point0) (piece_slivers_are (max_of at g.to) b1 (max_point ga h.0.point1) gb (rank g.to) gs q h.1)

  keep_slivers_are : (p : ℕ) (ks : List Interval) (q : ℕ) → Rise p ks q → All (Sliver t) (keep_slivers t ks)
  unfolding keep_slivers
  keep_slivers_are p [] q h = tt
  keep_slivers_are p (k ∷ ks) q h = all_append (Sliver t) (sliver t k.from k.to) (keep_slivers t ks) (sliver_is k.from k.to h.0.point0 h.0.point1) (keep_slivers_are (rank k.to) ks q h.1)

module _ {t : Float} (t0 : Nonneg t) {better : Better} (B : Stretches better) {w : Window} (W : Wide t w) where
  meet_slivers : (m M : ℕ) (u : Window) → FineWindow t m M u → (gs : List Interval) → Rise (rank (shared_lo w u)) gs (rank (shared_hi w u)) → (s : Walk) → All (Sliver t) s.slivers → All (Sliver t) (meet t u (shared_lo w u) (shared_hi w u) gs s).slivers
  unfolding meet
  meet_slivers m M u f [] R s e = e
  meet_slivers m M u f (g ∷ gs) R s e = all_append (Sliver t) s.slivers (piece_slivers t u.b0 u.b1 (g ∷ gs)) e (piece_slivers_are t u.b0 u.b1 f.point0 f.point1 (rank (shared_lo w u)) (g ∷ gs) (rank (shared_hi w u)) R)

  visit_slivers : (m M : ℕ) (u : Window) → FineWindow t m M u → (s : Walk) → All (Sliver t) s.slivers → All (Sliver t) (visit better t w u s).slivers
  unfolding visit
  visit_slivers m M u f s e =
      let lo = shared_lo w u in
      let hi = shared_hi w u in
      let h = shared W u f in
      by_cases (λ (c : Bool). All (Sliver t) (cond c (untouched u s) (meet t u lo hi (better w.src u.src lo hi) s)).slivers) (le (width lo hi) t)
      (λ y. e)
      (λ n. meet_slivers m M u f (better w.src u.src lo hi) (B.rising w.src u.src lo hi h.point_lo h.point_hi (met t0 B W m M u f n)) s e)

  visits_slivers : (m M : ℕ) (us : List Window) → All (FineWindow t m M) us → (s : Walk) → All (Sliver t) s.slivers → All (Sliver t) (visits better t w us s).slivers
  unfolding visits
  visits_slivers m M [] f s e = e
  visits_slivers m M (u ∷ us) f s e = visits_slivers m M us f.1 (visit better t w u s) (visit_slivers m M u f.0 s e)

  pub add_slivers : (made : ℕ) (l : List Window) → Tidy t l → All (Sliver t) (add_to better t w l made).slivers
  unfolding add_to
  add_slivers made l h =
      let f = run_fine t0 B W made l h in
      let s = visits better t w (run t w l) (start w made) in
      all_append (Sliver t) s.slivers (keep_slivers t s.keep) (visits_slivers 0 (top (run t w l)) (run t w l) f (start w made) tt) (keep_slivers_are t (rank w.b0) s.keep (rank w.b1) (walked_ok t0 B W made 0 (top (run t w l)) (run t w l) f).rise)
