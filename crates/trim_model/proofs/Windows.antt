-- Lists of windows: how many hold [X, Y], their order, sorting, and what stands before and behind the run, by ranks. Assumes nothing.
use Prim.Native.Nat.{ℕ, suc, ◌+◌, ◌≤◌, ◌<◌, zero-le}
use mathlib.Core.Bool.{Bool, true, not, cond, ◌&&◌}
use mathlib.Core.List.{List, [], ◌∷◌, ◌++◌, append_assoc}
use mathlib.Core.Path.{◌≡◌, refl, sym, ap, ◌∙◌}
use native.Mathlib.Nat.{le-suc, le_trans}
use native.Mathlib.Omega.{arith}
use lib.Dec.{T}
use lib.Ieee.{Float, binary64, add, sub, lt}
use Rattle.nat_laws.proofs.Lists.{all_sort_by}
use Rattle.nat_laws.specs.Lists.{insert_by, sort_by}
use Rattle.float64.specs.TotalOrder.{total_less}
use Rattle.better.specs.Stretches.{Interval}
use Rattle.trim_model.specs.Intervals.{width}
use Rattle.trim_model.specs.Windows.{Window, fresh, split, insert, sorted, take_while, drop_while, all, take_while_end, drop_while_end}
use Rattle.trim_model.specs.Add.{starts_before, ends_after, before, onward, run, behind}
use Rattle.better.specs.Claim.{All, Point}
use Rattle.trim_model.proofs.Ranks.{rank, total_yes, total_no, Nonneg, run_left, run_right, by_cases}
use Rattle.trim_model.proofs.Count.{has, has_left, has_right}
use Rattle.trim_model.proofs.Lists.{all_map, all_right, take_drop, drop_take_end}
use Rattle.trim_model.proofs.Intervals.{count}

-- what holds of the ends of intervals holds of the windows made of them
pub fresh_all : (P : Float → Float → Type 0) (v : Window) (n : ℕ) (ps : List Interval) → All (λ (k : Interval). P k.from k.to) ps → All (λ (u : Window). P u.b0 u.b1) (fresh v n ps)
unfolding fresh
fresh_all P v n [] h = tt
fresh_all P v n (p ∷ ps) h = (h.0, fresh_all P v (suc n) ps h.1)

pub split_all : (P : Float → Float → Type 0) (u : Window) (n : ℕ) (ps : List Interval) → All (λ (k : Interval). P k.from k.to) ps → All (λ (v : Window). P v.b0 v.b1) (split u n ps)
unfolding split
split_all P u n [] h = tt
split_all P u n (p ∷ ps) h = (h.0, fresh_all P u n ps h.1)

-- how many hold [X, Y]
unfoldable pub wcount : ℕ → ℕ → List Window → ℕ
wcount X Y [] = 0
wcount X Y (u ∷ us) = has X Y (rank u.b0) (rank u.b1) + wcount X Y us

pub wcount_append : (X Y : ℕ) (l m : List Window) → wcount X Y (l ++ m) ≡ wcount X Y l + wcount X Y m
unfolding wcount
wcount_append X Y [] m = omega arith
wcount_append X Y (k ∷ ks) m = omega (arith, wcount_append X Y ks m)

pub fresh_count : (X Y : ℕ) (v : Window) (n : ℕ) (ps : List Interval) → wcount X Y (fresh v n ps) ≡ count X Y ps
unfolding wcount count fresh
fresh_count X Y v n [] = refl
fresh_count X Y v n (p ∷ ps) = omega (arith, fresh_count X Y v (suc n) ps)

pub split_count : (X Y : ℕ) (u : Window) (n : ℕ) (ps : List Interval) → wcount X Y (split u n ps) ≡ count X Y ps
unfolding wcount count split
split_count X Y u n [] = refl
split_count X Y u n (p ∷ ps) = omega (arith, fresh_count X Y u n ps)

insert_count : (X Y : ℕ) (u : Window) (l : List Window) → wcount X Y (insert u l) ≡ has X Y (rank u.b0) (rank u.b1) + wcount X Y l
unfolding wcount insert_by
insert_count X Y u [] = refl
insert_count X Y u (v ∷ vs) = by_cases (λ (c : Bool). wcount X Y (cond c (v ∷ insert u vs) (u ∷ v ∷ vs)) ≡ has X Y (rank u.b0) (rank u.b1) + wcount X Y (v ∷ vs)) (total_less v.b0 u.b0) (λ y. omega (arith, insert_count X Y u vs)) (λ n. refl)

pub sorted_count : (X Y : ℕ) (l : List Window) → wcount X Y (sorted l) ≡ wcount X Y l
unfolding wcount sort_by
sorted_count X Y [] = refl
sorted_count X Y (u ∷ us) = omega (arith, insert_count X Y u (sorted us), sorted_count X Y us)

pub wcount_low : (X Y m : ℕ) (l : List Window) → m < Y → All (λ (u : Window). rank u.b1 ≤ m) l → wcount X Y l ≡ 0
unfolding wcount
wcount_low X Y m [] z h = refl
wcount_low X Y m (u ∷ us) z h = let i = h.0 in let k : rank u.b1 < Y = omega arith in omega (arith, has_right X Y (rank u.b0) (rank u.b1) k, wcount_low X Y m us z h.1)

pub wcount_high : (X Y m : ℕ) (l : List Window) → X < m → All (λ (u : Window). m ≤ rank u.b0) l → wcount X Y l ≡ 0
unfolding wcount
wcount_high X Y m [] z h = refl
wcount_high X Y m (u ∷ us) z h = let i = h.0 in let k : X < rank u.b0 = omega arith in omega (arith, has_left X Y (rank u.b0) (rank u.b1) k, wcount_high X Y m us z h.1)

-- a window of a list is counted in it
pub counted : (l S : List Window) → ((X Y : ℕ) → wcount X Y l ≤ wcount X Y S) → All (λ (v : Window). (X Y : ℕ) → has X Y (rank v.b0) (rank v.b1) ≤ wcount X Y S) l
unfolding wcount
counted [] S f = tt
counted (u ∷ us) S f = (λ X Y. omega (arith, f X Y), counted us S (λ X Y. omega (arith, f X Y)))

-- ---- the list, as `add` parts it
pub parted : (t : Float) (w : Window) (l : List Window) → l ≡ before t w l ++ (run t w l ++ behind t w l)
parted t w l =
    sym (take_drop (starts_before w.b0) l)
    ∙ ap (λ (m : List Window). m ++ drop_while (starts_before w.b0) l) (sym (drop_take_end (ends_after (sub binary64 w.b0 t)) (take_while (starts_before w.b0) l)))
    ∙ append_assoc (before t w l) (take_while_end (ends_after (sub binary64 w.b0 t)) (take_while (starts_before w.b0) l)) (drop_while (starts_before w.b0) l)
    ∙ ap (λ (m : List Window). before t w l ++ m) (sym (take_drop (starts_before (add binary64 w.b1 t)) (onward t w l)))

-- ---- orders
abbrev pub Steps : Window → List Window → Type 0
Steps u [] = Unit {0}
Steps u (v ∷ vs) = (rank u.b0 < rank v.b0) × (rank u.b1 < rank v.b1) × Steps v vs

abbrev pub Ordered : List Window → Type 0
Ordered [] = Unit {0}
Ordered (u ∷ us) = Steps u us

pub steps_all : (u : Window) (l : List Window) → Steps u l → All (λ (v : Window). (rank u.b0 < rank v.b0) × (rank u.b1 < rank v.b1)) l
steps_all u [] h = tt
steps_all u (v ∷ vs) h = ((h.0, h.1), all_map (λ x k. let a = h.0 in let b = h.1 in let c = k.0 in let d = k.1 in (omega arith, omega arith)) vs (steps_all v vs h.2))

pub ordered_left : (l m : List Window) → Ordered (l ++ m) → Ordered l
ordered_left [] m h = tt
ordered_left (u ∷ []) m h = tt
ordered_left (u ∷ v ∷ vs) m h = (h.0, h.1, ordered_left (v ∷ vs) m h.2)

pub ordered_right : (l m : List Window) → Ordered (l ++ m) → Ordered m
ordered_right [] m h = h
ordered_right (u ∷ []) [] h = tt
ordered_right (u ∷ []) (v ∷ vs) h = h.2
ordered_right (u ∷ v ∷ vs) m h = ordered_right (v ∷ vs) m h.2

pub ordered_cross : (l : List Window) (v : Window) (m : List Window) → Ordered (l ++ (v ∷ m)) → All (λ (u : Window). (rank u.b0 < rank v.b0) × (rank u.b1 < rank v.b1)) l
ordered_cross [] v m h = tt
ordered_cross (u ∷ us) v m h = ((all_right (λ (x : Window). (rank u.b0 < rank x.b0) × (rank u.b1 < rank x.b1)) us (v ∷ m) (steps_all u (us ++ (v ∷ m)) h)).0, ordered_cross us v m (ordered_right (u ∷ []) (us ++ (v ∷ m)) h))

-- starts that do not fall, from p on
abbrev pub From : ℕ → List Window → Type 0
From p [] = Unit {0}
From p (u ∷ us) = (p ≤ rank u.b0) × From (rank u.b0) us

pub from_start : (p p' : ℕ) (l : List Window) → p' ≤ p → From p l → From p' l
from_start p p' [] i h = tt
from_start p p' (u ∷ us) i h = (le_trans i h.0, h.1)

pub from_append : (p B : ℕ) (l m : List Window) → p ≤ B → From p l → All (λ (u : Window). rank u.b0 ≤ B) l → From B m → From p (l ++ m)
from_append p B [] m i h a k = from_start B p m i k
from_append p B (u ∷ us) m i h a k = (h.0, from_append (rank u.b0) B us m a.0 h.1 a.1 k)

pub from_nil : (p : ℕ) (l : List Window) → From p l → From p (l ++ [])
from_nil p [] h = tt
from_nil p (u ∷ us) h = (h.0, from_nil (rank u.b0) us h.1)

pub ordered_from : (l : List Window) → Ordered l → From 0 l
ordered_from [] h = tt
ordered_from (u ∷ us) h = (zero-le, go u us h)
  where
    go : (u : Window) (us : List Window) → Steps u us → From (rank u.b0) us
    go u [] h = tt
    go u (v ∷ vs) h = (le_trans (le-suc (rank u.b0)) h.0, go v vs h.2)

-- a window between points, wider than t
pub record Wide (t : Float) (u : Window) : Type 0 where
  pub point0 : Point u.b0
  pub point1 : Point u.b1
  pub wide : T (lt t (width u.b0 u.b1))

-- points a and b that are wider than t apart, a at m or above and b at M or below
pub record Fine (t : Float) (m M : ℕ) (a b : Float) : Type 0 where
  pub point0 : Point a
  pub point1 : Point b
  pub wide : T (lt t (width a b))
  pub low : m ≤ rank a
  pub high : rank b ≤ M

abbrev pub FineInterval : Float → ℕ → ℕ → Interval → Type 0
FineInterval t m M k = Fine t m M k.from k.to

abbrev pub FineWindow : Float → ℕ → ℕ → Window → Type 0
FineWindow t m M u = Fine t m M u.b0 u.b1

-- ---- sorting
pub sorted_all : (P : Window → Type 0) (l : List Window) → All P l → All P (sorted l)
sorted_all P l h = all_sort_by (λ v w. total_less v.b0 w.b0) P l h

insert_from : (p : ℕ) (u : Window) (l : List Window) → Point u.b0 → All (λ (v : Window). Point v.b0) l → p ≤ rank u.b0 → From p l → From p (insert u l)
unfolding insert_by
insert_from p u [] g G i h = (i, tt)
insert_from p u (v ∷ vs) g G i h =
    by_cases (λ (c : Bool). From p (cond c (v ∷ insert u vs) (u ∷ v ∷ vs))) (total_less v.b0 u.b0)
    (λ y. (h.0, insert_from (rank v.b0) u vs g G.1 (total_yes G.0 g y) h.1))
    (λ n. (i, (total_no G.0 g n, h.1)))

pub sorted_from : (p : ℕ) (l : List Window) → All (λ (v : Window). Point v.b0) l → All (λ (v : Window). p ≤ rank v.b0) l → From p (sorted l)
unfolding sort_by
sorted_from p [] G h = tt
sorted_from p (u ∷ us) G h = insert_from p u (sorted us) G.0 (sorted_all (λ (v : Window). Point v.b0) us G.1) h.0 (sorted_from p us G.1 h.1)

module _ {t : Float} (t0 : Nonneg t) where
  -- ---- the sides of the run
  not_all : (w0 : Float) → Point w0 → (u : Window) (us : List Window) → Point u.b1 → All (Wide t) us → Steps u us → T (not (all (ends_after (sub binary64 w0 t)) (u ∷ us))) → rank u.b1 ≤ rank w0
  unfolding all
  not_all w0 g u [] gu G o = by_cases (λ (c : Bool). T (not (c && true)) → rank u.b1 ≤ rank w0) (lt (sub binary64 w0 t) u.b1) (λ y h. absurd h) (λ n i. run_left t0 g gu n)
  not_all w0 g u (v ∷ vs) gu G o = by_cases (λ (c : Bool). T (not (c && all (ends_after (sub binary64 w0 t)) (v ∷ vs))) → rank u.b1 ≤ rank w0) (lt (sub binary64 w0 t) u.b1)
      (λ y h. let r = not_all w0 g v vs G.0.point1 G.1 o.2 h in let k = o.1 in omega arith)
      (λ n i. run_left t0 g gu n)

  pub before_low : (w0 : Float) → Point w0 → (l : List Window) → All (Wide t) l → Ordered l → All (λ (u : Window). rank u.b1 ≤ rank w0) (drop_while_end (ends_after (sub binary64 w0 t)) l)
  unfolding drop_while_end
  before_low w0 g [] G o = tt
  before_low w0 g (u ∷ us) G o = by_cases (λ (c : Bool). All (λ (u : Window). rank u.b1 ≤ rank w0) (cond c [] (u ∷ drop_while_end (ends_after (sub binary64 w0 t)) us))) (all (ends_after (sub binary64 w0 t)) (u ∷ us))
      (λ y. tt)
      (λ n. (not_all w0 g u us G.0.point1 G.1 o n, before_low w0 g us G.1 (ordered_right (u ∷ []) us o)))

  pub behind_high : (w1 : Float) → Point w1 → (l : List Window) → All (Wide t) l → Ordered l → All (λ (u : Window). rank w1 ≤ rank u.b0) (drop_while (starts_before (add binary64 w1 t)) l)
  unfolding drop_while
  behind_high w1 g [] G o = tt
  behind_high w1 g (u ∷ us) G o = by_cases (λ (c : Bool). All (λ (u : Window). rank w1 ≤ rank u.b0) (cond c (drop_while (starts_before (add binary64 w1 t)) us) (u ∷ us))) (lt u.b0 (add binary64 w1 t))
      (λ y. behind_high w1 g us G.1 (ordered_right (u ∷ []) us o))
      (λ n. let i = run_right t0 g G.0.point0 n in (i, all_map (λ x k. let a = k.0 in omega arith) us (steps_all u us o)))
