-- The windows that an addition leaves lie within the bounds of those that it met and of the new one; so where the windows of an edge lie on it they do so after an addition: add_fine, added_on. Assumes nothing.
use Prim.Native.Nat.{ℕ, ◌≤◌}
use native.Mathlib.Omega.{arith}
use mathlib.Core.List.{List, ◌++◌}
use mathlib.Core.Path.{subst}
use lib.Dec.{T}
use lib.Ieee.{Float, lt, le}
use Rattle.float64.specs.Scalar.{zero64}
use Rattle.source_inserts.specs.of_better.Claim.{All, Point}
use Rattle.source_inserts.specs.of_better.Stretches.{better_of}
use Rattle.spread_offers.proofs.laws_of_better.Stretches.{better_separates}
use Rattle.float_laws.proofs.Order.{zero_finite}
use Rattle.float_bounds.specs.Within.{Inside}
use Rattle.float_bounds.proofs.Ends.{start_zero}
use Rattle.source.specs.Distance.{lowest_of}
use Rattle.source_inserts.specs.of_trim_model.Intervals.{width, tiny_of, wide_of}
use Rattle.source_inserts.specs.of_trim_model.Windows.{Window, fresh, sorted}
use Rattle.source_inserts.specs.of_trim_model.Model.{Candidate, as_window, admits}
use Rattle.source_inserts.specs.of_trim_model.Claim.{Proper}
use Rattle.source_inserts.specs.of_trim_model.Add.{before, run, behind, start, visits, add_to}
use Rattle.source_inserts.proofs.laws_of_trim_model.Ranks.{rank, rank_le, le_yes, Nonneg, wide_no, tiny_nonneg}
use Rattle.source_inserts.proofs.laws_of_trim_model.Model.{not_or}
use Rattle.source_inserts.proofs.laws_of_trim_model.Lists.{all_map, all_map2, all_append, all_left, all_right}
use Rattle.source_inserts.proofs.laws_of_trim_model.Windows.{parted, sorted_all, Wide, FineWindow}
use Rattle.source_inserts.proofs.laws_of_trim_model.Order.{walked_ok, news_fine}
use Rattle.source_inserts.proofs.laws_of_trim_model.Demand3.{stretches}
use Rattle.inside_edges.specs.Inside.{OnLength}

-- m and M are ranks of doubles, below and above
pub add_fine : {t : Float} → Nonneg t → {w : Window} → Wide t w → (made m M : ℕ) (l : List Window) → m ≤ rank w.b0 → rank w.b1 ≤ M → All (FineWindow t m M) l → All (FineWindow t m M) (add_to better_of t w l made).live
unfolding add_to
add_fine {t} t0 {w} W made m M l low high a =
    let B = stretches better_separates in
    let P = FineWindow t m M in
    let pre = before t w l in
    let met = run t w l in
    let suf = behind t w l in
    let s = visits better_of t w met (start w made) in
    let news = fresh w s.made (wide_of t s.keep) in
    let all = subst (All P) (parted t w l) a in
    let rest = all_right P pre (met ++ suf) all in
    let here = all_left P met suf rest in
    let wider : (u : Window) → FineWindow t (rank w.b0) (rank w.b1) u → P u = λ u k. let x = k.low in let y = k.high in record { point0 = k.point0; point1 = k.point1; wide = k.wide; low = omega (arith, x, low); high = omega (arith, y, high) } in
    let new : All P news = all_map {P = FineWindow t (rank w.b0) (rank w.b1)} {Q = P} wider news (news_fine t0 B W made m M met here) in
    let survivors : All P s.survivors = (walked_ok t0 B W made m M met here).fine in
    all_append P pre (sorted (s.survivors ++ news) ++ suf) (all_left P pre (met ++ suf) all)
    (all_append P (sorted (s.survivors ++ news)) suf (sorted_all P (s.survivors ++ news) (all_append P s.survivors news survivors new)) (all_right P met suf rest))

-- from 0 to the length l, by ranks and by floats
pub fine_on : {t l : Float} → Point zero64 → Point l → (u : Window) → FineWindow t (rank zero64) (rank l) u → OnLength l u
fine_on z p u k = (rank_le z k.point0 k.low, rank_le k.point1 p k.high)

pub on_fine : {t l : Float} → Point zero64 → Point l → (u : Window) → Wide t u → OnLength l u → FineWindow t (rank zero64) (rank l) u
on_fine z p u w k = record { point0 = w.point0; point1 = w.point1; wide = w.wide; low = le_yes z w.point0 k.0; high = le_yes w.point1 p k.1 }

zero_point : Point zero64
zero_point = record { number = zero_finite; double = start_zero.double }

-- an addition to an edge whose windows lie on it
pub added_on : (limit : Float) (len : ℕ → Float) (c : Candidate) → Proper len c → Inside (len c.edge) c.b0 c.b1 → T (admits limit len c) → (made : ℕ) (us : List Window)
    → All (Wide (tiny_of (len c.edge))) us → All (OnLength (len c.edge)) us → All (OnLength (len c.edge)) (add_to better_of (tiny_of (len c.edge)) (as_window c) us made).live
added_on limit len c p i y made us w o =
    let l = len c.edge in
    let t = tiny_of l in
    let t0 = tiny_nonneg l p.length p.positive in
    let W : Wide t (as_window c) = record { point0 = p.start; point1 = p.end; wide = wide_no t0 p.start p.end (not_or (le (width c.b0 c.b1) t) (lt limit (lowest_of c.src c.b0 c.b1)) y) } in
    let P = FineWindow t (rank zero64) (rank l) in
    let a : All P us = all_map2 {P = Wide t} {Q = OnLength l} {R = P} (on_fine {t = t} {l = l} zero_point p.length) us w o in
    all_map {P = P} {Q = OnLength l} (fine_on {t = t} {l = l} zero_point p.length) (add_to better_of t (as_window c) us made).live
    (add_fine t0 W made (rank zero64) (rank l) us (le_yes zero_point p.start i.from) (le_yes p.end p.length i.upto) a)
