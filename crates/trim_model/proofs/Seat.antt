-- The new windows set in by one walk forward: each is seated before the first window behind the last one seated that does not start before it. Assumes nothing.
use Prim.Native.Nat.{ℕ, suc, ◌≤◌, ◌<◌}
use mathlib.Core.Bool.{Bool, true, not, cond}
use mathlib.Core.List.{List, [], ◌∷◌, ◌++◌, append_assoc}
use mathlib.Core.Path.{◌≡◌, refl, sym, ap, ◌∙◌, subst}
use native.Mathlib.Omega.{arith}
use lib.Dec.{T}
use lib.Ieee.{Float, le}
use lib.Ieee.Bits.{is_true}
use Rattle.nat_laws.specs.Lists.{insert_by}
use Rattle.float64.specs.TotalOrder.{total_less}
use Rattle.nat_laws.proofs.Tests.{holds}
use Rattle.float_laws.proofs.Total.{total_lt, total_trans}
use Rattle.better.specs.Stretches.{Interval}
use Rattle.better.specs.Claim.{All, Pairs, Point}
use Rattle.trim_model.specs.Intervals.{width, push_if, wide_of}
use Rattle.trim_model.specs.Windows.{Window, fresh, insert, take_while, drop_while}
use Rattle.trim_model.specs.Seat.{starts_under, seat_front, seat_rest, seat_all}
use Rattle.trim_model.specs.Add.{Better, before, run, behind, add_to}
use Rattle.trim_model.proofs.Ranks.{rank, rank_lt, Nonneg, wide_pos, by_cases}
use Rattle.trim_model.proofs.Lists.{all_map, all_map2, all_append, all_left, all_right, take_drop}
use Rattle.trim_model.proofs.Intervals.{Rise, rise_start}
use Rattle.trim_model.proofs.Windows.{fresh_all, parted, Wide, FineWindow}
use Rattle.trim_model.proofs.Run.{Stretches}
use Rattle.trim_model.proofs.Order.{Tidy, top, walked_ok, news_fine, lows_of, run_fine}
use Rattle.trim_model.proofs.Insertion.{insert_all, Start}
use Rattle.trim_model.proofs.InPlace.{ended, add_in_place}

-- v starts before n, as a fact
abbrev pub Under : Window → Window → Type 0
Under n v = starts_under n v ≡ true

-- the whole list
abbrev pub seat : Window → List Window → List Window → List Window
seat n xs zs = xs ++ (take_while (starts_under n) zs ++ (n ∷ drop_while (starts_under n) zs))

-- the whole list is the two parts
pub seat_parts : (n : Window) (xs zs : List Window) → seat n xs zs ≡ seat_front n xs zs ++ seat_rest n zs
seat_parts n xs zs =
    ap (λ (l : List Window). xs ++ l) (sym (append_assoc (take_while (starts_under n) zs) (n ∷ []) (drop_while (starts_under n) zs)))
    ∙ sym (append_assoc xs (take_while (starts_under n) zs ++ (n ∷ [])) (drop_while (starts_under n) zs))

insert_at_lem : (n : Window) (zs : List Window) → insert n zs ≡ take_while (starts_under n) zs ++ (n ∷ drop_while (starts_under n) zs)
unfolding insert_by take_while drop_while
insert_at_lem n [] = refl
insert_at_lem n (v ∷ vs) = by_cases (λ (c : Bool). cond c (v ∷ insert n vs) (n ∷ v ∷ vs) ≡ cond c (v ∷ take_while (starts_under n) vs) [] ++ (n ∷ cond c (drop_while (starts_under n) vs) (v ∷ vs))) (starts_under n v) (λ y. ap (λ (l : List Window). v ∷ l) (insert_at_lem n vs)) (λ z. refl)

-- insertion is seating, behind windows that start before n
pub insert_seat : (n : Window) (xs zs : List Window) → All (Under n) xs → insert n (xs ++ zs) ≡ seat n xs zs
unfolding insert_by
insert_seat n [] zs h = insert_at_lem n zs
insert_seat n (u ∷ us) zs h = ap (λ (c : Bool). cond c (u ∷ insert n (us ++ zs)) (n ∷ u ∷ (us ++ zs))) h.0 ∙ ap (λ (l : List Window). u ∷ l) (insert_seat n us zs h.1)

-- ---- one new window after the other
-- none is left
pub seat_all_nil : (xs zs : List Window) → seat_all [] xs zs ≡ xs ++ zs
unfolding seat_all
seat_all_nil xs zs = refl

-- the next one is seated, then the others
pub seat_all_next : (n : Window) (ns xs zs : List Window) → seat_all (n ∷ ns) xs zs ≡ seat_all ns (seat_front n xs zs) (seat_rest n zs)
unfolding seat_all
seat_all_next n ns xs zs = refl

-- the windows left to be seated rise by start, and each of xs starts before each of them
pub record Ready (ns xs zs : List Window) : Type 0 where
  pub news : All Start ns
  pub done : All Start xs
  pub rest : All Start zs
  pub below : All (λ (n : Window). All (Under n) xs) ns
  pub rise : Pairs (λ (n n' : Window). total_less n.b0 n'.b0 ≡ true) ns

take_all : (p : Window → Bool) (l : List Window) → All (λ (u : Window). p u ≡ true) (take_while p l)
unfolding take_while
take_all p [] = tt
take_all p (u ∷ us) = by_cases (λ (c : Bool). (T c → p u ≡ true) → All (λ (u : Window). p u ≡ true) (cond c (u ∷ take_while p us) [])) (p u) (λ y f. (f tt, take_all p us)) (λ n f. tt) (is_true (p u))

under_trans : (u n n' : Window) → Start u → Start n → Start n' → Under n u → total_less n.b0 n'.b0 ≡ true → Under n' u
under_trans u n n' a b c h k = is_true (total_less u.b0 n'.b0) (total_trans u.b0 n.b0 n'.b0 a.double b.double c.double (holds (total_less u.b0 n.b0) h) (holds (total_less n.b0 n'.b0) k))

-- after seating n the part up to and including n starts before the next one
pub seat_under : (n n' : Window) (xs zs : List Window) → Start n → Start n' → All Start zs → total_less n.b0 n'.b0 ≡ true → All (Under n') xs → All (Under n') (seat_front n xs zs)
seat_under n n' xs zs g k Z h X =
    let tk = take_while (starts_under n) zs in
    let s = all_left Start tk (drop_while (starts_under n) zs) (subst (All Start) (sym (take_drop (starts_under n) zs)) Z) in
    all_append (Under n') xs (tk ++ (n ∷ [])) X (all_append (Under n') tk (n ∷ []) (all_map2 (λ u a b. under_trans u n n' a g k b h) tk s (take_all (starts_under n) zs)) (h, tt))

all_both : (P Q : Window → Type 0) (l : List Window) → All P l → All Q l → All (λ (x : Window). P x × Q x) l
all_both P Q [] h k = tt
all_both P Q (x ∷ xs) h k = ((h.0, k.0), all_both P Q xs h.1 k.1)

-- seating the next one keeps the rest ready
pub ready_next : (n : Window) (ns xs zs : List Window) → Ready (n ∷ ns) xs zs → Ready ns (seat_front n xs zs) (seat_rest n zs)
ready_next n ns xs zs r =
    let tk = take_while (starts_under n) zs in
    let s = subst (All Start) (sym (take_drop (starts_under n) zs)) r.rest in
    record {
      news = r.news.1;
      done = all_append Start xs (tk ++ (n ∷ [])) r.done (all_append Start tk (n ∷ []) (all_left Start tk (seat_rest n zs) s) (r.news.0, tt));
      rest = all_right Start tk (seat_rest n zs) s;
      below = all_map2 (λ n' k b. seat_under n n' xs zs r.news.0 k.0 r.rest k.1 b) ns (all_both Start (λ (n' : Window). total_less n.b0 n'.b0 ≡ true) ns r.news.1 r.rise.0) r.below.1;
      rise = r.rise.1;
    }

-- setting them in one by one is seating them one behind the other
pub seat_all_is : (ns xs zs : List Window) → Ready ns xs zs → insert_all ns (xs ++ zs) ≡ seat_all ns xs zs
unfolding insert_all seat_all
seat_all_is [] xs zs r = refl
seat_all_is (n ∷ ns) xs zs r = ap (insert_all ns) (insert_seat n xs zs r.below.0 ∙ seat_parts n xs zs) ∙ seat_all_is ns (seat_front n xs zs) (seat_rest n zs) (ready_next n ns xs zs r)

-- ---- the new windows of an addition
less : {x y : Float} → Point x → Point y → rank x < rank y → total_less x y ≡ true
less {x} {y} g k h = is_true (total_less x y) (total_lt x y (rank_lt g k h))

-- starts of intervals that rise from p on
rise_all : (p : ℕ) (ks : List Interval) (q : ℕ) → Rise p ks q → All (λ (k : Interval). Point k.from × (p ≤ rank k.from)) ks
rise_all p [] q h = tt
rise_all p (k ∷ ks) q h = let a = h.0.above in let r = h.0.rises in ((h.0.point0, a), rise_all p ks q (rise_start (rank k.to) p ks q (omega arith) h.1))

wide_all : (t : Float) (P : Interval → Type 0) (ks : List Interval) → All P ks → All P (wide_of t ks)
unfolding wide_of
wide_all t P [] h = tt
wide_all t P (k ∷ ks) h = by_cases (λ (c : Bool). All P (push_if c k ++ wide_of t ks)) (not (le (width k.from k.to) t)) (λ y. (h.0, wide_all t P ks h.1)) (λ n. wide_all t P ks h.1)

wide_rise : (t : Float) (p : ℕ) (ks : List Interval) (q : ℕ) → Rise p ks q → Pairs (λ (k k' : Interval). total_less k.from k'.from ≡ true) (wide_of t ks)
unfolding wide_of
wide_rise t p [] q h = tt
wide_rise t p (k ∷ ks) q h =
    let r = h.0.rises in
    let later = all_map (λ k' i. let j = i.1 in less h.0.point0 i.0 (omega arith)) (wide_of t ks) (wide_all t (λ (k' : Interval). Point k'.from × (rank k.to ≤ rank k'.from)) ks (rise_all (rank k.to) ks q h.1)) in
    by_cases (λ (c : Bool). Pairs (λ (k k' : Interval). total_less k.from k'.from ≡ true) (push_if c k ++ wide_of t ks)) (not (le (width k.from k.to) t)) (λ y. (later, wide_rise t (rank k.to) ks q h.1)) (λ n. wide_rise t (rank k.to) ks q h.1)

fresh_pairs : (R : Float → Float → Type 0) (w : Window) (n : ℕ) (ks : List Interval) → Pairs (λ (k k' : Interval). R k.from k'.from) ks → Pairs (λ (u v : Window). R u.b0 v.b0) (fresh w n ks)
unfolding fresh
fresh_pairs R w n [] h = tt
fresh_pairs R w n (k ∷ ks) h = (fresh_all (λ a b. R k.from a) w (suc n) ks h.0, fresh_pairs R w (suc n) ks h.1)

module _ {t : Float} (t0 : Nonneg t) {better : Better} (B : Stretches better) {w : Window} (W : Wide t w) (made : ℕ) (l : List Window) (h : Tidy t l) where
  -- the new windows
  abbrev pub news_of : List Window
  news_of = fresh w (ended t0 B W made l).made (wide_of t (ended t0 B W made l).keep)

  news_fine_of : All (FineWindow t (rank w.b0) (rank w.b1)) news_of
  news_fine_of = news_fine t0 B W made 0 (top (run t w l)) (run t w l) (run_fine t0 B W made l h)

  old : All (Wide t) (before t w l ++ (run t w l ++ behind t w l))
  old = subst (All (Wide t)) (parted t w l) h.wides

  -- each window before the run starts before each new one
  pub before_news : All (λ (n : Window). All (Under n) (before t w l)) news_of
  before_news = all_map
      (λ n k. all_map2 (λ u s i. let p = wide_pos t0 s.point0 s.point1 s.wide in let j = k.low in less s.point0 k.point0 (omega arith)) (before t w l) (all_left (Wide t) (before t w l) (run t w l ++ behind t w l) old) (lows_of t0 B W made l h))
      news_of news_fine_of

  -- the new windows rise by start
  pub news_rise : Pairs (λ (n n' : Window). total_less n.b0 n'.b0 ≡ true) news_of
  news_rise = fresh_pairs (λ x y. total_less x y ≡ true) w (ended t0 B W made l).made (wide_of t (ended t0 B W made l).keep)
      (wide_rise t (rank w.b0) (ended t0 B W made l).keep (rank w.b1) (walked_ok t0 B W made 0 (top (run t w l)) (run t w l) (run_fine t0 B W made l h)).rise)

  -- so they can be seated, one after the other, from what stands before the run on
  pub news_ready : Ready news_of (before t w l) ((ended t0 B W made l).survivors ++ behind t w l)
  news_ready = record {
    news = all_map (λ n k. k.point0) news_of news_fine_of;
    done = all_map (λ u k. k.point0) (before t w l) (all_left (Wide t) (before t w l) (run t w l ++ behind t w l) old);
    rest = all_append Start (ended t0 B W made l).survivors (behind t w l)
        (all_map (λ u k. k.point0) (ended t0 B W made l).survivors (walked_ok t0 B W made 0 (top (run t w l)) (run t w l) (run_fine t0 B W made l h)).fine)
        (all_map (λ u k. k.point0) (behind t w l) (all_right (Wide t) (run t w l) (behind t w l) (all_right (Wide t) (before t w l) (run t w l ++ behind t w l) old)));
    below = before_news;
    rise = news_rise;
  }

  -- the addition, done by one walk forward
  pub add_seated : (add_to better t w l made).live ≡ seat_all news_of (before t w l) ((ended t0 B W made l).survivors ++ behind t w l)
  add_seated = add_in_place t0 B W made l h ∙ seat_all_is news_of (before t w l) ((ended t0 B W made l).survivors ++ behind t w l) news_ready
