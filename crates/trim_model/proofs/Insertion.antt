-- Insertion by start: of windows with different starts it does not matter which is set in first, so sorting is setting them in one by one, and a sorted list stays. Assumes nothing.
use Prim.Native.Nat.{ℕ, ◌≤◌, ◌<◌}
use mathlib.Core.Bool.{Bool, true, false, not, cond}
use mathlib.Core.List.{List, [], ◌∷◌, ◌++◌, append-nil}
use mathlib.Core.Path.{◌≡◌, refl, sym, ap, ◌∙◌}
use native.Mathlib.Decide.{dec_le}
use native.Mathlib.Omega.{arith}
use lib.Dec.{T}
use Rattle.nat_laws.specs.Lists.{insert_by, sort_by}
use Rattle.float64.specs.TotalOrder.{total_less}
use Rattle.nat_laws.proofs.Tests.{holds, fails}
use Rattle.trim_model.specs.Windows.{Window, insert, sorted}
use Rattle.better.specs.Claim.{All, Pairs, Point}
use Rattle.trim_model.proofs.Ranks.{rank, total_yes, total_no, by_cases}
use Rattle.trim_model.proofs.Lists.{all_map, all_append, all_left, all_right}
use Rattle.trim_model.proofs.Windows.{Ordered, steps_all, ordered_right, From, sorted_all}

-- the windows of the first list, set in one by one
unfoldable pub insert_all : List Window → List Window → List Window
insert_all [] l = l
insert_all (n ∷ ns) l = insert_all ns (insert n l)

abbrev pub Start : Window → Type 0
Start u = Point u.b0

abbrev pub Differ : Window → Window → Type 0
Differ u v = (rank u.b0 ≡ rank v.b0) → ⊥

insert_by_lem : (u v : Window) (l : List Window) (b : Bool) → total_less v.b0 u.b0 ≡ b → insert u (v ∷ l) ≡ cond b (v ∷ insert u l) (u ∷ v ∷ l)
unfolding insert_by
insert_by_lem u v l b e = ap (λ (c : Bool). cond c (v ∷ insert u l) (u ∷ v ∷ l)) e

-- u stands before v, or behind it
first : (u v : Window) → Start u → Start v → rank u.b0 < rank v.b0 → (l : List Window) → insert u (v ∷ l) ≡ u ∷ v ∷ l
first u v g k h l = insert_by_lem u v l false (by_cases (λ (c : Bool). (T c → T (total_less v.b0 u.b0)) → c ≡ false) (total_less v.b0 u.b0) (λ y f. let i = total_yes k g (f tt) in let z : ⊥ = omega arith in absurd z) (λ n f. refl) (λ z. z))

later : (u v : Window) → Start u → Start v → rank v.b0 < rank u.b0 → (l : List Window) → insert u (v ∷ l) ≡ v ∷ insert u l
later u v g k h l = insert_by_lem u v l true (by_cases (λ (c : Bool). (T (not c) → T (not (total_less v.b0 u.b0))) → c ≡ true) (total_less v.b0 u.b0) (λ y f. refl) (λ n f. let i = total_no k g (f tt) in let z : ⊥ = omega arith in absurd z) (λ z. z))

insert_comm : (u v : Window) → Start u → Start v → Differ u v → (l : List Window) → All Start l → insert u (insert v l) ≡ insert v (insert u l)
insert_comm u v g k d [] G = nil (dec_le (rank u.b0) (rank v.b0))
  where
    one : (a : Window) → insert a [] ≡ a ∷ []
    one a = unfold insert_by in refl

    nil : Dec (rank u.b0 ≤ rank v.b0) → insert u (insert v []) ≡ insert v (insert u [])
    nil (yes h) = let z : rank u.b0 < rank v.b0 = omega (arith, d) in ap (insert u) (one v) ∙ first u v g k z [] ∙ ap (λ (l : List Window). u ∷ l) (sym (one v)) ∙ sym (later v u k g z []) ∙ ap (insert v) (sym (one u))
    nil (no f) = let z : rank v.b0 < rank u.b0 = omega arith in ap (insert u) (one v) ∙ later u v g k z [] ∙ ap (λ (l : List Window). v ∷ l) (one u) ∙ sym (first v u k g z []) ∙ ap (insert v) (sym (one u))
insert_comm u v g k d (x ∷ xs) G = go (total_less x.b0 u.b0) refl (total_less x.b0 v.b0) refl (insert_comm u v g k d xs G.1)
  where
    go : (a : Bool) → total_less x.b0 u.b0 ≡ a → (b : Bool) → total_less x.b0 v.b0 ≡ b → insert u (insert v xs) ≡ insert v (insert u xs) → insert u (insert v (x ∷ xs)) ≡ insert v (insert u (x ∷ xs))
    go false a false b r =
        let eu = insert_by_lem u x xs false a in
        let ev = insert_by_lem v x xs false b in
        ap (insert u) ev ∙ (elim (dec_le (rank u.b0) (rank v.b0)) [
          | yes h ↦ let z : rank u.b0 < rank v.b0 = omega (arith, d) in first u v g k z (x ∷ xs) ∙ ap (λ (l : List Window). u ∷ l) (sym ev) ∙ sym (later v u k g z (x ∷ xs))
          | no f ↦ let z : rank v.b0 < rank u.b0 = omega arith in later u v g k z (x ∷ xs) ∙ ap (λ (l : List Window). v ∷ l) eu ∙ sym (first v u k g z (x ∷ xs))
        ]) ∙ ap (insert v) (sym eu)
    go false a true b r =
        let eu = insert_by_lem u x xs false a in
        let ev = insert_by_lem v x xs true b in
        let i = total_no G.0 g (fails (total_less x.b0 u.b0) a) in
        let j = total_yes G.0 k (holds (total_less x.b0 v.b0) b) in
        let z : rank u.b0 < rank v.b0 = omega (arith, d) in
        ap (insert u) ev ∙ insert_by_lem u x (insert v xs) false a ∙ ap (λ (l : List Window). u ∷ l) (sym ev) ∙ sym (later v u k g z (x ∷ xs)) ∙ ap (insert v) (sym eu)
    go true a false b r =
        let eu = insert_by_lem u x xs true a in
        let ev = insert_by_lem v x xs false b in
        let i = total_yes G.0 g (holds (total_less x.b0 u.b0) a) in
        let j = total_no G.0 k (fails (total_less x.b0 v.b0) b) in
        let z : rank v.b0 < rank u.b0 = omega (arith, d) in
        ap (insert u) ev ∙ later u v g k z (x ∷ xs) ∙ ap (λ (l : List Window). v ∷ l) eu ∙ sym (insert_by_lem v x (insert u xs) false b) ∙ ap (insert v) (sym eu)
    go true a true b r =
        let eu = insert_by_lem u x xs true a in
        let ev = insert_by_lem v x xs true b in
        ap (insert u) ev ∙ insert_by_lem u x (insert v xs) true a ∙ ap (λ (l : List Window). x ∷ l) r ∙ sym (insert_by_lem v x (insert u xs) true b) ∙ ap (insert v) (sym eu)

-- ---- starts that differ
insert_back : (P : Window → Type 0) (u : Window) (l : List Window) → All P (insert u l) → P u × All P l
unfolding insert_by
insert_back P u [] = λ h. h
insert_back P u (v ∷ vs) = by_cases (λ (c : Bool). All P (cond c (v ∷ insert u vs) (u ∷ v ∷ vs)) → P u × All P (v ∷ vs)) (total_less v.b0 u.b0)
    (λ y h. let r = insert_back P u vs h.1 in (r.0, (h.0, r.1)))
    (λ n h. (h.0, h.1))

insert_differ : (u : Window) (l : List Window) → Pairs Differ (insert u l) → All (Differ u) l × Pairs Differ l
unfolding insert_by
insert_differ u [] = λ h. (tt, tt)
insert_differ u (v ∷ vs) = by_cases (λ (c : Bool). Pairs Differ (cond c (v ∷ insert u vs) (u ∷ v ∷ vs)) → All (Differ u) (v ∷ vs) × Pairs Differ (v ∷ vs)) (total_less v.b0 u.b0)
    (λ y h. let r = insert_differ u vs h.1 in let s = insert_back (Differ v) u vs h.0 in (((λ e. s.0 (sym e)), r.0), (s.1, r.1)))
    (λ n h. h)

pub sorted_back : (P : Window → Type 0) (l : List Window) → All P (sorted l) → All P l
unfolding sort_by
sorted_back P [] h = tt
sorted_back P (u ∷ us) h = let r = insert_back P u (sorted us) h in (r.0, sorted_back P us r.1)

pub sorted_differ : (l : List Window) → Pairs Differ (sorted l) → Pairs Differ l
unfolding sort_by
sorted_differ [] h = tt
sorted_differ (u ∷ us) h = let r = insert_differ u (sorted us) h in (sorted_back (Differ u) us r.0, sorted_differ us r.1)

pub ordered_differ : (l : List Window) → Ordered l → Pairs Differ l
ordered_differ [] o = tt
ordered_differ (u ∷ us) o = (all_map (λ v k. let a = k.0 in λ e. omega arith) us (steps_all u us o), ordered_differ us (ordered_right (u ∷ []) us o))

pub pairs_left : (l m : List Window) → Pairs Differ (l ++ m) → Pairs Differ l
pairs_left [] m h = tt
pairs_left (u ∷ us) m h = (all_left (Differ u) us m h.0, pairs_left us m h.1)

-- ---- a list whose starts rise is sorted
pub sorted_self : (p : ℕ) (l : List Window) → All Start l → From p l → Pairs Differ l → sorted l ≡ l
unfolding sort_by
sorted_self p [] G h d = refl
sorted_self p (u ∷ us) G h d = ap (insert u) (sorted_self (rank u.b0) us G.1 h.1 d.1) ∙ front us G.1 h.1 d.0
  where
    front : (us : List Window) → All Start us → From (rank u.b0) us → All (Differ u) us → insert u us ≡ u ∷ us
    front [] G h d = nil
      where
        nil : insert u [] ≡ u ∷ []
        nil = unfold insert_by in refl
    front (v ∷ vs) G' h d = let i = h.0 in let e = d.0 in let z : rank u.b0 < rank v.b0 = omega (arith, e) in first u v G.0 G'.0 z vs

-- ---- the new windows are set in one by one
through : (n : Window) → Start n → (l ns : List Window) → All Start l → All Start ns → All (Differ n) l → sorted (l ++ (n ∷ ns)) ≡ insert n (sorted (l ++ ns))
unfolding sort_by
through n g [] ns G K d = refl
through n g (u ∷ us) ns G K d =
    ap (insert u) (through n g us ns G.1 K d.1)
    ∙ insert_comm u n G.0 g (λ e. d.0 (sym e)) (sorted (us ++ ns)) (sorted_all Start (us ++ ns) (all_append Start us ns G.1 K))

pairs_move : (n : Window) (l ns : List Window) → Pairs Differ (l ++ (n ∷ ns)) → All (Differ n) (l ++ ns) × Pairs Differ (l ++ ns)
pairs_move n [] ns h = h
pairs_move n (u ∷ us) ns h =
    let r = pairs_move n us ns h.1 in
    let a = all_right (Differ u) us (n ∷ ns) h.0 in
    (((λ e. a.0 (sym e)), r.0), (all_append (Differ u) us ns (all_left (Differ u) us (n ∷ ns) h.0) a.1, r.1))

pub sorted_is : (l ns : List Window) → All Start l → All Start ns → Pairs Differ (l ++ ns) → sorted (l ++ ns) ≡ insert_all ns (sorted l)
unfolding sort_by insert_all
sorted_is l [] G K d = ap sorted (append-nil l)
sorted_is l (n ∷ ns) G K d =
    let m = pairs_move n l ns d in
    through n K.0 l ns G K.1 (all_left (Differ n) l ns m.0) ∙ sorted_is (n ∷ l) ns (K.0, G) K.1 m

-- between what stands before and what stands behind
insert_mid : (n : Window) → Start n → (pre m suf : List Window) → All (λ (u : Window). Start u × (rank u.b0 < rank n.b0)) pre → All (λ (u : Window). Start u × (rank n.b0 < rank u.b0)) suf → insert n (pre ++ (m ++ suf)) ≡ pre ++ (insert n m ++ suf)
unfolding insert_by
insert_mid n g (u ∷ us) m suf a b = later n u g a.0.0 a.0.1 (us ++ (m ++ suf)) ∙ ap (λ (l : List Window). u ∷ l) (insert_mid n g us m suf a.1 b)
insert_mid n g [] [] [] a b = refl
insert_mid n g [] [] (v ∷ vs) a b = first n v g b.0.0 b.0.1 vs
insert_mid n g [] (x ∷ xs) suf a b = by_cases (λ (c : Bool). cond c (x ∷ insert n (xs ++ suf)) (n ∷ x ∷ (xs ++ suf)) ≡ cond c (x ∷ insert n xs) (n ∷ x ∷ xs) ++ suf) (total_less x.b0 n.b0) (λ z. ap (λ (l : List Window). x ∷ l) (insert_mid n g [] xs suf tt b)) (λ y. refl)

pub insert_all_mid : (ns pre m suf : List Window) → All Start ns → All (λ (n : Window). All (λ (u : Window). Start u × (rank u.b0 < rank n.b0)) pre) ns → All (λ (n : Window). All (λ (u : Window). Start u × (rank n.b0 < rank u.b0)) suf) ns → insert_all ns (pre ++ (m ++ suf)) ≡ pre ++ (insert_all ns m ++ suf)
unfolding insert_all
insert_all_mid [] pre m suf G a b = refl
insert_all_mid (n ∷ ns) pre m suf G a b = ap (insert_all ns) (insert_mid n G.0 pre m suf a.0 b.0) ∙ insert_all_mid ns pre (insert n m) suf G.1 a.1 b.1
