-- Intervals over the front of a buffer. Assumes nothing.
--     stored_pairs   a buffer that holds m of them and is else as it was
--     stored_short   those that it has no entries for are not written
--     copied_next, copied_full     a copy of one more, and of one that there is no entry for
--     short, answers, said    what `better` ensures; answers_of, spared: what follows
use Rattle.std.specs.Prelude.{Option, Some, None}
use Prim.Native.Nat.{ℕ, zero, suc, ◌+◌, ◌*◌, ◌≤◌, ◌<◌}
use native.Mathlib.Omega.{arith}
use native.Mathlib.Numerals.{add-one}
use mathlib.Core.Path.{◌≡◌, refl, sym, ap, ◌∙◌, subst}
use mathlib.Core.Bool.{Bool, true, false, cond, ◌&&◌}
use mathlib.Core.Logic.{inl, inr}
use mathlib.Core.List.{List, [], ◌∷◌, ◌++◌}
use borrow.Author.Tests.{le-leb, lt-leb, leb-true, leb-false}
use lib.Dec.{leb}
use lib.ListN.{length, drop, get_or, set, take-append-drop}
use lib.Seq.{drop-drop, drop-set-lt}
use lib.Ieee.{Float, nan}
use Rattle.better.specs.Stretches.{Interval, interval}
use Rattle.better.specs.Buffers.{pairs, HoldsPairs, Answers, listed_number, stored, has_entries, bettering}
use Rattle.better.proofs.Pairs.{pairs_length, pairs_take, pairs_push}

pairs_cons : (m : ℕ) (a b : Float) (l : List Float) → pairs (suc m) (a ∷ b ∷ l) ≡ interval a b ∷ pairs m l
pairs_cons zero a b l = refl
pairs_cons (suc m) a b l =
    let e : suc m + suc m ≡ suc (suc (m + m)) = omega arith in
    rw e (ap (λ (z : List Interval). z ++ (interval (get_or l (m + m) nan) (get_or l (suc (m + m)) nan) ∷ [])) (pairs_cons m a b l))

pub stored_pairs : (m : ℕ) (after before : List Float) → length after ≡ length before → m + m ≤ length before → drop (m + m) after ≡ drop (m + m) before → after ≡ stored (pairs m after) before
unfolding stored
stored_pairs zero after before n h d = d
stored_pairs (suc m) [] before n h d = absurd (omega arith)
stored_pairs (suc m) (a ∷ []) before n h d = absurd (omega arith)
stored_pairs (suc m) (a ∷ b ∷ after) [] n h d = absurd (omega arith)
stored_pairs (suc m) (a ∷ b ∷ after) (x ∷ []) n h d = absurd (omega arith)
stored_pairs (suc m) (a ∷ b ∷ after) (x ∷ y ∷ before) n h d =
    let e : suc m + suc m ≡ suc (suc (m + m)) = omega arith in
    let f : drop (m + m) after ≡ drop (m + m) before = subst (λ (k : ℕ). drop k (a ∷ b ∷ after) ≡ drop k (x ∷ y ∷ before)) e d in
    rw (pairs_cons m a b after) (ap (λ (z : List Float). a ∷ b ∷ z) (stored_pairs m after before (omega arith) (omega arith) f))

pub stored_short : (gs hs : List Interval) (out : List Float) → length out < suc (suc (length gs + length gs)) → stored (gs ++ hs) out ≡ stored gs out
unfolding stored
stored_short [] [] out h = refl
stored_short [] (g ∷ hs) [] h = refl
stored_short [] (g ∷ hs) (a ∷ []) h = refl
stored_short [] (g ∷ hs) (a ∷ b ∷ out) h = absurd (omega arith)
stored_short (g ∷ gs) hs [] h = refl
stored_short (g ∷ gs) hs (a ∷ []) h = refl
stored_short (g ∷ gs) hs (a ∷ b ∷ out) h = ap (λ (z : List Float). g.from ∷ g.to ∷ z) (stored_short gs hs out (omega arith))

-- one more
pub copied_next : (i e : ℕ) (from first after : List Float) → e ≡ 2 * i → e + 1 < length after → pairs i after ≡ pairs i from → drop (i + i) after ≡ drop (i + i) first
    → let next = set (set after e (get_or from e nan)) (e + 1) (get_or from (e + 1) nan) in (pairs (i + 1) next ≡ pairs (i + 1) from) × (drop (i + 1 + (i + 1)) next ≡ drop (i + 1 + (i + 1)) first)
copied_next i e from first after s h f d =
    let t : e ≡ i + i = omega arith in
    let u : i + 1 + (i + 1) ≡ i + i + 2 = omega arith in
    let v : e + 1 ≡ suc (i + i) = omega arith in
    let x0 = get_or from e nan in
    let x1 = get_or from (e + 1) nan in (
      pairs_push after x0 x1 i e t h ∙ rw (f, add-one i, t, add-one (i + i)),
      drop-set-lt (i + 1 + (i + 1)) (set after e x0) (e + 1) x1 (omega arith)
          ∙ drop-set-lt (i + 1 + (i + 1)) after e x0 (omega arith)
          ∙ rw u
          (sym (drop-drop 2 (i + i) after) ∙ ap (drop 2) d ∙ drop-drop 2 (i + i) first),
    )

-- i of the m in front of `from` were put over `first`, and there is no entry for one more
pub copied_full : (m i : ℕ) (from first after : List Float) → i < m → length after ≡ length first → i + i ≤ length after → length after < suc (suc (i + i)) → pairs i after ≡ pairs i from → drop (i + i) after ≡ drop (i + i) first
    → (length after < length (pairs m from) + length (pairs m from)) × (after ≡ stored (pairs m from) first)
copied_full m i from first after h l b f e d =
    let gs = pairs m from in
    let parts : gs ≡ pairs i from ++ drop i gs = sym (take-append-drop i gs) ∙ ap (λ (z : List Interval). z ++ drop i gs) (pairs_take i m from (omega arith)) in (
      omega (arith, pairs_length m from),
      stored_pairs i after first l (omega arith) d
          ∙ ap (λ (z : List Interval). stored z first) e
          ∙ sym (stored_short (pairs i from) (drop i gs) first (omega (arith, pairs_length i from)))
          ∙ ap (λ (z : List Interval). stored z first) (sym parts),
    )

-- what `better` answers: where the points outgrow their buffer, and else from what its loop does
pub short : (size : ℕ) (before pts : List Float) (gs : List Interval) → size < length pts → (None, before) ≡ bettering size before pts gs
unfolding bettering
short size before pts gs h = rw (lt-leb (length pts) size h) refl

pub answers : (r : Option ℕ) (size : ℕ) (before after pts : List Float) (gs : List Interval) → length after ≡ length before → length pts ≤ size → HoldsPairs r after gs → after ≡ stored gs before
    → (r, after) ≡ bettering size before pts gs
unfolding bettering
answers None size before after pts gs l b h s =
    rw (le-leb (length pts) size b, lt-leb (length gs + length gs) (length before) (omega (arith, h, l))) (λ t. (None, s t))
answers (Some m) size before after pts gs l b h s =
    let n : length gs ≡ m = sym (ap length h.1) ∙ pairs_length m after in
    rw (le-leb (length pts) size b, le-leb (length gs + length gs) (length before) (omega (arith, h.0, l, n)), n) (λ t. (Some m, s t))

-- its number in document 01
number_of : (size : ℕ) (out pts : List Float) (gs : List Interval) → listed_number (bettering size out pts gs).0 ≡ cond (leb (length pts) size && has_entries gs out) 0 14
unfolding bettering
number_of size out pts gs = go (leb (length pts) size) (has_entries gs out) where
  go : (s t : Bool) → listed_number (cond {A = Option ℕ × List Float} s (cond t (Some (length gs)) None, stored gs out) (None, out)).0 ≡ cond (s && t) 0 14
  go true true = refl
  go true false = refl
  go false t = refl

pub said : (r : Option ℕ) (size : ℕ) (before after pts : List Float) (gs : List Interval) → (r, after) ≡ bettering size before pts gs
    → ((r, after) ≡ bettering size before pts gs) × (listed_number r ≡ cond (leb (length pts) size && has_entries gs before) 0 14)
said r size before after pts gs e = (e, ap (λ (a : Option ℕ × List Float). listed_number a.0) e ∙ number_of size before pts gs)

-- the number of a list that stands in a buffer or outgrew it
pub numbered : (r : Option ℕ) (before after : List Float) (gs : List Interval) → length after ≡ length before → HoldsPairs r after gs → HoldsPairs r after gs × (listed_number r ≡ cond (has_entries gs before) 0 14)
numbered None before after gs l h = (h, rw (lt-leb (length gs + length gs) (length before) (omega (arith, h, l))) refl)
numbered (Some m) before after gs l h =
    let n : length gs ≡ m = sym (ap length h.1) ∙ pairs_length m after in
    (h, rw (le-leb (length gs + length gs) (length before) (omega (arith, h.0, l, n))) refl)

-- ---- what follows for a caller
stored_length : (gs : List Interval) (out : List Float) → length (stored gs out) ≡ length out
unfolding stored
stored_length [] out = refl
stored_length (g ∷ gs) [] = refl
stored_length (g ∷ gs) (a ∷ []) = refl
stored_length (g ∷ gs) (a ∷ b ∷ out) = ap (λ (n : ℕ). suc (suc n)) (stored_length gs out)

pairs_stored : (gs : List Interval) (out : List Float) → length gs + length gs ≤ length out → pairs (length gs) (stored gs out) ≡ gs
unfolding stored
pairs_stored [] out h = refl
pairs_stored (g ∷ gs) [] h = absurd (omega arith)
pairs_stored (g ∷ gs) (a ∷ []) h = absurd (omega arith)
pairs_stored (g ∷ gs) (a ∷ b ∷ out) h = pairs_cons (length gs) g.from g.to (stored gs out) ∙ ap (λ (z : List Interval). g ∷ z) (pairs_stored gs out (omega arith))

drop_stored : (gs : List Interval) (out : List Float) → length gs + length gs ≤ length out → drop (length gs + length gs) (stored gs out) ≡ drop (length gs + length gs) out
unfolding stored
drop_stored [] out h = refl
drop_stored (g ∷ gs) [] h = absurd (omega arith)
drop_stored (g ∷ gs) (a ∷ []) h = absurd (omega arith)
drop_stored (g ∷ gs) (a ∷ b ∷ out) h =
    let e : suc (length gs) + suc (length gs) ≡ suc (suc (length gs + length gs)) = omega arith in
    rw e (drop_stored gs out (omega arith))

module _ (size : ℕ) (out pts : List Float) (gs : List Interval) where
  meant : Answers (bettering size out pts gs).0 size (bettering size out pts gs).1 pts gs
  unfolding bettering
  meant = go (leb (length pts) size) (has_entries gs out) refl refl where
    go : (s t : Bool) → leb (length pts) size ≡ s → has_entries gs out ≡ t
        → let a = cond {A = Option ℕ × List Float} s (cond t (Some (length gs)) None, stored gs out) (None, out) in Answers a.0 size a.1 pts gs
    go true true x y =
        let b : length gs + length gs ≤ length out = leb-true (length gs + length gs) (length out) y in
        (leb-true (length pts) size x, (omega (arith, b, stored_length gs out), pairs_stored gs out b))
    go true false x y = inr (omega (arith, leb-false (length gs + length gs) (length out) y, stored_length gs out))
    go false t x y = inl (leb-false (length pts) size x)

  pub answers_of : (r : Option ℕ) (after : List Float) → (r, after) ≡ bettering size out pts gs → Answers r size after pts gs
  answers_of r after e = subst (λ (a : Option ℕ × List Float). Answers a.0 size a.1 pts gs) (sym e) meant

  -- behind the entries nothing changes
  Spared : Option ℕ × List Float → Type 0
  Spared (None, after) = Unit {0}
  Spared (Some m, after) = drop (m + m) after ≡ drop (m + m) out

  spares : Spared (bettering size out pts gs)
  unfolding Spared bettering
  spares = go (leb (length pts) size) (has_entries gs out) refl where
    go : (s t : Bool) → has_entries gs out ≡ t → Spared (cond s (cond t (Some (length gs)) None, stored gs out) (None, out))
    go true true y = drop_stored gs out (leb-true (length gs + length gs) (length out) y)
    go true false y = tt
    go false t y = tt

  pub spared : (m : ℕ) (after : List Float) → (Some m, after) ≡ bettering size out pts gs → drop (m + m) after ≡ drop (m + m) out
  unfolding Spared
  spared m after e = subst Spared (sym e) spares
