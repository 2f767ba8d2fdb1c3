-- Lists that grow in a buffer: what is pushed behind a list, and what a loop over a buffer of intervals pushes from interval i on. Assumes nothing.
--     pushed_full, then_full  a list that outgrows a buffer does so with more behind it
--     apart, left_full, inner_full, right_held  the ways out of `push_next`
--     cuts_turn, next_turn, pieces_turn  a turn of a loop; cuts_full .., where it outgrows the buffer; cuts_done .., the loop's end
--     copy_turn, copy_done  the same of `copy`
use Rattle.std.specs.Prelude.{Option, None}
use Prim.Native.Nat.{ℕ, suc, ◌+◌, ◌≤◌, ◌<◌}
use native.Mathlib.Omega.{arith}
use native.Mathlib.Numerals.{add-one}
use mathlib.Core.Path.{◌≡◌, refl, ◌∙◌}
use mathlib.Core.Bool.{true, false}
use mathlib.Core.List.{List, [], ◌∷◌, ◌++◌, append_assoc, append-nil}
use lib.ListN.{length, drop, get_or, set, length-append}
use lib.Ieee.{Float, nan, lt, le}
use Rattle.float64.specs.Scalar.{min_of, max_of}
use Rattle.better.specs.Stretches.{Interval, interval}
use Rattle.better.specs.Buffers.{pairs, HoldsPairs}
use Rattle.better.proofs.Pairs.{pairs_length, pairs_push}
use Rattle.trim_model.specs.Intervals.{width, push_if, cuts_within, next_of, next, pieces}
use Rattle.cut_lists.proofs.Entries.{entry, pairs_from, pairs_past}

-- two numbers each, they need more than a buffer has
abbrev pub Outgrows : ℕ → List Interval → Type 0
Outgrows size gs = size < length gs + length gs

pub pushed_full : (n : ℕ) (b : List Float) (x0 x1 : Float) → length b < suc n + suc n → HoldsPairs None b (pairs n b ++ (interval x0 x1 ∷ []))
pushed_full n b x0 x1 h = rw length-append (omega (arith, pairs_length n b))

pub then_full : (size : ℕ) (gs hs : List Interval) → Outgrows size gs → Outgrows size (gs ++ hs)
then_full size gs hs h = rw length-append (omega arith)

-- ---- what each list comes to, entry by entry
cuts_cons : (o0 o1 : Float) (g : Interval) (gs : List Interval) → cuts_within o0 o1 (g ∷ gs) ≡ push_if (lt (max_of g.from o0) (min_of g.to o1)) (interval (max_of g.from o0) (min_of g.to o1)) ++ cuts_within o0 o1 gs
unfolding cuts_within
cuts_cons o0 o1 g gs = refl

cuts_nil : (o0 o1 : Float) → cuts_within o0 o1 [] ≡ []
unfolding cuts_within
cuts_nil o0 o1 = refl

next_cons : (lo hi : Float) (better : List Interval) (k : Interval) (keep : List Interval) → next lo hi better (k ∷ keep) ≡ next_of lo hi better k ++ next lo hi better keep
unfolding next
next_cons lo hi better k keep = refl

next_nil : (lo hi : Float) (better : List Interval) → next lo hi better [] ≡ []
unfolding next
next_nil lo hi better = refl

pieces_cons : (tiny at b1 : Float) (g : Interval) (gs : List Interval) → pieces tiny at b1 (g ∷ gs) ≡ push_if (lt tiny (width at g.from)) (interval at g.from) ++ pieces tiny (max_of at g.to) b1 gs
unfolding pieces
pieces_cons tiny at b1 g gs = refl

pieces_nil : (tiny at b1 : Float) → pieces tiny at b1 [] ≡ push_if (lt tiny (width at b1)) (interval at b1)
unfolding pieces
pieces_nil tiny at b1 = refl

-- what one entry of `keep` leaves, pushed behind gs
module _ (lo hi : Float) (better : List Interval) (k0 k1 o0 o1 : Float) (e0 : o0 ≡ max_of k0 lo) (e1 : o1 ≡ min_of k1 hi) (gs : List Interval) where
  pub apart : (r : Option ℕ) (b : List Float) → le o1 o0 ≡ true → HoldsPairs r b (gs ++ (interval k0 k1 ∷ [])) → HoldsPairs r b (gs ++ next_of lo hi better (interval k0 k1))
  unfolding next_of
  apart r b t h = rw (← e0, ← e1, t) h

  overlapping : le o1 o0 ≡ false → next_of lo hi better (interval k0 k1) ≡ push_if (lt k0 o0) (interval k0 o0) ++ (cuts_within o0 o1 better ++ push_if (lt o1 k1) (interval o1 k1))
  unfolding next_of
  overlapping t = rw (← e0, ← e1, t)

  pub left_full : (size : ℕ) → le o1 o0 ≡ false → Outgrows size (gs ++ push_if (lt k0 o0) (interval k0 o0)) → Outgrows size (gs ++ next_of lo hi better (interval k0 k1))
  left_full size t h =
      let left = push_if (lt k0 o0) (interval k0 o0) in
      let others = cuts_within o0 o1 better ++ push_if (lt o1 k1) (interval o1 k1) in
      rw (overlapping t, ← append_assoc gs left others) (then_full size (gs ++ left) others h)

  pub inner_full : (size : ℕ) (ls : List Interval) → le o1 o0 ≡ false → ls ≡ gs ++ push_if (lt k0 o0) (interval k0 o0) → Outgrows size (ls ++ cuts_within o0 o1 better) → Outgrows size (gs ++ next_of lo hi better (interval k0 k1))
  inner_full size ls t ea h =
      let left = push_if (lt k0 o0) (interval k0 o0) in
      let right = push_if (lt o1 k1) (interval o1 k1) in
      rw (overlapping t, ← append_assoc gs left (cuts_within o0 o1 better ++ right), ← ea, ← append_assoc ls (cuts_within o0 o1 better) right) (then_full size (ls ++ cuts_within o0 o1 better) right h)

  pub right_held : (r : Option ℕ) (b : List Float) (ls is : List Interval) → le o1 o0 ≡ false → ls ≡ gs ++ push_if (lt k0 o0) (interval k0 o0) → is ≡ ls ++ cuts_within o0 o1 better → HoldsPairs r b (is ++ push_if (lt o1 k1) (interval o1 k1)) → HoldsPairs r b (gs ++ next_of lo hi better (interval k0 k1))
  right_held r b ls is t ea eb h =
      let left = push_if (lt k0 o0) (interval k0 o0) in
      let right = push_if (lt o1 k1) (interval o1 k1) in
      rw (overlapping t, ← append_assoc gs left (cuts_within o0 o1 better ++ right), ← ea, ← append_assoc ls (cuts_within o0 o1 better) right, ← eb) h

-- ---- the loops, with gs pushed so far: what interval i of a buffer adds, and what the others do
module _ (b : List Float) (i : ℕ) where
  abbrev pub cut_of : Float → Float → List Interval
  cut_of o0 o1 = let c0 = max_of (entry b i).from o0 in let c1 = min_of (entry b i).to o1 in push_if (lt c0 c1) (interval c0 c1)

  abbrev pub piece_of : Float → Float → List Interval
  piece_of tiny at = push_if (lt tiny (width at (entry b i).from)) (interval at (entry b i).from)

module _ (b : List Float) (m i : ℕ) (gs : List Interval) where
  pub cuts_turn : (o0 o1 : Float) → i < m → gs ++ cuts_within o0 o1 (drop i (pairs m b)) ≡ gs ++ cut_of b i o0 o1 ++ cuts_within o0 o1 (drop (i + 1) (pairs m b))
  cuts_turn o0 o1 h = rw (append_assoc, add-one i, pairs_from b m i h, cuts_cons o0 o1 (entry b i) (drop (suc i) (pairs m b)))

  pub cuts_full : (o0 o1 : Float) (size : ℕ) → i < m → Outgrows size (gs ++ cut_of b i o0 o1) → Outgrows size (gs ++ cuts_within o0 o1 (drop i (pairs m b)))
  cuts_full o0 o1 size h f = rw (cuts_turn o0 o1 h) (then_full size (gs ++ cut_of b i o0 o1) (cuts_within o0 o1 (drop (i + 1) (pairs m b))) f)

  pub cuts_done : (o0 o1 : Float) → m ≤ i → gs ++ cuts_within o0 o1 (drop i (pairs m b)) ≡ gs
  cuts_done o0 o1 h = rw (pairs_past b m i h, cuts_nil o0 o1, append-nil gs)

  pub next_turn : (lo hi : Float) (better : List Interval) → i < m → gs ++ next lo hi better (drop i (pairs m b)) ≡ gs ++ next_of lo hi better (entry b i) ++ next lo hi better (drop (i + 1) (pairs m b))
  next_turn lo hi better h = rw (append_assoc, add-one i, pairs_from b m i h, next_cons lo hi better (entry b i) (drop (suc i) (pairs m b)))

  pub next_full : (lo hi : Float) (better : List Interval) (size : ℕ) → i < m → Outgrows size (gs ++ next_of lo hi better (entry b i)) → Outgrows size (gs ++ next lo hi better (drop i (pairs m b)))
  next_full lo hi better size h f = rw (next_turn lo hi better h) (then_full size (gs ++ next_of lo hi better (entry b i)) (next lo hi better (drop (i + 1) (pairs m b))) f)

  pub next_done : (lo hi : Float) (better : List Interval) → m ≤ i → gs ++ next lo hi better (drop i (pairs m b)) ≡ gs
  next_done lo hi better h = rw (pairs_past b m i h, next_nil lo hi better, append-nil gs)

  pub pieces_turn : (tiny at b1 : Float) → i < m → gs ++ pieces tiny at b1 (drop i (pairs m b)) ≡ gs ++ piece_of b i tiny at ++ pieces tiny (max_of at (entry b i).to) b1 (drop (i + 1) (pairs m b))
  pieces_turn tiny at b1 h = rw (append_assoc, add-one i, pairs_from b m i h, pieces_cons tiny at b1 (entry b i) (drop (suc i) (pairs m b)))

  pub pieces_full : (tiny at b1 : Float) (size : ℕ) → i < m → Outgrows size (gs ++ piece_of b i tiny at) → Outgrows size (gs ++ pieces tiny at b1 (drop i (pairs m b)))
  pieces_full tiny at b1 size h f = rw (pieces_turn tiny at b1 h) (then_full size (gs ++ piece_of b i tiny at) (pieces tiny (max_of at (entry b i).to) b1 (drop (i + 1) (pairs m b))) f)

  pub pieces_done : (tiny at b1 : Float) → m ≤ i → gs ++ pieces tiny at b1 (drop i (pairs m b)) ≡ gs ++ push_if (lt tiny (width at b1)) (interval at b1)
  pieces_done tiny at b1 h = rw (pairs_past b m i h, pieces_nil tiny at b1)

-- ---- a copy, interval by interval
module _ (from to : List Float) where
  pub copy_turn : (i e : ℕ) → e ≡ i + i → e + 1 < length to → pairs i to ≡ pairs i from → pairs (i + 1) (set (set to e (get_or from e nan)) (e + 1) (get_or from (e + 1) nan)) ≡ pairs (i + 1) from
  copy_turn i e p b h = pairs_push to (get_or from e nan) (get_or from (e + 1) nan) i e p b ∙ rw (h, add-one i, add-one e, p)

  pub copy_done : (n i : ℕ) → i ≤ n → n ≤ i → pairs i to ≡ pairs i from → pairs n to ≡ pairs n from
  copy_done n i a b h = let e : n ≡ i = omega arith in rw e h
