-- Intervals of an edge, and what trimming leaves of them: the Rust's lists `next` and `pieces` of `add`, and the slivers. Definitions only.
use Rattle.std.specs.Prelude.{Bool, not, ◌&&◌, List, [], ◌∷◌, ◌++◌, Float, if◌then◌else◌}
use Rattle.std.specs.Float.{binary64}
use Rattle.std.specs.Float.Ieee.{lt, le, of_bits}
use Rattle.float64.specs.Scalar.{zero64, min_of, max_of}
use Rattle.float64.specs.Notation.{◌⊖◌, ◌⊗◌}
use Rattle.better.specs.Stretches.{Interval, interval}

-- the width from a to b, as computed
abbrev pub width : Float → Float → Float
width a b = b ⊖ a

-- 01's tiny: 1e-11 times the edge's length
abbrev pub tiny_of : Float → Float
tiny_of len = of_bits binary64 0x3da5_fd7f_e179_6495 ⊗ len

-- `if b { list.push(x) }`
abbrev pub push_if : {A : Type 0} → Bool → A → List A
push_if b x = if b then x ∷ [] else []

-- 01's sliver: wider than zero, and at most tiny
abbrev pub is_sliver : Float → Float → Float → Bool
is_sliver tiny a b = lt zero64 (width a b) && le (width a b) tiny

-- noted where [a, b] is cut off and dropped
unfoldable pub sliver : Float → Float → Float → List Interval
sliver tiny a b = push_if (is_sliver tiny a b) (interval a b)

-- ---- `next`: the new window keeps only `better` within [lo, hi]
-- `better` within [o0, o1]
unfoldable pub cuts_within : Float → Float → List Interval → List Interval
cuts_within o0 o1 [] = []
cuts_within o0 o1 (g ∷ better) =
    let c0 = max_of g.from o0 in
    let c1 = min_of g.to o1 in
    push_if (lt c0 c1) (interval c0 c1) ++ cuts_within o0 o1 better

-- what one entry of `keep` leaves
unfoldable pub next_of : Float → Float → List Interval → Interval → List Interval
next_of lo hi better k =
    let o0 = max_of k.from lo in
    let o1 = min_of k.to hi in
    if le o1 o0 then k ∷ [] else
    push_if (lt k.from o0) (interval k.from o0) ++ (cuts_within o0 o1 better ++ push_if (lt o1 k.to) (interval o1 k.to))

unfoldable pub next : Float → Float → List Interval → List Interval → List Interval
next lo hi better [] = []
next lo hi better (k ∷ keep) = next_of lo hi better k ++ next lo hi better keep

-- ---- `pieces`: the existing window, from `at` to b1, loses `better`
unfoldable pub pieces : Float → Float → Float → List Interval → List Interval
pieces tiny at b1 [] = push_if (lt tiny (width at b1)) (interval at b1)
pieces tiny at b1 (g ∷ better) = push_if (lt tiny (width at g.from)) (interval at g.from) ++ pieces tiny (max_of at g.to) b1 better

-- the slivers among what it leaves out
unfoldable pub piece_slivers : Float → Float → Float → List Interval → List Interval
piece_slivers tiny at b1 [] = sliver tiny at b1
piece_slivers tiny at b1 (g ∷ better) = sliver tiny at g.from ++ piece_slivers tiny (max_of at g.to) b1 better

-- ---- the entries of `keep` that become windows, and the slivers among the others
unfoldable pub wide_of : Float → List Interval → List Interval
wide_of tiny [] = []
wide_of tiny (k ∷ keep) = push_if (not (le (width k.from k.to) tiny)) k ++ wide_of tiny keep

unfoldable pub keep_slivers : Float → List Interval → List Interval
keep_slivers tiny [] = []
keep_slivers tiny (k ∷ keep) = sliver tiny k.from k.to ++ keep_slivers tiny keep
