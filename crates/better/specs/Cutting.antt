-- Where the sign of the difference of two sources turns: the closures `g` and `change` of the Rust's `better`, its halvings, and the cut between two points. Definitions only.
use Rattle.std.specs.Prelude.{ℕ, zero, suc, Bool, true, false, ◌&&◌, ◌||◌, Float, if◌then◌else◌, Option, Some, None}
use Rattle.std.specs.Float.{binary64}
use Rattle.std.specs.Float.Ieee.{of_bits, lt}
use Rattle.float64.specs.Scalar.{one, two}
use Rattle.float64.specs.Notation.{◌⊕◌, ◌⊖◌, ◌⊗◌, ◌⊘◌}
use Rattle.source.specs.declared.Src.{Src}
use Rattle.source.specs.Distance.{edge_of}
use Rattle.std.specs.declared.cmp.Ordering.{Ordering}
use Rattle.std.specs.declared.cmp.Ordering.TheVariants.{Less, Equal, Greater}

-- 1e-10
abbrev pub tolerance : Float
tolerance = of_bits binary64 0x3ddb_7cdf_d9d7_bdbb

-- `dp < dq - 1e-10 * (1. + dq)`, and `dp > dq + 1e-10 * (1. + dq)`
abbrev pub shorter : Float → Float → Bool
shorter dp dq = lt dp (dq ⊖ tolerance ⊗ (one ⊕ dq))

abbrev pub longer : Float → Float → Bool
longer dp dq = lt (dq ⊕ tolerance ⊗ (one ⊕ dq)) dp

-- `g`: p beside q at x
unfoldable pub sign_of : Src → Src → Float → Ordering
sign_of p q x =
    let dp = edge_of p x in
    let dq = edge_of q x in
    if shorter dp dq then Less else
    if longer dp dq then Greater else
    Equal

-- `a == b`
abbrev pub same_comparison : Ordering → Ordering → Bool
same_comparison Less Less = true
same_comparison Less Equal = false
same_comparison Less Greater = false
same_comparison Equal Less = false
same_comparison Equal Equal = true
same_comparison Equal Greater = false
same_comparison Greater Less = false
same_comparison Greater Equal = false
same_comparison Greater Greater = true

-- `a * b < 0`
abbrev pub change_of : Ordering → Ordering → Bool
change_of Less Less = false
change_of Less Equal = false
change_of Less Greater = true
change_of Equal b = false
change_of Greater Less = true
change_of Greater Equal = false
change_of Greater Greater = false

-- n halvings of the stretch from a to b, at whose start the sign is sa; then its middle
unfoldable pub halve_of : Src → Src → Float → Float → Ordering → ℕ → Float
halve_of p q a b sa zero = (a ⊕ b) ⊘ two
halve_of p q a b sa (suc n) =
    let c = (a ⊕ b) ⊘ two in
    if same_comparison (sign_of p q c) sa then halve_of p q c b sa n else halve_of p q a c sa n

-- a point of `pts` to be, if it lies strictly between its neighbours
abbrev pub strictly : Float → Float → Float → Option Float
strictly x0 x1 c = if lt x0 c && lt c x1 then Some c else None

-- the body of the walk: where to cut between two neighbours x0 and x1 of `pts`
unfoldable pub cut_of : Src → Src → Float → Float → Option Float
cut_of p q x0 x1 =
    let m = (x0 ⊕ x1) ⊘ two in
    let s0 = sign_of p q x0 in
    let sm = sign_of p q m in
    let s1 = sign_of p q x1 in
    if lt x0 x1 && (change_of s0 sm || change_of sm s1) then
    (let a = if change_of s0 sm then x0 else m in
    let b = if change_of s0 sm then m else x1 in
    let sa = sign_of p q a in
    strictly x0 x1 (halve_of p q a b sa 60))
    else None
