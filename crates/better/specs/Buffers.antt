-- Lists in lent buffers. Definitions only.
use Rattle.std.specs.Prelude.{ℕ, zero, suc, ◌+◌, ◌≤◌, ◌<◌, Bool, false, cond, ◌≡◌, ◌⊎◌, List, [], ◌∷◌, ◌++◌, leb, length, drop, get_or, Float, if◌then◌else◌, Option, Some, None}
use Rattle.std.specs.Float.{nan}
use Rattle.std.specs.Float.Ieee.{eq}
use Rattle.better.specs.Points.{insert_of}
use Rattle.better.specs.Stretches.{Interval, interval}

-- the number in document 01 of a list's answer; 0 is no refusal
abbrev pub listed_number : Option ℕ → ℕ
listed_number None = 14
listed_number (Some n) = 0

-- the list stands at the end of the buffer; or it has more entries than the buffer
abbrev pub PlacedWithin : Option ℕ → List Float → Type 0
PlacedWithin None buffer = Unit {0}
PlacedWithin (Some t) buffer = t ≤ length buffer

abbrev pub EndsWith : Option ℕ → List Float → List Float → Type 0
EndsWith None buffer xs = length buffer < length xs
EndsWith (Some t) buffer xs = drop t buffer ≡ xs

-- a point that is put in its order if it is kept
abbrev pub kept_of : Bool → Float → List Float → List Float
kept_of keep x xs = if keep then insert_of x xs else xs

-- what holds of the list before holds of it after, with x put in
abbrev pub Inserts : Option ℕ → List Float → Bool → Float → Option ℕ → List Float → Type 0
Inserts from buffer keep x r after = PlacedWithin r after × ((xs : List Float) → EndsWith from buffer xs → EndsWith r after (kept_of keep x xs))

-- m intervals in front of a buffer, each its two ends
abbrev pub pairs : ℕ → List Float → List Interval
pairs zero buffer = []
pairs (suc m) buffer = pairs m buffer ++ (interval (get_or buffer (m + m) nan) (get_or buffer (suc (m + m)) nan) ∷ [])

-- the intervals stand in front of the buffer; or they have more than its entries, of two numbers each
abbrev pub HoldsPairs : Option ℕ → List Float → List Interval → Type 0
HoldsPairs None buffer gs = length buffer < length gs + length gs
HoldsPairs (Some m) buffer gs = (m + m ≤ length buffer) × (pairs m buffer ≡ gs)

-- what is behind the list is as it was; nothing is written for one that the buffer has no entry for
abbrev pub Spares : Option ℕ → List Float → List Float → Type 0
Spares None buffer after = after ≡ buffer
Spares (Some m) buffer after = drop (m + m) after ≡ drop (m + m) buffer

-- the last of them ends at x
abbrev pub last_ends_at : ℕ → List Float → Float → Bool
last_ends_at zero buffer x = false
last_ends_at (suc m) buffer x = eq (get_or buffer (suc (m + m)) nan) x

-- a buffer with intervals over its front, as many as it has entries for; what stands behind them is as it was
unfoldable pub stored : List Interval → List Float → List Float
stored [] buffer = buffer
stored (g ∷ gs) [] = []
stored (g ∷ gs) (a ∷ []) = a ∷ []
stored (g ∷ gs) (a ∷ b ∷ buffer) = g.from ∷ g.to ∷ stored gs buffer

-- there are entries for all of them
abbrev pub has_entries : List Interval → List Float → Bool
has_entries gs buffer = leb (length gs + length gs) (length buffer)

-- `better` where `pts` has `size` entries: its points are listed first, then its stretches
unfoldable pub bettering : ℕ → List Float → List Float → List Interval → Option ℕ × List Float
unfolding stored
bettering size out pts gs = cond (leb (length pts) size) (cond (has_entries gs out) (Some (length gs)) None, stored gs out) (None, out)

-- the walk in the buffer of its points: the stretches gs between them stand in front of it; or the points have more entries than the buffer
abbrev pub WalkedPoints : Option ℕ → List Float → List Float → List Interval → Type 0
WalkedPoints None buffer pts gs = length buffer < length pts
WalkedPoints (Some m) buffer pts gs = (length pts ≤ length buffer) × ((m + m ≤ length buffer) × (pairs m buffer ≡ gs))

-- what follows: the stretches stand in front of `out`; or the points or the stretches have more entries than their buffer
abbrev pub Answers : Option ℕ → ℕ → List Float → List Float → List Interval → Type 0
Answers None size out pts gs = (size < length pts) ⊎ (length out < length gs + length gs)
Answers (Some m) size out pts gs = (length pts ≤ size) × ((m + m ≤ length out) × (pairs m out ≡ gs))
