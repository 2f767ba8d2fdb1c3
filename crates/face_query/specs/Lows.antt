-- The least `low` of the windows on a chain. Definitions only: `far_side` in proofs/Lows.antt says that no window is looked at where it fails the Rust's test.
use Rattle.std.specs.Prelude.{ℕ, ◌+◌, ◌-◌, ◌*◌, ◌<◌, false, List, [], ◌∷◌, ◌≡◌, Float, Option, Some, None, get_or}
use Rattle.std.specs.Float.{nan, inf}
use Rattle.layout.specs.Layout.{reals_per_window, window_low}
use Rattle.float64.specs.Scalar.{min_of}
use Rattle.chains.specs.Chains.{Links, links}
use Rattle.last_pass.specs.of_mesh_readers.Readers.{side_in}
use Rattle.last_pass.specs.Buffers.{chain_behind}
use Rattle.face_query.specs.declared.LowWalk.{LowWalk}

abbrev pub low_in : List Float → ℕ → Float
low_in f i = get_or f (reals_per_window * i + window_low) nan

-- of the windows of these numbers, and of what was met before them
unfoldable pub least_low : List Float → Float → List ℕ → Float
least_low f low [] = low
least_low f low (i ∷ is) = least_low f (min_of low (low_in f i)) is

-- of side i of a face
abbrev pub side_low : List ℕ → List ℕ → List ℕ → List Float → ℕ → ℕ → ℕ → Float
side_low edge_words triangle_words words reals made f i = least_low reals (inf false) (chain_behind made (links edge_words words) (side_in triangle_words f i) made 0)

-- the windows behind a link, if there may be more, and at most so many
abbrev pub still_behind : ℕ → Links → ℕ → ℕ → Option ℕ → List ℕ
still_behind made b e left None = []
still_behind made b e left (Some k) = chain_behind made b e left k

-- what a walk comes to when it goes on for at most so many windows
abbrev pub walk_low : ℕ → Links → List Float → ℕ → ℕ → LowWalk → Float
walk_low made b f e left s = least_low f s.low (still_behind made b e left s.before)

-- r is a walk one window further on than s, or as far where there is none: it comes to the same with one window less to go
abbrev pub WalksOn : ℕ → Links → List Float → ℕ → LowWalk → LowWalk → Type 0
WalksOn made b f e s r = (left : ℕ) → 0 < left → walk_low made b f e (left - 1) r ≡ walk_low made b f e left s
