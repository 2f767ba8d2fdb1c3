-- What the slices hold when the work on a job starts, its mesh being made. Definitions only.
use Rattle.std.specs.Prelude.{ℕ, false, List, [], ◌∷◌, ◌≡◌, length, replicate, Float}
use Rattle.std.specs.Float.{inf}
use Rattle.layout.specs.Layout.{reals_per_vertex}
use Rattle.float64.specs.Scalar.{zero64}
use Rattle.buffers.specs.Lent.{Lent, given, left}
use Rattle.frames.specs.Stored.{with_rows}
use Rattle.piece_ends.specs.Table.{piece_words_of}
use Rattle.piece_ends.specs.Directions.{piece_reals_of}

-- the Rust's `vertex[v]` and `emitted[v]` at first: `f64::INFINITY`
abbrev pub unreached : List Float
unreached = inf false ∷ inf false ∷ []

-- the reals of n vertices in a slice of so many, and zeros behind them
unfoldable pub vertex_reals : ℕ → ℕ → List Float
vertex_reals n size = with_rows reals_per_vertex (λ (v : ℕ). unreached) n (replicate size zero64)

-- no windows, no events, no entries
pub record ZeroWindows (words : List ℕ) (reals keys : List Float) (events entries words' : List ℕ) (reals' keys' : List Float) (events' entries' : List ℕ) : Type 0 where
  pub zero_words_held : words' ≡ replicate (length words) 0
  pub zero_reals_held : reals' ≡ replicate (length reals) zero64
  pub zero_keys : keys' ≡ replicate (length keys) zero64
  pub zero_events : events' ≡ replicate (length events) 0
  pub zero_entries : entries' ≡ replicate (length entries) 0

-- ---- the slices that the work on a job writes, beside the mesh's and the cut lists
pub record WorkSlices : Type 0 where
  pub piece_words : List ℕ
  pub piece_reals : List Float
  pub vertex : List Float
  pub words : List ℕ
  pub reals : List Float
  pub keys : List Float
  pub events : List ℕ
  pub entries : List ℕ

abbrev pub work_slices : List ℕ → List Float → List Float → List ℕ → List Float → List Float → List ℕ → List ℕ → WorkSlices
work_slices pw pr vertex words reals keys events entries = record { piece_words = pw; piece_reals = pr; vertex = vertex; words = words; reals = reals; keys = keys; events = events; entries = entries }

-- at the call, and at the return
module _ (pw : Lent ℕ) (pr vertex : Lent Float) (words : Lent ℕ) (reals keys : Lent Float) (events entries : Lent ℕ) where
  abbrev pub work_before : WorkSlices
  work_before = work_slices (given pw) (given pr) (given vertex) (given words) (given reals) (given keys) (given events) (given entries)

  abbrev pub work_after : WorkSlices
  work_after = work_slices (left pw) (left pr) (left vertex) (left words) (left reals) (left keys) (left events) (left entries)

-- the pieces' table and directions, n vertices that nothing has reached, and nothing else
abbrev pub begun : List ℕ → List Float → ℕ → WorkSlices → WorkSlices
begun kinds coords n s = work_slices
    (piece_words_of kinds coords (length s.piece_words))
    (piece_reals_of kinds coords (length s.piece_reals))
    (vertex_reals n (length s.vertex))
    (replicate (length s.words) 0)
    (replicate (length s.reals) zero64)
    (replicate (length s.keys) zero64)
    (replicate (length s.events) 0)
    (replicate (length s.entries) 0)
