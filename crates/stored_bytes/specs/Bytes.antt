-- What a lent slice holds once bytes were written to it: the stored ones, and 7 behind them. Definitions only.
use Rattle.std.specs.Prelude.{ℕ, ◌+◌, Bool, not, cond, List, ltb, eqb, length, get_or}
use Rattle.job_checks.specs.Any.{any_below}

-- the byte at place i, where n are stored from one place of s on; 256, which is no byte, where s ends before it
unfoldable pub expected_at : List ℕ → ℕ → ℕ → ℕ → ℕ
expected_at s from n i = cond (ltb i n) (get_or s (from + i) 256) 7

module _ (s : List ℕ) (from : ℕ) (out : List ℕ) (n : ℕ) where
  unfoldable pub unexpected : ℕ → Bool
  unexpected i = not (eqb (get_or out i 0) (expected_at s from n i))

  -- whether each byte of the slice is the expected one
  abbrev pub holds_bytes : Bool
  holds_bytes = not (any_below unexpected (length out))
