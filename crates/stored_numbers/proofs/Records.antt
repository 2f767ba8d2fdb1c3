-- The tally of a file's records, turn by turn: what the records that are left come to, with what those so far came to, is what all come to.
use Prim.Native.Nat.{ℕ, ◌+◌, ◌<◌, ◌≤◌}
use native.Mathlib.Omega.{arith}
use mathlib.Core.Bool.{Bool, true, false}
use mathlib.Core.List.{List}
use mathlib.Core.Path.{◌≡◌}
use Rattle.stored_numbers.specs.Records.{size_at, Tallied, over, replayed, differs}

module _ (answers : ℕ → Bool → Type 0) (s : List ℕ) (n at : ℕ) where
  abbrev pub Rest : ℕ → ℕ → ℕ → Type 0
  Rest k cases differences = (c d : ℕ) → Tallied answers s n at k c d → Tallied answers s n at 0 (cases + c) (differences + d)

  moved : {a b c d : ℕ} → a ≡ c → b ≡ d → Tallied answers s n at 0 a b → Tallied answers s n at 0 c d
  moved p q t = rw (p, q) at t

  pub none_yet : Rest 0 0 0
  none_yet c d t = moved (omega arith) (omega arith) t

  pub one_replayed : (k cases differences size : ℕ) → k < n → size ≡ size_at s (k + at) → answers k true → Rest k cases differences → Rest (k + size) (cases + 1) differences
  one_replayed k cases differences size h e a rest c d t = moved (omega arith) (omega arith) (rest (c + 1) d (replayed h a (rw e at t)))

  pub one_differs : (k cases differences size : ℕ) → k < n → size ≡ size_at s (k + at) → answers k false → Rest k cases differences → Rest (k + size) (cases + 1) (differences + 1)
  one_differs k cases differences size h e a rest c d t = moved (omega arith) (omega arith) (rest (c + 1) (d + 1) (differs h a (rw e at t)))

  pub all_told : (k cases differences : ℕ) → n ≤ k → Rest k cases differences → Tallied answers s n at 0 cases differences
  all_told k cases differences h rest = moved (omega arith) (omega arith) (rest 0 0 (over h))
