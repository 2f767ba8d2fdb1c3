-- The records of a file, one behind another, and what a replay of them all comes to. Definitions only.
use Rattle.std.specs.Prelude.{ℕ, ◌+◌, ◌/◌, ◌<◌, ◌≤◌, Bool, true, false, List, length, min, nat_eq, if◌then◌else◌}
use Rattle.stored_numbers.specs.Numbers.{stored_number}

-- how many numbers of a file are read
abbrev pub numbers_in : List ℕ → ℕ
numbers_in s = min (length s / 4) 400_000

-- how many numbers a record has, as number k says; one that says none is the last
abbrev pub size_at : List ℕ → ℕ → ℕ
size_at s k = if nat_eq (min (stored_number s k) 400_000) 0 then 400_000 else min (stored_number s k) 400_000

-- From number k on, as far as n numbers, there are so many records, and so many of them do not replay. `answers j b`: the replay of the record at number j may answer b.
-- A record's size stands at its number `at`.
pub data Tallied (answers : ℕ → Bool → Type 0) (s : List ℕ) (n at : ℕ) : ℕ → ℕ → ℕ → Type 0 where
  over : {k : ℕ} → n ≤ k → Tallied answers s n at k 0 0
  replayed : {k cases differences : ℕ} → k < n → answers k true → Tallied answers s n at (k + size_at s (k + at)) cases differences → Tallied answers s n at k (cases + 1) differences
  differs : {k cases differences : ℕ} → k < n → answers k false → Tallied answers s n at (k + size_at s (k + at)) cases differences → Tallied answers s n at k (cases + 1) (differences + 1)
