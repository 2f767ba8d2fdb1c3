-- The ways that moving a part can go. Assumes nothing.
use Prim.Native.Nat.{ℕ, zero, suc, ◌+◌, ◌-◌, ◌<◌, ◌≤◌}
use native.Mathlib.Omega.{arith}
use mathlib.Core.Path.{◌≡◌, refl, sym, ◌∙◌}
use mathlib.Core.List.{List, []}
use borrow.Author.Tests.{lt-ltb, le-ltb}
use lib.ListN.{length, get_or, take, drop}
use Rattle.std.specs.Prelude.{Result, Ok, Err}
use Rattle.groups.specs.declared.Form.{Form}
use Rattle.groups.specs.declared.NumberRefusal.{NumberRefusal}
use Rattle.groups.specs.Groups.{number_of, Found}
use Rattle.slip_moves.specs.declared.Refusal.TheVariants.{TooShort, LeftOver, UnknownKind}
use Rattle.slip_moves.specs.Moves.{put, stop, number_refusal, then, number_written, bytes_moved, ended, number_moved, numbers_moved, piece_of_kind, piece_moved, pieces_moved}

module _ (s : List ℕ) (i : ℕ) where
  pub bytes_short : (n : ℕ) → length s < i + n → bytes_moved s n i ≡ stop TooShort
  unfolding bytes_moved
  bytes_short n h = rw (lt-ltb (length s) (i + n) h)

  pub bytes_there : (n : ℕ) → i + n ≤ length s → bytes_moved s n i ≡ put (i + n) (take n (drop i s))
  unfolding bytes_moved
  bytes_there n h = rw (le-ltb (length s) (i + n) h)

  pub bytes_left : i < length s → ended s i ≡ stop LeftOver
  unfolding ended
  bytes_left h = rw (lt-ltb i (length s) h)

  pub at_end_lem : length s ≤ i → ended s i ≡ put i []
  unfolding ended
  at_end_lem h = rw (le-ltb i (length s) h)

module _ (from to : Form) (s : List ℕ) (i : ℕ) where
  module _ {x : Result (ℕ × ℕ) NumberRefusal} (f : Found from s i x) where
    pub number_refused : (why : NumberRefusal) → x ≡ Err why → number_moved from to s i ≡ stop (number_refusal why)
    unfolding number_moved number_written
    number_refused why e = rw (sym f.answer ∙ e)

    pub number_is : {n next : ℕ} → x ≡ Ok (n, next) → number_moved from to s i ≡ put next (number_of to n)
    unfolding number_moved number_written
    number_is e = rw (sym f.answer ∙ e)

  pub numbers_next : (n : ℕ) → 0 < n → numbers_moved from to s n i ≡ then (number_moved from to s i) (numbers_moved from to s (n - 1))
  unfolding numbers_moved
  numbers_next zero h = absurd (omega arith)
  numbers_next (suc n) h = let less : suc n - 1 ≡ n = omega arith in rw less

  pub no_numbers : (n : ℕ) → n ≤ 0 → numbers_moved from to s n i ≡ put i []
  unfolding numbers_moved
  no_numbers zero h = refl
  no_numbers (suc n) h = absurd (omega arith)

  pub no_kind : length s ≤ i → piece_moved from to s i ≡ stop TooShort
  unfolding piece_moved
  no_kind h = rw (lt-ltb (length s) (i + 1) (omega arith))

  pub bad_kind : i < length s → 1 < get_or s i 0 → piece_moved from to s i ≡ stop UnknownKind
  unfolding piece_moved
  bad_kind h k = rw (le-ltb (length s) (i + 1) (omega arith), lt-ltb 1 (get_or s i 0) k)

  pub good_kind : i < length s → get_or s i 0 ≤ 1 → piece_moved from to s i ≡ piece_of_kind from to s (get_or s i 0) i
  unfolding piece_moved
  good_kind h k = rw (le-ltb (length s) (i + 1) (omega arith), le-ltb 1 (get_or s i 0) k)

  pub pieces_next : (n : ℕ) → 0 < n → pieces_moved from to s n i ≡ then (piece_moved from to s i) (pieces_moved from to s (n - 1))
  unfolding pieces_moved
  pieces_next zero h = absurd (omega arith)
  pieces_next (suc n) h = let less : suc n - 1 ≡ n = omega arith in rw less

  pub no_pieces : (n : ℕ) → n ≤ 0 → pieces_moved from to s n i ≡ put i []
  unfolding pieces_moved
  no_pieces zero h = refl
  no_pieces (suc n) h = absurd (omega arith)
