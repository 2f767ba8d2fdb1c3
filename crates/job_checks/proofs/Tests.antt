-- The tests that the loops make, from what the code compares. Assumes nothing.
use Prim.Native.Nat.{ℕ, ◌*◌, ◌/◌, ◌<◌, ◌≤◌}
use mathlib.Core.Path.{◌≡◌}
use mathlib.Core.Bool.{true, false}
use mathlib.Core.List.{List}
use native.Mathlib.Omega.{arith}
use borrow.Author.Tests.{lt-ltb, le-ltb, le-leb, lt-leb, leb-false, ltb-false}
use lib.Dec.{ltb}
use lib.ListN.{get_or}
use Rattle.job_checks.specs.Refusals.{above_one, missing}

module _ (bytes : List ℕ) (i : ℕ) where
  pub above_one_lem : 1 < get_or bytes i 0 → above_one bytes i ≡ true
  unfolding above_one
  above_one_lem h = lt-ltb 1 (get_or bytes i 0) h

  pub not_above_one : get_or bytes i 0 ≤ 1 → above_one bytes i ≡ false
  unfolding above_one
  not_above_one h = le-ltb 1 (get_or bytes i 0) h

  pub at_most_one : above_one bytes i ≡ false → get_or bytes i 0 ≤ 1
  unfolding above_one
  at_most_one e = ltb-false 1 (get_or bytes i 0) e

module _ (count : ℕ) (numbers : List ℕ) (i : ℕ) where
  pub is_missing : count ≤ get_or numbers i 0 → missing count numbers i ≡ true
  unfolding missing
  is_missing h = le-leb count (get_or numbers i 0) h

  pub not_missing : get_or numbers i 0 < count → missing count numbers i ≡ false
  unfolding missing
  not_missing h = lt-leb count (get_or numbers i 0) h

  pub present : missing count numbers i ≡ false → get_or numbers i 0 < count
  unfolding missing
  present e = leb-false count (get_or numbers i 0) e

-- three times a number against its third
module _ (n count : ℕ) where
  pub third_short : n / 3 < count → ltb n (3 * count) ≡ true
  third_short h = lt-ltb n (3 * count) (omega arith)

  pub third_not_short : count ≤ n / 3 → ltb n (3 * count) ≡ false
  third_not_short h = le-ltb n (3 * count) (omega arith)
