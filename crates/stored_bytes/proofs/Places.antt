-- The byte that is expected at a place, and whether another stands there. Assumes nothing.
use Prim.Native.Nat.{ℕ, ◌+◌, ◌≤◌, ◌<◌}
use mathlib.Core.Path.{◌≡◌, sym, ap, ◌∙◌}
use mathlib.Core.Bool.{Bool, true, false, not, cond}
use mathlib.Core.List.{List}
use borrow.Author.Tests.{lt-ltb, le-ltb, eq-eqb, ne_eqb}
use lib.ListN.{length, get_or, get_or-eq_default}
use lib.Seq.{drop-cons}
use Rattle.stored_bytes.specs.Bytes.{expected_at, unexpected}

module _ (s : List ℕ) (from n i : ℕ) where
  pub seven_behind : n ≤ i → 7 ≡ expected_at s from n i
  unfolding expected_at
  seven_behind h = sym (ap (λ (b : Bool). cond b (get_or s (from + i) 256) 7) (le-ltb i n h))

  expected_within : i < n → expected_at s from n i ≡ get_or s (from + i) 256
  unfolding expected_at
  expected_within h = ap (λ (b : Bool). cond b (get_or s (from + i) 256) 7) (lt-ltb i n h)

  pub none_stored : i < n → length s ≤ from + i → 256 ≡ expected_at s from n i
  none_stored h l = sym (expected_within h ∙ get_or-eq_default s 256 l)

  pub stored_byte : i < n → from + i < length s → get_or s (from + i) 0 ≡ expected_at s from n i
  stored_byte h l = ap (λ (r : List ℕ). get_or r 0 0) (sym (drop-cons s (from + i) 0 l) ∙ drop-cons s (from + i) 256 l) ∙ sym (expected_within h)

module _ (s : List ℕ) (from : ℕ) (out : List ℕ) (n i : ℕ) where
  pub expected_byte : get_or out i 0 ≡ expected_at s from n i → unexpected s from out n i ≡ false
  unfolding unexpected
  expected_byte e = ap not (eq-eqb (get_or out i 0) (expected_at s from n i) e)

  pub unexpected_byte : (get_or out i 0 ≡ expected_at s from n i → ⊥) → unexpected s from out n i ≡ true
  unfolding unexpected
  unexpected_byte e = ap not (ne_eqb (get_or out i 0) (expected_at s from n i) e)
