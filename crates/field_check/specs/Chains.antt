-- Chains of numbers through a buffer, of which a link is a number plus one and 0 is none: how many links they have, and a test of every number on them. Definitions only.
use Prim.Native.Nat.{ℕ, zero, suc, ◌+◌}
use Rattle.std.specs.Prelude.{Bool, false, cond, ◌||◌, List, [], ◌∷◌, Option, Some, None}
use Rattle.std.proofs.Math.Dec.{ltb}
use Rattle.std.proofs.Math.ListN.{length}
use Rattle.job_checks.specs.Any.{any_below}

-- `next` is the link behind a number; `bad` tests a number, given the link that led to the one before it, 0 at the start of a chain
module _ (next : ℕ → ℕ) (bad : ℕ → ℕ → Bool) where
  -- the numbers from link l on, at most n of them
  unfoldable pub links_from : ℕ → ℕ → List ℕ
  links_from zero l = []
  links_from (suc n) zero = []
  links_from (suc n) (suc i) = i ∷ links_from n (next i)

  unfoldable pub any_bad : ℕ → List ℕ → Bool
  any_bad before [] = false
  any_bad before (i ∷ is) = bad before i || any_bad (suc i) is

  -- one walk along a chain: how many links are left of n, or that a number is bad or the chain has more than n
  unfoldable pub walk_of : ℕ → ℕ → ℕ → Option ℕ
  walk_of zero before zero = Some 0
  walk_of zero before (suc i) = None
  walk_of (suc n) before zero = Some (suc n)
  walk_of (suc n) before (suc i) = cond (bad before i) None (walk_of n (suc i) (next i))

  -- the chains that start at `head` of 0, 1, .. in a buffer of so many places; none is followed for more links than one above those
  module _ (head : ℕ → ℕ) (count : ℕ) where
    abbrev pub chain_of : ℕ → List ℕ
    chain_of k = links_from (suc count) (head k)

    -- the links of the first m of them
    unfoldable pub link_total : ℕ → ℕ
    unfolding links_from
    link_total zero = 0
    link_total (suc m) = link_total m + length (chain_of m)

    -- the first m have more links than there are places, or a number on one of them is bad
    unfoldable pub chains_unsound : ℕ → Bool
    unfolding links_from any_bad link_total
    chains_unsound m = ltb count (link_total m) || any_below (λ (k : ℕ). any_bad 0 (chain_of k)) m
