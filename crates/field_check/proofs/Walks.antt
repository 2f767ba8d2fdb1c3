-- A walk along chains finds what is said of them: the turns of a walk, what it tells of its chain, and what all of them tell together. Assumes nothing.
use Prim.Native.Nat.{ℕ, zero, suc, ◌+◌, ◌-◌, ◌<◌, ◌≤◌}
use native.Mathlib.Omega.{arith}
use native.Mathlib.Decide.{dec_le}
use native.Mathlib.Numerals.{add-one}
use mathlib.Core.Bool.{Bool, true, false, cond, ◌||◌}
use mathlib.Core.List.{List, ◌∷◌}
use mathlib.Core.Logic.{◌≢◌, ◌⊎◌, inl, inr}
use mathlib.Core.Path.{◌≡◌, refl, sym, ap, subst, ◌∙◌}
use borrow.Author.Tests.{lt-ltb, le-ltb}
use lib.Dec.{ltb}
use lib.ListN.{length}
use Rattle.job_checks.specs.Any.{any_below}
use Rattle.job_checks.proofs.Any.{none_yet, none_more, found}
use Rattle.std.specs.declared.option.Option.{Option}
use Rattle.std.specs.declared.option.Option.TheVariants.{Some, None}
use Rattle.field_check.specs.Chains.{links_from, any_bad, walk_of, chain_of, link_total, chains_unsound}

module _ (next : ℕ → ℕ) (bad : ℕ → ℕ → Bool) where
  -- ---- the turns of one walk
  module _ (left before at : ℕ) where
    pub walk_end : at ≡ 0 → walk_of next bad left before at ≡ Some left
    unfolding walk_of
    walk_end h = go left at h where
      go : (left at : ℕ) → at ≡ 0 → walk_of next bad left before at ≡ Some left
      go zero at h = rw h refl
      go (suc left) at h = rw h refl

    pub walk_over : left ≡ 0 → 0 < at → walk_of next bad left before at ≡ None
    unfolding walk_of
    walk_over h m = go left at h m where
      go : (left at : ℕ) → left ≡ 0 → 0 < at → walk_of next bad left before at ≡ None
      go left zero h m = absurd (omega arith)
      go left (suc i) h m = rw h refl

    pub walk_bad : 0 < at → bad before (at - 1) ≡ true → walk_of next bad left before at ≡ None
    unfolding walk_of
    walk_bad m h = go left at m h where
      go : (left at : ℕ) → 0 < at → bad before (at - 1) ≡ true → walk_of next bad left before at ≡ None
      go left zero m h = absurd (omega arith)
      go zero (suc i) m h = refl
      go (suc left) (suc i) m h = let e : suc i - 1 ≡ i = omega arith in ap (λ (b : Bool). cond b None (walk_of next bad left (suc i) (next i))) (rw e at h)

    pub walk_on_lem : left ≢ 0 → 0 < at → bad before (at - 1) ≡ false → walk_of next bad (left - 1) at (next (at - 1)) ≡ walk_of next bad left before at
    unfolding walk_of
    walk_on_lem q m h = go left at q m h where
      go : (left at : ℕ) → left ≢ 0 → 0 < at → bad before (at - 1) ≡ false → walk_of next bad (left - 1) at (next (at - 1)) ≡ walk_of next bad left before at
      go left zero q m h = absurd (omega arith)
      go zero (suc i) q m h = absurd (q refl)
      go (suc left) (suc i) q m h =
          let e : suc i - 1 ≡ i = omega arith in
          let g : suc left - 1 ≡ left = omega arith in
          (λ j. walk_of next bad (g j) (suc i) (next (e j))) ∙ sym (ap (λ (b : Bool). cond b None (walk_of next bad left (suc i) (next i))) (rw e at h))

  -- where the link before does not count, any will do
  pub walk_any : ((k m i : ℕ) → bad k i ≡ bad m i) → (n k m l : ℕ) → walk_of next bad n k l ≡ walk_of next bad n m l
  unfolding walk_of
  walk_any same zero k m zero = refl
  walk_any same zero k m (suc i) = refl
  walk_any same (suc n) k m zero = refl
  walk_any same (suc n) k m (suc i) = ap (λ (b : Bool). cond b None (walk_of next bad n (suc i) (next i))) (same k m i)

  -- ---- what it tells of the list of the chain
  abbrev Tells : ℕ → ℕ → List ℕ → Option ℕ → Type 0
  Tells n before is None = (n < length is) ⊎ (any_bad next bad before is ≡ true)
  Tells n before is (Some left) = (n ≡ left + length is) × (any_bad next bad before is ≡ false)

  or_true_right : (a : Bool) {b : Bool} → b ≡ true → (a || b) ≡ true
  or_true_right true h = refl
  or_true_right false h = h

  more : (n before i : ℕ) (is : List ℕ) (r : Option ℕ) → bad before i ≡ false → Tells n (suc i) is r → Tells (suc n) before (i ∷ is) r
  unfolding any_bad
  more n before i is (Some left) h t = (omega (arith, t.0), ap (λ (b : Bool). b || any_bad next bad (suc i) is) h ∙ t.1)
  more n before i is None h (inl m) = inl (omega arith)
  more n before i is None h (inr e) = inr (or_true_right (bad before i) e)

  walk_tells : (most n before l : ℕ) → n < most → Tells n before (links_from next bad most l) (walk_of next bad n before l)
  unfolding links_from any_bad walk_of
  walk_tells zero n before l m = absurd (omega arith)
  walk_tells (suc most) zero before zero m = (refl, refl)
  walk_tells (suc most) (suc n) before zero m = (omega arith, refl)
  walk_tells (suc most) zero before (suc i) m = inl (omega arith)
  walk_tells (suc most) (suc n) before (suc i) m = go (bad before i) refl (walk_tells most n (suc i) (next i) (omega arith)) where
    go : (b : Bool) → bad before i ≡ b → Tells n (suc i) (links_from next bad most (next i)) (walk_of next bad n (suc i) (next i))
        → Tells (suc n) before (i ∷ links_from next bad most (next i)) (cond b None (walk_of next bad n (suc i) (next i)))
    go true h t = inr (ap (λ (b : Bool). b || any_bad next bad (suc i) (links_from next bad most (next i))) h)
    go false h t = more n before i (links_from next bad most (next i)) (walk_of next bad n (suc i) (next i)) h t

  -- ---- the chains one after the other, with so many links left of `count` before chain k
  module _ (head : ℕ → ℕ) (count : ℕ) where
    abbrev bad_chain : ℕ → Bool
    bad_chain k = any_bad next bad 0 (chain_of next bad head count k)

    pub record SoundSoFar (left k : ℕ) : Type 0 where
      pub total : left + link_total next bad head count k ≡ count
      pub none : any_below bad_chain k ≡ false

    pub sound_start : SoundSoFar count 0
    unfolding link_total
    sound_start = record { total = omega arith; none = none_yet bad_chain }

    total_suc : (k : ℕ) → link_total next bad head count (suc k) ≡ link_total next bad head count k + length (chain_of next bad head count k)
    unfolding link_total
    total_suc k = refl

    total_mono : (k m : ℕ) → k ≤ m → link_total next bad head count k ≤ link_total next bad head count m
    total_mono k zero h = let e : k ≡ 0 = omega arith in rw e (omega arith)
    total_mono k (suc m) h = go (dec_le k m) (total_mono k m) where
      go : Dec (k ≤ m) → (k ≤ m → link_total next bad head count k ≤ link_total next bad head count m) → link_total next bad head count k ≤ link_total next bad head count (suc m)
      go (yes g) below = omega (arith, below g, total_suc m)
      go (no g) below = let e : k ≡ suc m = omega arith in rw e (omega arith)

    module _ (left k : ℕ) (s : SoundSoFar left k) (r : Option ℕ) (is : r ≡ walk_of next bad left 0 (head k)) where
      tells : Tells left 0 (chain_of next bad head count k) r
      tells = subst (λ (z : Option ℕ). Tells left 0 (chain_of next bad head count k) z) (sym is) (walk_tells (suc count) left 0 (head k) (omega (arith, s.total)))

      pub sound_on : (rest : ℕ) → r ≡ Some rest → SoundSoFar rest (k + 1)
      sound_on rest e =
          let t = subst (λ (z : Option ℕ). Tells left 0 (chain_of next bad head count k) z) e tells in
          record { total = rw (add-one k, total_suc k) (omega (arith, t.0, s.total)); none = none_more bad_chain k s.none t.1 }

      pub unsound_there : r ≡ None → (m : ℕ) → k < m → chains_unsound next bad head count m ≡ true
      unfolding chains_unsound
      unsound_there e m h = elim (subst (λ (z : Option ℕ). Tells left 0 (chain_of next bad head count k) z) e tells) [
        | inl g ↦ ap (λ (b : Bool). b || any_below bad_chain m) (lt-ltb count (link_total next bad head count m) (omega (arith, g, s.total, total_suc k, total_mono (suc k) m h)))
        | inr f ↦ or_true_right (ltb count (link_total next bad head count m)) (found bad_chain k m h f)
      ]

    pub sound_all : (left k m : ℕ) → SoundSoFar left k → k ≤ m → m ≤ k → chains_unsound next bad head count m ≡ false
    unfolding chains_unsound
    sound_all left k m s h g =
        let e : k ≡ m = omega arith in
        let t : SoundSoFar left m = subst (λ (z : ℕ). SoundSoFar left z) e s in
        (λ i. le-ltb count (link_total next bad head count m) (omega (arith, t.total)) i || t.none i)
