-- The windows on a chain, link by link as a walk meets them, and all of them where the chain holds a list. Assumes nothing.
use Prim.Native.Nat.{ℕ, zero, suc, ◌-◌, ◌≤◌, ◌<◌}
use native.Mathlib.Omega.{arith}
use mathlib.Core.List.{List, [], ◌∷◌, map}
use mathlib.Core.Logic.{◌≢◌}
use mathlib.Core.Path.{◌≡◌, refl, sym, ap, ◌∙◌}
use lib.ListN.{length}
use lib.Ieee.{Float}
use Rattle.source.specs.declared.Win.{Win}
use Rattle.chains.specs.Chains.{Links, link_in, link_at, Path, AllBelong}
use Rattle.chains.proofs.Turns.{link_in_lem}
use Rattle.pop.specs.of_better.Claim.{All}
use Rattle.pop.specs.of_trim_model.Windows.{Window}
use Rattle.pop.specs.of_trim_state.Trace.{win_of}
use Rattle.pop.specs.of_live_windows.Live.{nums, Alive, Stands}
use Rattle.pop.proofs.laws_of_live_windows.Places.{head_path, short}
use Rattle.last_pass.specs.Buffers.{from_link, chain_behind, wins_on}

module _ (made : ℕ) (b : Links) (e : ℕ) where
  -- the turns of a walk; r is the link that was read
  module _ (left k r : ℕ) (read : r ≡ link_in made (link_at b e k)) where
    pub chain_end : r ≡ 0 → chain_behind made b e left k ≡ []
    unfolding chain_behind
    chain_end h = go left where
      go : (left : ℕ) → chain_behind made b e left k ≡ []
      go zero = refl
      go (suc left) = ap (λ (l : ℕ). from_link l (chain_behind made b e left)) (sym read ∙ h)

    pub chain_next : 0 < left → r ≢ 0 → chain_behind made b e left k ≡ (r - 1) ∷ chain_behind made b e (left - 1) r
    unfolding chain_behind
    chain_next m q = go left m where
      on : (l : ℕ) → l ≢ 0 → (rest : ℕ → List ℕ) → from_link l rest ≡ (l - 1) ∷ rest l
      on zero q rest = absurd (q refl)
      on (suc i) q rest = let d : suc i - 1 ≡ i = omega arith in rw d refl

      go : (left : ℕ) → 0 < left → chain_behind made b e left k ≡ (r - 1) ∷ chain_behind made b e (left - 1) r
      go zero m = absurd (omega arith)
      go (suc left) m = let d : suc left - 1 ≡ left = omega arith in rw d (ap (λ (l : ℕ). from_link l (chain_behind made b e left)) (sym read) ∙ on r q (chain_behind made b e left))

  pub chain_out : (left k : ℕ) → left ≡ 0 → chain_behind made b e left k ≡ []
  unfolding chain_behind
  chain_out left k h = rw h refl

  -- a chain of no more windows than are counted
  pub chain_is : (is : List ℕ) (left k : ℕ) → Path b.words (link_at b e k) is → AllBelong made b.words e is → length is ≤ left → chain_behind made b e left k ≡ is
  unfolding Path chain_behind link_at
  chain_is [] left k p a m = chain_end left k 0 (sym (ap (link_in made) p ∙ link_in_lem made 0 (omega arith))) refl
  chain_is (i ∷ is) zero k p a m = absurd (omega arith)
  chain_is (i ∷ is) (suc left) k p a m =
      ap (λ (l : ℕ). from_link l (chain_behind made b e left)) (ap (link_in made) p.0 ∙ link_in_lem made (suc i) (let g = a.0.made in omega arith))
      ∙ ap (λ (l : List ℕ). i ∷ l) (chain_is is left (suc i) p.1 a.1 (omega arith))

-- the windows of a list stand in the buffers as the list has them
wins_of_lem : (w : List ℕ) (f : List Float) (us : List Window) → All (Alive w f) us → wins_on w f (nums us) ≡ map win_of us
unfolding nums
wins_of_lem w f [] a = refl
wins_of_lem w f (u ∷ us) a = ap (λ (x : Win). x ∷ wins_on w f (nums us)) (ap win_of a.0.same) ∙ ap (λ (l : List Win). win_of u ∷ l) (wins_of_lem w f us a.1)

pub stands_chain : (made : ℕ) (b : Links) (f : List Float) (e : ℕ) (us : List Window) → Stands made b f e us → wins_on b.words f (chain_behind made b e made 0) ≡ map win_of us
stands_chain made b f e us s =
    let p : Path b.words (link_at b e 0) (nums us) = head_path b e (nums us) s.chain.path in
    ap (wins_on b.words f) (chain_is made b e (nums us) made 0 p s.chain.belong (short made b.words e (link_at b e 0) (nums us) p s.chain.belong))
    ∙ wins_of_lem b.words f us s.windows
