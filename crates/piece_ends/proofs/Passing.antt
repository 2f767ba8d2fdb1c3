-- Laws of the numbers that pass a test: one more number, the first of them, tests that agree. Assumes nothing.
use Prim.Native.Nat.{ℕ, zero, suc, ◌+◌, ◌<◌, ◌≤◌}
use mathlib.Core.Path.{◌≡◌, refl, sym, ap, ◌∙◌}
use mathlib.Core.Bool.{Bool, true, false, ◌&&◌}
use mathlib.Core.List.{List, [], ◌∷◌}
use mathlib.Core.Logic.{⊎_elim}
use native.Mathlib.Decide.{ℕ_discrete}
use native.Mathlib.Omega.{arith}
use Rattle.topology.proofs.Find.{either}
use Rattle.piece_ends.specs.Ends.{passing}
use Rattle.piece_ends.specs.Table.{link_to}

pub both : (a b : Bool) → (a && b) ≡ true → (a ≡ true) × (b ≡ true)
both true b e = (refl, e)
both false b e = absurd (let z : ◌≡◌ {A = ℕ} 0 1 = cc in omega arith)

pub never : {b : Bool} → b ≡ true → b ≡ false → ⊥
never p q = let z : ◌≡◌ {A = ℕ} 0 1 = cc in omega arith

pub link_none : link_to [] ≡ 0
unfolding link_to
link_none = refl

pub link_one : (e : ℕ) (es : List ℕ) → link_to (e ∷ es) ≡ suc e
unfolding link_to
link_one e es = refl

module _ (test : ℕ → Bool) where
  pub pass_none : (e : ℕ) → passing test 0 e ≡ []
  unfolding passing
  pass_none e = refl

  pub pass_never : ((e : ℕ) → test e ≡ false) → (k e : ℕ) → passing test k e ≡ []
  unfolding passing
  pass_never none zero e = refl
  pass_never none (suc k) e = rw (none e) (pass_never none k (suc e))

  module _ (k e : ℕ) where
    pub pass_here : test e ≡ true → passing test (suc k) e ≡ e ∷ passing test k (suc e)
    unfolding passing
    pass_here h = rw h refl

    pub pass_over : test e ≡ false → passing test (suc k) e ≡ passing test k (suc e)
    unfolding passing
    pass_over h = rw h refl

  -- the number that passes and before which none does is the first
  pub link_first : (k s e : ℕ) → s ≤ e → e < s + k → test e ≡ true → ((j : ℕ) → s ≤ j → j < e → test j ≡ false) → link_to (passing test k s) ≡ suc e
  link_first zero s e l m h before = absurd (omega arith)
  link_first (suc k) s e l m h before = elim (ℕ_discrete s e) [
    | yes q ↦ ap link_to (pass_here k s (ap test q ∙ h)) ∙ (link_one s (passing test k (suc s)) ∙ ap suc q)
    | no q ↦ ap link_to (pass_over k s (before s (omega arith) (omega (arith, q)))) ∙ link_first k (suc s) e (omega (arith, q)) (omega arith) h (λ j a b. before j (omega arith) b)
  ]

-- and the first is such a number
pub record First (test : ℕ → Bool) (k s e : ℕ) : Type 0 where
  pub from : s ≤ e
  pub below : e < s + k
  pub passes : test e ≡ true
  pub before : (j : ℕ) → s ≤ j → j < e → test j ≡ false

module _ (test : ℕ → Bool) where
  first_here : (k s e : ℕ) → test s ≡ true → s ≡ e → First test (suc k) s e
  first_here k s e q y = record { from = omega arith; below = omega arith; passes = ap test (sym y) ∙ q; before = λ j a b. absurd (omega arith) }

  first_over : (k s e : ℕ) → test s ≡ false → First test k (suc s) e → First test (suc k) s e
  first_over k s e q r = record {
    from = omega (arith, r.from);
    below = omega (arith, r.below);
    passes = r.passes;
    before = λ j a b. elim (ℕ_discrete s j) [
      | yes y ↦ ap test (sym y) ∙ q
      | no y ↦ r.before j (omega (arith, y)) b
    ];
  }

  pub first_link_lem : (k s e : ℕ) → link_to (passing test k s) ≡ suc e → First test k s e
  first_link_lem zero s e h = absurd (let z : 0 ≡ suc e = sym (ap link_to (pass_none test s) ∙ link_none) ∙ h in omega arith)
  first_link_lem (suc k) s e h = ⊎_elim
      (λ q. let z : suc s ≡ suc e = sym (ap link_to (pass_here test k s q) ∙ link_one s (passing test k (suc s))) ∙ h in first_here k s e q (omega arith))
      (λ q. first_over k s e q (first_link_lem k (suc s) e (sym (ap link_to (pass_over test k s q)) ∙ h)))
      (either (test s))

pub pass_same : (test other : ℕ → Bool) → ((e : ℕ) → test e ≡ other e) → (k e : ℕ) → passing test k e ≡ passing other k e
unfolding passing
pass_same test other same zero e = refl
pass_same test other same (suc k) e = rw (same e, pass_same test other same k (suc e)) refl
