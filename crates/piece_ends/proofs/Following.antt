-- Links followed: the turns of a loop that searches along them, and what is found where each link leads to the next number that passes a test. Assumes nothing.
use Prim.Native.Nat.{ℕ, zero, suc, ◌+◌, ◌-◌, ◌<◌, ◌≤◌}
use mathlib.Core.Path.{◌≡◌, refl, sym, ap, ◌∙◌}
use mathlib.Core.Bool.{Bool, true, false, ◌&&◌}
use mathlib.Core.List.{List, [], ◌∷◌}
use mathlib.Core.Logic.{⊎_elim, ◌≢◌}
use native.Mathlib.Omega.{arith}
use Rattle.topology.proofs.Find.{either}
use Rattle.piece_ends.specs.Ends.{passing}
use Rattle.piece_ends.specs.Table.{link_to}
use Rattle.piece_ends.specs.Walk.{follow, find_along}
use Rattle.piece_ends.proofs.Passing.{link_none, link_one, pass_none, pass_here, pass_over}

module _ (next : ℕ → ℕ) (test : ℕ → Bool) where
  search_none : (f : ℕ) → find_along next test f 0 ≡ 0
  unfolding find_along
  search_none zero = refl
  search_none (suc f) = refl

  pub search_no_steps : (at : ℕ) → find_along next test 0 at ≡ 0
  unfolding find_along
  search_no_steps at = refl

  search_here : (f e : ℕ) → test e ≡ true → find_along next test (suc f) (suc e) ≡ suc e
  unfolding find_along
  search_here f e h = rw h refl

  search_on : (f e : ℕ) → test e ≡ false → find_along next test (suc f) (suc e) ≡ find_along next test f (next e)
  unfolding find_along
  search_on f e h = rw h refl

  -- The loop's ends: no link, and no steps left.
  module _ (whole rest at : ℕ) (inv : whole ≡ find_along next test rest at) where
    pub search_ends : at ≡ 0 → 0 ≡ whole
    search_ends z = sym (inv ∙ (ap (find_along next test rest) z ∙ search_none rest))

    pub search_spent : rest ≤ 0 → 0 ≡ whole
    search_spent z = let n : rest ≡ 0 = omega arith in sym (inv ∙ (ap (λ (k : ℕ). find_along next test k at) n ∙ search_no_steps at))

    -- Its turns, where the test of the end at the link said b.
    module _ (more : 0 < rest) (live : at ≢ 0) (b : Bool) (said : b ≡ test (at - 1)) where
      rest_suc : rest ≡ suc (rest - 1)
      rest_suc = omega arith

      at_suc : at ≡ suc (at - 1)
      at_suc = omega arith

      shown : whole ≡ find_along next test (suc (rest - 1)) (suc (at - 1))
      shown = inv ∙ (ap (λ (k : ℕ). find_along next test k at) rest_suc ∙ ap (find_along next test (suc (rest - 1))) at_suc)

      pub search_found : b ≡ true → at ≡ whole
      search_found t = sym (shown ∙ (search_here (rest - 1) (at - 1) (sym said ∙ t) ∙ sym at_suc))

      pub search_next : (k : ℕ) → k ≡ next (at - 1) → b ≡ false → whole ≡ find_along next test (rest - 1) k
      search_next k e t = shown ∙ (search_on (rest - 1) (at - 1) (sym said ∙ t) ∙ ap (find_along next test (rest - 1)) (sym e))

-- Below n, the link of a number that passes leads to the next that does.
module _ (next : ℕ → ℕ) (outer : ℕ → Bool) (n : ℕ) (leads : (k e : ℕ) → suc e + k ≡ n → outer e ≡ true → next e ≡ link_to (passing outer k (suc e))) where
  follow_none : (f : ℕ) → follow next f 0 ≡ []
  unfolding follow
  follow_none zero = refl
  follow_none (suc f) = refl

  follow_on : (f e : ℕ) → follow next (suc f) (suc e) ≡ e ∷ follow next f (next e)
  unfolding follow
  follow_on f e = refl

  follow_at : (f k e : ℕ) → outer e ≡ true → suc e + k ≡ n → follow next (suc f) (link_to (passing outer (suc k) e)) ≡ e ∷ follow next f (link_to (passing outer k (suc e)))
  follow_at f k e q s =
      ap (λ (es : List ℕ). follow next (suc f) (link_to es)) (pass_here outer k e q)
      ∙ (ap (follow next (suc f)) (link_one e (passing outer k (suc e)))
      ∙ (follow_on f e ∙ ap (λ (at : ℕ). e ∷ follow next f at) (leads k e s q)))

  -- so those that pass are what is met
  pub follow_left : (k e f : ℕ) → e + k ≡ n → k ≤ f → follow next f (link_to (passing outer k e)) ≡ passing outer k e
  follow_left zero e f s l = rw (pass_none outer e, link_none) (follow_none f)
  follow_left (suc k) e zero s l = absurd (omega arith)
  follow_left (suc k) e (suc f) s l = ⊎_elim
      (λ q. follow_at f k e q (omega arith) ∙ (ap (λ (es : List ℕ). e ∷ es) (follow_left k (suc e) f (omega arith) (omega arith)) ∙ sym (pass_here outer k e q)))
      (λ q. ap (λ (es : List ℕ). follow next (suc f) (link_to es)) (pass_over outer k e q) ∙ (follow_left k (suc e) (suc f) (omega arith) (omega arith) ∙ sym (pass_over outer k e q)))
      (either (outer e))

  -- and a search finds the first that passes a second test too
  module _ (inner : ℕ → Bool) where
    abbrev both : ℕ → Bool
    both e = outer e && inner e

    both_true : (e : ℕ) → outer e ≡ true → inner e ≡ true → both e ≡ true
    both_true e p q = rw (p, q) refl

    inner_false : (e : ℕ) → outer e ≡ true → inner e ≡ false → both e ≡ false
    inner_false e p q = rw (p, q) refl

    outer_false : (e : ℕ) → outer e ≡ false → both e ≡ false
    outer_false e p = rw p refl

    search_at : (f k e : ℕ) → outer e ≡ true → find_along next inner f (link_to (passing outer (suc k) e)) ≡ find_along next inner f (suc e)
    search_at f k e q = ap (λ (es : List ℕ). find_along next inner f (link_to es)) (pass_here outer k e q) ∙ ap (find_along next inner f) (link_one e (passing outer k (suc e)))

    pub search_left : (k e f : ℕ) → e + k ≡ n → k ≤ f → find_along next inner f (link_to (passing outer k e)) ≡ link_to (passing both k e)
    search_left zero e f s l = rw (pass_none outer e, pass_none both e, link_none) (search_none next inner f)
    search_left (suc k) e zero s l = absurd (omega arith)
    search_left (suc k) e (suc f) s l = ⊎_elim
        (λ q. search_at (suc f) k e q ∙ ⊎_elim
        (λ t. search_here next inner f e t ∙ sym (ap link_to (pass_here both k e (both_true e q t)) ∙ link_one e (passing both k (suc e))))
        (λ t. search_on next inner f e t ∙ (ap (find_along next inner f) (leads k e (omega arith) q) ∙ (search_left k (suc e) f (omega arith) (omega arith) ∙ sym (ap link_to (pass_over both k e (inner_false e q t))))))
        (either (inner e)))
        (λ q. ap (λ (es : List ℕ). find_along next inner (suc f) (link_to es)) (pass_over outer k e q) ∙ (search_left k (suc e) (suc f) (omega arith) (omega arith) ∙ sym (ap link_to (pass_over both k e (outer_false e q)))))
        (either (outer e))
