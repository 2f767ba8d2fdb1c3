-- The faces that have a vertex are those that the topology lists round it. Assumes nothing.
use Prim.Native.Nat.{ℕ, zero, suc, ◌+◌, ◌-◌, ◌*◌, ◌/◌, ◌<◌}
use mathlib.Core.Path.{◌≡◌, refl, sym, ap, ◌∙◌}
use mathlib.Core.Bool.{Bool, true, false, ◌&&◌, ◌||◌, or-false, and-false}
use mathlib.Core.List.{List, [], ◌∷◌, ◌++◌}
use mathlib.Core.Logic.{⊎_elim}
use native.Mathlib.Decide.{ℕ_discrete}
use native.Mathlib.Omega.{arith}
use borrow.Author.Tests.{eq-eqb, ne_eqb, eqb-true, eqb-false}
use lib.Dec.{eqb}
use lib.ListN.{length, get_or}
use Rattle.job_checks.specs.Any.{any_below}
use Rattle.job_checks.proofs.Any.{found, none_all}
use Rattle.topology.specs.Edges.{faces_round, vertex_faces}
use Rattle.topology.proofs.Find.{either}
use Rattle.segments_behind.specs.Round.{has_vertex, listed_in}

listed_last : (g h : ℕ) (hs : List ℕ) → listed_in g (hs ++ (h ∷ [])) ≡ (listed_in g hs || eqb h g)
unfolding listed_in
listed_last g h [] = or-false (eqb h g)
listed_last g h (x ∷ hs) = go (eqb x g) (listed_last g h hs) where
  go : (b : Bool) → listed_in g (hs ++ (h ∷ [])) ≡ (listed_in g hs || eqb h g) → (b || listed_in g (hs ++ (h ∷ []))) ≡ ((b || listed_in g hs) || eqb h g)
  go true r = refl
  go false r = r

module _ (triangles : List ℕ) (g k : ℕ) where
  -- side h is of face g and starts at vertex k
  abbrev side_at : ℕ → Bool
  side_at h = eqb (get_or triangles h 0) k && eqb (h / 3) g

  listed_sides : (n : ℕ) → listed_in g (faces_round triangles k n) ≡ any_below side_at n
  unfolding faces_round any_below listed_in
  listed_sides zero = refl
  listed_sides (suc n) = ⊎_elim
      (λ q. rw q (listed_last g (n / 3) (faces_round triangles k n) ∙ ap (λ (b : Bool). b || eqb (n / 3) g) (listed_sides n)))
      (λ q. rw q (listed_sides n ∙ sym (or-false (any_below side_at n))))
      (either (eqb (get_or triangles n 0) k))

  module _ (there : g < length triangles / 3) where
    side_there : (i : ℕ) → i < 3 → get_or triangles (3 * g + i) 0 ≡ k → any_below side_at (length triangles) ≡ true
    side_there i l q =
        let z : (3 * g + i) / 3 ≡ g = omega arith in
        found side_at (3 * g + i) (length triangles) (omega arith) (rw (eq-eqb (get_or triangles (3 * g + i) 0) k q, eq-eqb ((3 * g + i) / 3) g z) refl)

    side_none : ((i : ℕ) → i < 3 → get_or triangles (3 * g + i) 0 ≡ k → ⊥) → (h : ℕ) → Dec (h / 3 ≡ g) → side_at h ≡ false
    side_none none h (yes q) =
        let z : 3 * g + (h - 3 * g) ≡ h = omega arith in
        rw (ne_eqb (get_or triangles h 0) k (λ e. none (h - 3 * g) (omega arith) (ap (λ (j : ℕ). get_or triangles j 0) z ∙ e))) refl
    side_none none h (no q) = rw (ne_eqb (h / 3) g q) (and-false (eqb (get_or triangles h 0) k))

    three : (a b c : Bool) → eqb (get_or triangles (3 * g + 0) 0) k ≡ a → eqb (get_or triangles (3 * g + 1) 0) k ≡ b → eqb (get_or triangles (3 * g + 2) 0) k ≡ c → (a || (b || c)) ≡ any_below side_at (length triangles)
    three true b c p q r = sym (side_there 0 (omega arith) (eqb-true (get_or triangles (3 * g + 0) 0) k p))
    three false true c p q r = sym (side_there 1 (omega arith) (eqb-true (get_or triangles (3 * g + 1) 0) k q))
    three false false true p q r = sym (side_there 2 (omega arith) (eqb-true (get_or triangles (3 * g + 2) 0) k r))
    three false false false p q r = sym (none_all side_at (length triangles) (λ h l. side_none none h (ℕ_discrete (h / 3) g))) where
      none : (i : ℕ) → i < 3 → get_or triangles (3 * g + i) 0 ≡ k → ⊥
      none zero l e = eqb-false (get_or triangles (3 * g + 0) 0) k p e
      none (suc zero) l e = eqb-false (get_or triangles (3 * g + 1) 0) k q e
      none (suc (suc zero)) l e = eqb-false (get_or triangles (3 * g + 2) 0) k r e
      none (suc (suc (suc i))) l e = absurd (omega arith)

    pub round_listed : has_vertex triangles g k ≡ listed_in g (vertex_faces triangles k)
    unfolding has_vertex vertex_faces
    round_listed =
        three (eqb (get_or triangles (3 * g + 0) 0) k) (eqb (get_or triangles (3 * g + 1) 0) k) (eqb (get_or triangles (3 * g + 2) 0) k) refl refl refl
        ∙ sym (listed_sides (length triangles))
