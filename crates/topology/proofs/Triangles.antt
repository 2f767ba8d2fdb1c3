-- Laws of the triangles of a checked mesh: each has three different edges, `local` and `third` answer, and each of its edges has it among its faces.
-- Assumes nothing.
use Prim.Native.Nat.{ℕ, zero, suc, ◌+◌, ◌*◌, ◌/◌, ◌%◌, ◌<◌, ◌≤◌}
use mathlib.Core.Path.{◌≡◌, refl, sym, ap, ◌∙◌}
use mathlib.Core.Bool.{true, false, not, and-false}
use mathlib.Core.List.{List}
use mathlib.Core.Logic.{⊎_elim, ◌⊎◌, inl, inr}
use native.Mathlib.Nat.{eq-or-lt_of_le}
use native.Mathlib.Omega.{arith}
use borrow.Author.Tests.{eq-eqb, ne_eqb, ltb-true, ltb-false}
use lib.Dec.{ltb, eqb}
use lib.ListN.{length, get_or}
use Rattle.job_checks.specs.Sound.{Distinct}
use Rattle.topology.specs.Edges.{EndPair, no_edge, between, side_vertex, side_edge, edges, tri_edge, local, off_ends, third}
use Rattle.topology.proofs.Find.{either}
use Rattle.topology.proofs.Edges.{tri_edge_is}

pub turn : {a b c : ℕ} → Distinct a b c → Distinct b c a
turn d = record { first_second = d.second_third; second_third = d.third_first; third_first = d.first_second }

zero_or_one : (n : ℕ) → n < 2 → (n ≡ 0) ⊎ (n ≡ 1)
zero_or_one zero l = inl refl
zero_or_one (suc zero) l = inr refl
zero_or_one (suc (suc n)) l = absurd (omega arith)

one_or_two : (n : ℕ) → 0 < n → n < 3 → (n ≡ 1) ⊎ (n ≡ 2)
one_or_two zero p l = absurd (omega arith)
one_or_two (suc zero) p l = inl refl
one_or_two (suc (suc zero)) p l = inr refl
one_or_two (suc (suc (suc n))) p l = absurd (omega arith)

-- what has three different values for the three sides of triangle f has different ones for two of its sides
module _ (g : ℕ → ℕ) (f : ℕ) (d : Distinct (g (3 * f)) (g (3 * f + 1)) (g (3 * f + 2))) where
  pub sides_apart : (a b : ℕ) → a < b → a / 3 ≡ f → b / 3 ≡ f → g a ≡ g b → ⊥
  sides_apart a b l p q e =
      ⊎_elim
      (λ x. ⊎_elim (λ y. d.first_second (ap g (omega arith) ∙ (e ∙ ap g (omega arith))))
      (λ y. d.third_first (ap g (omega arith) ∙ (sym e ∙ ap g (omega arith)))) (one_or_two (b % 3) (omega arith) (omega arith)))
      (λ x. d.second_third (ap g (omega arith) ∙ (e ∙ ap g (omega arith))))
      (zero_or_one (a % 3) (omega arith))

-- the ends of an edge are its two vertices, in one order or the other
pub ends : (a b : ℕ) → ((a < b) × (((between a b).low ≡ a) × ((between a b).high ≡ b))) ⊎ ((b ≤ a) × (((between a b).low ≡ b) × ((between a b).high ≡ a)))
unfolding between
ends a b = ⊎_elim (λ q. inl (ltb-true a b q, (rw q, rw q))) (λ q. inr (ltb-false a b q, (rw q, rw q))) (either (ltb a b))

-- the lower one stands first
pub ends_rise : (a b : ℕ) → (a ≡ b → ⊥) → (between a b).low < (between a b).high
ends_rise a b ne = ⊎_elim (λ w. omega arith) (λ w. ⊎_elim (λ q. absurd (ne (sym q))) (λ l. omega arith) (eq-or-lt_of_le w.0)) (ends a b)

-- two sides of a triangle have different edges
pub sides_differ : (a b c : ℕ) → Distinct a b c → between a b ≡ between b c → ⊥
sides_differ a b c d e =
    let l : (between a b).low ≡ (between b c).low = ap (λ (x : EndPair). x.low) e in
    let h : (between a b).high ≡ (between b c).high = ap (λ (x : EndPair). x.high) e in
    ⊎_elim
    (λ v. ⊎_elim (λ w. d.first_second (omega arith)) (λ w. d.third_first (omega arith)) (ends b c))
    (λ v. ⊎_elim (λ w. d.third_first (omega arith)) (λ w. d.second_third (omega arith)) (ends b c))
    (ends a b)

-- A vertex of the edge is on it, any other is not.
module _ (k a b : ℕ) where
  pub off : (k ≡ a → ⊥) → (k ≡ b → ⊥) → off_ends k (between a b) ≡ true
  unfolding off_ends
  off p q =
      ⊎_elim (λ w. rw (ne_eqb k (between a b).low (λ e. p (e ∙ w.1.0)), ne_eqb k (between a b).high (λ e. q (e ∙ w.1.1))))
      (λ w. rw (ne_eqb k (between a b).low (λ e. q (e ∙ w.1.0)), ne_eqb k (between a b).high (λ e. p (e ∙ w.1.1))))
      (ends a b)

pub on_low : (k : ℕ) (e : EndPair) → k ≡ e.low → off_ends k e ≡ false
unfolding off_ends
on_low k e q = rw (eq-eqb k e.low q)

pub on_high : (k : ℕ) (e : EndPair) → k ≡ e.high → off_ends k e ≡ false
unfolding off_ends
on_high k e q = rw (eq-eqb k e.high q) (and-false (not (eqb k e.low)))

pub on_first : (a b : ℕ) → off_ends a (between a b) ≡ false
on_first a b = ⊎_elim (λ w. on_low a (between a b) (sym w.1.0)) (λ w. on_high a (between a b) (sym w.1.1)) (ends a b)

pub on_second : (a b : ℕ) → off_ends b (between a b) ≡ false
on_second a b = ⊎_elim (λ w. on_high b (between a b) (sym w.1.1)) (λ w. on_low b (between a b) (sym w.1.0)) (ends a b)

-- a vertex by its place in the list
at : (triangles : List ℕ) (h k i : ℕ) → 3 * (h / 3) + (h % 3 + k) % 3 ≡ i → get_or triangles (3 * (h / 3) + (h % 3 + k) % 3) 0 ≡ get_or triangles i 0
at triangles h k i q = ap (λ (j : ℕ). get_or triangles j 0) q

-- Triangle f of a mesh, which names three different vertices.
module _ (triangles : List ℕ) (f : ℕ) (l : 3 * f + 2 < length triangles)
    (d : Distinct (get_or triangles (3 * f) 0) (get_or triangles (3 * f + 1) 0) (get_or triangles (3 * f + 2) 0))
  where
    -- its sides
    pub side_0 : side_edge triangles (3 * f) ≡ between (get_or triangles (3 * f) 0) (get_or triangles (3 * f + 1) 0)
    unfolding side_edge side_vertex
    side_0 = rw (at triangles (3 * f) 0 (3 * f) (omega arith), at triangles (3 * f) 1 (3 * f + 1) (omega arith))

    pub side_1 : side_edge triangles (3 * f + 1) ≡ between (get_or triangles (3 * f + 1) 0) (get_or triangles (3 * f + 2) 0)
    unfolding side_edge side_vertex
    side_1 = rw (at triangles (3 * f + 1) 0 (3 * f + 1) (omega arith), at triangles (3 * f + 1) 1 (3 * f + 2) (omega arith))

    pub side_2 : side_edge triangles (3 * f + 2) ≡ between (get_or triangles (3 * f + 2) 0) (get_or triangles (3 * f) 0)
    unfolding side_edge side_vertex
    side_2 = rw (at triangles (3 * f + 2) 0 (3 * f + 2) (omega arith), at triangles (3 * f + 2) 1 (3 * f) (omega arith))

    -- its edges in the list
    edge_0 : get_or (edges triangles) (tri_edge triangles (3 * f)) no_edge ≡ between (get_or triangles (3 * f) 0) (get_or triangles (3 * f + 1) 0)
    edge_0 = tri_edge_is triangles (3 * f) (omega arith) ∙ side_0

    edge_1 : get_or (edges triangles) (tri_edge triangles (3 * f + 1)) no_edge ≡ between (get_or triangles (3 * f + 1) 0) (get_or triangles (3 * f + 2) 0)
    edge_1 = tri_edge_is triangles (3 * f + 1) (omega arith) ∙ side_1

    edge_2 : get_or (edges triangles) (tri_edge triangles (3 * f + 2)) no_edge ≡ between (get_or triangles (3 * f + 2) 0) (get_or triangles (3 * f) 0)
    edge_2 = tri_edge_is triangles (3 * f + 2) (omega arith) ∙ side_2

    -- three different edges
    same_place : (x y : ℕ) → x ≡ y → get_or (edges triangles) x no_edge ≡ get_or (edges triangles) y no_edge
    same_place x y q = ap (λ (k : ℕ). get_or (edges triangles) k no_edge) q

    pub three_edges : Distinct (tri_edge triangles (3 * f)) (tri_edge triangles (3 * f + 1)) (tri_edge triangles (3 * f + 2))
    three_edges =
        record {
          first_second = λ q. sides_differ _ _ _ d (sym edge_0 ∙ (same_place _ _ q ∙ edge_1));
          second_third = λ q. sides_differ _ _ _ (turn d) (sym edge_1 ∙ (same_place _ _ q ∙ edge_2));
          third_first = λ q. sides_differ _ _ _ (turn (turn d)) (sym edge_2 ∙ (same_place _ _ q ∙ edge_0));
        }

    -- `local` finds each
    pub local_0 : local triangles f (tri_edge triangles (3 * f)) ≡ 0
    unfolding local
    local_0 = rw (eq-eqb (tri_edge triangles (3 * f)) (tri_edge triangles (3 * f)) refl)

    pub local_1 : local triangles f (tri_edge triangles (3 * f + 1)) ≡ 1
    unfolding local
    local_1 = rw (ne_eqb (tri_edge triangles (3 * f)) (tri_edge triangles (3 * f + 1)) three_edges.first_second, eq-eqb (tri_edge triangles (3 * f + 1)) (tri_edge triangles (3 * f + 1)) refl)

    pub local_2 : local triangles f (tri_edge triangles (3 * f + 2)) ≡ 2
    unfolding local
    local_2 = rw (ne_eqb (tri_edge triangles (3 * f)) (tri_edge triangles (3 * f + 2)) (λ q. three_edges.third_first (sym q)), ne_eqb (tri_edge triangles (3 * f + 1)) (tri_edge triangles (3 * f + 2)) three_edges.second_third)

    -- `third` is the vertex opposite to each
    pub third_0 : third triangles (tri_edge triangles (3 * f)) f ≡ get_or triangles (3 * f + 2) 0
    unfolding third
    third_0 = rw (edge_0, on_first (get_or triangles (3 * f) 0) (get_or triangles (3 * f + 1) 0), on_second (get_or triangles (3 * f) 0) (get_or triangles (3 * f + 1) 0))

    pub third_1 : third triangles (tri_edge triangles (3 * f + 1)) f ≡ get_or triangles (3 * f) 0
    unfolding third
    third_1 = rw (edge_1, off (get_or triangles (3 * f) 0) (get_or triangles (3 * f + 1) 0) (get_or triangles (3 * f + 2) 0) d.first_second (λ q. d.third_first (sym q)))

    pub third_2 : third triangles (tri_edge triangles (3 * f + 2)) f ≡ get_or triangles (3 * f + 1) 0
    unfolding third
    third_2 = rw (edge_2, on_second (get_or triangles (3 * f + 2) 0) (get_or triangles (3 * f) 0), off (get_or triangles (3 * f + 1) 0) (get_or triangles (3 * f + 2) 0) (get_or triangles (3 * f) 0) d.second_third (λ q. d.first_second (sym q)))
