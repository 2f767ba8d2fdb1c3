-- q is the root of n / u cut to a whole number, and c is q or q + 1, whichever is nearer, by the rule of `root_of`. In squares, with no floats yet. Assumes nothing.
use mathlib.Core.Path.{◌≡◌, refl, sym, ap, ◌∙◌, subst}
use Prim.Native.Nat.{ℕ, zero, suc, ◌+◌, ◌*◌, ◌/◌, ◌%◌, ◌≤◌, ◌<◌, compare, Ordering}
use native.Mathlib.Nat.{le_refl, le_trans, le_of_eq, le_of_lt, lt_of_lt_of_le, mul-le-mul, mul-le-mul_right, le-div_iff_mul-le, div-lt_iff_lt-mul}
use native.Mathlib.Omega.{arith}
use lib.Ieee.{nearest}
use Rattle.nat_laws.proofs.Ring.{ring}
use Rattle.nat_laws.proofs.Compare.{Cmp, cmp}
use Rattle.root_spec.proofs.Isqrt.{Rooted}

-- (c + q) / 2 ≤ √(n / u) ≤ (c + (c + 1)) / 2, and c is even where √(n / u) is the middle of c and a neighbour
pub record Rounded (n u q c : ℕ) : Type 0 where
  pub from : q ≤ c
  pub to : c ≤ q + 1
  pub least : (c + q) * (c + q) * u ≤ 4 * n
  pub most : 4 * n ≤ (c + (c + 1)) * (c + (c + 1)) * u
  pub even_low : c ≡ q + 1 → 4 * n ≡ (c + q) * (c + q) * u → c % 2 ≡ 0
  pub even_high : 4 * n ≡ (c + (c + 1)) * (c + (c + 1)) * u → c % 2 ≡ 0

pub doubled : (x u : ℕ) → (x + x) * (x + x) * u ≡ 4 * (x * x * u)
doubled x u = simp ring (omega arith)

abbrev mid : ℕ → ℕ → ℕ
mid q u = (2 * q + 1) * (2 * q + 1) * u

module _ (n u q : ℕ) (U : 0 < u) (r : Rooted (n / u) q) where
  at_least : (q + q) * (q + q) * u ≤ 4 * n
  at_least = omega (arith, doubled q u, (le-div_iff_mul-le {k = u} {x = q * q} {y = n} U).0 r.least)

  under_next : 4 * n < (q + 1 + (q + 1)) * (q + 1 + (q + 1)) * u
  under_next = omega (arith, doubled (q + 1) u, (div-lt_iff_lt-mul {k = u} {x = n} {y = (q + 1) * (q + 1)} U).0 r.most)

  stays : 4 * n ≤ mid q u → (4 * n ≡ mid q u → q % 2 ≡ 0) → Rounded n u q q
  stays h even =
      let e : mid q u ≡ (q + (q + 1)) * (q + (q + 1)) * u = ap (λ (x : ℕ). x * x * u) (let i : 2 * q + 1 ≡ q + (q + 1) = omega arith in i) in
      record {
        from = le_refl q;
        to = omega arith;
        least = at_least;
        most = le_trans h (le_of_eq e);
        even_low = λ z t. let y : ⊥ = omega arith in absurd y;
        even_high = λ t. even (t ∙ sym e);
      }

  moves : mid q u ≤ 4 * n → (4 * n ≡ mid q u → (q + 1) % 2 ≡ 0) → Rounded n u q (q + 1)
  moves h even =
      let e : mid q u ≡ (q + 1 + q) * (q + 1 + q) * u = ap (λ (x : ℕ). x * x * u) (let i : 2 * q + 1 ≡ q + 1 + q = omega arith in i) in
      let d : q + 1 + (q + 1) ≤ q + 1 + (q + 1 + 1) = omega arith in
      let m = lt_of_lt_of_le under_next (mul-le-mul_right u (mul-le-mul d d)) in
      record {
        from = omega arith;
        to = le_refl (q + 1);
        least = le_trans (le_of_eq (sym e)) h;
        most = le_of_lt m;
        even_low = λ z t. even (t ∙ sym e);
        even_high = λ t. let y : ⊥ = omega (arith, t, m) in absurd y;
      }

  settle : (o : Ordering) → Cmp o (4 * n) (mid q u) → Rounded n u q (nearest q o)
  settle Ordering.lt c = stays (le_of_lt c) (λ t. let y : ⊥ = omega (arith, t, c) in absurd y)
  settle Ordering.eq c = tie (q % 2) refl
    where
      tie : (x : ℕ) → q % 2 ≡ x → Rounded n u q (q + q % 2)
      tie zero z = subst (λ (x : ℕ). Rounded n u q x) (let i : q ≡ q + q % 2 = omega arith in i) (stays (le_of_eq c) (λ t. z))
      tie (suc x) z = subst (λ (x : ℕ). Rounded n u q x) (let i : q + 1 ≡ q + q % 2 = omega arith in i) (moves (le_of_eq (sym c)) (λ t. omega arith))
  settle Ordering.gt c = subst (λ (x : ℕ). Rounded n u q x) (let i : q + 1 ≡ suc q = omega arith in i) (moves (le_of_lt c) (λ t. let y : ⊥ = omega (arith, t, c) in absurd y))

pub halfway : (n u q : ℕ) → 0 < u → Rooted (n / u) q → Rounded n u q (nearest q (compare (4 * n) ((2 * q + 1) * (2 * q + 1) * u)))
halfway n u q U r = settle n u q U r (compare (4 * n) (mid q u)) (cmp (4 * n) (mid q u))
