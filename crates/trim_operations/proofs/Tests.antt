-- The tests of a candidate, by their answers. Assumes nothing.
use Prim.Native.Nat.{ℕ, ◌≤◌, ◌<◌}
use mathlib.Core.Bool.{Bool, true, false, cond, ◌&&◌}
use mathlib.Core.Path.{◌≡◌, refl, sym, subst, ◌∙◌}
use borrow.Author.Tests.{le-ltb, lt-ltb}
use lib.Dec.{T, ltb}
use lib.Ieee.{Float, binary64, fits}
use Rattle.trim_operations.specs.Run.{has_length, is_on_edge, operation_refusal}

pub double : (x : Float) → fits binary64 x ≡ true → T (fits binary64 x)
double x h = subst T (sym h) tt

-- two tests, one after the other
pub both_second : (a b r : Bool) → a ≡ true → r ≡ b → r ≡ (a && b)
both_second a b r h k = rw (h, k)

pub both_first : (a b : Bool) → a ≡ false → false ≡ (a && b)
both_first a b h = rw h

no_edge : (a h i : Bool) → a ≡ false → ◌≡◌ {A = ℕ} 71 (cond (a && h) (cond i 0 72) 71)
no_edge a h i k = rw k

no_length : (a h i : Bool) → h ≡ false → ◌≡◌ {A = ℕ} 71 (cond (a && h) (cond i 0 72) 71)
no_length true h i k = rw k
no_length false h i k = refl

ends : (a h i j : Bool) (r : ℕ) → a ≡ true → h ≡ true → r ≡ cond (i && j) 0 72 → r ≡ cond (a && h) (cond (i && j) 0 72) 71
ends a h i j r k l m = rw (k, l) m

-- answers of the tests, where the edge is e of m
module _ (m e : ℕ) (l b0 b1 : Float) where
  pub refuse_edge : m ≤ e → 71 ≡ operation_refusal m e l b0 b1
  refuse_edge h = no_edge (ltb e m) (has_length l) (is_on_edge l b0 && is_on_edge l b1) (le-ltb e m h)

  module _ (h : Bool) (isLength : h ≡ has_length l) where
    pub refuse_length : h ≡ false → 71 ≡ operation_refusal m e l b0 b1
    refuse_length k = no_length (ltb e m) (has_length l) (is_on_edge l b0 && is_on_edge l b1) (sym isLength ∙ k)

    module _ (below : e < m) (has : h ≡ true) (i : Bool) (isStart : i ≡ is_on_edge l b0) where
      pub refuse_start : i ≡ false → 72 ≡ operation_refusal m e l b0 b1
      refuse_start k = ends (ltb e m) (has_length l) (is_on_edge l b0) (is_on_edge l b1) 72 (lt-ltb e m below) (sym isLength ∙ has) (go (is_on_edge l b0) (is_on_edge l b1) (sym isStart ∙ k)) where
        go : (a b : Bool) → a ≡ false → ◌≡◌ {A = ℕ} 72 (cond (a && b) 0 72)
        go a b h = rw h

      module _ (on : i ≡ true) (j : Bool) (is_end : j ≡ is_on_edge l b1) where
        pub refuse_end : j ≡ false → 72 ≡ operation_refusal m e l b0 b1
        refuse_end k = ends (ltb e m) (has_length l) (is_on_edge l b0) (is_on_edge l b1) 72 (lt-ltb e m below) (sym isLength ∙ has) (go (is_on_edge l b0) (is_on_edge l b1) (sym isStart ∙ on) (sym is_end ∙ k)) where
          go : (a b : Bool) → a ≡ true → b ≡ false → ◌≡◌ {A = ℕ} 72 (cond (a && b) 0 72)
          go a b h k = rw (h, k)

        pub refuse_none : j ≡ true → 0 ≡ operation_refusal m e l b0 b1
        refuse_none k = ends (ltb e m) (has_length l) (is_on_edge l b0) (is_on_edge l b1) 0 (lt-ltb e m below) (sym isLength ∙ has) (go (is_on_edge l b0) (is_on_edge l b1) (sym isStart ∙ on) (sym is_end ∙ k)) where
          go : (a b : Bool) → a ≡ true → b ≡ true → ◌≡◌ {A = ℕ} 0 (cond (a && b) 0 72)
          go a b h k = rw (h, k)
