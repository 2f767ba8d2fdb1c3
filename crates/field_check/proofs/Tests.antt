-- The tests of single numbers, from what the code compares. Assumes nothing.
use Prim.Native.Nat.{ℕ, zero, suc, ◌-◌, ◌<◌, ◌≤◌}
use native.Mathlib.Omega.{arith}
use mathlib.Core.Bool.{Bool, true, false, not, ◌&&◌, ◌||◌}
use mathlib.Core.List.{List}
use mathlib.Core.Logic.{◌≢◌}
use mathlib.Core.Path.{◌≡◌, refl, sym, ap, ◌∙◌}
use borrow.Author.Tests.{le-leb, lt-leb, eq-eqb, ne_eqb}
use lib.Dec.{eqb}
use lib.Ieee.{Float, lt}
use Rattle.topology.specs.Edges.{no_face}
use Rattle.field_check.specs.FieldCheck.{face_outside, window_start, not_rising}

-- ---- tests one after the other
pub holds : (a b : Bool) → a ≡ true → true ≡ (a || b)
holds a b h = sym (ap (λ (x : Bool). x || b) h)

pub passes : (a b r : Bool) → a ≡ false → r ≡ b → r ≡ (a || b)
passes a b r h e = e ∙ sym (ap (λ (x : Bool). x || b) h)

-- ---- a face
module _ (triangles g : ℕ) where
  pub face_inside : g < triangles → face_outside triangles g ≡ false
  unfolding face_outside
  face_inside h = ap (λ b. b && not (eqb g no_face)) (lt-leb triangles g h)

  pub face_none : triangles ≤ g → g ≡ no_face → face_outside triangles g ≡ false
  unfolding face_outside
  face_none h e = λ i. le-leb triangles g h i && not (eq-eqb g no_face e i)

  pub face_outside_lem : triangles ≤ g → g ≢ no_face → face_outside triangles g ≡ true
  unfolding face_outside
  face_outside_lem h q = λ i. le-leb triangles g h i && not (ne_eqb g no_face q i)

-- ---- a start
pub rising_first : (f : List Float) (before i : ℕ) → before ≡ 0 → false ≡ not_rising f before i
unfolding not_rising
rising_first f before i h = rw h refl

pub rising_next : (f : List Float) (before i : ℕ) → before ≢ 0 → not (lt (window_start f (before - 1)) (window_start f i)) ≡ not_rising f before i
unfolding not_rising
rising_next f zero i q = absurd (q refl)
rising_next f (suc j) i q = ap (λ (k : ℕ). not (lt (window_start f k) (window_start f i))) (let e : suc j - 1 ≡ j = omega arith in e)
