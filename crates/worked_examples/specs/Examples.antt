-- The examples that the scope, document 01, has under "Checked by hand", by its numbers. Definitions only.
use Rattle.std.specs.Prelude.{List, [], ◌∷◌, ℕ, pos, Float}
use Rattle.std.specs.Float.{nan, binary64}
use Rattle.std.specs.Float.Ieee.{of_int, neg}
use Rattle.root_spec.specs.Root.{sqrt_of, hypot_of}
use Rattle.float64.specs.Notation.{◌⊘◌}
use Rattle.source.specs.Quadratic.{roots_of}
use Rattle.source.specs.Distance.{lowest_of, ties_of}
use Rattle.source.specs.declared.RealRoots.{RealRoots}
use Rattle.source.specs.declared.RealRoots.TheVariants.{None, One, Two}
use Rattle.source.specs.declared.Src.TheVariants.{Point}

-- what the definition answers, and what the scope says that it does: no number, one, or several in order
pub record Example : Type 0 where
  pub answer : List Float
  pub expected : List Float

-- a whole number
abbrev num : ℕ → Float
num n = of_int binary64 (pos n)

-- the roots in order
abbrev listed : RealRoots → List Float
listed None = []
listed (One x) = x ∷ []
listed (Two x y) = x ∷ y ∷ []

unfoldable pub examples : List Example
examples =
    -- P1: the root of 25 is 5
    record { answer = sqrt_of binary64 (num 25) ∷ []; expected = num 5 ∷ [] }
    -- P2: the root of -1 is NaN
    ∷ record { answer = sqrt_of binary64 (neg (num 1)) ∷ []; expected = nan ∷ [] }
    -- P3: the hypotenuse of 3 and 4 is 5
    ∷ record { answer = hypot_of binary64 (num 3) (num 4) ∷ []; expected = num 5 ∷ [] }
    -- P4: the hypotenuse of 5 and 12 is 13
    ∷ record { answer = hypot_of binary64 (num 5) (num 12) ∷ []; expected = num 13 ∷ [] }
    -- P5: the equation 0 has no root
    ∷ record { answer = listed (roots_of (num 0) (num 0) (num 0)); expected = [] }
    -- P6: 2 x - 6 has the root 3
    ∷ record { answer = listed (roots_of (num 0) (num 2) (neg (num 6))); expected = num 3 ∷ [] }
    -- P7: x² - 3 x + 2 has the roots 2, then 1
    ∷ record { answer = listed (roots_of (num 1) (neg (num 3)) (num 2)); expected = num 2 ∷ num 1 ∷ [] }
    -- P8: x² + 1 has none
    ∷ record { answer = listed (roots_of (num 1) (num 0) (num 1)); expected = [] }
    -- P9: x² + 2 x + 1 has -1, twice
    ∷ record { answer = listed (roots_of (num 1) (num 2) (num 1)); expected = neg (num 1) ∷ neg (num 1) ∷ [] }
    -- P10: x² has one root, minus zero
    ∷ record { answer = listed (roots_of (num 1) (num 0) (num 0)); expected = neg (num 0) ∷ [] }
    -- P11: points at (0, -1) and (4, -1) that carry 0 tie at 2
    ∷ record { answer = listed (ties_of (Point (num 0) (neg (num 1)) (num 0)) (Point (num 4) (neg (num 1)) (num 0))); expected = num 2 ∷ [] }
    -- P12: the lowest of the point (1, -2) that carries 0.5, over 0 to 3, is 2.5
    ∷ record { answer = lowest_of (Point (num 1) (neg (num 2)) (num 1 ⊘ num 2)) (num 0) (num 3) ∷ []; expected = num 5 ⊘ num 2 ∷ [] }
    -- P13: the lowest of the point (0, -4) that carries 0, over 3 to 5, is 5
    ∷ record { answer = lowest_of (Point (num 0) (neg (num 4)) (num 0)) (num 3) (num 5) ∷ []; expected = num 5 ∷ [] }
    ∷ []
