-- What holds of each element of a list, and of each two; the list that a function makes; a list put in order. Definitions only.
use Rattle.std.specs.Prelude.{ℕ, zero, suc, Bool, cond}
use mathlib.Core.List.{List, [], ◌∷◌, ◌++◌}

module _ {A : Type 0} where
  abbrev pub All : (A → Type 0) → List A → Type 0
  All P [] = Unit {0}
  All P (x ∷ xs) = P x × All P xs

  -- the earlier of the two first
  abbrev pub Pairs : (A → A → Type 0) → List A → Type 0
  Pairs R [] = Unit {0}
  Pairs R (x ∷ xs) = All (R x) xs × Pairs R xs

  -- the list of f 0, f 1, .. up to n of them
  unfoldable pub list_of : ℕ → (ℕ → A) → List A
  list_of zero f = []
  list_of (suc n) f = list_of n f ++ (f n ∷ [])

-- by a test whether one comes before another
module _ {A : Type 0} (before : A → A → Bool) where
  -- u behind the first elements that come before it
  unfoldable pub insert_by : A → List A → List A
  insert_by u [] = u ∷ []
  insert_by u (v ∷ vs) = cond (before v u) (v ∷ insert_by u vs) (u ∷ v ∷ vs)

  unfoldable pub sort_by : List A → List A
  unfolding insert_by
  sort_by [] = []
  sort_by (u ∷ us) = insert_by u (sort_by us)
