-- Text as bytes, and what putting it into a slice leaves. Definitions only.
use Rattle.std.specs.Prelude.{ℕ, zero, suc, ◌+◌, ◌/◌, ◌%◌, cond, List, [], ◌∷◌, ◌++◌, ◌≡◌, ltb, length}
use Rattle.std.proofs.lemmas.List.Edits.{sets}

-- the decimal digits of a number that has at most so many, the most significant first, in ASCII
unfoldable pub digits_of : ℕ → ℕ → List ℕ
digits_of zero n = []
digits_of (suc most) n = cond (ltb n 10) [] (digits_of most (n / 10)) ++ ((48 + n % 10) ∷ [])

-- of any number: none has more digits than its size and one
unfoldable pub decimal : ℕ → List ℕ
unfolding digits_of
decimal n = digits_of (suc n) n

-- `after` is the list `before` with the text in it from place i on, as far as it goes, and j is the place behind the text
pub record Puts (before : List ℕ) (i : ℕ) (text : List ℕ) (after : List ℕ) (j : ℕ) : Type 0 where
  pub holds : after ≡ sets before i text
  pub ends : j ≡ i + length text
