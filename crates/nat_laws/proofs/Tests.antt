-- What is known of a test from an equation on it, of either way that it goes, and of one test or another. Assumes nothing.
use mathlib.Core.Bool.{Bool, true, false, not, cond, ◌||◌}
use mathlib.Core.Logic.{◌⊎◌, inl, inr}
use mathlib.Core.Path.{◌≡◌, sym, subst}
use lib.Dec.{T}

-- the equation that a branch of code gives
pub holds : (b : Bool) → b ≡ true → T b
holds b e = subst T (sym e) tt

pub fails : (b : Bool) → b ≡ false → T (not b)
fails b e = subst (λ (c : Bool). T (not c)) (sym e) tt

-- what holds whichever way a test goes, and of a choice by it
pub by_cases : (P : Bool → Type 0) (b : Bool) → (T b → P true) → (T (not b) → P false) → P b
by_cases P true f g = f tt
by_cases P false f g = g tt

pub branch : {A : Type 0} (P : A → Type 0) (b : Bool) {x y : A} → (T b → P x) → (T (not b) → P y) → P (cond b x y)
branch P b {x} {y} = by_cases (λ (c : Bool). P (cond c x y)) b

-- ---- either test
pub or_split : (a b : Bool) → T (a || b) → T a ⊎ T b
or_split true b t = inl tt
or_split false b t = inr t

pub or_l : (a b : Bool) → T a → T (a || b)
or_l true b t = tt
or_l false b t = absurd t

pub or_r : (a b : Bool) → T b → T (a || b)
or_r true b t = tt
or_r false b t = t
