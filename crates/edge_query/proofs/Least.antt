-- `min_of` is associative and passes over a NaN, whatever the operands: it gives the first of the least. Assumes nothing.
use mathlib.Core.Logic.{◌⊎◌, inl, inr}
use mathlib.Core.Path.{◌≡◌, refl}
use lib.Ieee.{Float, nan, inf, fin, lt, is_nan}
use Rattle.float64.specs.Scalar.{min_of}
use Rattle.float_laws.proofs.Order.{Number, le_trans, lt_trans, le_or_lt}
use Rattle.float_laws.proofs.MinMax.{min_left, min_right}

pub nan_min : (x : Float) → min_of nan x ≡ x
unfolding min_of is_nan
nan_min x = refl

pub min_nan : (x : Float) → min_of x nan ≡ x
unfolding min_of is_nan lt
min_nan nan = refl
min_nan (inf s) = refl
min_nan (fin s m e) = refl

-- of three numbers
module _ (a b c : Float) (p : Number a) (q : Number b) (r : Number c) where
  three : min_of (min_of a b) c ≡ min_of a (min_of b c)
  three = elim (le_or_lt a b p q) [
    | inl h ↦ elim (le_or_lt b c q r) [
      | inl k ↦ rw (min_left a b h, min_left b c k, min_left a b h, min_left a c (le_trans a b c h k)) refl
      | inr k ↦ rw (min_left a b h, min_right b c k) refl
    ]
    | inr h ↦ elim (le_or_lt b c q r) [
      | inl k ↦ rw (min_right a b h, min_left b c k, min_right a b h) refl
      | inr k ↦ rw (min_right a b h, min_right b c k, min_right a c (lt_trans c b a k h)) refl
    ]
  ]

nan_or_number : (x : Float) → (x ≡ nan) ⊎ Number x
unfolding is_nan
nan_or_number nan = inl refl
nan_or_number (inf s) = inr tt
nan_or_number (fin s m e) = inr tt

pub min_assoc : (a b c : Float) → min_of (min_of a b) c ≡ min_of a (min_of b c)
min_assoc a b c = elim (nan_or_number a) [
  | inl h ↦ rw (h, nan_min b, nan_min (min_of b c)) refl
  | inr p ↦ elim (nan_or_number b) [
    | inl h ↦ rw (h, min_nan a, nan_min c) refl
    | inr q ↦ elim (nan_or_number c) [
      | inl h ↦ rw (h, min_nan (min_of a b), min_nan b) refl
      | inr r ↦ three a b c p q r
    ]
  ]
]
