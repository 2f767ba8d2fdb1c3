-- The total order of keys beside `le` and `lt`: on numbers it refines them, so that what is sorted by it rises. Assumes nothing.
--     total_lt (what is less is less by the total order), total_le, not_total_le (the other way), total_trans; lt_key, key_le (the same of `total_key`, of doubles)
use Prim.Native.Nat.{◌≤◌, ◌<◌}
use mathlib.Core.Bool.{Bool, not, ◌&&◌, ◌||◌}
use mathlib.Core.Logic.{inl, inr}
use mathlib.Core.Path.{sym, subst}
use lib.Dec.{T, T_not, not_T, ltb→lt, lt→ltb}
use native.Mathlib.Omega.{arith}
use lib.Ieee.{Float, binary64, lt, le, eq, is_nan, fits}
use lib.Ieee.Fits.{and_l, and_r}
use borrow.Author.Tests.{le-ltb}
use Rattle.float64.specs.Scalar.{negative}
use Rattle.float64.specs.TotalOrder.{total_key, total_less}
use Rattle.float64.proofs.TotalOrder.{total_key_less}
use Rattle.nat_laws.proofs.Tests.{or_l, or_split}
use Rattle.float_laws.proofs.Order.{Number, lt_le, eq_le, not_lt_le}

pub total_lt : (x y : Float) → T (lt x y) → T (total_less x y)
unfolding total_less
total_lt x y h = or_l (lt x y) (not (is_nan x) && is_nan y || (eq x y && (negative x && not (negative y)))) h

pub total_le : (x y : Float) → Number y → T (total_less x y) → T (le x y)
unfolding total_less
total_le x y b h = elim (or_split (lt x y) (not (is_nan x) && is_nan y || (eq x y && (negative x && not (negative y)))) h) [
  | inl l ↦ lt_le x y l
  | inr r ↦ elim (or_split (not (is_nan x) && is_nan y) (eq x y && (negative x && not (negative y))) r) [
    | inl n ↦ absurd (T_not (is_nan y) b (and_r (not (is_nan x)) (is_nan y) n))
    | inr e ↦ eq_le x y (and_l (eq x y) (negative x && not (negative y)) e)
  ]
]

pub not_total_le : (x y : Float) → Number x → Number y → T (not (total_less x y)) → T (le y x)
not_total_le x y a b h = not_lt_le x y a b (not_T (lt x y) (λ l. T_not (total_less x y) h (total_lt x y l)))

pub lt_key : (x y : Float) → T (fits binary64 x) → T (fits binary64 y) → T (lt x y) → total_key x < total_key y
lt_key x y p q h = ltb→lt (total_key x) (total_key y) (subst T (sym (total_key_less x y p q)) (total_lt x y h))

pub key_le : (x y : Float) → T (fits binary64 x) → T (fits binary64 y) → Number x → Number y → total_key x ≤ total_key y → T (le x y)
key_le x y p q a b h = not_total_le y x b a (subst (λ (c : Bool). T (not c)) (total_key_less y x q p) (subst (λ (c : Bool). T (not c)) (sym (le-ltb (total_key y) (total_key x) h)) tt))

pub total_trans : (x y z : Float) → T (fits binary64 x) → T (fits binary64 y) → T (fits binary64 z) → T (total_less x y) → T (total_less y z) → T (total_less x z)
total_trans x y z p q r h k =
    let a = ltb→lt (total_key x) (total_key y) (subst T (sym (total_key_less x y p q)) h) in
    let b = ltb→lt (total_key y) (total_key z) (subst T (sym (total_key_less y z q r)) k) in
    subst T (total_key_less x z p r) (lt→ltb (total_key x) (total_key z) (omega (arith, a, b)))
