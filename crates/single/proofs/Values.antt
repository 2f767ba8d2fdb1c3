-- The value of a pattern, and whether a single has a double's value. Assumes nothing.
use Prim.Native.Nat.{ℕ, ◌%◌, ◌<◌, ◌≤◌}
use mathlib.Core.Path.{◌≡◌, refl, sym, ap, ◌∙◌, subst}
use mathlib.Core.Bool.{Bool, true, false, not, true≢false}
use borrow.Author.Tests.{lt-ltb, le-ltb}
use lib.Dec.{T}
use lib.Ieee.{Float, nan, inf, fin, binary32, binary64, fits, is_nan, of_bits, to_bits}
use lib.Ieee.Bits.{is_true, nan_bits_is, nan_bits_above, of_bits-fits, of_bits-to_bits}
use lib.Ieee.Fits.{and_r, fits_widens}
use lib.Ieee.Scale.{finite}
use Rattle.single.specs.Single.{is_single}

-- the patterns above the infinity's, the sign aside, are the NaN's
pub nan_is : (b : ℕ) → 0x7f80_0000 < b % 0x8000_0000 → nan ≡ of_bits binary32 b
unfolding is_nan
nan_is b h = only (of_bits binary32 b) (sym (nan_bits_is binary32 b) ∙ nan_bits_above binary32 b ∙ lt-ltb _ _ h)
  where
    only : (x : Float) → is_nan x ≡ true → nan ≡ x
    only nan e = refl
    only (inf s) e = absurd (true≢false (sym e))
    only (fin s m k) e = absurd (true≢false (sym e))

pub number_is : (b : ℕ) → b % 0x8000_0000 ≤ 0x7f80_0000 → T (not (is_nan (of_bits binary32 b)))
number_is b h = subst (λ (t : Bool). T (not t)) (sym (sym (nan_bits_is binary32 b) ∙ nan_bits_above binary32 b ∙ le-ltb _ _ h)) tt

pub wide : (c : ℕ) → T (fits binary64 (of_bits binary32 c))
wide c = fits_widens (of_bits binary32 c) (of_bits-fits binary32 c)

module _ (x : Float) (c : ℕ) where
  -- a single has the same bits as a double
  pub is_one : T (fits binary64 x) → finite x ≡ true → to_bits binary64 (of_bits binary32 c) ≡ to_bits binary64 x → true ≡ is_single x
  unfolding is_single
  is_one h f e =
      let v : of_bits binary32 c ≡ x = sym (of_bits-to_bits binary64 (of_bits binary32 c) (wide c)) ∙ ap (of_bits binary64) e ∙ of_bits-to_bits binary64 x h in
      let t : fits binary32 x ≡ true = is_true (fits binary32 x) (subst (λ y. T (fits binary32 y)) v (of_bits-fits binary32 c)) in
      rw (f, t)

  -- the single that there would be has not
  pub is_none : (T (is_single x) → c ≡ to_bits binary32 x) → (to_bits binary64 (of_bits binary32 c) ≡ to_bits binary64 x → ⊥) → false ≡ is_single x
  unfolding is_single
  is_none g n = go (is_single x) (λ t. n (ap (to_bits binary64) (ap (of_bits binary32) (g t) ∙ of_bits-to_bits binary32 x (and_r (finite x) (fits binary32 x) t))))
    where
      go : (b : Bool) → (T b → ⊥) → false ≡ b
      go true k = absurd (k tt)
      go false k = refl

  pub not_finite : finite x ≡ false → false ≡ is_single x
  unfolding is_single
  not_finite f = rw f
