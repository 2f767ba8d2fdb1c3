-- The ends of a window that is cut to its edge, [0, l]: `max` and `min` with any doubles, a NaN and infinities among them, keep a start from 0 on and an end up to l;
-- and where such a window is wider than some t from 0 on, as computed, both ends are finite and the start is below the end. Assumes nothing.
--     start        start_zero, start_max (b0.max(x)), max_start (x.max(b0))
--     end          end_length, end_min (b1.min(x)), min_end (x.min(b1))
--     inside       wide_inside; clipped_inside (x.max(0.) and y.min(l)); whole_inside (0 and l)
use mathlib.Core.Bool.{true, false, not}
use mathlib.Core.Path.{◌≡◌, refl, sym, subst}
use lib.Dec.{T, T_not}
use lib.Ieee.{Float, nan, inf, fin, binary64, add, sub, neg, lt, le, is_nan, fits, of_bits}
use lib.Ieee.Bits.{of_bits-fits}
use lib.Ieee.Scale.{finite}
use Rattle.float64.specs.Scalar.{zero64, min_of, max_of}
use Rattle.float64.specs.Notation.{◌⊖◌}
use Rattle.float_laws.proofs.Order.{Number, finite_number, zero_finite, past_infinity, le_refl, le_trans, le_number_l, le_number_r, le_lt_trans, not_le_lt}
use Rattle.float_laws.proofs.MinMax.{min_le_l, min_le_r, max_ge_l, max_ge_r, min_fits, max_fits}
use Rattle.float_laws.proofs.Sum.{sub_number, sub_pos_lt}
use Rattle.float_bounds.specs.Within.{Start, ClippedEnd, Inside}

-- ---- a start
pub start_zero : Start zero64
start_zero = record { from = le_refl zero64 (finite_number zero64 zero_finite); double = of_bits-fits binary64 0 }

module _ (b x : Float) (s : Start b) (d : T (fits binary64 x)) where
  pub start_max : Start (max_of b x)
  start_max = record { from = le_trans zero64 b (max_of b x) s.from (max_ge_l b x (le_number_r zero64 b s.from)); double = max_fits binary64 b x s.double d }

  pub max_start : Start (max_of x b)
  max_start = record { from = le_trans zero64 b (max_of x b) s.from (max_ge_r x b (le_number_r zero64 b s.from)); double = max_fits binary64 x b d s.double }

-- ---- an end
pub end_length : (l : Float) → T (finite l) → T (fits binary64 l) → ClippedEnd l l
end_length l F d = record { upto = le_refl l (finite_number l F); double = d }

module _ (l b x : Float) (s : ClippedEnd l b) (d : T (fits binary64 x)) where
  pub end_min : ClippedEnd l (min_of b x)
  end_min = record { upto = le_trans (min_of b x) b l (min_le_l b x (le_number_l b l s.upto)) s.upto; double = min_fits binary64 b x s.double d }

  pub min_end : ClippedEnd l (min_of x b)
  min_end = record { upto = le_trans (min_of x b) b l (min_le_r x b (le_number_l b l s.upto)) s.upto; double = min_fits binary64 x b d s.double }

-- ---- the width
-- A start from 0 on is finite or plus infinity, an end up to a finite l is finite or minus infinity. If one is infinite the width is minus infinity.
lowest : (t : Float) → Number t → T (le (inf true) t)
unfolding le is_nan
lowest nan a = a
lowest (inf true) a = tt
lowest (inf false) a = tt
lowest (fin s m e) a = tt

not_top : (l : Float) → T (finite l) → T (le (inf false) l) → ⊥
not_top nan F h = F
not_top (inf s) F h = F
not_top (fin s m e) F h = past_infinity s m e h

narrow : (t w : Float) → Number t → w ≡ inf true → T (not (le w t)) → ⊥
narrow t w a e h = T_not (le w t) h (subst (λ (v : Float). T (le v t)) (sym e) (lowest t a))

both_finite : (l t b0 b1 : Float) → T (finite l) → Number t → T (le zero64 b0) → T (le b1 l) → T (not (le (b1 ⊖ b0) t)) → T (finite b0) × T (finite b1)
unfolding sub add neg le of_bits
both_finite l t nan b1 F a h k w = absurd h
both_finite l t (inf true) b1 F a h k w = absurd h
both_finite l t (inf false) nan F a h k w = absurd k
both_finite l t (inf false) (inf true) F a h k w = absurd (narrow t (inf true) a refl w)
both_finite l t (inf false) (inf false) F a h k w = absurd (not_top l F k)
both_finite l t (inf false) (fin s m e) F a h k w = absurd (narrow t (inf true) a refl w)
both_finite l t (fin s m e) nan F a h k w = absurd k
both_finite l t (fin s m e) (inf true) F a h k w = absurd (narrow t (inf true) a refl w)
both_finite l t (fin s m e) (inf false) F a h k w = absurd (not_top l F k)
both_finite l t (fin s m e) (fin r n d) F a h k w = (tt, tt)

-- wider than t, as computed, in the words of `add`: not at most t
module _ (l t b0 b1 : Float) (F : T (finite l)) (z : T (le zero64 t)) (s : Start b0) (e : ClippedEnd l b1) (wide : T (not (le (b1 ⊖ b0) t))) where
  pub wide_inside : Inside l b0 b1
  wide_inside =
      let both = both_finite l t b0 b1 F (le_number_r zero64 t z) s.from e.upto wide in
      let w : T (lt t (b1 ⊖ b0)) = not_le_lt (b1 ⊖ b0) t (sub_number binary64 b1 b0 both.1 both.0) (le_number_r zero64 t z) wide in
      record {
        start_finite = both.0;
        end_finite = both.1;
        from = s.from;
        rises = sub_pos_lt binary64 b0 b1 both.0 both.1 (le_lt_trans zero64 t (b1 ⊖ b0) z w);
        upto = e.upto;
      }

module _ (l : Float) (F : T (finite l)) (d : T (fits binary64 l)) where
  -- `x.max(0.)` and `y.min(l)`
  pub clipped_inside : (t x y : Float) → T (fits binary64 x) → T (fits binary64 y) → T (le zero64 t) → T (not (le (min_of y l ⊖ max_of x zero64) t)) → Inside l (max_of x zero64) (min_of y l)
  clipped_inside t x y p q z wide = wide_inside l t (max_of x zero64) (min_of y l) F z (max_start zero64 x start_zero p) (min_end l l y (end_length l F d) q) wide

  -- the whole edge
  pub whole_inside : T (lt zero64 l) → Inside l zero64 l
  whole_inside h =
      record { start_finite = zero_finite; end_finite = F; from = le_refl zero64 (finite_number zero64 zero_finite); rises = h; upto = le_refl l (finite_number l F) }
