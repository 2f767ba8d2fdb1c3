-- A candidate window whose start is from 0 on and whose end is up to its edge's length, infinities among them, is proper where it is admitted: its width as
-- computed is above tiny then, so both ends are finite. For whatever is offered that way: by insertion, by a vertex and by propagation. Assumes nothing.
--     admitted_inside, admitted_proper; offered_proper (what source_windows and propagation offer), clipped_proper (x.max(0.) and y.min(l)), whole_proper (the whole edge, 0 and l); length_point (of an edge of a checked mesh)
use Rattle.std.specs.Prelude.{Option, Some}
use Prim.Native.Nat.{ℕ}
use mathlib.Core.Bool.{not}
use lib.Dec.{T}
use lib.Ieee.{Float, binary64, lt, le, fits}
use mathlib.Core.Path.{◌≡◌, subst, sym}
use Rattle.float64.specs.Scalar.{zero64, min_of, max_of}
use Rattle.source.specs.Distance.{lowest_of}
use Rattle.source_windows.specs.Ends.{EndsOn}
use Rattle.source_windows.proofs.Ends.{ends_of}
use Rattle.source_windows.specs.declared.CandidateWindow.{CandidateWindow}
use Rattle.better.specs.Claim.{Point}
use Rattle.float_bounds.specs.Within.{Start, ClippedEnd, Inside}
use Rattle.float_bounds.proofs.Ends.{start_zero, max_start, end_length, min_end, wide_inside}
use Rattle.mesh_laws.specs.Bounds.{EdgeLength}
use Rattle.trim_model.specs.Intervals.{width, tiny_of}
use Rattle.trim_model.specs.Model.{Candidate, admits}
use Rattle.trim_model.specs.Claim.{Proper}
use Rattle.trim_model.proofs.Ranks.{tiny_nonneg}
use Rattle.trim_model.proofs.Model.{not_or}

-- the length of an edge of a checked mesh is such a length
pub length_point : (l : Float) → EdgeLength l → Point l
length_point l h = record { number = h.number; double = h.double }

module _ (limit : Float) (len : ℕ → Float) (c : Candidate) (long : Point (len c.edge)) (above : T (lt zero64 (len c.edge))) (offered : T (admits limit len c)) where
  -- not at most tiny
  wide : T (not (le (width c.b0 c.b1) (tiny_of (len c.edge))))
  wide = not_or (le (width c.b0 c.b1) (tiny_of (len c.edge))) (lt limit (lowest_of c.src c.b0 c.b1)) offered

  module _ (start : Start c.b0) (end : ClippedEnd (len c.edge) c.b1) where
    pub admitted_inside : Inside (len c.edge) c.b0 c.b1
    admitted_inside = wide_inside (len c.edge) (tiny_of (len c.edge)) c.b0 c.b1 long.number (tiny_nonneg (len c.edge) long above).nonneg start end wide

    pub admitted_proper : Proper len c
    admitted_proper =
        record {
          start = record { number = admitted_inside.start_finite; double = start.double };
          end = record { number = admitted_inside.end_finite; double = end.double };
          length = long;
          positive = above;
        }

  -- `x.max(0.)` and `y.min(l)`, whatever doubles x and y are
  pub clipped_proper : (x y : Float) → T (fits binary64 x) → T (fits binary64 y) → c.b0 ≡ max_of x zero64 → c.b1 ≡ min_of y (len c.edge) → Proper len c
  clipped_proper x y p q s e =
      admitted_proper (subst Start (sym s) (max_start zero64 x start_zero p))
      (subst (ClippedEnd (len c.edge)) (sym e) (min_end (len c.edge) (len c.edge) y (end_length (len c.edge) long.number long.double) q))

  -- the whole edge
  pub whole_proper : c.b0 ≡ zero64 → c.b1 ≡ len c.edge → Proper len c
  whole_proper s e = admitted_proper (subst Start (sym s) start_zero) (subst (ClippedEnd (len c.edge)) (sym e) (end_length (len c.edge) long.number long.double))

  -- what insertion, a vertex or propagation offers an edge, by the laws of source_windows and propagation
  pub offered_proper : {r : Option CandidateWindow} → EndsOn (len c.edge) r → r ≡ Some (record { b0 = c.b0; b1 = c.b1; src = c.src }) → Proper len c
  offered_proper on is = let ends = ends_of on is in admitted_proper ends.0 ends.1
