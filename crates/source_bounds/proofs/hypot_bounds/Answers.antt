-- `source_bounds::hypot_bounds` meets its contract. Assumes nothing.
use mathlib.Core.Path.{sym, subst}
use lib.Dec.{T}
use lib.Ieee.{binary64, of_bits}
use lib.Ieee.Fits.{mul-fits}
use Rattle.source_bounds.proofs.Enclosed.{certified_encloses}
use Rattle.source_bounds.proofs.hypot_bounds.Goals as goal

pub returns-then-is_certified : goal.returns-then-is_certified
returns-then-is_certified c =
    let a = c.args in
    certified_encloses a.d a.y _ _ (subst T (sym c.well_formed.0.1) tt) (subst T (sym c.well_formed.1.0.1) tt)
    (mul-fits binary64 c.near_root-q.result (of_bits binary64 0x3fef_ffff_ffff_e000)) (mul-fits binary64 c.near_root-q.result (of_bits binary64 0x3ff0_0000_0000_1000))
    (c.is_certified.ensures (subst T (sym c.if-is_certified.true) tt))
