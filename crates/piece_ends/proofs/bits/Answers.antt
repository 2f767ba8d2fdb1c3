-- `piece_ends::bits` meets its contract. Assumes nothing.
use mathlib.Core.Path.{◌≡◌, refl, subst, sym}
use lib.Dec.{T}
use lib.Ieee.{nan, binary64, to_bits}
use lib.Ieee.Compare.{differs_from_itself}
use Rattle.root_spec.proofs.Floats.{no_nan}
use Rattle.piece_ends.proofs.bits.Goals as goal

nan-bits : to_bits binary64 nan ≡ 0x7ff8_0000_0000_0000
unfolding to_bits
nan-bits = refl

pub returns-then-x : goal.returns-then-x
returns-then-x c = rw (differs_from_itself c.args.x (subst T (sym c.if-x.true) tt)) (sym nan-bits)

pub float_to_bits-result : goal.float_to_bits-result
float_to_bits-result c = no_nan _ c.if-x.false
