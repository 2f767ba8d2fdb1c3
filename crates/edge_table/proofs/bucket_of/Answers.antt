-- `edge_table::bucket_of` meets its contract: with ends below 65,535 nothing wraps. Assumes nothing.
use Prim.Native.Nat.{◌+◌, ◌-◌, ◌*◌, ◌/◌, ◌%◌}
use mathlib.Core.Path.{sym, ◌∙◌}
use native.Mathlib.Nat.{mod-lt, mod-eq_of_lt}
use native.Mathlib.Omega.{arith}
use Rattle.edge_table.specs.Words.{bucket_of}
use Rattle.edge_table.proofs.Buckets.{scaled_below, scaled_fits, sub_mod_self}
use Rattle.edge_table.proofs.bucket_of.Goals as goal

pub overflow_mul-base-2 : goal.overflow_mul-base-2
overflow_mul-base-2 c = let a = c.args in record { fits = scaled_fits ((a.high - a.low) / 8 * 2654435761) a.size c.requires.1.1.1 }

pub overflow_add-place-2 : goal.overflow_add-place-2
overflow_add-place-2 c = let a = c.args in record { fits = omega (arith, scaled_below ((a.high - a.low) / 8 * 2654435761) a.size c.requires.1.1.0, c.requires.0, c.requires.1.0, c.requires.1.1.1) }

pub returns-then-place-size : goal.returns-then-place-size
unfolding bucket_of
returns-then-place-size c = sym (mod-eq_of_lt c.if-place-size.true)

pub returns-then-reduced-size : goal.returns-then-reduced-size
unfolding bucket_of
returns-then-reduced-size c = sym (mod-eq_of_lt c.if-reduced-size.true) ∙ sub_mod_self _ _ c.if-place-size.false

pub overflow_cast-result-3 : goal.overflow_cast-result-3
overflow_cast-result-3 c = let a = c.args in omega (arith, mod-lt ((4 * a.low + (a.high - a.low) % 8 + (a.high - a.low) / 8 * 2654435761 % 4294967296 * a.size / 4294967296) - a.size) {m = a.size} c.requires.1.1.0, c.requires.1.1.1)

pub returns : goal.returns
unfolding bucket_of
returns c = sub_mod_self _ _ c.if-place-size.false
