use Prim.Native.Nat.{◌+◌, ◌%◌}
use lib.ListN.{length}
use mathlib.Core.Path.{◌≡◌}
use Rattle.stored_numbers.specs.Numbers.{stored_number}
use Rattle.stored_numbers.proofs.Rows.{Written}
use Rattle.stored_numbers.proofs.read_bytes.Given as goal

abbrev pub invariant-loop-i : goal.invariant-loop-i
invariant-loop-i l = (length l.to ≡ length l.initial.to) × Written 0 (λ j. stored_number l.s (l.k + j) % 256) l.i l.to
