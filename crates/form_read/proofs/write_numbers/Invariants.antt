use Rattle.form_read.specs.Places.{value_read, number_place}
use Rattle.groups.specs.declared.Form.TheVariants.{Groups}
use Rattle.groups.specs.Groups.{number_at}
use Rattle.nat_laws.specs.Lists.{list_of}
use Rattle.little_endian.specs.Bytes.{put_in_front}
use lib.ListN.{length}
use Prim.Native.Nat.{◌+◌, ◌*◌, ◌≤◌}
use mathlib.Core.Path.{◌≡◌}
use Rattle.form_read.proofs.write_numbers.Given as goal

abbrev pub invariant-loop-k : goal.invariant-loop-k
invariant-loop-k l =
    (length l.to ≡ length l.initial.to)
    × (l.k ≤ l.n)
    × (l.at ≤ l.i + 5 * l.k)
    × (l.at ≡ number_place l.s l.i l.k)
    × (l.to ≡ put_in_front (list_of l.k (λ j. value_read (number_at Groups l.s (number_place l.s l.i j)))) l.initial.to)
