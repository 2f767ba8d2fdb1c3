-- A field and a job's answer, as a caller tells them in numbers. Definitions only.
use Rattle.std.specs.Prelude.{ℕ, List, eqb, get_or, if◌then◌else◌}
use Rattle.computed.specs.declared.Computed.{Computed}
use Rattle.computed.specs.declared.Computed.TheVariants.{Refused, Field as isField}
use Rattle.computed.specs.declared.Field.{Field}

-- the counts of a field, as the whole job told them
unfoldable pub told_field : List ℕ → Field
told_field t = record { vertices = get_or t 0 0; triangles = get_or t 1 0; pieces = get_or t 2 0; edges = get_or t 3 0; windows = get_or t 4 0; steps = get_or t 5 0 }

unfoldable pub told_answer : ℕ → List ℕ → Computed
unfolding told_field
told_answer k t = if eqb k 0 then isField (told_field t) else Refused k
