-- What the records of a file of roots say. Definitions only.
use Rattle.std.specs.Prelude.{List, Bool, ℕ, ◌+◌, ◌*◌, ◌/◌, length, Float}
use Rattle.std.specs.Float.{binary64}
use Rattle.root_spec.specs.Root.{sqrt_of, hypot_of}
use Rattle.vectors.specs.Records.{word_at, float_at, agrees, failing}
use Rattle.root_vectors.specs.declared.Function.{Function}
use Rattle.root_vectors.specs.declared.Function.TheVariants.{Sqrt, Hypot}

-- how many arguments the function has
abbrev pub arity : Function → ℕ
arity Sqrt = 1
arity Hypot = 2

-- a record is the arguments and the answer
abbrev pub numbers_per_record : Function → ℕ
numbers_per_record f = arity f + 1

-- what the function answers at the arguments that begin at number i
unfoldable pub answer_at : Function → List ℕ → ℕ → Float
answer_at Sqrt s i = sqrt_of binary64 (float_at s i)
answer_at Hypot s i = hypot_of binary64 (float_at s i) (float_at s (i + 1))

-- whether the answer is the one that record k has
unfoldable pub holds_at : Function → List ℕ → ℕ → Bool
holds_at f s k = agrees (answer_at f s (numbers_per_record f * k)) (word_at s (numbers_per_record f * k + arity f))

-- how many whole records there are
unfoldable pub records_in : Function → List ℕ → ℕ
records_in f s = length s / (8 * numbers_per_record f)

-- how many of the first n records differ
abbrev pub differing : Function → List ℕ → ℕ → ℕ
differing f s n = failing (holds_at f s) n
