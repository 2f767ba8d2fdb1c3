-- What the stored cases of `better` say. A record is packed, from byte i on: two sources of 25 bytes, lo and hi, the capacity of the lists, the refusal (0 or 14) at byte 70,
-- the count of stretches at byte 71, and from byte 75 on their ends. Definitions only.
use Rattle.std.specs.Prelude.{◌≡◌, List, Bool, ◌&&◌, ℕ, ◌+◌, ◌*◌, ◌/◌, ◌%◌, ◌≤◌, length, get_or, eqb, Float, Option, Some, None}
use Rattle.std.specs.Float.{nan}
use Rattle.vectors.specs.Records.{agrees, failing}
use Rattle.source_records.specs.Records.{word_from, float_from, src_from}
use Rattle.better.specs.Points.{pts_of, walk_of}
use Rattle.better.specs.Stretches.{better_of}
use Rattle.better.specs.Buffers.{Answers}

-- the capacity and the count of stretches of the record at byte i
unfoldable pub slot_count_of : List ℕ → ℕ → ℕ
slot_count_of s i = word_from s (i + 66) % 4294967296

unfoldable pub stretches_of : List ℕ → ℕ → ℕ
stretches_of s i = word_from s (i + 67) / 4294967296

-- at how many of the first n floats of a buffer another is stored from byte i on
abbrev pub other_floats : List Float → List ℕ → ℕ → ℕ → ℕ
other_floats out s i n = failing (λ k. agrees (get_or out k nan) (word_from s (i + 8 * k))) n

-- whether an answer, with its stretches in front of out, is the one that the record at byte i says
unfoldable pub same_listed : Option ℕ → List Float → List ℕ → ℕ → Bool
same_listed None out s i = eqb (get_or s (i + 70) 0) 14
same_listed (Some m) out s i = eqb (get_or s (i + 70) 0) 0 && (eqb m (stretches_of s i) && eqb (other_floats out s (i + 75) (2 * m)) 0)

-- the stretches of an answer are within its buffer
abbrev pub FitsOut : Option ℕ → List Float → Type 0
FitsOut None out = Unit {0}
FitsOut (Some m) out = m + m ≤ length out

-- b says whether the right answer to the record's case, in lists of `size` points and of out's stretches, is the record's
pub record Decides (s : List ℕ) (i size : ℕ) (out : List Float) (b : Bool) : Type 0 where
  pub answer : Option ℕ
  pub right :
      Answers answer size out
      (walk_of (src_from s i) (src_from s (i + 25)) (pts_of (src_from s i) (src_from s (i + 25)) (float_from s (i + 50)) (float_from s (i + 58))))
      (better_of (src_from s i) (src_from s (i + 25)) (float_from s (i + 50)) (float_from s (i + 58)))
  pub decided : b ≡ same_listed answer out s i

-- the same in lists of the record's capacity, an entry of out two numbers
pub record Replayed (s : List ℕ) (i : ℕ) (b : Bool) : Type 0 where
  pub out : List Float
  pub entries : length out ≡ 2 * slot_count_of s i
  pub decides : Decides s i (slot_count_of s i) out b

-- it is so where the buffers have that many numbers
abbrev pub Replays : List ℕ → ℕ → List Float → List Float → Bool → Type 0
Replays s i pts out b = slot_count_of s i ≤ length pts → 2 * slot_count_of s i ≤ length out → Replayed s i b
