-- A slip in either form, and its move to the other: a plain slip is document 01's; the other form is document 02's, L12. Definitions only.
use Prim.Native.Nat.{ℕ, zero, suc, ◌+◌, ◌*◌, ◌≤◌, ◌<◌}
use Rattle.std.proofs.Math.Bool.{cond}
use mathlib.Core.List.{List, [], ◌∷◌, ◌++◌}
use Rattle.std.specs.Prelude.{◌≡◌, eqb, ltb, length, get_or, take, drop, Result, Ok, Err}
use Rattle.std.proofs.lemmas.List.Edits.{sets}
use Rattle.little_endian.specs.Bytes.{put_in_front}
use Rattle.groups.specs.declared.Form.{Form}
use Rattle.groups.specs.declared.Form.TheVariants.{Plain, Groups}
use Rattle.groups.specs.declared.NumberRefusal.{NumberRefusal}
use Rattle.groups.specs.declared.NumberRefusal.TheVariants.{Short, Over}
use Rattle.groups.specs.Groups.{number_at, number_of}
use Rattle.slip_moves.specs.declared.Refusal.{Refusal}
use Rattle.slip_moves.specs.declared.Refusal.TheVariants.{TooShort, LeftOver, UnknownKind, NotGroups, TooManyGroups}
use Rattle.slip_moves.specs.declared.Counts.{Counts}
use Rattle.slip_moves.specs.declared.MoveRefusal.{MoveRefusal}
use Rattle.slip_moves.specs.declared.MoveRefusal.TheVariants.{NoRoom, Slip}

-- each refusal's number: 30 to 32 in document 01, 34 and 35 in document 02
abbrev pub slip_refusal_number : Refusal → ℕ
slip_refusal_number TooShort = 30
slip_refusal_number LeftOver = 31
slip_refusal_number UnknownKind = 32
slip_refusal_number NotGroups = 34
slip_refusal_number TooManyGroups = 35

-- a slip is refused where a number in it is
abbrev pub number_refusal : NumberRefusal → Refusal
number_refusal Short = TooShort
number_refusal Over = TooManyGroups

-- ---- the first byte and the three counts

-- the counts of vertices, triangles and pieces, one behind the other, as met
unfoldable pub with_count : Result (ℕ × ℕ) NumberRefusal → (ℕ → ℕ → Result Counts Refusal) → Result Counts Refusal
with_count (Err why) rest = Err (number_refusal why)
with_count (Ok (n, next)) rest = rest n next

abbrev pub counted : ℕ → ℕ → ℕ → ℕ → Result Counts Refusal
counted vertices triangles pieces next = Ok (record { vertices = vertices; triangles = triangles; pieces = pieces; next = next })

unfoldable pub counts_at : Form → List ℕ → ℕ → Result Counts Refusal
unfolding number_at with_count
counts_at form s i =
    with_count (number_at form s i)
    (λ vertices j. with_count (number_at form s j)
    (λ triangles k. with_count (number_at form s k)
    (λ pieces l. counted vertices triangles pieces l)))

pub record SmallCounts (head : Result Counts Refusal) (far : ℕ) : Type 0 where
  pub small : (c : Counts) → head ≡ Ok c → (c.vertices < 4_294_967_296) × ((c.triangles < 4_294_967_296) × ((c.pieces < 4_294_967_296) × (c.next ≤ far)))

-- a slip in groups starts with the byte 2, a plain one with its counts
unfoldable pub form_head_at : Form → List ℕ → Result Counts Refusal
unfolding counts_at
form_head_at Plain s = counts_at Plain s 0
form_head_at Groups s = cond (ltb 0 (length s)) (cond (eqb (get_or s 0 0) 2) (counts_at Groups s 1) (Err NotGroups)) (Err TooShort)

unfoldable pub first_byte : Form → List ℕ
first_byte Plain = []
first_byte Groups = 2 ∷ []

unfoldable pub head_bytes : Form → ℕ → ℕ → ℕ → List ℕ
unfolding number_of first_byte
head_bytes form vertices triangles pieces = first_byte form ++ number_of form vertices ++ number_of form triangles ++ number_of form pieces

-- ---- parts

-- a part of a slip: the place behind it and the bytes that it is moved to, or a refusal
pub data Part : Type 0 where
  put : ℕ → List ℕ → Part
  stop : Refusal → Part

unfoldable pub also : List ℕ → Part → Part
also bytes (put j more) = put j (bytes ++ more)
also bytes (stop r) = stop r

-- a part and what stands behind it
unfoldable pub then : Part → (ℕ → Part) → Part
unfolding also
then (put j bytes) rest = also bytes (rest j)
then (stop r) rest = stop r

-- n bytes from byte i on, which are the same in both forms
unfoldable pub bytes_moved : List ℕ → ℕ → ℕ → Part
bytes_moved s n i = cond (ltb (length s) (i + n)) (stop TooShort) (put (i + n) (take n (drop i s)))

-- bytes that are left over are refused last
unfoldable pub ended : List ℕ → ℕ → Part
ended s i = cond (ltb i (length s)) (stop LeftOver) (put i [])

unfoldable pub number_written : Form → Result (ℕ × ℕ) NumberRefusal → Part
unfolding number_of
number_written form (Err why) = stop (number_refusal why)
number_written form (Ok (n, next)) = put next (number_of form n)

-- how many bytes the ends of a piece have: three doubles of a point, six of a segment
unfoldable pub ends_size : ℕ → ℕ
ends_size kind = cond (eqb kind 0) 24 48

module _ (from to : Form) (s : List ℕ) where
  unfoldable pub number_moved : ℕ → Part
  unfolding number_at number_written
  number_moved i = number_written to (number_at from s i)

  unfoldable pub numbers_moved : ℕ → ℕ → Part
  unfolding then number_moved
  numbers_moved zero i = put i []
  numbers_moved (suc n) i = then (number_moved i) (numbers_moved n)

  -- a piece: its kind, its face and its ends
  unfoldable pub piece_of_kind : ℕ → ℕ → Part
  unfolding then bytes_moved number_moved ends_size
  piece_of_kind kind i = then (bytes_moved s 1 i) (λ j. then (number_moved j) (bytes_moved s (ends_size kind)))

  unfoldable pub piece_moved : ℕ → Part
  unfolding piece_of_kind
  piece_moved i = cond (ltb (length s) (i + 1)) (stop TooShort) (cond (ltb 1 (get_or s i 0)) (stop UnknownKind) (piece_of_kind (get_or s i 0) i))

  unfoldable pub pieces_moved : ℕ → ℕ → Part
  unfolding then piece_moved
  pieces_moved zero i = put i []
  pieces_moved (suc n) i = then (piece_moved i) (pieces_moved n)

  -- what stands behind the counts: the vertices, the triangles and the flags; the pieces and the limit
  unfoldable pub mesh_moved : ℕ → ℕ → ℕ → Part
  unfolding then bytes_moved numbers_moved
  mesh_moved vertices triangles i = then (bytes_moved s (24 * vertices) i) (λ j. then (numbers_moved (3 * triangles) j) (bytes_moved s vertices))

  unfoldable pub rest_moved : ℕ → ℕ → Part
  unfolding then bytes_moved pieces_moved
  rest_moved pieces i = then (pieces_moved pieces i) (bytes_moved s 8)

  unfoldable pub body_moved : ℕ → ℕ → ℕ → ℕ → Part
  unfolding then mesh_moved rest_moved
  body_moved vertices triangles pieces i = then (mesh_moved vertices triangles i) (rest_moved pieces)

  unfoldable pub behind_head : Result Counts Refusal → Part
  unfolding also then head_bytes body_moved ended
  behind_head (Err r) = stop r
  behind_head (Ok c) = also (head_bytes to c.vertices c.triangles c.pieces) (then (body_moved c.vertices c.triangles c.pieces c.next) (ended s))

  -- the whole slip
  unfoldable pub slip_moved : Part
  unfolding form_head_at behind_head
  slip_moved = behind_head (form_head_at from s)

-- each answer's number in document 02, 0 of a move that is done; and the length that it tells
abbrev pub moved_number : Result ℕ MoveRefusal → ℕ
moved_number (Ok n) = 0
moved_number (Err (NoRoom n)) = 36
moved_number (Err (Slip r)) = slip_refusal_number r

abbrev pub length_moved : Result ℕ MoveRefusal → ℕ
length_moved (Ok n) = n
length_moved (Err (NoRoom n)) = n
length_moved (Err (Slip r)) = 0

-- the answer of a move and the slice that it writes to, at its front; where that is too short nothing is written
unfoldable pub answer_of_move : Part → List ℕ → Result ℕ MoveRefusal × List ℕ
unfolding put_in_front
answer_of_move (stop r) out = (Err (Slip r), out)
answer_of_move (put j bytes) out = cond (ltb (length out) (length bytes)) (Err (NoRoom (length bytes)), out) (Ok (length bytes), put_in_front bytes out)

unfoldable pub moving : Form → Form → List ℕ → List ℕ → Result ℕ MoveRefusal × List ℕ
unfolding slip_moved answer_of_move
moving from to s out = answer_of_move (slip_moved from to s) out

-- `after` is the list `before` with a part's bytes in it from place o on, as far as it goes; a step tells the places behind the part and behind its bytes
pub record Moves (before : List ℕ) (o : ℕ) (part : Part) (after : List ℕ) (r : Result (ℕ × ℕ) Refusal) : Type 0 where
  pub went : (j : ℕ) (bytes : List ℕ) → part ≡ put j bytes → (r ≡ Ok (j, o + length bytes)) × (after ≡ sets before o bytes)
  pub stopped : (why : Refusal) → part ≡ stop why → r ≡ Err why
