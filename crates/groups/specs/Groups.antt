-- A number below 2 ^ 32 as bytes, in both forms of a slip: four bytes, or groups of seven bits. Definitions only.
use Rattle.std.specs.Prelude.{ℕ, zero, suc, ◌+◌, ◌-◌, ◌*◌, ◌/◌, ◌%◌, ◌≤◌, ◌<◌, cond, ◌≡◌, List, [], ◌∷◌, eqb, ltb, length, get_or, Result, Ok, Err}
use Rattle.little_endian.specs.Bytes.{number_from, number_bytes}
use Rattle.groups.specs.declared.Form.{Form}
use Rattle.groups.specs.declared.Form.TheVariants.{Plain, Groups}
use Rattle.groups.specs.declared.NumberRefusal.{NumberRefusal}
use Rattle.groups.specs.declared.NumberRefusal.TheVariants.{Short, Over}

-- n in groups of seven bits, the lowest first, each but the last with its top bit set, as few as hold it; k more may follow the first
unfoldable pub groups_of : ℕ → ℕ → List ℕ
groups_of zero n = n ∷ []
groups_of (suc k) n = cond (ltb n 128) (n ∷ []) ((128 + n % 128) ∷ groups_of k (n / 128))

-- a group and the number that stands behind it: too many groups where that is 0, too large above 2 ^ 32 - 1
unfoldable pub joined_group : ℕ → Result (ℕ × ℕ) NumberRefusal → Result (ℕ × ℕ) NumberRefusal
joined_group low (Err why) = Err why
joined_group low (Ok (n, next)) = cond (eqb n 0) (Err Over) (cond (ltb 4_294_967_295 (low + 128 * n)) (Err Over) (Ok (low + 128 * n, next)))

-- the group at byte i, where `behind` is what its number and those of the groups behind it make
unfoldable pub group_at : List ℕ → ℕ → Result (ℕ × ℕ) NumberRefusal → Result (ℕ × ℕ) NumberRefusal
group_at s i behind = cond (ltb i (length s)) (cond (ltb (get_or s i 0) 128) (Ok (get_or s i 0, i + 1)) behind) (Err Short)

-- the number in groups from byte i on, of which k more may follow the first
unfoldable pub grouped : List ℕ → ℕ → ℕ → Result (ℕ × ℕ) NumberRefusal
unfolding joined_group group_at
grouped s i zero = group_at s i (Err Over)
grouped s i (suc k) = group_at s i (joined_group (get_or s i 0 - 128) (grouped s (i + 1) k))

-- the number that stands at byte i and the place behind it; its bytes
unfoldable pub number_at : Form → List ℕ → ℕ → Result (ℕ × ℕ) NumberRefusal
unfolding number_from grouped
number_at Plain s i = cond (ltb (length s) (i + 4)) (Err Short) (Ok (number_from s i, i + 4))
number_at Groups s i = grouped s i 4

unfoldable pub number_of : Form → ℕ → List ℕ
unfolding number_bytes groups_of
number_of Plain n = number_bytes n
number_of Groups n = groups_of 4 n

-- what reading a number answers, and how large a number and how far behind a place that is
pub record Found (form : Form) (s : List ℕ) (i : ℕ) (r : Result (ℕ × ℕ) NumberRefusal) : Type 0 where
  pub answer : r ≡ number_at form s i
  pub small : (n next : ℕ) → r ≡ Ok (n, next) → (n < 4_294_967_296) × (next ≤ i + 5)
