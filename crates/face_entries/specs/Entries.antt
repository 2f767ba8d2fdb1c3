-- The Rust's `in_face` as a list of entries in the order of its pushes, and what the buffers are that hold it. Definitions only.
use Rattle.std.specs.Prelude.{ℕ, zero, suc, ◌+◌, ◌*◌, ◌-◌, ◌/◌, ◌%◌, ◌≤◌, cond, List, [], ◌∷◌, ◌++◌, ◌≢◌, ◌≡◌, eqb, length, get_or, replicate}
use Rattle.nat_laws.specs.Lists.{list_of}
use Rattle.chains.specs.Chains.{first_link}
use Rattle.face_entries.specs.declared.Part.{Part}
use Rattle.face_entries.specs.declared.PiecePart.{PiecePart}
use Rattle.layout.specs.Layout.{words_per_triangle, triangle_first_entry, triangle_last_entry, words_per_entry, entry_piece, entry_part}
use Rattle.face_entries.specs.Buffers.{part_number, first_entry_of, last_entry_of, part_at, next_entry_of}

-- a push of what `entry` holds to the list of face `face`
pub record FaceEntry : Type 0 where
  pub face : ℕ
  pub entry : PiecePart

abbrev pub face_entry : ℕ → ℕ → Part → FaceEntry
face_entry f piece part = record { face = f; entry = record { piece = piece; part = part } }

-- `in_face[f]` after these pushes
unfoldable pub entries_of : ℕ → List FaceEntry → List PiecePart
entries_of f [] = []
entries_of f (x ∷ xs) = cond (eqb x.face f) (x.entry ∷ entries_of f xs) (entries_of f xs)

-- the numbers of the entries of face f, where the first of the list is number i; entries are numbered in the order of their pushes
unfoldable pub entry_numbers_from : ℕ → ℕ → List FaceEntry → List ℕ
entry_numbers_from i f [] = []
entry_numbers_from i f (x ∷ xs) = cond (eqb x.face f) (i ∷ entry_numbers_from (suc i) f xs) (entry_numbers_from (suc i) f xs)

abbrev pub numbers_of : ℕ → List FaceEntry → List ℕ
numbers_of f xs = entry_numbers_from 0 f xs

-- the link of the last number of a list
unfoldable pub final_link : List ℕ → ℕ
final_link [] = 0
final_link (i ∷ []) = suc i
final_link (i ∷ j ∷ is) = final_link (j ∷ is)

-- ---- the relation
-- from link l on the entries are those of the list, and the chain ends there
unfoldable pub EntryChain : List ℕ → ℕ → List ℕ → Type 0
EntryChain w l [] = l ≡ 0
EntryChain w l (i ∷ is) = (l ≡ suc i) × EntryChain w (next_entry_of w i) is

-- slot i has the piece and the part of x
abbrev pub HasEntry : List ℕ → ℕ → PiecePart → Type 0
HasEntry w i x = (get_or w (words_per_entry * i + entry_piece) 0 ≡ x.piece) × (get_or w (words_per_entry * i + entry_part) 0 ≡ part_number x.part)

-- the slots from number i on have these entries
unfoldable pub StoredFrom : List ℕ → ℕ → List FaceEntry → Type 0
StoredFrom w i [] = Unit {0}
StoredFrom w i (x ∷ xs) = HasEntry w i x.entry × StoredFrom w (suc i) xs

-- the first `count` slots have these entries, and the chain of each face has the numbers of its own, in order
pub record HoldsEntries (count : ℕ) (t w : List ℕ) (xs : List FaceEntry) : Type 0 where
  pub counted : length xs ≡ count
  pub fits : words_per_entry * count ≤ length w
  pub stored : StoredFrom w 0 xs
  pub chain : (f : ℕ) → EntryChain w (first_entry_of t f) (numbers_of f xs)
  pub last : (f : ℕ) → last_entry_of t f ≡ final_link (numbers_of f xs)

-- the entries that a walk from link l on reads, at most n of them
unfoldable pub entries_from_link : ℕ → List ℕ → ℕ → List PiecePart
entries_from_link zero w l = []
entries_from_link (suc n) w zero = []
entries_from_link (suc n) w (suc i) = part_at w i ∷ entries_from_link n w (next_entry_of w i)

-- ---- the content
-- three words for each entry, the first of which is number i: the piece, the part and the link of the next entry of the same face
unfoldable pub entry_words_from : ℕ → List FaceEntry → List ℕ
entry_words_from i [] = []
entry_words_from i (x ∷ xs) = x.entry.piece ∷ part_number x.entry.part ∷ first_link (entry_numbers_from (suc i) x.face xs) ∷ entry_words_from (suc i) xs

-- n words: these, and zeros behind
abbrev pub entry_words : ℕ → List FaceEntry → List ℕ
entry_words n xs = entry_words_from 0 xs ++ replicate (n - words_per_entry * length xs) 0

-- the words t of the triangles, with the first and the last entry of each
unfoldable pub word_with : List ℕ → List FaceEntry → ℕ → ℕ
word_with t xs p =
    cond (eqb (p % words_per_triangle) triangle_first_entry) (first_link (numbers_of (p / words_per_triangle) xs))
    (cond (eqb (p % words_per_triangle) triangle_last_entry) (final_link (numbers_of (p / words_per_triangle) xs)) (get_or t p 0))

abbrev pub triangles_with : List ℕ → List FaceEntry → List ℕ
triangles_with t xs = list_of (length t) (word_with t xs)

-- the buffers hold these entries and nothing else of entries: behind them are zeros, and other words of the triangles are those of t₀
pub record HoldsOnly (t₀ : List ℕ) (count : ℕ) (t w : List ℕ) (xs : List FaceEntry) : Type 0 where
  pub holds : HoldsEntries count t w xs
  pub behind : (p : ℕ) → words_per_entry * count ≤ p → get_or w p 0 ≡ 0
  pub same_length : length t ≡ length t₀
  pub others : (i : ℕ) → ((f : ℕ) → (i ≢ words_per_triangle * f + triangle_first_entry) × (i ≢ words_per_triangle * f + triangle_last_entry)) → get_or t i 0 ≡ get_or t₀ i 0
