-- The buffers of triangles and of face entries, as an entry is put into them and read. A link is an entry's number plus one, and 0 is none. Definitions only.
use Rattle.std.specs.Prelude.{ℕ, zero, suc, ◌+◌, ◌*◌, cond, List, [], ◌∷◌, eqb, ltb, length, get_or, set, Result, Ok, Err}
use Rattle.buffers.specs.declared.Lack.{Lack}
use Rattle.buffers.specs.declared.Lack.TheVariants.{Entries}
use Rattle.buffers.specs.Lack.{lack_number}
use Rattle.buffers.specs.Slots.{fill, slots_of}
use Rattle.chains.specs.Chains.{link_in}
use Rattle.face_entries.specs.declared.Part.{Part}
use Rattle.face_entries.specs.declared.Part.TheVariants.{EndA, EndB, Whole}
use Rattle.face_entries.specs.declared.PiecePart.{PiecePart}
use Rattle.layout.specs.Layout.{words_per_triangle, triangle_first_entry, triangle_last_entry, words_per_entry, entry_piece, entry_part, entry_link}

-- a part as a word; of a word above 2 it is the whole
abbrev pub part_number : Part → ℕ
part_number EndA = 0
part_number EndB = 1
part_number Whole = 2

unfoldable pub part_of_number : ℕ → Part
part_of_number n = cond (eqb n 0) EndA (cond (eqb n 1) EndB Whole)

-- how many entries n words count for
abbrev pub entry_capacity : ℕ → ℕ
entry_capacity n = slots_of n words_per_entry

-- ---- reading
-- the links of the first and the last entry of face f
abbrev pub first_entry_of : List ℕ → ℕ → ℕ
first_entry_of t f = get_or t (words_per_triangle * f + triangle_first_entry) 0

abbrev pub last_entry_of : List ℕ → ℕ → ℕ
last_entry_of t f = get_or t (words_per_triangle * f + triangle_last_entry) 0

-- what entry i holds, and the link of the one behind it
unfoldable pub part_at : List ℕ → ℕ → PiecePart
part_at w i = record { piece = get_or w (words_per_entry * i + entry_piece) 0; part = part_of_number (get_or w (words_per_entry * i + entry_part) 0) }

abbrev pub next_entry_of : List ℕ → ℕ → ℕ
next_entry_of w i = get_or w (words_per_entry * i + entry_link) 0

-- ---- entering
pub record EntryBuffers : Type 0 where
  pub triangles : List ℕ
  pub words : List ℕ

abbrev pub entry_buffers : List ℕ → List ℕ → EntryBuffers
entry_buffers t w = record { triangles = t; words = w }

-- entry i is x, with none behind it
unfoldable pub stored_in : List ℕ → ℕ → PiecePart → List ℕ
stored_in w i x = fill words_per_entry w i 0 (x.piece ∷ part_number x.part ∷ 0 ∷ [])

-- a link is put behind that of the last entry of face f, or is the first where there is none
unfoldable pub linked_in : EntryBuffers → ℕ → ℕ → ℕ → EntryBuffers
linked_in b f zero link =
    entry_buffers (set (set b.triangles (words_per_triangle * f + triangle_last_entry) link) (words_per_triangle * f + triangle_first_entry) link) b.words
linked_in b f (suc k) link = entry_buffers (set b.triangles (words_per_triangle * f + triangle_last_entry) link) (set b.words (words_per_entry * k + entry_link) link)

-- x is entered in face f as number `count`; a last link past the count is none. Of a face that has no words the entry stands in its slot, and no link leads to it
unfoldable pub entered_in : EntryBuffers → ℕ → ℕ → PiecePart → EntryBuffers
entered_in b count f x = linked_in (entry_buffers b.triangles (stored_in b.words count x)) f (link_in count (last_entry_of b.triangles f)) (suc count)

-- the answer and the buffers: where there is no slot, nothing is written
unfoldable pub entering : EntryBuffers → ℕ → ℕ → PiecePart → Result ℕ Lack × EntryBuffers
entering b count f x = cond (ltb count (entry_capacity (length b.words))) (Ok (suc count), entered_in b count f x) (Err Entries, b)

-- the number in document 01 of an answer; 0 is no refusal
abbrev pub entered_number : Result ℕ Lack → ℕ
entered_number (Err lack) = lack_number lack
entered_number (Ok n) = 0
