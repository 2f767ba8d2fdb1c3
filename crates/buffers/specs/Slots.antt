-- A buffer's slice in slots of s elements: field a of slot i is element s * i + a.
use Rattle.std.specs.Prelude.{ℕ, suc, ◌+◌, ◌*◌, ◌/◌, min, List, [], ◌∷◌, take, drop, set}

-- the elements of slot i
unfoldable pub slot : {A : Type 0} → ℕ → List A → ℕ → List A
slot s l i = take s (drop (s * i) l)

-- the list with the fields of slot i, from field a on, written in turn: the library's `sets` (`fill_is`), with each index as a slot and a field, as
-- code that stores a record has it
unfoldable pub fill : {A : Type 0} → ℕ → List A → ℕ → ℕ → List A → List A
fill s l i a [] = l
fill s l i a (v ∷ vs) = fill s (set l (s * i + a) v) i (suc a) vs

-- 01's count of a room: the whole slots of n elements, at most 4,294,967,295
abbrev pub slots_of : ℕ → ℕ → ℕ
slots_of n s = min (n / s) 4294967295
