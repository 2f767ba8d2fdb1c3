-- What the words of the edge table hold. Definitions only.
-- In a link the number of an edge stands plus one, and 0 is none.
use Rattle.std.specs.Prelude.{ℕ, zero, suc, ◌+◌, ◌-◌, ◌*◌, ◌/◌, ◌%◌, cond, ◌&&◌, List, [], ◌∷◌, ltb, eqb, length, get_or}
use Rattle.nat_laws.specs.Lists.{list_of}
use Rattle.topology.specs.Edges.{EndPair, no_edge, no_face}

-- a buffer of n words in slots of s: word p is field p % s of slot p / s
unfoldable pub slot_words : ℕ → ℕ → (ℕ → ℕ → ℕ) → List ℕ
slot_words n s word = list_of n (λ (p : ℕ). word (p / s) (p % s))

-- The bucket of an edge among size of them. Edges are grouped by eights of high - low. A group's base is its number times 2654435761 modulo 2^32, scaled to
-- size; from there the bucket is high - low modulo 8 plus four times the lower end. So edges of a grid or a strip lie side by side, and those at one lower
-- end in runs of eight.
unfoldable pub bucket_of : ℕ → EndPair → ℕ
bucket_of size x =
    let difference = x.high - x.low in
    (4 * x.low + difference % 8 + difference / 8 * 2654435761 % 4294967296 * size / 4294967296) % size

-- the link to the last of the first n edges that is in bucket b
unfoldable pub last_in : ℕ → List EndPair → ℕ → ℕ → ℕ
last_in size es b zero = 0
last_in size es b (suc n) = cond (eqb (bucket_of size (get_or es n no_edge)) b) (suc n) (last_in size es b n)

-- the head of bucket b, in a slot of one word
unfoldable pub head_word : ℕ → List EndPair → ℕ → ℕ → ℕ
head_word size es b a = last_in size es b (length es)

-- the fields of edge e, whose faces are fs: its ends, its first and its second face, no windows, and a zero
unfoldable pub edge_row : List EndPair → ℕ → List ℕ → List ℕ
edge_row es e fs = (get_or es e no_edge).low ∷ (get_or es e no_edge).high ∷ get_or fs 0 no_face ∷ get_or fs 1 no_face ∷ 0 ∷ 0 ∷ []

unfoldable pub edge_word : List EndPair → (ℕ → List ℕ) → ℕ → ℕ → ℕ
edge_word es faces e a = cond (ltb e (length es)) (get_or (edge_row es e (faces e)) a 0) 0

-- field a of triangle f, where sides below n have the numbers of their edges
unfoldable pub triangle_word : ℕ → (ℕ → ℕ) → ℕ → ℕ → ℕ
triangle_word n number f a = cond (ltb a 3 && ltb (3 * f + a) n) (number (3 * f + a)) 0
