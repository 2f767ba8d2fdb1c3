-- The words of the pieces' buffer: as many buckets as there are pieces, each a chain of ends in the Rust's order. Definitions only.
-- A link is the number of an end plus one, and 0 is none. Which bucket an end is in changes no answer (`first_held`, `next_held` in proofs/Held.antt).
use Rattle.std.specs.Prelude.{ℕ, zero, suc, ◌+◌, ◌-◌, ◌*◌, ◌/◌, ◌%◌, Bool, cond, ◌&&◌, List, [], ◌∷◌, eqb, length, get_or, set, Float}
use Rattle.std.specs.Float.{binary64}
use Rattle.std.specs.Float.Ieee.{to_bits}
use Rattle.layout.specs.Layout.{words_per_piece, piece_head, piece_links}
use Rattle.vec3.specs.declared.Vec3.{Vec3}
use Rattle.edge_table.specs.Words.{slot_words}
use Rattle.piece_ends.specs.Ends.{passing, end_point, is_end}

-- 2^32 over the golden ratio
abbrev pub golden : ℕ
golden = 2654435769

-- a number of 32 bits and the bits of x: the sums with their lower and their upper half are multiplied, and the halves of the product added
unfoldable pub mixed : ℕ → Float → ℕ
mixed h x =
    let b = to_bits binary64 x in
    let product = (h + b % 4294967296) % 4294967296 * ((b / 4294967296 + golden) % 4294967296) in
    (product / 4294967296 + product % 4294967296) % 4294967296

-- the bucket of a point, among size of them
unfoldable pub point_bucket : ℕ → Vec3 → ℕ
point_bucket size p = mixed (mixed (mixed golden p.x) p.y) p.z * size / 4294967296

-- the link to the first of a list of ends
unfoldable pub link_to : List ℕ → ℕ
link_to [] = 0
link_to (e ∷ es) = suc e

-- field a of slot i, from the heads of the buckets and the links of the ends: the head of bucket i, then the links of the two ends of piece i
unfoldable pub slot_word : (ℕ → ℕ) → (ℕ → ℕ) → ℕ → ℕ → ℕ
slot_word head link i zero = head i
slot_word head link i (suc w) = link (2 * i + w)

module _ (kinds : List ℕ) (coords : List Float) where
  unfoldable pub bucket_at : ℕ → ℕ
  bucket_at e = point_bucket (length kinds) (end_point coords e)

  unfoldable pub in_bucket : ℕ → ℕ → Bool
  in_bucket b e = is_end kinds e && eqb (bucket_at e) b

  -- the ends of bucket b from number e on, in order
  unfoldable pub bucket_from : ℕ → ℕ → List ℕ
  bucket_from b e = passing (in_bucket b) (2 * length kinds - e) e

  -- the head of a bucket, and the link of an end to the next of its bucket
  unfoldable pub head_link : ℕ → ℕ
  head_link b = link_to (bucket_from b 0)

  unfoldable pub next_end_link : ℕ → ℕ
  next_end_link e = cond (is_end kinds e) (link_to (bucket_from (bucket_at e) (suc e))) 0

  -- the buffer, of n words; behind the pieces' slots they are zeros (`spare_zero` in proofs/Held.antt)
  unfoldable pub piece_words_of : ℕ → List ℕ
  piece_words_of n = slot_words n words_per_piece (slot_word head_link next_end_link)

  -- end e put before the others of its bucket, where there is such an end
  unfoldable pub entered : ℕ → List ℕ → List ℕ
  entered e words =
      let b : ℕ = bucket_at e in
      cond (is_end kinds e) (set (set words (words_per_piece * (e / 2) + (piece_links + e % 2)) (get_or words (words_per_piece * b + piece_head) 0)) (words_per_piece * b + piece_head) (e + 1)) words
