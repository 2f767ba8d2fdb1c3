-- The pieces' buffer read: what is found along its links, whatever words it holds. Definitions only.
use Rattle.std.specs.Prelude.{ℕ, zero, suc, ◌+◌, ◌-◌, ◌*◌, ◌/◌, ◌%◌, ◌<◌, ◌≡◌, Bool, cond, not, ◌&&◌, List, [], ◌∷◌, eqb, ltb, length, get_or, Float}
use Rattle.layout.specs.Layout.{words_per_piece, piece_head, piece_links}
use Rattle.vec3.specs.declared.Vec3.{Vec3}
use Rattle.piece_ends.specs.Ends.{end_point, is_end, same_bits}
use Rattle.piece_ends.specs.Table.{point_bucket, head_link, next_end_link}

-- the ends from a link on, up to k of them, where `next` gives each end's link
unfoldable pub follow : (ℕ → ℕ) → ℕ → ℕ → List ℕ
follow next zero at = []
follow next (suc k) zero = []
follow next (suc k) (suc e) = e ∷ follow next k (next e)

-- the link to the first of them that passes a test, or 0
unfoldable pub find_along : (ℕ → ℕ) → (ℕ → Bool) → ℕ → ℕ → ℕ
find_along next test zero at = 0
find_along next test (suc k) zero = 0
find_along next test (suc k) (suc e) = cond (test e) (suc e) (find_along next test k (next e))

-- the link of end e
abbrev pub end_link_at : List ℕ → ℕ → ℕ
end_link_at words e = get_or words (words_per_piece * (e / 2) + (piece_links + e % 2)) 0

-- whether end e has p's bits
abbrev pub stands_at : List Float → Vec3 → ℕ → Bool
stands_at coords p e = same_bits (end_point coords e) p

module _ (coords : List Float) (words : List ℕ) (pieces : ℕ) where
  -- the link to the first end of p's bits, from the head of p's bucket on
  unfoldable pub first_link_at : Vec3 → ℕ
  first_link_at p = find_along (end_link_at words) (stands_at coords p) (2 * pieces) (get_or words (words_per_piece * point_bucket pieces p + piece_head) 0)

  -- the link to the next end of the bits of end e
  unfoldable pub next_link_at : ℕ → ℕ
  next_link_at e = find_along (end_link_at words) (stands_at coords (end_point coords e)) (2 * pieces) (end_link_at words e)

  -- end e is the first of its bits that the links lead to
  unfoldable pub leads_at : ℕ → Bool
  leads_at e = eqb (first_link_at (end_point coords e)) (suc e)

-- the end before end e is there and has its bits
unfoldable pub follows_at : List ℕ → List Float → ℕ → Bool
follows_at kinds coords e = ltb 0 e && (is_end kinds (e - 1) && same_bits (end_point coords (e - 1)) (end_point coords e))

-- end e is there, and none before it has its bits
unfoldable pub is_first_at : List ℕ → List Float → List ℕ → ℕ → ℕ → Bool
is_first_at kinds coords words pieces e = is_end kinds e && (not (follows_at kinds coords e) && leads_at coords words pieces e)

-- Words that hold the table of the pieces.
pub record HoldsTable (kinds : List ℕ) (coords : List Float) (words : List ℕ) : Type 0 where
  pub heads : (b : ℕ) → b < length kinds → get_or words (words_per_piece * b + piece_head) 0 ≡ head_link kinds coords b
  pub links : (e : ℕ) → e < 2 * length kinds → end_link_at words e ≡ next_end_link kinds coords e
