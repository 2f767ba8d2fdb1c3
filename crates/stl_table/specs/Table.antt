-- The vertices met so far, in three slices: vertex i is the point firsts i, links i leads to the next vertex of its bucket, and heads to the newest of each
-- bucket. A link is a vertex's number plus one, and 0 is none. Definitions only.
use Rattle.std.specs.Prelude.{ℕ, zero, suc, ◌+◌, ◌≤◌, ◌<◌, ◌≡◌, Bool, cond, List, eqb, length, get_or, set, take}
use Rattle.stl_format.specs.Format.{point_from, link_among, first_points}
use Rattle.stl_table.specs.Keys.{key_at, same_key, same_at, key_bucket_at}

-- the bytes of point h are there; those of the first n points
abbrev pub HasPoint : List ℕ → ℕ → Type 0
HasPoint s h = point_from h + 12 ≤ length s

abbrev pub HasPoints : List ℕ → ℕ → Type 0
HasPoints s n = (h : ℕ) → h < n → HasPoint s h

-- the link to the last of the first n vertices that is in bucket b
unfoldable pub last_vertex_in : (ℕ → ℕ) → List ℕ → ℕ → ℕ → ℕ
last_vertex_in bucket fs b zero = 0
last_vertex_in bucket fs b (suc n) = cond (eqb (bucket (get_or fs n 0)) b) (suc n) (last_vertex_in bucket fs b n)

-- the link to the first vertex that passes a test, along the links from one on; the first number is how many are followed at most
unfoldable pub follow_links : (ℕ → Bool) → List ℕ → ℕ → ℕ → ℕ
follow_links passes links zero at = 0
follow_links passes links (suc n) zero = 0
follow_links passes links (suc n) (suc i) = cond (passes i) (suc i) (follow_links passes links n (get_or links i 0))

-- From a link on, links fall and lead to points that are there.
pub record Walkable (s links firsts : List ℕ) (head : ℕ) : Type 0 where
  pub links_fit : head ≤ length links
  pub firsts_fit : head ≤ length firsts
  pub falling : (i : ℕ) → i < head → get_or links i 0 ≤ i
  pub there : (i : ℕ) → i < head → HasPoint s (get_or firsts i 0)

-- the link that is found for point h from the head of its bucket, and where it can be looked for
abbrev pub found_at : List ℕ → List ℕ → List ℕ → List ℕ → ℕ → ℕ
found_at s heads links firsts h = follow_links (λ i. same_key (key_at s (get_or firsts i 0)) (key_at s h)) links (get_or heads (key_bucket_at s h) 0) (get_or heads (key_bucket_at s h) 0)

abbrev pub Findable : List ℕ → List ℕ → List ℕ → List ℕ → ℕ → Type 0
Findable s heads links firsts h = HasPoint s h × ((131072 ≤ length heads) × Walkable s links firsts (get_or heads (key_bucket_at s h) 0))

pub record VertexTable (s : List ℕ) (count : ℕ) (heads links firsts : List ℕ) : Type 0 where
  pub heads_fit : 131072 ≤ length heads
  pub links_fit : 65536 ≤ length links
  pub firsts_fit : 65536 ≤ length firsts
  pub few : count ≤ 65536
  pub head : (b : ℕ) → b < 131072 → get_or heads b 0 ≡ last_vertex_in (key_bucket_at s) firsts b count
  pub link : (i : ℕ) → i < count → get_or links i 0 ≡ last_vertex_in (key_bucket_at s) firsts (key_bucket_at s (get_or firsts i 0)) i
  pub there : (i : ℕ) → i < count → HasPoint s (get_or firsts i 0)

-- point h is the same as a vertex, or becomes the next one
abbrev pub is_new : List ℕ → List ℕ → ℕ → ℕ → Bool
is_new s firsts count h = eqb (link_among (same_at s) firsts count h) 0

pub record PointEntered (s : List ℕ) (h count : ℕ) (firsts₀ : List ℕ) (r : ℕ) (heads links firsts : List ℕ) : Type 0 where
  pub counted : r ≡ cond (is_new s firsts₀ count h) (count + 1) count
  pub points : firsts ≡ cond (is_new s firsts₀ count h) (set firsts₀ count h) firsts₀
  pub table : VertexTable s r heads links firsts

-- The table of the first n points, or more vertices than document 01 allows.
pub record TableBuilt (s : List ℕ) (n r : ℕ) (heads links firsts : List ℕ) : Type 0 where
  pub few : r ≤ 65535 → VertexTable s r heads links firsts × ((take r firsts ≡ first_points (same_at s) n) × (r ≡ length (first_points (same_at s) n)))
  pub many : 65535 < r → 65535 < length (first_points (same_at s) n)
