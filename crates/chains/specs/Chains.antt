-- The Rust's `on_edge` as chains of window numbers. A link is a window's number plus one, and 0 is none. An edge's slot has the
-- head of its chain; a window's slot has its edge and the next link (`edge_stored`, `link_of` of windows).
use Rattle.std.specs.Prelude.{ℕ, zero, suc, ◌+◌, ◌*◌, ◌≤◌, ◌<◌, cond, List, [], ◌∷◌, ◌≢◌, ◌≡◌, leb, get_or, set, length}
use Rattle.layout.specs.Layout.{words_per_edge, edge_head, words_per_window}
use Rattle.nat_laws.specs.Lists.{All}
use Rattle.windows.specs.Windows.{link_of, link_with, edge_stored}

pub record Links : Type 0 where
  pub edges : List ℕ
  pub words : List ℕ

abbrev pub links : List ℕ → List ℕ → Links
links edges words = record { edges = edges; words = words }

abbrev pub head_of : List ℕ → ℕ → ℕ
head_of edges e = get_or edges (words_per_edge * e + edge_head) 0

abbrev pub next_link : List ℕ → ℕ → ℕ
next_link words i = link_of words i

-- a link that was read, where the window buffer counts for `count` windows: one that names a window past the count is none
unfoldable pub link_in : ℕ → ℕ → ℕ
link_in count l = cond (leb l count) l 0

-- the link stored after `before` on the chain of edge e: the head where `before` is none, else the link of that window
unfoldable pub link_at : Links → ℕ → ℕ → ℕ
link_at b e zero = head_of b.edges e
link_at b e (suc k) = next_link b.words k

unfoldable pub with_link : Links → ℕ → ℕ → ℕ → Links
with_link b e zero v = links (set b.edges (words_per_edge * e + edge_head) v) b.words
with_link b e (suc k) v = links b.edges (link_with b.words k v)

-- ---- what a chain is
-- the windows from link l on are those of the list, and the chain ends there
unfoldable pub Path : List ℕ → ℕ → List ℕ → Type 0
Path w l [] = l ≡ 0
Path w l (i ∷ is) = (l ≡ suc i) × Path w (next_link w i) is

-- i is none of the list
abbrev pub Out : ℕ → List ℕ → Type 0
Out i is = All (λ j. i ≢ j) is

-- one of the first n windows, of edge e, whose slot is there; n is the number of windows made, at most what the buffer counts for
pub record Belongs (n : ℕ) (w : List ℕ) (e i : ℕ) : Type 0 where
  pub edge : edge_stored w i ≡ e
  pub made : i < n
  pub there : words_per_window * i + words_per_window ≤ length w

abbrev pub AllBelong : ℕ → List ℕ → ℕ → List ℕ → Type 0
AllBelong n w e is = All (Belongs n w e) is

-- `before` is none, or a window of edge e
unfoldable pub Before : ℕ → List ℕ → ℕ → ℕ → Type 0
Before n w e zero = Unit {0}
Before n w e (suc k) = Belongs n w e k

-- the link of the first window of a list
unfoldable pub first_link : List ℕ → ℕ
first_link [] = 0
first_link (i ∷ is) = suc i

-- the chain of edge e is the list, and its windows are that edge's, of the first n
pub record OnEdge (n : ℕ) (b : Links) (e : ℕ) (is : List ℕ) : Type 0 where
  pub path : Path b.words (head_of b.edges e) is
  pub belong : AllBelong n b.words e is

-- the invariant: the chains of all m edges are the lists of `on`, of the first n windows
abbrev pub Chains : ℕ → ℕ → Links → (ℕ → List ℕ) → Type 0
Chains n m b on = (e : ℕ) → e < m → OnEdge n b e (on e)
