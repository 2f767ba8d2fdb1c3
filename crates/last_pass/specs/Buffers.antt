-- The last pass over whatever the buffers hold. Definitions only.
use Prim.Native.Nat.{ℕ, zero, suc, ◌+◌}
use mathlib.Core.List.{List, [], ◌∷◌, map}
use Rattle.std.specs.Prelude.{Float}
use Rattle.source.specs.declared.Win.{Win}
use Rattle.windows.specs.Windows.{window_at}
use Rattle.chains.specs.Chains.{Links, link_in, link_at}
use Rattle.mesh_readers.specs.Readers.{trim_edge_at}
use Rattle.last_pass.specs.Lowered.{lowered_edge}

-- the window of a link, and those behind it
unfoldable pub from_link : ℕ → (ℕ → List ℕ) → List ℕ
from_link zero behind = []
from_link (suc i) behind = i ∷ behind (suc i)

-- the numbers of the windows behind link k on the chain of edge e, at most so many of them; no link leads past the windows made
module _ (made : ℕ) (b : Links) (e : ℕ) where
  unfoldable pub chain_behind : ℕ → ℕ → List ℕ
  unfolding from_link
  chain_behind zero k = []
  chain_behind (suc left) k = from_link (link_in made (link_at b e k)) (chain_behind left)

-- the windows of these numbers
abbrev pub wins_on : List ℕ → List Float → List ℕ → List Win
wins_on w f is = map (λ (i : ℕ). (window_at w f i).win) is

-- by the windows on the chain of edge e, and on those of the first n edges; a chain goes on for no more windows than are made
module _ (made : ℕ) (edge_reals : List Float) (b : Links) (f : List Float) where
  abbrev pub lowered_at : ℕ → List Float → List Float
  lowered_at e vertex = lowered_edge (trim_edge_at b.edges edge_reals e) (wins_on b.words f (chain_behind made b e made 0)) vertex

  unfoldable pub lowered_all_at : ℕ → List Float → List Float
  unfolding lowered_edge chain_behind
  lowered_all_at zero vertex = vertex
  lowered_all_at (suc n) vertex = lowered_at n (lowered_all_at n vertex)

  -- by those of k edges from e on
  unfoldable pub lowered_from : ℕ → ℕ → List Float → List Float
  unfolding lowered_edge chain_behind
  lowered_from e zero vertex = vertex
  lowered_from e (suc k) vertex = lowered_at (e + k) (lowered_from e k vertex)
