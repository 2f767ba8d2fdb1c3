-- What the functions of the last pass come to, by what their callees answer, and that no slice changes its length. Assumes nothing.
use Prim.Native.Nat.{ℕ, zero, suc, ◌-◌, ◌<◌, ◌+◌, ◌≤◌}
use native.Mathlib.Omega.{arith}
use mathlib.Core.List.{List, [], ◌∷◌}
use mathlib.Core.Logic.{◌≢◌}
use mathlib.Core.Path.{◌≡◌, refl, sym, ap, ◌∙◌}
use lib.ListN.{length, length-set}
use lib.Ieee.{Float}
use Rattle.float64.specs.Scalar.{zero64, min_of}
use Rattle.source.specs.declared.Win.{Win}
use Rattle.source.specs.Distance.{eval_of}
use Rattle.windows.specs.declared.Edge.{Edge}
use Rattle.windows.specs.declared.WindowRecord.{WindowRecord}
use Rattle.windows.specs.Windows.{window_at}
use Rattle.actions.specs.Actions.{distance_of, with_distance}
use Rattle.chains.specs.Chains.{Links, link_in, link_at}
use Rattle.mesh_readers.specs.Readers.{trim_edge_at}
use Rattle.last_pass.specs.Lowered.{lowered, lowered_by, lowered_edge}
use Rattle.last_pass.specs.Buffers.{chain_behind, wins_on, lowered_at, lowered_all_at, lowered_from}
use Rattle.last_pass.proofs.Chains.{chain_end, chain_next, chain_out}

-- ---- one vertex, and the two ends of an edge
pub lower_is : (vertex vertex' : List Float) (v : ℕ) (old least d : Float) → old ≡ distance_of vertex v → least ≡ min_of old d → vertex' ≡ with_distance vertex v least → vertex' ≡ lowered vertex v d
lower_is vertex vertex' v old least d h g k = k ∙ ap (with_distance vertex v) (g ∙ ap (λ (x : Float). min_of x d) h)

pub by_is : (e : Edge) (w : Win) (v0 v1 v2 : List Float) → v1 ≡ lowered v0 e.a.0 (eval_of w zero64 zero64) → v2 ≡ lowered v1 e.b.0 (eval_of w e.len zero64) → v2 ≡ lowered_by e w v0
unfolding lowered_by
by_is e w v0 v1 v2 h1 h2 = h2 ∙ ap (λ (v : List Float). lowered v e.b.0 (eval_of w e.len zero64)) h1

-- ---- lengths
length_by : (e : Edge) (w : Win) (vertex : List Float) → length (lowered_by e w vertex) ≡ length vertex
unfolding lowered_by
length_by e w vertex = simp length-set

pub length_edge : (e : Edge) (ws : List Win) (vertex : List Float) → length (lowered_edge e ws vertex) ≡ length vertex
unfolding lowered_edge
length_edge e [] vertex = refl
length_edge e (w ∷ ws) vertex = length_edge e ws (lowered_by e w vertex) ∙ length_by e w vertex

-- ---- the walk along the chain of an edge: what is left to do
module _ (made : ℕ) (b : Links) (f : List Float) (e : Edge) where
  abbrev pub to_do : ℕ → ℕ → List Float → List Float
  to_do left k vertex = lowered_edge e (wins_on b.words f (chain_behind made b e.id.0 left k)) vertex

  -- nothing, where the chain or the count is at its end
  pub done_chain : (left k r : ℕ) → r ≡ link_in made (link_at b e.id.0 k) → r ≡ 0 → (vertex : List Float) → to_do left k vertex ≡ vertex
  unfolding lowered_edge
  done_chain left k r read h vertex = ap (λ (is : List ℕ). lowered_edge e (wins_on b.words f is) vertex) (chain_end made b e.id.0 left k r read h)

  pub done_count : (left k : ℕ) → left ≡ 0 → (vertex : List Float) → to_do left k vertex ≡ vertex
  unfolding lowered_edge
  done_count left k h vertex = ap (λ (is : List ℕ). lowered_edge e (wins_on b.words f is) vertex) (chain_out made b e.id.0 left k h)

  -- one window
  pub one_less : (left k r : ℕ) → r ≡ link_in made (link_at b e.id.0 k) → 0 < left → r ≢ 0 → (x : WindowRecord) → x ≡ window_at b.words f (r - 1) → (vertex vertex' : List Float) → vertex' ≡ lowered_by e x.win vertex → to_do (left - 1) r vertex' ≡ to_do left k vertex
  unfolding lowered_edge
  one_less left k r read m q x is vertex vertex' h =
      ap (lowered_edge e (wins_on b.words f (chain_behind made b e.id.0 (left - 1) r))) (h ∙ ap (λ (y : WindowRecord). lowered_by e y.win vertex) is)
      ∙ sym (ap (λ (is : List ℕ). lowered_edge e (wins_on b.words f is) vertex) (chain_next made b e.id.0 left k r read m q))

-- ---- the walk over the edges
module _ (made : ℕ) (edge_reals : List Float) (b : Links) (f : List Float) where
  pub none_yet : (vertex : List Float) → vertex ≡ lowered_all_at made edge_reals b f 0 vertex
  unfolding lowered_all_at
  none_yet vertex = refl

  pub length_all : (n : ℕ) (vertex : List Float) → length (lowered_all_at made edge_reals b f n vertex) ≡ length vertex
  unfolding lowered_all_at
  length_all zero vertex = refl
  length_all (suc n) vertex =
      length_edge (trim_edge_at b.edges edge_reals n) (wins_on b.words f (chain_behind made b n made 0)) (lowered_all_at made edge_reals b f n vertex)
      ∙ length_all n vertex

  -- ---- a group of edges, and the groups one behind another
  pub none_of_group : (e : ℕ) (vertex : List Float) → vertex ≡ lowered_from made edge_reals b f e 0 vertex
  unfolding lowered_from
  none_of_group e vertex = refl

  pub one_of_group : (from n : ℕ) → from ≤ n → (vertex₀ vertex vertex' : List Float) (e : Edge) → e ≡ trim_edge_at b.edges edge_reals n → vertex ≡ lowered_from made edge_reals b f from (n - from) vertex₀
      → vertex' ≡ lowered_edge e (wins_on b.words f (chain_behind made b e.id.0 made 0)) vertex → vertex' ≡ lowered_from made edge_reals b f from (suc n - from) vertex₀
  unfolding lowered_from
  one_of_group from n l vertex₀ vertex vertex' e is h g =
      let last : n ≡ from + (n - from) = omega arith in
      let more : suc (n - from) ≡ suc n - from = omega arith in
      g ∙ ((λ i. lowered_edge (is i) (wins_on b.words f (chain_behind made b (is i).id.0 made 0)) (h i))
      ∙ (ap (λ (k : ℕ). lowered_at made edge_reals b f k (lowered_from made edge_reals b f from (n - from) vertex₀)) last ∙ ap (λ (k : ℕ). lowered_from made edge_reals b f from k vertex₀) more))

  group_behind : (e k : ℕ) (vertex : List Float) → lowered_from made edge_reals b f e k (lowered_all_at made edge_reals b f e vertex) ≡ lowered_all_at made edge_reals b f (e + k) vertex
  unfolding lowered_from lowered_all_at
  group_behind e zero vertex = let z : e ≡ e + 0 = omega arith in ap (λ (n : ℕ). lowered_all_at made edge_reals b f n vertex) z
  group_behind e (suc k) vertex =
      let z : suc (e + k) ≡ e + suc k = omega arith in
      ap (lowered_at made edge_reals b f (e + k)) (group_behind e k vertex) ∙ ap (λ (n : ℕ). lowered_all_at made edge_reals b f n vertex) z

  pub one_group : (e end : ℕ) → e ≤ end → (vertex₀ vertex vertex' : List Float) → vertex ≡ lowered_all_at made edge_reals b f e vertex₀
      → vertex' ≡ lowered_from made edge_reals b f e (end - e) vertex → vertex' ≡ lowered_all_at made edge_reals b f end vertex₀
  one_group e end l vertex₀ vertex vertex' h g =
      let z : e + (end - e) ≡ end = omega arith in
      g ∙ (ap (lowered_from made edge_reals b f e (end - e)) h ∙ (group_behind e (end - e) vertex₀ ∙ ap (λ (n : ℕ). lowered_all_at made edge_reals b f n vertex₀) z))

  pub length_group : (e k : ℕ) (vertex : List Float) → length (lowered_from made edge_reals b f e k vertex) ≡ length vertex
  unfolding lowered_from
  length_group e zero vertex = refl
  length_group e (suc k) vertex =
      length_edge (trim_edge_at b.edges edge_reals (e + k)) (wins_on b.words f (chain_behind made b (e + k) made 0)) (lowered_from made edge_reals b f e k vertex)
      ∙ length_group e k vertex
