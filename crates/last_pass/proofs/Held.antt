-- Where the buffers hold the windows and the edges' ends and lengths, the last pass is that over the live windows; and of the vertices' numbers it changes distances alone. Assumes nothing.
use Prim.Native.Nat.{ℕ, zero, suc, ◌+◌, ◌*◌, ◌<◌}
use native.Mathlib.Omega.{arith}
use mathlib.Core.List.{List, [], ◌∷◌, map}
use mathlib.Core.Path.{◌≡◌, refl, sym, ap, ◌∙◌}
use lib.ListN.{length, get_or}
use lib.Ieee.{Float}
use Rattle.layout.specs.Layout.{reals_per_vertex, vertex_distance, vertex_emitted}
use Rattle.buffers.proofs.Strides.{other_fields}
use Rattle.float64.specs.Scalar.{zero64, min_of}
use Rattle.source.specs.declared.Win.{Win}
use Rattle.source.specs.Distance.{eval_of}
use Rattle.actions.specs.Actions.{distance_of}
use Rattle.windows.specs.declared.Edge.{Edge}
use Rattle.windows.specs.declared.WindowRecord.{WindowRecord}
use Rattle.chains.specs.Chains.{Links}
use Rattle.mesh_readers.specs.Readers.{trim_edge_at}
use Rattle.pop.specs.of_trim_model.Windows.{Window}
use Rattle.pop.specs.of_trim_state.Trace.{win_of}
use Rattle.pop.specs.of_trim_state.State.{EdgeData, edge_in}
use Rattle.pop.specs.of_live_windows.Live.{HoldsWindows}
use Rattle.last_pass.specs.Lowered.{lowered, lowered_by, lowered_edge, lowered_all}
use Rattle.last_pass.specs.Buffers.{lowered_at, lowered_all_at}
use Rattle.last_pass.proofs.Chains.{stands_chain}
use Rattle.last_pass.proofs.Turns.{length_edge}

module _ (made : ℕ) (wins : List WindowRecord) (b : Links) (f edge_reals : List Float) (live : ℕ → List Window) (mesh : EdgeData) (H : HoldsWindows made wins b f live) where
  edge_lowered : (e : ℕ) → edge_in mesh e ≡ trim_edge_at b.edges edge_reals e → (vertex : List Float) → lowered_at made edge_reals b f e vertex ≡ lowered_edge (edge_in mesh e) (map win_of (live e)) vertex
  edge_lowered e h vertex i = lowered_edge (sym h i) (stands_chain made b f e (live e) (H.on_edge e) i) vertex

  pub lowered_held : (edges : ℕ) → ((e : ℕ) → e < edges → edge_in mesh e ≡ trim_edge_at b.edges edge_reals e) → (vertex : List Float) → lowered_all_at made edge_reals b f edges vertex ≡ lowered_all edges mesh live vertex
  unfolding lowered_all_at lowered_all
  lowered_held zero h vertex = refl
  lowered_held (suc n) h vertex =
      ap (lowered_at made edge_reals b f n) (lowered_held n (λ e l. h e (omega (arith, l))) vertex)
      ∙ edge_lowered n (h n (omega arith)) (lowered_all n mesh live vertex)

-- ---- what the last pass leaves
module _ (mesh : EdgeData) (live : ℕ → List Window) (vertex : List Float) where
  pub length_lowered : (n : ℕ) → length (lowered_all n mesh live vertex) ≡ length vertex
  unfolding lowered_all
  length_lowered zero = refl
  length_lowered (suc n) = length_edge (edge_in mesh n) (map win_of (live n)) (lowered_all n mesh live vertex) ∙ length_lowered n

  -- the emitted distances
  module _ (v : ℕ) (d : Float) where
    abbrev kept : List Float → Float
    kept l = get_or l (reals_per_vertex * v + vertex_emitted) d

    one_kept : (l : List Float) (k : ℕ) (x : Float) → kept (lowered l k x) ≡ kept l
    one_kept l k x = other_fields reals_per_vertex l k v vertex_distance vertex_emitted (min_of (distance_of l k) x) d (λ z. omega (arith, z)) (omega arith) (omega arith)

    by_kept : (e : Edge) (w : Win) (l : List Float) → kept (lowered_by e w l) ≡ kept l
    unfolding lowered_by
    by_kept e w l =
        let da = eval_of w zero64 zero64 in
        one_kept (lowered l e.a.0 da) e.b.0 (eval_of w e.len zero64) ∙ one_kept l e.a.0 da

    edge_kept : (e : Edge) (ws : List Win) (l : List Float) → kept (lowered_edge e ws l) ≡ kept l
    unfolding lowered_edge
    edge_kept e [] l = refl
    edge_kept e (w ∷ ws) l = edge_kept e ws (lowered_by e w l) ∙ by_kept e w l

    pub emitted_kept : (n : ℕ) → kept (lowered_all n mesh live vertex) ≡ kept vertex
    unfolding lowered_all
    emitted_kept zero = refl
    emitted_kept (suc n) = edge_kept (edge_in mesh n) (map win_of (live n)) (lowered_all n mesh live vertex) ∙ emitted_kept n
