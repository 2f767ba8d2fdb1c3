-- Later work keeps what a mesh's buffers hold. Assumes nothing.
use Prim.Native.Nat.{ℕ, ◌+◌, ◌*◌, ◌/◌, ◌%◌, ◌<◌}
use mathlib.Core.Path.{◌≡◌, refl, subst, sym, ap, ◌∙◌}
use mathlib.Core.List.{List}
use mathlib.Core.Logic.{◌≢◌}
use native.Mathlib.Omega.{arith}
use lib.ListN.{get_or}
use lib.Ieee.{Float}
use Rattle.layout.specs.Layout.{words_per_vertex, vertex_start, vertex_end, vertex_flag, words_per_edge, edge_low, edge_high, edge_first_face, edge_second_face, edge_head, edge_scratch, words_per_triangle, triangle_first_entry, triangle_last_entry}
use Rattle.vertex_faces.specs.Ranges.{start_of}
use Rattle.frames.specs.Held.{HoldsEdges, HoldsFaces, HoldsSides, HoldsLengths, HoldsNormals}
use Rattle.mesh.specs.Topology.{MeshBuffers, mesh_buffers}
use Rattle.mesh.specs.Held.{Held, Worked}

-- An addition writes only the words of edges, and of these only the head and the scratch word of edges at work: what it keeps is field `edges` of trim_split's `Untouched`.
pub worked_edges : (m : MeshBuffers) (AtWork : ℕ → Type 0) (ew : List ℕ)
    → ((i : ℕ) → ((e : ℕ) → AtWork e → (i ≢ words_per_edge * e + edge_head) × (i ≢ words_per_edge * e + edge_scratch)) → get_or ew i 0 ≡ get_or m.edge_words_held i 0)
    → Worked m (mesh_buffers m.vertex_words_held ew m.edge_reals_held m.round m.triangle_words_held m.triangle_reals)
worked_edges m AtWork ew kept =
    record { vertex_words_held = refl; edge_words_held = λ i ne. kept i (λ e at. ne e); edge_reals_held = refl; round = refl; triangle_words_held = λ i ne. refl; triangle_reals = refl }

-- the words of edges: those before the head of an edge's chain
module _ (triangles : List ℕ) (AtWork : ℕ → Type 0) (ew ew' : List ℕ)
    (kept : (i : ℕ) → ((e : ℕ) → AtWork e → (i ≢ words_per_edge * e + edge_head) × (i ≢ words_per_edge * e + edge_scratch)) → get_or ew' i 0 ≡ get_or ew i 0) where
  end_kept : (e a : ℕ) → a < edge_head → get_or ew' (words_per_edge * e + a) 0 ≡ get_or ew (words_per_edge * e + a) 0
  end_kept e a l = kept (words_per_edge * e + a) (λ k at. (λ z. omega arith, λ z. omega arith))

  pub ends_kept : HoldsEdges triangles ew → HoldsEdges triangles ew'
  ends_kept h = record { low = λ e l. end_kept e edge_low (omega arith) ∙ h.low e l; high = λ e l. end_kept e edge_high (omega arith) ∙ h.high e l }

  pub faces_kept : HoldsFaces triangles ew → HoldsFaces triangles ew'
  faces_kept h = record { first = λ e l. end_kept e edge_first_face (omega arith) ∙ h.first e l; second = λ e l. end_kept e edge_second_face (omega arith) ∙ h.second e l }

-- the words of triangles: their sides
pub sides_kept : (triangles tw tw' : List ℕ)
    → ((i : ℕ) → ((f : ℕ) → (i ≢ words_per_triangle * f + triangle_first_entry) × (i ≢ words_per_triangle * f + triangle_last_entry)) → get_or tw' i 0 ≡ get_or tw i 0)
    → HoldsSides triangles tw → HoldsSides triangles tw'
sides_kept triangles tw tw' kept h k l = kept (words_per_triangle * (k / 3) + k % 3) (λ f. (λ z. omega arith, λ z. omega arith)) ∙ h k l

module _ (m m' : MeshBuffers) (w : Worked m m') where
  word_kept : (i : ℕ) → get_or m'.vertex_words_held i 0 ≡ get_or m.vertex_words_held i 0
  word_kept i = ap (λ (l : List ℕ). get_or l i 0) w.vertex_words_held

  pub held_kept : (v : List Float) (triangles flags : List ℕ) → Held v triangles flags m → Held v triangles flags m'
  held_kept v triangles flags h =
      record {
        ends = ends_kept triangles (λ e. Unit {0}) m.edge_words_held m'.edge_words_held (λ i ne. w.edge_words_held i (λ e. ne e tt)) h.ends;
        faces = faces_kept triangles (λ e. Unit {0}) m.edge_words_held m'.edge_words_held (λ i ne. w.edge_words_held i (λ e. ne e tt)) h.faces;
        lengths = subst (HoldsLengths v triangles) (sym w.edge_reals_held) h.lengths;
        sides = sides_kept triangles m.triangle_words_held m'.triangle_words_held w.triangle_words_held h.sides;
        normals = subst (HoldsNormals v triangles) (sym w.triangle_reals) h.normals;
        start = λ k l. word_kept (words_per_vertex * k + vertex_start) ∙ h.start k l;
        end = λ k l. word_kept (words_per_vertex * k + vertex_end) ∙ h.end k l;
        faces_round_held = λ k i l n. ap (λ (x : List ℕ). get_or x (start_of triangles k + i) 0) w.round ∙ h.faces_round_held k i l n;
        flag = λ k l. word_kept (words_per_vertex * k + vertex_flag) ∙ h.flag k l;
      }
