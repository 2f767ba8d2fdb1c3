-- How the buffers come to hold a topology: what each way through `topology` leaves. Assumes nothing.
use Prim.Native.Nat.{ℕ, ◌/◌, ◌≤◌}
use mathlib.Core.Path.{◌≡◌, refl, sym, ap, ◌∙◌}
use mathlib.Core.Bool.{Bool, true, false, cond}
use mathlib.Core.List.{List}
use native.Mathlib.Omega.{arith}
use lib.ListN.{length, replicate}
use lib.Ieee.{Float}
use Rattle.float64.specs.Scalar.{zero64}
use Rattle.topology.specs.Edges.{edges, shared_by_three}
use Rattle.topology.proofs.Edges.{edge_count_held}
use Rattle.edge_table.specs.declared.ThirdFace.{ThirdFace}
use Rattle.std.specs.Prelude.{Result, Ok, Err}
use Rattle.edge_table.specs.Table.{Mesh, table_of, edge_words, triangle_words, Built}
use Rattle.vertex_faces.specs.Ranges.{with_ranges, with_flags, start_of, end_of, round_of, InRange}
use Rattle.frames.specs.Stored.{with_lengths, with_normals}
use Rattle.mesh.specs.Topology.{mesh_buffers, zeroed, vertex_words, Completed, filled, topology_of, MadeTopology}

pub in_range : (triangles : List ℕ) (n : ℕ) → Mesh triangles n → InRange triangles n
in_range triangles n m = record { there = m.there; few = omega (arith, m.whole, m.few_triangles) }

-- six equal lists make equal buffers
pub same_buffers : {a a' b b' : List ℕ} {c c' : List Float} {d d' e e' : List ℕ} {f f' : List Float} → a ≡ a' → b ≡ b' → c ≡ c' → d ≡ d' → e ≡ e' → f ≡ f' → mesh_buffers a b c d e f ≡ mesh_buffers a' b' c' d' e' f'
same_buffers p q r s t u = λ i. record { vertex_words_held = p i; edge_words_held = q i; edge_reals_held = r i; round = s i; triangle_words_held = t i; triangle_reals = u i }

-- what is added to the table, one callee after the other
pub completed : (v : List Float) (triangles flags : List ℕ) (n : ℕ) (ew tw vw : List ℕ) (er : List Float) (r : List ℕ) (tr : List Float) (vw₁ vw₂ vw' : List ℕ) (er' : List Float) (r' : List ℕ) (tr' : List Float)
    → vw₁ ≡ replicate (length vw) 0 → vw₂ ≡ with_flags flags (length v / 3) vw₁ → vw' ≡ with_ranges (start_of triangles) (end_of triangles) (length v / 3) vw₂ → r' ≡ round_of triangles (length v / 3) (length r) → er' ≡ with_lengths v ew n (replicate (length er) zero64) → tr' ≡ with_normals v triangles tw er' (length triangles) (replicate (length tr) zero64) → Completed v triangles flags n ew tw vw er r tr vw' er' r' tr'
unfolding vertex_words
completed v triangles flags n ew tw vw er r tr vw₁ vw₂ vw' er' r' tr' z g a b d f =
    record {
      vertices = a ∙ ap (with_ranges (start_of triangles) (end_of triangles) (length v / 3)) (g ∙ ap (with_flags flags (length v / 3)) z);
      faces_round_held = b;
      lengths = d;
      normals = f;
    }

-- what an answer of the table says of the mesh
third_case : (b : Bool) (n : ℕ) (t : ThirdFace) → ◌≡◌ {A = Result ℕ ThirdFace} (cond b (Err (record {})) (Ok n)) (Err t) → b ≡ true
third_case true n t e = refl
third_case false n t e = absurd (let z : ◌≡◌ {A = ℕ} 0 1 = cc in omega arith)

edges_case : (b : Bool) (n m : ℕ) → ◌≡◌ {A = Result ℕ ThirdFace} (cond b (Err (record {})) (Ok n)) (Ok m) → (b ≡ false) × (m ≡ n)
edges_case true n m e = absurd (let z : ◌≡◌ {A = ℕ} 0 1 = cc in omega arith)
edges_case false n m e = (refl, (cc))

module _ (triangles : List ℕ) (r : Result ℕ ThirdFace) (is : r ≡ table_of triangles) where
  pub is_third : (t : ThirdFace) → r ≡ Err t → shared_by_three triangles ≡ true
  unfolding table_of
  is_third t e = third_case (shared_by_three triangles) (length (edges triangles)) t (sym is ∙ e)

  pub has_edges : (n : ℕ) → r ≡ Ok n → (shared_by_three triangles ≡ false) × (n ≡ length (edges triangles))
  unfolding table_of
  has_edges n e = edges_case (shared_by_three triangles) (length (edges triangles)) n (sym is ∙ e)

  -- no more than one for each side
  pub few_edges : (n : ℕ) → r ≡ Ok n → n ≤ length triangles
  few_edges n e = omega (arith, (has_edges n e).1, edge_count_held triangles)

module _ (v : List Float) (triangles flags vw ew : List ℕ) (er : List Float) (r tw : List ℕ) (tr : List Float) where
  -- an edge in a third triangle
  module _ (vw' ew' : List ℕ) (er' : List Float) (r' tw' : List ℕ) (tr' : List Float) (t : Result ℕ ThirdFace) where
    pub made_third : Built triangles t r ew tw r' ew' tw' → (e : ThirdFace) → t ≡ Err e → vw' ≡ replicate (length vw) 0 → er' ≡ replicate (length er) zero64 → tr' ≡ replicate (length tr) zero64 → MadeTopology v triangles flags (Err e) (mesh_buffers vw ew er r tw tr) (mesh_buffers vw' ew' er' r' tw' tr')
    unfolding zeroed topology_of
    made_third b e third a d f =
        let k = is_third triangles t b.answer e third in
        record {
          answer = sym third ∙ b.answer;
          buffers = rw k (same_buffers a (b.edge_words_held ∙ rw k refl) d (b.head_words_held ∙ rw k refl) (b.triangle_words_held ∙ rw k refl) f);
        }

  -- none
  module _ (r₁ ew₁ tw₁ vw₂ r₂ : List ℕ) (er₂ tr₂ : List Float) (t : Result ℕ ThirdFace) (n : ℕ) where
    pub made_filled : Built triangles t r ew tw r₁ ew₁ tw₁ → t ≡ Ok n → length r₁ ≡ length r → Completed v triangles flags n ew₁ tw₁ vw er r₁ tr vw₂ er₂ r₂ tr₂ → MadeTopology v triangles flags (Ok n) (mesh_buffers vw ew er r tw tr) (mesh_buffers vw₂ ew₁ er₂ r₂ tw₁ tr₂)
    unfolding topology_of filled
    made_filled b e same c =
        let k = has_edges triangles t b.answer n e in
        let ends : ew₁ ≡ edge_words triangles (length ew) = b.edge_words_held ∙ rw k.0 refl in
        let sides : tw₁ ≡ triangle_words triangles (length tw) = b.triangle_words_held ∙ rw k.0 refl in
        let l : er₂ ≡ with_lengths v (edge_words triangles (length ew)) (length (edges triangles)) (replicate (length er) zero64) = c.lengths ∙ rw (ends, k.1) in
        record {
          answer = sym e ∙ b.answer;
          buffers =
              rw k.0
              (same_buffers
              c.vertices
              ends
              l
              (c.faces_round_held ∙ ap (round_of triangles (length v / 3)) same)
              sides
              (c.normals ∙ rw (sides, l)));
        }
