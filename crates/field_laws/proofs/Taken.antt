-- Slots of the mesh and of the pieces that a field does not take are zero. Assumes nothing.
use Prim.Native.Nat.{ℕ, suc, ◌+◌, ◌*◌, ◌-◌, ◌/◌, ◌%◌, ◌≤◌, ◌<◌}
use native.Mathlib.Omega.{arith}
use native.Mathlib.Decide.{dec_le}
use mathlib.Core.Bool.{Bool, true, false, cond, ◌&&◌}
use mathlib.Core.List.{List, [], ◌∷◌}
use mathlib.Core.Path.{◌≡◌, refl, sym, ap, subst, ◌∙◌}
use borrow.Author.Tests.{ne_eqb, le-ltb}
use lib.Dec.{eqb, ltb}
use lib.ListN.{length, get_or, replicate, get_or-eq_default}
use lib.Ieee.{Float}
use Rattle.layout.specs.Layout.{words_per_vertex, words_per_edge, edge_head, reals_per_edge, words_per_triangle, triangle_first_entry, triangle_last_entry, reals_per_normal, reals_per_piece}
use Rattle.float64.specs.Scalar.{zero64}
use Rattle.nat_laws.specs.Lists.{list_of}
use Rattle.nat_laws.proofs.Lists.{length_list_of, get_d_list_of}
use Rattle.work_laws.specs.of_better.Claim.{All}
use Rattle.chains.specs.Chains.{first_link}
use Rattle.job_checks.specs.Sound.{ValidTriangles}
use Rattle.topology.specs.Edges.{edges, tri_edge, edge_faces, vertex_faces}
use Rattle.topology.specs.Rows.{rows}
use Rattle.field_model.specs.of_edge_table.Words.{edge_word, triangle_word}
use Rattle.field_model.specs.of_edge_table.Table.{edge_words, triangle_words}
use Rattle.field_model.proofs.laws_of_edge_table.Holding.{words_zero}
use Rattle.vertex_faces.specs.Ranges.{start_of, end_of, round_of, with_flags}
use Rattle.vertex_faces.proofs.Ranges.{read_past, flags_past}
use Rattle.vertex_faces.proofs.Sides.{total_is}
use Rattle.work_laws.specs.of_frames.Stored.{length_row, row3, normal_of}
use Rattle.work_laws.specs.of_mesh.Topology.{MeshBuffers, vertex_words, filled}
use Rattle.field_model.specs.of_piece_ends.Directions.{piece_reals_of, direction_of}
use Rattle.work_laws.specs.of_trim_model.Windows.{Window}
use Rattle.work_laws.specs.of_live_windows.Live.{nums}
use Rattle.field_model.specs.of_face_entries.Entries.{FaceEntry, entry_numbers_from, numbers_of, final_link, word_with, triangles_with}
use Rattle.field_model.specs.of_finish.Contents.{edge_word_with, edges_with}
use Rattle.work_laws.proofs.Zeros.{zeros_at, zeros_behind, rows_zero}

-- ---- lists
zero_in : (n : ℕ) (g : ℕ → ℕ) (p : ℕ) → g p ≡ 0 → get_or (list_of n g) p 0 ≡ 0
zero_in n g p h = go (dec_le n p) where
  go : Dec (n ≤ p) → get_or (list_of n g) p 0 ≡ 0
  go (yes l) = get_or-eq_default (list_of n g) 0 (subst (λ (m : ℕ). m ≤ p) (sym (length_list_of n g)) l)
  go (no l) = get_d_list_of n g p 0 (omega (arith, l)) ∙ h

-- ---- the words of edges and of triangles
edge_zero : (t : List ℕ) (live : ℕ → List Window) (i a : ℕ) → a < words_per_edge → live i ≡ [] → get_or t (words_per_edge * i + a) 0 ≡ 0 → get_or (edges_with t live) (words_per_edge * i + a) 0 ≡ 0
unfolding edge_word_with nums first_link
edge_zero t live i a m none h = zero_in (length t) (edge_word_with t live) (words_per_edge * i + a) (go (eqb ((words_per_edge * i + a) % words_per_edge) edge_head)) where
  go : (b : Bool) → cond b (first_link (nums (live ((words_per_edge * i + a) / words_per_edge)))) (get_or t (words_per_edge * i + a) 0) ≡ 0
  go true = let e : (words_per_edge * i + a) / words_per_edge ≡ i = omega (arith, m) in ap (λ (us : List Window). first_link (nums us)) (ap live e ∙ none)
  go false = h

-- a face past those that the entries name has none
pub none_numbered : (n f : ℕ) → n ≤ f → (i : ℕ) (xs : List FaceEntry) → All (λ (x : FaceEntry). x.face < n) xs → entry_numbers_from i f xs ≡ []
unfolding entry_numbers_from
none_numbered n f h i [] a = refl
none_numbered n f h i (x ∷ xs) a =
    let l = a.0 in
    ap (λ (b : Bool). cond b (i ∷ entry_numbers_from (suc i) f xs) (entry_numbers_from (suc i) f xs)) (ne_eqb x.face f (λ z. omega (arith, l, h, z))) ∙ none_numbered n f h (suc i) xs a.1

triangle_zero : (t : List ℕ) (xs : List FaceEntry) (i a : ℕ) → a < words_per_triangle → numbers_of i xs ≡ [] → get_or t (words_per_triangle * i + a) 0 ≡ 0 → get_or (triangles_with t xs) (words_per_triangle * i + a) 0 ≡ 0
unfolding word_with first_link final_link
triangle_zero t xs i a m none h = zero_in (length t) (word_with t xs) p (go (eqb (p % words_per_triangle) triangle_first_entry) (eqb (p % words_per_triangle) triangle_last_entry)) where
  p : ℕ
  p = words_per_triangle * i + a

  e : p / words_per_triangle ≡ i
  e = omega (arith, m)

  empty : numbers_of (p / words_per_triangle) xs ≡ []
  empty = ap (λ (f : ℕ). numbers_of f xs) e ∙ none

  go : (b c : Bool) → cond b (first_link (numbers_of (p / words_per_triangle) xs)) (cond c (final_link (numbers_of (p / words_per_triangle) xs)) (get_or t p 0)) ≡ 0
  go true c = ap first_link empty
  go false true = ap final_link empty
  go false false = h

-- ---- the mesh as it is built
module _ (v : List Float) (triangles flags : List ℕ) (m : MeshBuffers) where
  pub vertex_slots_lem : (p : ℕ) → words_per_vertex * (length v / 3) ≤ p → get_or (filled v triangles flags m).vertex_words_held p 0 ≡ 0
  unfolding filled vertex_words
  vertex_slots_lem p h =
      read_past (start_of triangles) (end_of triangles) (length v / 3) (with_flags flags (length v / 3) (replicate (length m.vertex_words_held) 0)) p h
      ∙ flags_past flags (length v / 3) (replicate (length m.vertex_words_held) 0) p h
      ∙ zeros_at 0 (length m.vertex_words_held) p

  pub edge_slots_zero : (live : ℕ → List Window) (i a : ℕ) → length (edges triangles) ≤ i → a < words_per_edge → live i ≡ [] → get_or (edges_with (filled v triangles flags m).edge_words_held live) (words_per_edge * i + a) 0 ≡ 0
  unfolding filled edge_words edge_word
  edge_slots_zero live i a h l none =
      edge_zero (filled v triangles flags m).edge_words_held live i a l none
      (words_zero (length m.edge_words_held) words_per_edge (edge_word (edges triangles) (edge_faces triangles)) i a l (rw (le-ltb i (length (edges triangles)) h) refl))

  pub length_slots : (p : ℕ) → reals_per_edge * length (edges triangles) ≤ p → get_or (filled v triangles flags m).edge_reals_held p zero64 ≡ zero64
  unfolding filled length_row
  length_slots p h = rows_zero reals_per_edge (length_row v (edge_words triangles (length m.edge_words_held))) (λ k. refl) (length (edges triangles)) (length m.edge_reals_held) p h

  pub round_slots : (valid : ValidTriangles triangles (length v / 3)) (p : ℕ) → length triangles ≤ p → get_or (filled v triangles flags m).round p 0 ≡ 0
  unfolding filled round_of start_of
  round_slots valid p h =
      let l = rows (vertex_faces triangles) (length v / 3) in
      let z = total_is triangles (length v / 3) (record { there = valid.there; few = omega (arith, valid.whole, valid.few) }) in
      zeros_behind 0 l (length m.round - length l) p (subst (λ (k : ℕ). k ≤ p) (sym z) h)

  pub triangle_slots_zero : (xs : List FaceEntry) (i a : ℕ) → length triangles ≤ 3 * i → a < words_per_triangle → numbers_of i xs ≡ [] → get_or (triangles_with (filled v triangles flags m).triangle_words_held xs) (words_per_triangle * i + a) 0 ≡ 0
  unfolding filled triangle_words triangle_word
  triangle_slots_zero xs i a h l none =
      triangle_zero (filled v triangles flags m).triangle_words_held xs i a l none
      (words_zero (length m.triangle_words_held) words_per_triangle (triangle_word (length triangles) (tri_edge triangles)) i a l (go (ltb a 3))) where
        go : (c : Bool) → cond (c && ltb (3 * i + a) (length triangles)) (tri_edge triangles (3 * i + a)) 0 ≡ 0
        go true = ap (λ (c : Bool). cond c (tri_edge triangles (3 * i + a)) 0) (le-ltb (3 * i + a) (length triangles) (omega (arith, h)))
        go false = refl

  pub normal_slots : (p : ℕ) → reals_per_normal * length triangles ≤ p → get_or (filled v triangles flags m).triangle_reals p zero64 ≡ zero64
  unfolding filled
  normal_slots p h =
      rows_zero reals_per_normal
      (λ (k : ℕ). row3 (normal_of v triangles (triangle_words triangles (length m.triangle_words_held)) (filled v triangles flags m).edge_reals_held k)) (λ k. refl) (length triangles) (length m.triangle_reals) p h

pub direction_slots : (kinds : List ℕ) (coords : List Float) (n p : ℕ) → reals_per_piece * length kinds ≤ p → get_or (piece_reals_of kinds coords n) p zero64 ≡ zero64
unfolding piece_reals_of
direction_slots kinds coords n p h = rows_zero reals_per_piece (λ (i : ℕ). row3 (direction_of kinds coords i)) (λ k. refl) (length kinds) n p h
