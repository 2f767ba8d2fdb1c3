-- Every slice of a field is as long as it was lent: field_lengths. Assumes nothing.
use Prim.Native.Nat.{ℕ, suc, ◌*◌, ◌-◌, ◌/◌, ◌≤◌}
use native.Mathlib.Omega.{arith}
use mathlib.Core.List.{List, [], ◌∷◌}
use mathlib.Core.Path.{◌≡◌, refl, sym, ap, subst, ◌∙◌}
use lib.ListN.{length, length-append, replicate, length-replicate}
use lib.Ieee.{Float}
use Rattle.layout.specs.Layout.{reals_per_vertex, words_per_edge, reals_per_edge, words_per_triangle, reals_per_normal, words_per_piece, reals_per_piece, words_per_entry}
use Rattle.float64.specs.Scalar.{zero64}
use Rattle.nat_laws.proofs.Lists.{length_list_of}
use Rattle.job_checks.specs.Job.{Job, vertex_count}
use Rattle.job_checks.specs.Sound.{ValidTriangles}
use Rattle.topology.specs.Edges.{edges, vertex_faces}
use Rattle.topology.specs.Rows.{rows}
use Rattle.field_model.specs.of_edge_table.Table.{edge_words, triangle_words}
use Rattle.field_model.proofs.laws_of_edge_table.Holding as table
use Rattle.vertex_faces.specs.Ranges.{start_of, end_of, round_of, with_flags}
use Rattle.vertex_faces.proofs.Ranges.{length_ranges, length_flags}
use Rattle.vertex_faces.proofs.Sides.{total_is}
use Rattle.work_laws.specs.of_frames.Stored.{length_row}
use Rattle.work_laws.proofs.laws_of_frames.Rows.{length_rows}
use Rattle.work_laws.specs.of_mesh.Topology.{MeshBuffers, vertex_words, filled}
use Rattle.field_model.specs.of_piece_ends.Table.{piece_words_of}
use Rattle.field_model.specs.of_piece_ends.Directions.{piece_reals_of}
use Rattle.work_laws.specs.of_begin.Begin.{unreached, vertex_reals}
use Rattle.work_laws.specs.of_trim_state.State.{State}
use Rattle.field_model.specs.of_contents.Contents.{words_from, reals_from}
use Rattle.field_model.specs.of_face_entries.Entries.{FaceEntry, word_with, entry_words_from}
use Rattle.work_laws.specs.of_insertion.Insertion.{Inserted}
use Rattle.work_laws.proofs.laws_of_last_pass.Held.{length_lowered}
use Rattle.field_model.specs.of_offers.Walks.{edge_data}
use Rattle.work_laws.specs.of_run_steps.Run.{field}
use Rattle.field_model.specs.of_finish.Contents.{FieldBuffers, FieldContents, edge_word_with, WorkLengths}
use Rattle.field_model.specs.of_finish.Refused.{FieldLengths}
use Rattle.field_model.specs.of_compute_spec.Compute.{compute_by_heap}
use Rattle.field_laws.proofs.Held.{length_words, length_reals}
use Rattle.field_laws.proofs.Job.{built, sound_job, laws, entries_fit}
use Rattle.field_laws.proofs.Field.{padded_length}

-- ---- the mesh as it is built
module _ (v : List Float) (triangles flags : List ℕ) (m : MeshBuffers) where
  built_vertices : length (filled v triangles flags m).vertex_words_held ≡ length m.vertex_words_held
  unfolding filled vertex_words
  built_vertices =
      length_ranges (start_of triangles) (end_of triangles) (length v / 3) (with_flags flags (length v / 3) (replicate (length m.vertex_words_held) 0))
      ∙ length_flags flags (length v / 3) (replicate (length m.vertex_words_held) 0)
      ∙ length-replicate (length m.vertex_words_held) 0

  built_edges : length (filled v triangles flags m).edge_words_held ≡ length m.edge_words_held
  unfolding filled edge_words
  built_edges = table.length_words (length m.edge_words_held) words_per_edge _

  built_lengths : length (filled v triangles flags m).edge_reals_held ≡ length m.edge_reals_held
  unfolding filled length_row
  built_lengths =
      length_rows reals_per_edge (length_row v (edge_words triangles (length m.edge_words_held))) (λ k. refl) (length (edges triangles)) (replicate (length m.edge_reals_held) zero64)
      ∙ length-replicate (length m.edge_reals_held) zero64

  built_triangles : length (filled v triangles flags m).triangle_words_held ≡ length m.triangle_words_held
  unfolding filled triangle_words
  built_triangles = table.length_words (length m.triangle_words_held) words_per_triangle _

  built_normals : length (filled v triangles flags m).triangle_reals ≡ length m.triangle_reals
  unfolding filled
  built_normals = length_rows reals_per_normal _ (λ k. refl) (length triangles) (replicate (length m.triangle_reals) zero64) ∙ length-replicate (length m.triangle_reals) zero64

  built_round : (valid : ValidTriangles triangles (length v / 3)) → length triangles ≤ length m.round → length (filled v triangles flags m).round ≡ length m.round
  unfolding filled round_of start_of
  built_round valid fits = padded_length {A = ℕ} 0 (length m.round) (rows (vertex_faces triangles) (length v / 3)) (subst (λ (k : ℕ). k ≤ length m.round) (sym (total_is triangles (length v / 3) (record { there = valid.there; few = omega (arith, valid.whole, valid.few) }))) fits)

-- ---- the pieces, the vertices, the entries
pieces_long : (kinds : List ℕ) (coords : List Float) (n : ℕ) → length (piece_words_of kinds coords n) ≡ n
unfolding piece_words_of
pieces_long kinds coords n = table.length_words n words_per_piece _

directions_long : (kinds : List ℕ) (coords : List Float) (n : ℕ) → length (piece_reals_of kinds coords n) ≡ n
unfolding piece_reals_of
directions_long kinds coords n = length_rows reals_per_piece _ (λ k. refl) (length kinds) (replicate n zero64) ∙ length-replicate n zero64

vertices_long : (n size : ℕ) → length (vertex_reals n size) ≡ size
unfolding vertex_reals
vertices_long n size = length_rows reals_per_vertex (λ (k : ℕ). unreached) (λ k. refl) n (replicate size zero64) ∙ length-replicate size zero64

pub entries_from : (i : ℕ) (xs : List FaceEntry) → length (entry_words_from i xs) ≡ words_per_entry * length xs
unfolding entry_words_from
entries_from i [] = refl
entries_from i (x ∷ xs) = omega (arith, entries_from (suc i) xs)

module _ (j : Job) (b : FieldBuffers) (most : ℕ) (x : Inserted) (n : ℕ) (is : compute_by_heap j b most ≡ field x n) (b' : FieldBuffers)
    (c : FieldContents (built j b most x n is) (edge_data j.vertices j.triangles) (length (edges j.triangles)) x.state x.entries j.kinds j.coords b b') where
  abbrev s : State
  s = x.state

  work_lengths : WorkLengths b b'
  work_lengths =
      let L = laws j b most x n is in
      let fits = L.fits in
      let count = L.recorded.count in
      record {
        words = ap length c.words ∙ padded_length 0 (length b.words) (words_from s.live 0 s.wins) (omega (arith, length_words s.live 0 s.wins, fits, count));
        reals = ap length c.reals ∙ padded_length zero64 (length b.reals) (reals_from s.wins) (omega (arith, length_reals s.wins, fits, count));
        keys = ap length c.keys ∙ length-replicate (length b.keys) zero64;
        events = ap length c.events ∙ length-replicate {A = ℕ} (length b.events) 0;
        pts = ap (λ z. length z.pts) c.cuts ∙ length-replicate (length b.cuts.pts) zero64;
        out = ap (λ z. length z.out) c.cuts ∙ length-replicate (length b.cuts.out) zero64;
        keep = ap (λ z. length z.keep) c.cuts ∙ length-replicate (length b.cuts.keep) zero64;
        next = ap (λ z. length z.next) c.cuts ∙ length-replicate (length b.cuts.next) zero64;
        entry_words_held =
            let long = entries_from 0 x.entries in
            let w = entry_words_from 0 x.entries in
            let k = length b.entry_words_held - words_per_entry * length x.entries in
            ap length c.entry_words_held ∙ omega (arith, long, length-append w (replicate k 0), length-replicate {A = ℕ} k 0, entries_fit j b most x n is);
      }

  pub field_lengths : FieldLengths b b'
  field_lengths =
      let v = j.vertices in
      let ts = j.triangles in
      let m = built j b most x n is in
      let sound = sound_job j b most x n is in
      record {
        same = work_lengths;
        vertex_words_held = ap length c.vertex_words_held ∙ built_vertices v ts j.flags b.mesh;
        edge_words_held = ap length c.edge_words_held ∙ length_list_of (length m.edge_words_held) (edge_word_with m.edge_words_held s.live) ∙ built_edges v ts j.flags b.mesh;
        edge_reals_held = ap length c.edge_reals_held ∙ built_lengths v ts j.flags b.mesh;
        round = ap length c.round ∙ built_round v ts j.flags b.mesh sound.triangles (omega (arith, sound.buffers.vertex_faces_fit, sound.whole.whole_triangles));
        triangle_words_held = ap length c.triangle_words_held ∙ length_list_of (length m.triangle_words_held) (word_with m.triangle_words_held x.entries) ∙ built_triangles v ts j.flags b.mesh;
        triangle_reals = ap length c.triangle_reals ∙ built_normals v ts j.flags b.mesh;
        vertex = ap length c.vertex ∙ length_lowered (edge_data v ts) s.live s.stock.vertex (length (edges ts)) ∙ (laws j b most x n is).vertices ∙ vertices_long (vertex_count j) (length b.vertex);
        piece_words = ap length c.piece_words ∙ pieces_long j.kinds j.coords (length b.piece_words);
        piece_reals = ap length c.piece_reals ∙ directions_long j.kinds j.coords (length b.piece_reals);
        scratch = ap length c.scratch ∙ length-replicate {A = ℕ} (length b.scratch) 0;
        other_scratch = ap length c.other_scratch ∙ length-replicate {A = ℕ} (length b.other_scratch) 0;
      }
