-- A job that passed refusals 1 to 10 and whose slices are as `begin_buffers` leaves them: they hold the job and the field before its first piece, so that its pieces are inserted as
-- the definition has it. Assumes nothing.
use Rattle.std.specs.Prelude.{Result}
use Prim.Native.Nat.{ℕ, ◌*◌, ◌/◌, ◌<◌, ◌≤◌}
use mathlib.Core.Bool.{false}
use mathlib.Core.List.{List, [], ◌∷◌}
use mathlib.Core.Path.{◌≡◌, refl, sym, ap, subst, ◌∙◌}
use native.Mathlib.Omega.{arith}
use lib.Ieee.{Float}
use lib.ListN.{length, get_or, replicate, length-replicate}
use Rattle.layout.specs.Layout.{words_per_edge, words_per_triangle, words_per_piece, reals_per_piece}
use Rattle.float64.specs.Scalar.{zero64}
use Rattle.buffers.specs.declared.Lack.{Lack}
use Rattle.buffers.proofs.Zeroing.{zero_at}
use Rattle.job_checks.specs.Job.{Job, vertex_count}
use Rattle.job_checks.specs.Refusals.{max_vertices, max_pieces, refusals, refusal_of}
use Rattle.job_checks.specs.Sound.{Sound}
use Rattle.job_checks.proofs.Any.{both_passed, passed_here}
use Rattle.job_checks.proofs.Sound.{refusals_numbered, sound}
use Rattle.topology.specs.Edges.{edges, shared_by_three}
use Rattle.topology.specs.Frames.{len}
use Rattle.topology.proofs.Edges.{edge_count_held}
use Rattle.insert_sources.proofs.laws_of_mesh_laws.Frames.{len_bounds}
use Rattle.begin.specs.of_edge_table.Table.{edge_words, triangle_words}
use Rattle.begin.proofs.laws_of_edge_table.Holding.{length_words}
use Rattle.begin.proofs.laws_of_frames.Rows.{length_rows}
use Rattle.insert_sources.specs.of_mesh.declared.OtherCounts.{OtherCounts}
use Rattle.insert_sources.specs.of_mesh.declared.Refusal.{Refusal}
use Rattle.insert_sources.specs.of_mesh.Topology.{MeshBuffers, filled, topology_of}
use Rattle.insert_sources.specs.of_mesh.Answer.{counts_in, mesh_refusals, mesh_refusal, afterwards, Answered}
use Rattle.insert_sources.specs.of_mesh.Held.{Held, Fresh}
use Rattle.insert_sources.proofs.laws_of_mesh.Fields.{held, fresh}
use Rattle.insert_sources.specs.of_mesh_readers.Held.{HoldsMesh}
use Rattle.insert_sources.proofs.laws_of_mesh_readers.Mesh.{mesh_holds, mesh_round}
use Rattle.windows.specs.Windows.{capacity_of}
use Rattle.chains.specs.Chains.{links}
use Rattle.insert_sources.specs.of_better.Claim.{All}
use Rattle.insert_sources.specs.of_trim_model.Claim.{AdmittedProper}
use Rattle.insert_sources.proofs.laws_of_trim_state.Follows.{follows_empty}
use Rattle.insert_sources.proofs.laws_of_live_windows.Standing.{no_live}
use Rattle.insert_sources.specs.of_cut_lists.Buffers.{Cuts}
use Rattle.insert_sources.specs.of_trim.Buffers.{Slices}
use Rattle.insert_sources.specs.of_offers.Walks.{edge_data}
use Rattle.insert_sources.specs.of_face_entries.Buffers.{EntryBuffers, entry_capacity}
use Rattle.insert_sources.proofs.laws_of_face_entries.Keeping.{none_only, fresh_none}
use Rattle.begin.specs.of_piece_ends.Directions.{piece_reals_of}
use Rattle.begin.proofs.laws_of_piece_ends.Held.{built_holds}
use Rattle.insert_sources.specs.of_wedge_refusal.Wedge.{any_wedge, any_wedge_at}
use Rattle.insert_sources.specs.of_wedge_refusal.Held.{HoldsJob}
use Rattle.insert_sources.proofs.laws_of_wedge_refusal.Held.{wedge_held}
use Rattle.insert_sources.specs.of_source_inserts.Inserts.{job_inserts, candidates_in}
use Rattle.insert_sources.proofs.laws_of_source_inserts.Proper.{job_proper}
use Rattle.insert_sources.specs.of_insertion.declared.InsertCounts.{InsertCounts}
use Rattle.std.specs.declared.result.Result.{Result}
use Rattle.insert_sources.specs.of_insertion.Insertion.{insert_each}
use Rattle.insert_sources.specs.of_insertion.Snapshots.{insert_snapshot, HoldsInserted, InsertEnds, insert_end}
use Rattle.insert_sources.specs.Job.{JobIn, InsertsAll}
use Rattle.begin.specs.Begin.{WorkSlices}
use Rattle.insert_job.specs.Field.{read_slices, trim_slices, entry_slices, begun_job, no_counts, PiecesCounted, empty_field, inserts_of, inserted_field, FieldInserted}

filled_is : (v : List Float) (triangles flags : List ℕ) (before after : MeshBuffers) (k : ℕ) → k ≡ 0 → shared_by_three triangles ≡ false → after ≡ afterwards k before (topology_of v triangles flags before) → after ≡ filled v triangles flags before
unfolding afterwards topology_of
filled_is v triangles flags before after k z s e = e ∙ rw (z, s) refl

filled_edges : (v : List Float) (triangles flags : List ℕ) (m : MeshBuffers) → length (filled v triangles flags m).edge_words_held ≡ length m.edge_words_held
unfolding filled edge_words
filled_edges v triangles flags m = length_words (length m.edge_words_held) words_per_edge _

filled_triangles : (v : List Float) (triangles flags : List ℕ) (m : MeshBuffers) → length (filled v triangles flags m).triangle_words_held ≡ length m.triangle_words_held
unfolding filled triangle_words
filled_triangles v triangles flags m = length_words (length m.triangle_words_held) words_per_triangle _

length_directions : (kinds : List ℕ) (coords : List Float) (n : ℕ) → length (piece_reals_of kinds coords n) ≡ n
unfolding piece_reals_of
length_directions kinds coords n = length_rows reals_per_piece _ (λ k. refl) (length kinds) (replicate n zero64) ∙ length-replicate n zero64

-- a job, what `mesh::build` answered and left in m, and that it was not refused
module _ (j : Job) (others : OtherCounts) (r : Result ℕ Refusal) (before m : MeshBuffers) (answered : Answered j others r before m) (passed : mesh_refusal j (counts_in before others) ≡ 0) where
  both : (refusal_of j (counts_in before others) ≡ 0) × (shared_by_three j.triangles ≡ false)
  unfolding mesh_refusals
  both =
      let p = both_passed ((10, shared_by_three j.triangles) ∷ []) (refusals j (counts_in before others)) (refusals_numbered j (counts_in before others)) passed in
      (p.0, passed_here 10 (shared_by_three j.triangles) [] (omega arith) p.1)

  pub checked : Sound j (counts_in before others)
  checked = sound j (counts_in before others) both.0

  holds : Held j.vertices j.triangles j.flags m
  holds = held j others r before m answered (length (edges j.triangles)) (answered.edge_count_held passed)

  at_first : Fresh m
  at_first = fresh j others r before m answered (length (edges j.triangles)) (answered.edge_count_held passed)

  pub begun_mesh : HoldsMesh j.vertices j.triangles (vertex_count j) m.edge_words_held m.edge_reals_held m.triangle_words_held m.triangle_reals
  begun_mesh = mesh_holds j.vertices j.triangles (vertex_count j) j.flags m checked.triangles holds

  is_filled : m ≡ filled j.vertices j.triangles j.flags before
  is_filled = filled_is j.vertices j.triangles j.flags before m (refusal_of j (counts_in before others)) both.0 both.1 answered.buffers

  face_there : (i : ℕ) → i < length j.kinds → get_or j.faces i 0 < length j.triangles / 3
  face_there i l = checked.pieces.face_there i (omega (arith, l, checked.whole.face_each))

  pub begun_proper : All (AdmittedProper j.limit (len j.vertices j.triangles)) (candidates_in (inserts_of j))
  begun_proper =
      job_proper j.limit j.vertices j.triangles (vertex_count j) checked.triangles j.kinds j.faces j.coords face_there
      (len_bounds j.vertices j.triangles checked.triangles checked.vertices checked.regular)

  -- the slices as they were lent
  module _ (s : WorkSlices) where
    -- zeroed slices have as many slots
    same_slots : (c : Cuts)
        → insert_each (length c.pts) (capacity_of (length (begun_job j s).words) (length (begun_job j s).reals)) (entry_capacity (length (begun_job j s).entries)) j.limit m.vertex_words_held (edge_data j.vertices j.triangles) (inserts_of j) (empty_field (begun_job j s))
        ≡ inserted_field j m.vertex_words_held s c
    same_slots c = λ i.
        insert_each (length c.pts) (capacity_of (length-replicate {A = ℕ} (length s.words) 0 i) (length-replicate (length s.reals) zero64 i)) (entry_capacity (length-replicate {A = ℕ} (length s.entries) 0 i)) j.limit m.vertex_words_held (edge_data j.vertices j.triangles) (inserts_of j) (empty_field (begun_job j s))

    pub begun_stands : HoldsInserted j.limit (edge_data j.vertices j.triangles) m.triangle_words_held [] (empty_field (begun_job j s)) (insert_snapshot no_counts (trim_slices m (begun_job j s)) (entry_slices m (begun_job j s)))
    begun_stands = record {
      trim = record {
        holds = no_live (links m.edge_words_held (replicate (length s.words) 0)) (replicate (length s.reals) zero64) at_first.no_windows_held;
        stock = refl;
        follows = follows_empty;
      };
      entries = none_only m.triangle_words_held (replicate (length s.entries) 0) (fresh_none m at_first) (zero_at 0 (length s.entries));
    }

    module _ (counted : PiecesCounted others s) where
      -- what `insert_job` asks of the job and of the pieces' words
      pub begun_fits : (vertex_count j ≤ max_vertices) × ((length j.kinds ≤ max_pieces) × (words_per_piece * length j.kinds ≤ length s.piece_words))
      begun_fits = (checked.whole.few_vertices, (checked.whole.few_pieces, omega (arith, counted, checked.buffers.pieces_fit)))

      begun_holds : HoldsJob j.vertices j.triangles (vertex_count j) m.edge_words_held m.edge_reals_held m.triangle_words_held m.triangle_reals m.vertex_words_held m.round j.kinds j.faces j.coords (begun_job j s).piece_words
      begun_holds = record {
        mesh = begun_mesh;
        round_vertex = mesh_round j.vertices j.triangles j.flags m holds;
        table = built_holds j.kinds j.coords (length s.piece_words) begun_fits.1.1;
        face_there = face_there;
      }

      pub begun_job_lem : JobIn (read_slices j m (begun_job j s)) j.triangles (vertex_count j) m.edge_words_held m.triangle_words_held
      begun_job_lem = record {
        job = begun_holds;
        edge_slots =
            omega (
              arith,
              edge_count_held j.triangles,
              checked.buffers.edges_fit,
              checked.whole.whole_triangles,
              ap (λ (x : MeshBuffers). length x.edge_words_held) is_filled ∙ filled_edges j.vertices j.triangles j.flags before,
            );
        triangle_slots_held =
            omega (arith, checked.buffers.triangles_fit, ap (λ (x : MeshBuffers). length x.triangle_words_held) is_filled ∙ filled_triangles j.vertices j.triangles j.flags before);
        directions = ap (piece_reals_of j.kinds j.coords) (sym (length_directions j.kinds j.coords (length s.piece_reals)));
        room = omega (arith, counted, checked.buffers.pieces_fit, length_directions j.kinds j.coords (length s.piece_reals));
      }

      -- refusal 11, read from the buffers
      pub begun_wedge : any_wedge_at j.vertices m.edge_words_held m.edge_reals_held m.triangle_words_held m.triangle_reals m.vertex_words_held j.triangles j.kinds j.faces j.coords (begun_job j s).piece_words
          ≡ any_wedge j.vertices j.triangles j.kinds j.faces j.coords
      begun_wedge =
          wedge_held j.vertices j.triangles (vertex_count j) m.edge_words_held m.edge_reals_held m.triangle_words_held m.triangle_reals m.vertex_words_held m.round j.kinds j.faces j.coords (begun_job j s).piece_words begun_holds

      -- What `insert_all` answers from there is stopped by the definition's number, or the buffers hold the definition's state: windows, live lists, queue, vertices and entries;
      -- the mesh is unchanged.
      pub inserted : (c : Cuts) (a : Result InsertCounts Lack) (b' : Slices) (t' : EntryBuffers)
          → InsertsAll j.limit (read_slices j m (begun_job j s)) (λ triangles. job_inserts j.vertices triangles j.kinds j.faces j.coords) no_counts (trim_slices m (begun_job j s)) (entry_slices m (begun_job j s)) c a b' t'
          → FieldInserted j m s c (insert_end a b' t')
      inserted c a b' t' h =
          subst
          (InsertEnds j.limit (edge_data j.vertices j.triangles) m.triangle_words_held (candidates_in (inserts_of j)) (insert_snapshot no_counts (trim_slices m (begun_job j s)) (entry_slices m (begun_job j s))) (insert_end a b' t'))
          (same_slots c)
          (h.inserts j.triangles (vertex_count j) begun_job_lem m.triangle_words_held [] (empty_field (begun_job j s)) begun_stands begun_proper)
