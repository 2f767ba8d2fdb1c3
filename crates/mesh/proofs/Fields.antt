-- The buffers of a mesh that was answered hold its topology: every field, read, is the definition's value. Assumes nothing.
use Prim.Native.Nat.{ℕ, ◌+◌, ◌*◌, ◌/◌, ◌%◌, ◌<◌, ◌≤◌}
use mathlib.Core.Path.{◌≡◌, refl, sym, ap, subst, ◌∙◌}
use mathlib.Core.Bool.{false}
use mathlib.Core.List.{List, [], ◌∷◌}
use native.Mathlib.Omega.{arith}
use lib.ListN.{length, get_or, replicate, length-replicate, get_or-append}
use lib.Ieee.{Float}
use Rattle.layout.specs.Layout.{words_per_vertex, vertex_start, vertex_end, vertex_flag, words_per_edge, words_per_triangle}
use Rattle.float64.specs.Scalar.{zero64 as positiveZero}
use Rattle.job_checks.specs.Job.{Job}
use Rattle.job_checks.specs.Refusals.{refusals, refusal_of}
use Rattle.job_checks.proofs.Any.{passed_here, both_passed}
use Rattle.job_checks.proofs.Sound.{refusals_numbered}
use Rattle.topology.specs.Edges.{edges, tri_edge, shared_by_three, vertex_faces}
use Rattle.topology.specs.Rows.{rows}
use Rattle.topology.proofs.Edges.{edge_count_held}
use Rattle.topology.proofs.Rows.{row_inside, row_read}
use Rattle.edge_table.specs.declared.ThirdFace.{ThirdFace}
use Rattle.std.specs.Prelude.{Result, Ok}
use Rattle.edge_table.specs.Table.{edge_words, triangle_words}
use Rattle.edge_table.proofs.Reading.{low_read, high_read, first_face_read, second_face_read, head_read, scratch_read, spare_read, number_read}
use Rattle.vertex_faces.specs.Ranges.{with_flags, start_of, end_of, round_of}
use Rattle.vertex_faces.proofs.Ranges.{read_start, read_end, flag_kept, length_flags, read_flag}
use Rattle.frames.specs.Stored.{with_lengths}
use Rattle.frames.specs.Held.{HoldsEdges, HoldsFaces, HoldsSides, HoldsLengths}
use Rattle.frames.proofs.Held.{lengths_held, normals_held}
use Rattle.mesh.specs.declared.OtherCounts.{OtherCounts}
use Rattle.mesh.specs.declared.Refusal.{Refusal}
use Rattle.mesh.specs.Topology.{MeshBuffers, Fits, vertex_words, filled, topology_of, MadeTopology}
use Rattle.mesh.specs.Answer.{meshed_number, counts_in, mesh_refusals, mesh_refusal, afterwards, Answered}
use Rattle.mesh.specs.Held.{Held, Fresh}
use Rattle.mesh.proofs.Making.{has_edges}
use Rattle.mesh.proofs.Answering.{fits}

-- The filled buffers, one after the other.
module _ (v : List Float) (triangles flags : List ℕ) (n : ℕ) where
  module _ (long : words_per_edge * length triangles ≤ n) where
    edge_slot : (e : ℕ) → e < length (edges triangles) → words_per_edge * e + words_per_edge ≤ n
    edge_slot e l = omega (arith, edge_count_held triangles)

    ends_held : HoldsEdges triangles (edge_words triangles n)
    ends_held = record { low = λ e l. low_read triangles n e l (edge_slot e l); high = λ e l. high_read triangles n e l (edge_slot e l) }

    faces_held : HoldsFaces triangles (edge_words triangles n)
    faces_held = record { first = λ e l. first_face_read triangles n e l (edge_slot e l); second = λ e l. second_face_read triangles n e l (edge_slot e l) }

  sides_held : length triangles ≡ 3 * (length triangles / 3) → words_per_triangle * (length triangles / 3) ≤ n → HoldsSides triangles (triangle_words triangles n)
  sides_held whole long h l =
      let z : 3 * (h / 3) + h % 3 ≡ h = omega arith in
      number_read triangles n (h / 3) (h % 3) (omega arith) (omega arith) (omega arith) ∙ ap (tri_edge triangles) z

  faces_round_held_lem : (k i : ℕ) → k < length v / 3 → i < length (vertex_faces triangles k) → get_or (round_of triangles (length v / 3) n) (start_of triangles k + i) 0 ≡ get_or (vertex_faces triangles k) i 0
  unfolding round_of start_of
  faces_round_held_lem k i l m =
      get_or-append (rows (vertex_faces triangles) (length v / 3)) _ 0 (length (rows (vertex_faces triangles) k) + i) (omega (arith, row_inside (vertex_faces triangles) (length v / 3) k l))
      ∙ row_read (vertex_faces triangles) (length v / 3) k i l m

  module _ (k : ℕ) (l : k < length v / 3) (long : words_per_vertex * (length v / 3) ≤ n) where
    zeros_long : words_per_vertex * (length v / 3) ≤ length (replicate {A = ℕ} n 0)
    zeros_long = omega (arith, length-replicate {A = ℕ} n 0)

    flags_long : words_per_vertex * (length v / 3) ≤ length (with_flags flags (length v / 3) (replicate n 0))
    flags_long = omega (arith, zeros_long, length_flags flags (length v / 3) (replicate n 0))

    start_held : get_or (vertex_words v triangles flags n) (words_per_vertex * k + vertex_start) 0 ≡ start_of triangles k
    unfolding vertex_words
    start_held = read_start (start_of triangles) (end_of triangles) (with_flags flags (length v / 3) (replicate n 0)) k (length v / 3) l flags_long

    end_held : get_or (vertex_words v triangles flags n) (words_per_vertex * k + vertex_end) 0 ≡ end_of triangles k
    unfolding vertex_words
    end_held = read_end (start_of triangles) (end_of triangles) (with_flags flags (length v / 3) (replicate n 0)) k (length v / 3) l flags_long

    flag_held : get_or (vertex_words v triangles flags n) (words_per_vertex * k + vertex_flag) 0 ≡ get_or flags k 0
    unfolding vertex_words
    flag_held =
        flag_kept (start_of triangles) (end_of triangles) (length v / 3) (with_flags flags (length v / 3) (replicate n 0)) k
        ∙ read_flag flags (replicate n 0) k (length v / 3) l zeros_long

module _ (v : List Float) (triangles flags : List ℕ) (m : MeshBuffers) where
  abbrev pub FitsIn : Type 0
  FitsIn = Fits v triangles (length m.vertex_words_held) (length m.edge_words_held) (length m.edge_reals_held) (length m.round) (length m.triangle_words_held) (length m.triangle_reals)

  abbrev edge_reals : List Float
  edge_reals = with_lengths v (edge_words triangles (length m.edge_words_held)) (length (edges triangles)) (replicate (length m.edge_reals_held) positiveZero)

  module _ (fit : FitsIn) where
    lengths_of : HoldsLengths v triangles edge_reals
    lengths_of =
        lengths_held v triangles (edge_words triangles (length m.edge_words_held)) (ends_held v triangles flags (length m.edge_words_held) fit.edges_fit) (replicate (length m.edge_reals_held) positiveZero)
        (omega (arith, edge_count_held triangles, fit.edge_reals_fit, length-replicate (length m.edge_reals_held) positiveZero))

    sides_of : HoldsSides triangles (triangle_words triangles (length m.triangle_words_held))
    sides_of = sides_held v triangles flags (length m.triangle_words_held) fit.mesh.whole fit.triangles_fit

    filled_held : Held v triangles flags (filled v triangles flags m)
    unfolding filled
    filled_held =
        record {
          ends = ends_held v triangles flags (length m.edge_words_held) fit.edges_fit;
          faces = faces_held v triangles flags (length m.edge_words_held) fit.edges_fit;
          lengths = lengths_of;
          sides = sides_of;
          normals =
              normals_held v triangles edge_reals lengths_of (triangle_words triangles (length m.triangle_words_held)) sides_of (replicate (length m.triangle_reals) positiveZero)
              (omega (arith, fit.triangle_reals_fit, length-replicate (length m.triangle_reals) positiveZero));
          start = λ k l. start_held v triangles flags (length m.vertex_words_held) k l fit.vertices_fit;
          end = λ k l. end_held v triangles flags (length m.vertex_words_held) k l fit.vertices_fit;
          faces_round_held = faces_round_held_lem v triangles flags (length m.round);
          flag = λ k l. flag_held v triangles flags (length m.vertex_words_held) k l fit.vertices_fit;
        }

  filled_fresh : Fresh (filled v triangles flags m)
  unfolding filled
  filled_fresh =
      record {
        no_windows_held = head_read triangles (length m.edge_words_held);
        scratch = scratch_read triangles (length m.edge_words_held);
        no_entries = spare_read triangles (length m.triangle_words_held);
      }

-- What an answer of `topology` with n edges says, by its contract.
module _ (v : List Float) (triangles flags : List ℕ) (t : Result ℕ ThirdFace) (before after : MeshBuffers) (made : MadeTopology v triangles flags t before after) (n : ℕ) (e : t ≡ Ok n) where
  made_filled : after ≡ filled v triangles flags before
  unfolding topology_of
  made_filled = made.buffers ∙ rw (has_edges triangles t made.answer n e).0 refl

after_none : (v : List Float) (triangles flags : List ℕ) (m after : MeshBuffers) (k : ℕ) → k ≡ 0 → shared_by_three triangles ≡ false → after ≡ afterwards k m (topology_of v triangles flags m) → after ≡ filled v triangles flags m
unfolding afterwards topology_of
after_none v triangles flags m after k z s e = e ∙ rw (z, s) refl

pub same_number : {r : Result ℕ Refusal} {n k : ℕ} → r ≡ Ok n → r ≡ Ok k → n ≡ k
same_number e f = cc

-- What an answer with n edges says, by the contract of `build`.
module _ (j : Job) (others : OtherCounts) (r : Result ℕ Refusal) (before after : MeshBuffers) (answered : Answered j others r before after) (n : ℕ) (e : r ≡ Ok n) where
  unrefused : 0 ≡ mesh_refusal j (counts_in before others)
  unrefused = ap meshed_number (sym e) ∙ answered.number

  both : (refusal_of j (counts_in before others) ≡ 0) × (shared_by_three j.triangles ≡ false)
  unfolding mesh_refusals
  both =
      let p = both_passed ((10, shared_by_three j.triangles) ∷ []) (refusals j (counts_in before others)) (refusals_numbered j (counts_in before others)) (sym unrefused) in
      (p.0, passed_here 10 (shared_by_three j.triangles) [] (omega arith) p.1)

  is_filled : after ≡ filled j.vertices j.triangles j.flags before
  is_filled = after_none j.vertices j.triangles j.flags before after (refusal_of j (counts_in before others)) both.0 both.1 answered.buffers

  pub held : Held j.vertices j.triangles j.flags after
  held = subst (Held j.vertices j.triangles j.flags) (sym is_filled) (filled_held j.vertices j.triangles j.flags before (fits j others before both.0))

  pub fresh : Fresh after
  fresh = subst Fresh (sym is_filled) (filled_fresh j.vertices j.triangles j.flags before)
