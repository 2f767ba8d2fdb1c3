-- What is printed of the answer and the buffers of a job that was computed is the job's print-out. Assumes nothing.
use Prim.Native.Nat.{ℕ, min}
use mathlib.Core.Path.{◌≡◌, ap, subst, ◌∙◌}
use mathlib.Core.List.{List}
use lib.ListN.{length, replicate, length-replicate}
use lib.Ieee.{Float}
use Rattle.layout.specs.Layout.{reals_per_vertex, words_per_piece, reals_per_piece, words_per_event}
use Rattle.float64.specs.Scalar.{zero64}
use Rattle.buffers.specs.Slots.{slots_of}
use Rattle.windows.specs.Windows.{capacity_of}
use Rattle.job_checks.specs.Job.{Job}
use Rattle.compute.specs.of_mesh.Topology.{mesh_buffers}
use Rattle.compute.specs.of_mesh.Answer.{counts_of, counts_in}
use Rattle.compute.specs.of_cut_lists.Buffers.{cut_buffers}
use Rattle.compute.specs.of_begin.Begin.{work_slices}
use Rattle.compute.specs.of_face_entries.Buffers.{entry_capacity}
use Rattle.compute.specs.of_finish.Contents.{FieldBuffers}
use Rattle.computed.specs.declared.Computed.{Computed}
use Rattle.compute.specs.of_compute_spec.Compute.{other_counts, field_buffers}
use Rattle.compute.specs.of_field_model.Queue.{queue_in_order}
use Rattle.compute.specs.of_field_model.Field.{Reply, refused, gives}
use Rattle.compute.specs.of_field_model.Job.{Finished, job_of}
use Rattle.compute.specs.of_field_model.Lent.{slots_in, compute_over, answer_over, LeavesOver, ComputesOver}
use Rattle.text_out.specs.Text.{Puts}
use Rattle.print_out.specs.PrintOut.{live_count, text_of}
use Rattle.slip_program.specs.Program.{max_steps, program_counts, program_slots, alive_count, reply_text, job_text}
use Rattle.slip_program.specs.Fronts.{windows_told}
use Rattle.slip_program.proofs.Alive.{counts_alive}

pub puts_same : {before after text text' : List ℕ} {i j : ℕ} → text ≡ text' → Puts before i text after j → Puts before i text' after j
puts_same {before} {after} {text} {text'} {i} {j} e p = subst (λ t. Puts before i t after j) e p

-- the text of an answer and the buffers that hold its field
abbrev printed : FieldBuffers → Computed → List ℕ
printed b r = text_of r (live_count b.words (windows_told r)) b.vertex

module _ (j : Job) (b b' : FieldBuffers) where
  reply_text_lem : (reply : Reply Finished) (r : Computed) → r ≡ answer_over j reply → LeavesOver j b reply b' → printed b' r ≡ reply_text j reply
  unfolding answer_over text_of reply_text windows_told
  reply_text_lem (refused k) r e h = ap (printed b') e
  reply_text_lem (gives x) r e h =
      let field = answer_over j (gives x) in
      ap (printed b') e
      ∙ ap (λ (w : List ℕ). text_of field (live_count w (length x.wins)) b'.vertex) h.words
      ∙ ap (λ (n : ℕ). text_of field n b'.vertex) (counts_alive x.live (length b.words) x.wins)
      ∙ ap (λ (v : List Float). text_of field (alive_count x.wins) v) h.vertex

-- 01's sizes of the program's buffers, in elements
record Sized (b : FieldBuffers) : Type 0 where
  pub vertex_words_held : length b.mesh.vertex_words_held ≡ 192
  pub edge_words_held : length b.mesh.edge_words_held ≡ 1728
  pub edge_reals_held : length b.mesh.edge_reals_held ≡ 1152
  pub round : length b.mesh.round ≡ 288
  pub triangle_words_held : length b.mesh.triangle_words_held ≡ 576
  pub triangle_reals : length b.mesh.triangle_reals ≡ 864
  pub piece_words : length b.piece_words ≡ 96
  pub piece_reals : length b.piece_reals ≡ 96
  pub vertex : length b.vertex ≡ 128
  pub words : length b.words ≡ 1600
  pub reals : length b.reals ≡ 2400
  pub keys : length b.keys ≡ 600
  pub events : length b.events ≡ 1200
  pub entry_words_held : length b.entry_words_held ≡ 3000
  pub pts : length b.cuts.pts ≡ 100
  pub out : length b.cuts.out ≡ 200
  pub keep : length b.cuts.keep ≡ 200
  pub next : length b.cuts.next ≡ 200
  pub scratch : length b.scratch ≡ 400
  pub other_scratch : length b.other_scratch ≡ 400

module _ (b : FieldBuffers) (z : Sized b) where
  counts_are : counts_in b.mesh (other_counts b) ≡ program_counts
  counts_are = λ i.
      counts_of (z.vertex_words_held i) (z.edge_words_held i) (z.edge_reals_held i) (z.round i) (z.triangle_words_held i) (z.triangle_reals i)
      (record {
        vertex_reals = slots_of (z.vertex i) reals_per_vertex;
        pieces = min (slots_of (z.piece_words i) words_per_piece) (slots_of (z.piece_reals i) reals_per_piece);
        windows = capacity_of (z.words i) (z.reals i);
        scratch = slots_of (z.scratch i) 1;
        other_scratch = slots_of (z.other_scratch i) 1;
      })

  slots_are : slots_in b ≡ program_slots
  slots_are = λ i. record {
    windows = capacity_of (z.words i) (z.reals i);
    events = min (slots_of (z.events i) words_per_event) (slots_of (z.keys i) 1);
    cuts = min (min (slots_of (z.pts i) 1) (slots_of (z.out i) 2)) (min (slots_of (z.keep i) 2) (slots_of (z.next i) 2));
    entries = entry_capacity (z.entry_words_held i);
    vertex_reals_held = z.vertex i;
  }

  computed_printed : (j : Job) (b' : FieldBuffers) (r : Computed) → ComputesOver queue_in_order j b max_steps r b' → printed b' r ≡ job_text j
  computed_printed j b' r h =
      reply_text_lem j b b' (compute_over queue_in_order j b max_steps) r h.answer h.leaves
      ∙ (λ i. reply_text j (job_of queue_in_order (counts_are i) (slots_are i) j max_steps))

-- the buffers that are made for a job
abbrev words : ℕ → List ℕ
words n = replicate n 0

abbrev reals : ℕ → List Float
reals n = replicate n zero64

abbrev pub program_rooms : FieldBuffers
program_rooms =
    field_buffers (mesh_buffers (words 192) (words 1728) (reals 1152) (words 288) (words 576) (reals 864))
    (work_slices (words 96) (reals 96) (reals 128) (words 1600) (reals 2400) (reals 600) (words 1200) (words 3000))
    (cut_buffers (reals 100) (reals 200) (reals 200) (reals 200)) (words 400) (words 400)

rooms_sized : Sized program_rooms
rooms_sized = record {
  vertex_words_held = length-replicate {A = ℕ} 192 0;
  edge_words_held = length-replicate {A = ℕ} 1728 0;
  edge_reals_held = length-replicate 1152 zero64;
  round = length-replicate {A = ℕ} 288 0;
  triangle_words_held = length-replicate {A = ℕ} 576 0;
  triangle_reals = length-replicate 864 zero64;
  piece_words = length-replicate {A = ℕ} 96 0;
  piece_reals = length-replicate 96 zero64;
  vertex = length-replicate 128 zero64;
  words = length-replicate {A = ℕ} 1600 0;
  reals = length-replicate 2400 zero64;
  keys = length-replicate 600 zero64;
  events = length-replicate {A = ℕ} 1200 0;
  entry_words_held = length-replicate {A = ℕ} 3000 0;
  pts = length-replicate 100 zero64;
  out = length-replicate 200 zero64;
  keep = length-replicate 200 zero64;
  next = length-replicate 200 zero64;
  scratch = length-replicate {A = ℕ} 400 0;
  other_scratch = length-replicate {A = ℕ} 400 0;
}

pub job_printed : (j : Job) (b' : FieldBuffers) (r : Computed) → ComputesOver queue_in_order j program_rooms max_steps r b' → printed b' r ≡ job_text j
job_printed = computed_printed program_rooms rooms_sized
