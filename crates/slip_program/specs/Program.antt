-- Document 01's program `fieldslip`: what it prints for the bytes that it is given. Definitions only.
use Rattle.std.specs.Prelude.{ℕ, ◌+◌, cond, List, [], ◌∷◌, length, Float, Result, Ok, Err}
use Rattle.windows.specs.declared.WindowRecord.{WindowRecord}
use Rattle.job_checks.specs.Job.{Job}
use Rattle.job_checks.specs.declared.BufferCounts.{BufferCounts}
use Rattle.topology.specs.Edges.{edges}
use Rattle.compute.specs.of_offers.Walks.{edge_data}
use Rattle.compute.specs.of_last_pass.Lowered.{lowered_all}
use Rattle.compute.specs.of_field_model.Queue.{queue_in_order}
use Rattle.compute.specs.of_field_model.Field.{Reply, refused, gives, Slots}
use Rattle.compute.specs.of_field_model.Job.{Finished, job_of}
use Rattle.compute.specs.of_field_model.Lent.{answer_over}
use Rattle.slip.specs.declared.SlipJob.{SlipJob}
use Rattle.slip.specs.declared.SlipRefusal.{SlipRefusal}
use Rattle.slip.specs.Format.{refusal_number, job_in, answer_to}
use Rattle.print_out.specs.PrintOut.{refused_line, text_of}

-- ---- "allows 100,000 steps, and holds up to 64 corners, 96 triangles, 32 pieces, 400 windows, 600 events, 100 cuts, 1,000 face entries"
abbrev pub max_steps : ℕ
max_steps = 100_000

-- 9 asks for three places a triangle of edges and of faces round vertices, and for as many of each scratch row as of windows
abbrev pub program_counts : BufferCounts
program_counts = record {
  vertices = 64;
  edges = 288;
  vertex_faces = 288;
  triangles = 96;
  pieces = 32;
  windows = 400;
  scratch = 400;
  other_scratch = 400;
}

-- two numbers for each vertex: its distance, and the distance that it has emitted
abbrev pub program_slots : Slots
program_slots = record { windows = 400; events = 600; cuts = 100; entries = 1_000; vertex_reals_held = 128 }

-- ---- the print-out of a job
-- "those alive", of all windows made
unfoldable pub alive_count : List WindowRecord → ℕ
alive_count [] = 0
alive_count (x ∷ wins) = cond x.alive 1 0 + alive_count wins

-- each vertex's distance, after the last pass over the edges' windows, and what it has emitted
abbrev pub distances_of : Job → Finished → List Float
distances_of j x = lowered_all (length (edges j.triangles)) (edge_data j.vertices j.triangles) x.live x.vertex

unfoldable pub reply_text : Job → Reply Finished → List ℕ
unfolding refused_line text_of answer_over alive_count
reply_text j (refused k) = refused_line k
reply_text j (gives x) = text_of (answer_over j (gives x)) (alive_count x.wins) (distances_of j x)

abbrev pub job_text : Job → List ℕ
job_text j = reply_text j (job_of queue_in_order program_counts program_slots j max_steps)

-- ---- the print-out of a slip, which is read or refused
unfoldable pub slip_text : List ℕ → Result SlipJob SlipRefusal → List ℕ
unfolding refused_line reply_text job_in
slip_text s (Ok n) = job_text (job_in s)
slip_text s (Err why) = refused_line (refusal_number why)

-- "a slip with larger counts is 33"
abbrev pub program_text : List ℕ → List ℕ
program_text s = slip_text s (answer_to s 64 96 32)
