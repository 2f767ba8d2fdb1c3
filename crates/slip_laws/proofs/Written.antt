-- What the writer writes, the reader reads back. Assumes nothing.
use Prim.Native.Nat.{ℕ, ◌≤◌}
use native.Mathlib.Omega.{arith}
use mathlib.Core.Path.{◌≡◌, refl, ap, ◌∙◌}
use mathlib.Core.Bool.{false}
use mathlib.Core.List.{List}
use borrow.Author.Tests.{le-ltb}
use lib.ListN.{length, take, drop}
use lib.Seq.{take_at}
use Rattle.job_checks.specs.Job.{Job, vertex_count, triangle_count, piece_count}
use Rattle.little_endian.specs.Bytes.{put_in_front}
use Rattle.slip.specs.Reading.{Rows, vertex_slots, triangle_slots, piece_slots, filled, reading}
use Rattle.std.specs.Prelude.{Some}
use Rattle.slip_write.specs.Write.{slip_of, oversized, writing}
use Rattle.slip_laws.specs.Whole.{Whole, answer_of}
use Rattle.slip_laws.proofs.RoundTrip.{slip_read}

module _ (j : Job) (w : Whole j) (out : List ℕ) where
  not_oversized : oversized (length j.vertices) (length j.triangles) (length j.flags) (length j.kinds) ≡ false
  unfolding oversized
  not_oversized =
      rw (
        le-ltb 72_057_594_037_927_936 (length j.vertices) (omega (arith, w.vertices, w.vertex_count_held)),
        le-ltb 72_057_594_037_927_936 (length j.triangles) (omega (arith, w.triangles, w.triangle_count_held)),
        le-ltb 72_057_594_037_927_936 (length j.flags) (omega (arith, w.flags, w.vertex_count_held)),
        le-ltb 72_057_594_037_927_936 (length j.kinds) (omega (arith, w.piece_count_held)),
      )

  -- a job that a slip can hold is written wherever there is room for its slip
  pub slip_written : length (slip_of j) ≤ length out → writing j out ≡ (Some (length (slip_of j)), put_in_front (slip_of j) out)
  unfolding writing
  slip_written h = rw (not_oversized, le-ltb (length out) (length (slip_of j)) h)

  -- as many bytes as the writer answers, read where there is room, leave the job at the fronts
  pub written_read : (b : Rows) → vertex_count j ≤ vertex_slots b → triangle_count j ≤ triangle_slots b → piece_count j ≤ piece_slots b
      → reading (take (length (slip_of j)) (put_in_front (slip_of j) out)) b ≡ (answer_of j, filled j b)
  unfolding put_in_front
  written_read b hv ht hp =
      ap (λ (s : List ℕ). reading s b) (take_at (slip_of j) (drop (length (slip_of j)) out) (length (slip_of j)) refl) ∙ slip_read j w b hv ht hp
