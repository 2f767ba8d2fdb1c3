-- The sources one after the other are the job: job_inserts_lem. Assumes nothing.
use Prim.Native.Nat.{ℕ, ◌+◌, ◌*◌, ◌/◌, ◌%◌, ◌<◌}
use mathlib.Core.Path.{◌≡◌, ◌∙◌}
use mathlib.Core.List.{List, append_assoc}
use native.Mathlib.Omega.{arith}
use lib.Ieee.{Float}
use lib.ListN.{length}
use Rattle.face_entries.specs.declared.Part.TheVariants.{EndA, EndB}
use Rattle.source_offers.specs.of_offers.Each.{each_of}
use Rattle.source_offers.proofs.laws_of_offers.Each.{each_same, by_blocks}
use Rattle.source_inserts.specs.Inserts.{end_inserts, whole_inserts, part_inserts, piece_inserts, job_inserts, source_inserts}

module _ (v : List Float) (triangles kinds faces : List ℕ) (coords : List Float) where
  part_is : (i k : ℕ) → k < 3 → source_inserts v triangles kinds faces coords (3 * i + k) ≡ part_inserts v triangles kinds faces coords i k
  unfolding source_inserts
  part_is i k l =
      let a : (3 * i + k) / 3 ≡ i = omega arith in
      let b : (3 * i + k) % 3 ≡ k = omega arith in
      λ t. part_inserts v triangles kinds faces coords (a t) (b t)

  three_parts : (i : ℕ) → each_of (part_inserts v triangles kinds faces coords i) 3 ≡ piece_inserts v triangles kinds faces coords i
  unfolding each_of part_inserts piece_inserts
  three_parts i = append_assoc (end_inserts v triangles kinds faces coords i (2 * i) EndA) (end_inserts v triangles kinds faces coords i (2 * i + 1) EndB) (whole_inserts v triangles kinds faces coords i)

  pub job_inserts_lem : each_of (source_inserts v triangles kinds faces coords) (3 * length kinds) ≡ job_inserts v triangles kinds faces coords
  unfolding job_inserts
  job_inserts_lem =
      by_blocks 3 (source_inserts v triangles kinds faces coords) (length kinds)
      ∙ each_same (λ (i : ℕ). each_of (λ (k : ℕ). source_inserts v triangles kinds faces coords (3 * i + k)) 3) (piece_inserts v triangles kinds faces coords) (length kinds)
      (λ i l. each_same (λ (k : ℕ). source_inserts v triangles kinds faces coords (3 * i + k)) (part_inserts v triangles kinds faces coords i) 3 (part_is i) ∙ three_parts i)
