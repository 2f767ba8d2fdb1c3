-- A slip in groups is accepted exactly where the plain slip that it is moved to is, in the same slices; both answers are the same then, and so is what is left in the slices. Assumes nothing.
use Prim.Native.Nat.{ℕ, ◌+◌, ◌-◌, ◌*◌}
use native.Mathlib.Omega.{arith}
use mathlib.Core.Path.{◌≡◌, refl, sym, ap, ◌∙◌}
use mathlib.Core.Bool.{Bool, true, false, cond, ◌||◌, true≢false}
use mathlib.Core.List.{List}
use borrow.Author.Tests.{le-ltb}
use lib.Dec.{ltb}
use lib.ListN.{length, get_or}
use Rattle.nat_laws.proofs.Lists.{length_list_of}
use Rattle.job_checks.specs.Job as job
use Rattle.little_endian.specs.Bytes.{double_from, doubles_from}
use Rattle.groups.specs.declared.Form.TheVariants.{Plain, Groups}
use Rattle.groups.specs.Groups.{number_at}
use Rattle.std.specs.Prelude.{Result, Ok, Err}
use Rattle.slip.specs.declared.SlipJob.{SlipJob}
use Rattle.slip.specs.declared.SlipRefusal.{SlipRefusal}
use Rattle.slip.specs.declared.SlipRefusal.TheVariants as slip
use Rattle.slip.specs.Format.{is_job, vertex_count_in, triangle_count_in, piece_count_in, pieces_from, job_in, after_pieces, answer_to}
use Rattle.slip.specs.Format as format
use Rattle.slip.specs.Reading.{Rows, vertex_slots, triangle_slots, piece_slots, filled, written, slip_answer, reading}
use Rattle.slip.proofs.Room.{job_fits}
use Rattle.slip_laws.specs.Whole.{answer_of}
use Rattle.slip_laws.proofs.Back.{vertices_told, triangles_told, pieces_told, answer_told}
use Rattle.slip_moves.specs.Moves.{put, counted, form_head_at, slip_moved}
use Rattle.form_read.specs.declared.ReadRefusal.{ReadRefusal}
use Rattle.form_read.specs.declared.ReadRefusal.TheVariants.{TooMany}
use Rattle.form_read.specs.Places.{value_read, number_place, numbers_in, piece_place, kinds_from, first_piece, job_at}
use Rattle.form_read.specs.FormReading.{is_read, of_slip, counts_exceed, passed_answer, walk_answer, behind_counts, groups_answer, job_written, form_written, groups_reading, form_reading}
use Rattle.form_laws.proofs.Turns.{Bytes}
use Rattle.form_laws.proofs.Back.{moved_back}
use Rattle.form_laws.proofs.Same.{same_job}
use Rattle.form_laws.proofs.OneJob.{passed, shape_accepted}

-- the counts of the job that stands in a slip in groups
module _ (t : List ℕ) (v n p i : ℕ) where
  vertices_at : job.vertex_count (job_at t v n p i) ≡ v
  unfolding job_at doubles_from
  vertices_at = rw (length_list_of (3 * v) (λ j. double_from t (i + 8 * j))) (omega arith)

  triangles_at : job.triangle_count (job_at t v n p i) ≡ n
  unfolding job_at numbers_in
  triangles_at = rw (length_list_of (3 * n) (λ k. value_read (number_at Groups t (number_place t (i + 24 * v) k)))) (omega arith)

  pieces_at : job.piece_count (job_at t v n p i) ≡ p
  unfolding job_at kinds_from
  pieces_at = length_list_of p (λ k. get_or t (piece_place t (first_piece t v n i) k) 0)

job_written_lem : (s : List ℕ) (b : Rows) (x : Result SlipJob SlipRefusal) → is_job x ≡ true → written s x b ≡ filled (job_in s) b
unfolding written
job_written_lem s b (Ok r) h = refl
job_written_lem s b (Err why) h = absurd (true≢false (sym h))

read_is : (x : Result SlipJob SlipRefusal) → is_read (of_slip x) ≡ is_job x
read_is (Ok r) = refl
read_is (Err why) = refl

module _ (t : List ℕ) (bytes : Bytes t) (j : ℕ) (s : List ℕ) (moved : slip_moved Groups Plain t ≡ put j s) {v n p i : ℕ} (head : form_head_at Groups t ≡ counted v n p i) where
  -- both slips have the same counts
  counts_same : (vertex_count_in s ≡ v) × ((triangle_count_in s ≡ n) × (piece_count_in s ≡ p))
  counts_same =
      let e = same_job t bytes head j s moved in (
        sym (vertices_told s) ∙ ap job.vertex_count (sym e) ∙ vertices_at t v n p i,
        (sym (triangles_told s) ∙ ap job.triangle_count (sym e) ∙ triangles_at t v n p i, sym (pieces_told s) ∙ ap job.piece_count (sym e) ∙ pieces_at t v n p i),
      )

  -- the plain reader takes the plain slip wherever there is room for the counts
  plain_accepted : (vertices triangles pieces : ℕ) → counts_exceed v n p vertices triangles pieces ≡ false → is_job (answer_to s vertices triangles pieces) ≡ true
  unfolding counts_exceed answer_to format.exceeds
  plain_accepted vertices triangles pieces h =
      let c = counts_same in
      let f = job_fits s (vertex_count_in s) (triangle_count_in s) (piece_count_in s) (shape_accepted s Groups (length s) t (moved_back Groups Plain t bytes j s moved)) in
      passed (ltb (length s) 12) (ltb vertices (vertex_count_in s) || ltb triangles (triangle_count_in s) || ltb pieces (piece_count_in s)) (ltb (length s) (pieces_from s)) (Err slip.TooShort) (Err slip.TooMany) (Err slip.TooShort)
      (after_pieces s (piece_count_in s) (pieces_from s)) (le-ltb (length s) 12 f.counts) ((λ q. ltb vertices (c.0 q) || ltb triangles (c.1.0 q) || ltb pieces (c.1.1 q)) ∙ h) (le-ltb (length s) (pieces_from s) f.mesh)
      f.rest

  -- and only there
  counts_fit : (vertices triangles pieces : ℕ) → is_job (answer_to s vertices triangles pieces) ≡ true → counts_exceed v n p vertices triangles pieces ≡ false
  unfolding counts_exceed
  counts_fit vertices triangles pieces h =
      let c = counts_same in
      let f = job_fits s vertices triangles pieces h in
      rw (
        le-ltb vertices v (omega (arith, c.0, f.vertices_fit)),
        le-ltb triangles n (omega (arith, c.1.0, f.triangles_fit)),
        le-ltb pieces p (omega (arith, c.1.1, f.pieces_fit)),
      )
      refl

  module _ (b : Rows) where
    answer_is : groups_answer t (vertex_slots b) (triangle_slots b) (piece_slots b) ≡ cond (counts_exceed v n p (vertex_slots b) (triangle_slots b) (piece_slots b)) (Err TooMany) (passed_answer t v n p)
    unfolding groups_answer behind_counts walk_answer
    answer_is = rw (head, moved)

    -- the plain reader answers with the counts and the limit of the job, and so does the other
    counts_told : passed_answer t v n p ≡ of_slip (answer_of (job_at t v n p i))
    unfolding passed_answer job_at
    counts_told =
        λ k. Ok (record { vertices = sym (vertices_at t v n p i) k; triangles = sym (triangles_at t v n p i) k; pieces = sym (pieces_at t v n p i) k; limit = double_from t (length t - 8) })

    same_answer : is_job (answer_to s (vertex_slots b) (triangle_slots b) (piece_slots b)) ≡ true → of_slip (answer_to s (vertex_slots b) (triangle_slots b) (piece_slots b)) ≡ passed_answer t v n p
    same_answer accepted =
        ap of_slip (answer_told s (vertex_slots b) (triangle_slots b) (piece_slots b) accepted)
        ∙ ap (λ x. of_slip (answer_of x)) (sym (same_job t bytes head j s moved)) ∙ sym counts_told

    same_rows : is_read (groups_reading t b).0 ≡ true → ◌≡◌ {A = Result SlipJob ReadRefusal × Rows} (of_slip (reading s b).0, (reading s b).1) (groups_reading t b)
    unfolding groups_reading reading slip_answer form_written job_written passed_answer
    same_rows h = go (counts_exceed v n p (vertex_slots b) (triangle_slots b) (piece_slots b)) refl
      where
        go : (c : Bool) → counts_exceed v n p (vertex_slots b) (triangle_slots b) (piece_slots b) ≡ c → ◌≡◌ {A = Result SlipJob ReadRefusal × Rows} (of_slip (reading s b).0, (reading s b).1) (groups_reading t b)
        go true ec = absurd (true≢false (sym h ∙ ap is_read answer_is ∙ ap (λ x. is_read (cond x (Err TooMany) (passed_answer t v n p))) ec))
        go false ec =
            let accepted = plain_accepted (vertex_slots b) (triangle_slots b) (piece_slots b) ec in
            let told = answer_is ∙ ap (λ x. cond x (Err TooMany) (passed_answer t v n p)) ec in
            let left : form_written t (groups_answer t (vertex_slots b) (triangle_slots b) (piece_slots b)) b ≡ filled (job_at t v n p i) b =
            ap (λ x. form_written t x b) told ∙ ap (λ x. job_written t x b) head in
            let same = job_written_lem s b (answer_to s (vertex_slots b) (triangle_slots b) (piece_slots b)) accepted ∙ ap (λ x. filled x b) (sym (same_job t bytes head j s moved)) ∙ sym left in
            let tells = same_answer accepted ∙ sym told in
            λ k. (tells k, same k)

    -- the theorem: what is accepted of one form is accepted of the other, with the same answer, and leaves the same
    pub same_accepted : is_read (form_reading Plain s b).0 ≡ true → is_read (form_reading Groups t b).0 ≡ true
    unfolding form_reading groups_reading reading slip_answer passed_answer
    same_accepted h =
        let accepted : is_job (answer_to s (vertex_slots b) (triangle_slots b) (piece_slots b)) ≡ true = sym (read_is (answer_to s (vertex_slots b) (triangle_slots b) (piece_slots b))) ∙ h in
        ap is_read answer_is ∙ ap (λ x. is_read (cond x (Err TooMany) (passed_answer t v n p))) (counts_fit (vertex_slots b) (triangle_slots b) (piece_slots b) accepted)

    pub same_reading : is_read (form_reading Groups t b).0 ≡ true → form_reading Plain s b ≡ form_reading Groups t b
    unfolding form_reading
    same_reading h = same_rows h
