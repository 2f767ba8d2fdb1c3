-- The job of a slip that was read stands at the fronts of the slices, and its print-out is the slip's. Assumes nothing.
use Prim.Native.Nat.{ℕ, zero, suc, ◌+◌, ◌*◌, ◌/◌, min}
use native.Mathlib.Omega.{arith}
use mathlib.Core.Path.{◌≡◌, refl, sym, ap, ◌∙◌}
use mathlib.Core.Bool.{Bool, true, false, cond, true≢false}
use mathlib.Core.List.{List, ◌++◌}
use lib.Dec.{ltb}
use lib.ListN.{length, get_or, take, drop, replicate, length-append, length-replicate}
use lib.Seq.{take_at}
use Rattle.nat_laws.proofs.Lists.{length_list_of}
use Rattle.float64.specs.Scalar.{zero64}
use Rattle.little_endian.specs.Bytes.{number_from, double_from, doubles_from, numbers_from, bytes_from, put_in_front}
use Rattle.std.specs.Prelude.{Result, Ok, Err}
use Rattle.slip.specs.declared.SlipJob.{SlipJob}
use Rattle.slip.specs.declared.SlipRefusal.{SlipRefusal}
use Rattle.slip.specs.declared.SlipRefusal.TheVariants.{TooShort, LeftOver, UnknownKind, TooMany}
use Rattle.slip.specs.Format.{refusal_number, is_job, vertex_count_in, triangle_count_in, piece_count_in, triangles_from, flags_from, pieces_from, piece_size, piece_from, kinds_in, faces_in, job_in, after_pieces, exceeds, answer_to}
use Rattle.slip.specs.Reading.{Rows, job_rows, vertex_slots, triangle_slots, piece_slots, filled, written, slip_answer, reading}
use Rattle.slip.proofs.Walk.{length_coords_in}
use Rattle.print_out.specs.PrintOut.{refused_line}
use Rattle.slip_program.specs.Program.{job_text, slip_text, program_text}
use Rattle.slip_program.specs.Fronts.{front, front_job}

-- ---- what the answer says of a job
job_behind : (c : Bool) (x y : Result SlipJob SlipRefusal) (n : SlipJob) → is_job x ≡ false → cond c x y ≡ Ok n → y ≡ Ok n
job_behind true x y n e h = absurd (true≢false (sym (ap is_job h) ∙ e))
job_behind false x y n e h = h

told_or : SlipJob → Result SlipJob SlipRefusal → SlipJob
told_or n (Ok m) = m
told_or n (Err why) = n

module _ (s : List ℕ) where
  -- the counts, and the limit behind the first i pieces
  abbrev behind : ℕ → SlipJob
  behind i = record { vertices = vertex_count_in s; triangles = triangle_count_in s; pieces = piece_count_in s; limit = double_from s (piece_from s i) }

  pieces_told : (m k : ℕ) (n : SlipJob) → after_pieces s m (piece_from s k) ≡ Ok n → n ≡ behind (k + m)
  unfolding after_pieces piece_from told_or
  pieces_told zero k n h =
      let i = piece_from s k in
      let none : k ≡ k + 0 = omega arith in
      let whole = job_behind (ltb (length s) (i + 8)) (Err TooShort) (cond (ltb (i + 8) (length s)) (Err LeftOver) (Ok (behind k))) n refl h in
      let all = job_behind (ltb (i + 8) (length s)) (Err LeftOver) (Ok (behind k)) n refl whole in
      sym (ap (told_or n) all) ∙ ap behind none
  pieces_told (suc m) k n h =
      let i = piece_from s k in
      let kind = get_or s i 0 in
      let next : suc k + m ≡ k + suc m = omega arith in
      let rest = after_pieces s m (i + piece_size kind) in
      let whole = cond (ltb (length s) (i + piece_size kind)) (Err TooShort) rest in
      let known = job_behind (ltb (length s) (i + 1)) (Err TooShort) (cond (ltb 1 kind) (Err UnknownKind) whole) n refl h in
      let long = job_behind (ltb 1 kind) (Err UnknownKind) whole n refl known in
      pieces_told m (suc k) n (job_behind (ltb (length s) (i + piece_size kind)) (Err TooShort) rest n refl long) ∙ ap behind next

  answer_told : (v t p : ℕ) (n : SlipJob) → answer_to s v t p ≡ Ok n → n ≡ behind (piece_count_in s)
  unfolding answer_to piece_from
  answer_told v t p n h =
      let rest = after_pieces s (piece_count_in s) (pieces_from s) in
      let mesh = cond (ltb (length s) (pieces_from s)) (Err TooShort) rest in
      let counted = job_behind (ltb (length s) 12) (Err TooShort) (cond (exceeds s v t p) (Err TooMany) mesh) n refl h in
      let fits = job_behind (exceeds s v t p) (Err TooMany) mesh n refl counted in
      let all : 0 + piece_count_in s ≡ piece_count_in s = omega arith in
      pieces_told (piece_count_in s) 0 n (job_behind (ltb (length s) (pieces_from s)) (Err TooShort) rest n refl fits) ∙ ap behind all

-- ---- what stands at the fronts
front_is : {A : Type 0} (xs l : List A) (n : ℕ) → length xs ≡ n → front n (put_in_front xs l) ≡ xs
unfolding put_in_front
front_is xs l n e =
    let rest = drop (length xs) l in
    let most : min n (length (xs ++ rest)) ≡ n = omega (arith, length-append xs rest, e) in
    ap (λ (k : ℕ). take k (xs ++ rest)) most ∙ take_at xs rest n e

module _ (s : List ℕ) (b : Rows) where
  fronts_are : front_job (behind s (piece_count_in s)) (filled (job_in s) b) ≡ job_in s
  unfolding filled job_in doubles_from numbers_from bytes_from kinds_in faces_in
  fronts_are =
      let j = job_in s in
      λ i. record {
        vertices = front_is j.vertices b.vertices (3 * vertex_count_in s) (length_list_of (3 * vertex_count_in s) (λ k. double_from s (12 + 8 * k))) i;
        triangles = front_is j.triangles b.triangles (3 * triangle_count_in s) (length_list_of (3 * triangle_count_in s) (λ k. number_from s (triangles_from s + 4 * k))) i;
        flags = front_is j.flags b.flags (vertex_count_in s) (length_list_of (vertex_count_in s) (λ k. get_or s (flags_from s + k) 0)) i;
        kinds = front_is j.kinds b.kinds (piece_count_in s) (length_list_of (piece_count_in s) (λ k. get_or s (piece_from s k) 0)) i;
        faces = front_is j.faces b.faces (piece_count_in s) (length_list_of (piece_count_in s) (λ k. number_from s (piece_from s k + 1))) i;
        coords = front_is j.coords b.coords (6 * piece_count_in s) (length_coords_in s (piece_count_in s)) i;
        limit = j.limit;
      }

-- 01's sizes of the slices for a slip's job, in elements
record RowsSized (b : Rows) : Type 0 where
  pub vertices : length b.vertices ≡ 192
  pub triangles : length b.triangles ≡ 288
  pub flags : length b.flags ≡ 64
  pub kinds : length b.kinds ≡ 32
  pub faces : length b.faces ≡ 32
  pub coords : length b.coords ≡ 192

-- the slices that are made for it
abbrev pub program_rows : Rows
program_rows = job_rows (replicate 192 zero64) (replicate 288 0) (replicate 64 0) (replicate 32 0) (replicate 32 0) (replicate 192 zero64)

rows_sized : RowsSized program_rows
rows_sized = record {
  vertices = length-replicate 192 zero64;
  triangles = length-replicate {A = ℕ} 288 0;
  flags = length-replicate {A = ℕ} 64 0;
  kinds = length-replicate {A = ℕ} 32 0;
  faces = length-replicate {A = ℕ} 32 0;
  coords = length-replicate 192 zero64;
}

module _ (s : List ℕ) where
  answered : slip_answer s program_rows ≡ answer_to s 64 96 32
  unfolding slip_answer vertex_slots triangle_slots piece_slots
  answered = let z = rows_sized in λ i. answer_to s (min (z.vertices i / 3) (z.flags i)) (z.triangles i / 3) (min (z.kinds i) (min (z.faces i) (z.coords i / 6)))

  module _ (r : Result SlipJob SlipRefusal) (b' : Rows) (h : (r, b') ≡ reading s program_rows) where
    answer_is : r ≡ slip_answer s program_rows
    unfolding reading
    answer_is = λ i. (h i).0

    rows_are : b' ≡ written s (slip_answer s program_rows) program_rows
    unfolding reading
    rows_are = λ i. (h i).1

    pub read_printed : (n : SlipJob) → r ≡ Ok n → job_text (front_job n b') ≡ program_text s
    unfolding written slip_text
    read_printed n e =
        let job : slip_answer s program_rows ≡ Ok n = sym answer_is ∙ e in
        let there : b' ≡ filled (job_in s) program_rows = rows_are ∙ ap (λ a. written s a program_rows) job in
        let told = answer_told s 64 96 32 n (sym answered ∙ job) in
        (λ i. job_text (front_job (told i) (there i))) ∙ ap job_text (fronts_are s program_rows) ∙ sym (ap (slip_text s) (sym answered ∙ job))

    pub refused_printed : (why : SlipRefusal) → r ≡ Err why → refused_line (refusal_number why) ≡ program_text s
    unfolding slip_text
    refused_printed why e = ap (slip_text s) (sym e ∙ answer_is ∙ answered)
