-- What the reader accepts is the slip of the job that it reads: no other slip gives that job. Assumes nothing.
use Prim.Native.Nat.{ℕ, zero, suc, ◌+◌, ◌-◌, ◌*◌, ◌%◌, ◌≤◌, ◌<◌}
use native.Mathlib.Omega.{arith}
use native.Mathlib.Decide.{dec_le}
use mathlib.Core.Path.{◌≡◌, refl, sym, ap, ◌∙◌}
use mathlib.Core.Bool.{Bool, true, false, cond}
use mathlib.Core.List.{List, [], ◌∷◌, ◌++◌, append-nil}
use borrow.Author.Tests.{ltb-false, eqb-false}
use lib.Dec.{eqb, ltb}
use lib.ListN.{length, get_or, drop, get_or-append, drop_of_length-le}
use lib.Seq.{get_or-append-add}
use lib.Ieee.{Float, nan}
use Rattle.nat_laws.specs.Lists.{All}
use Rattle.nat_laws.proofs.Lists.{length_list_of, get_d_list_of}
use Rattle.job_checks.specs.Job.{Job}
use Rattle.job_checks.specs.Job as job
use Rattle.little_endian.specs.Bytes.{number_from, double_from, doubles_from, numbers_from, bytes_from, number_bytes, double_bytes}
use Rattle.std.specs.Prelude.{Result, Ok, Err}
use Rattle.slip.specs.declared.SlipJob.{SlipJob}
use Rattle.slip.specs.declared.SlipRefusal.{SlipRefusal}
use Rattle.slip.specs.declared.SlipRefusal.TheVariants.{TooShort, LeftOver, UnknownKind, TooMany}
use Rattle.slip.specs.Format.{is_job, vertex_count_in, triangle_count_in, piece_count_in, triangles_from, flags_from, pieces_from, piece_size, piece_from, second_double_at, piece_coords, kinds_in, faces_in, coords_in, job_in, exceeds, after_pieces, answer_to}
use Rattle.slip.proofs.Pieces.{job_else, size_bounds, stands}
use Rattle.slip.proofs.Room.{job_fits}
use Rattle.slip.proofs.Walk.{length_coords_in}
use Rattle.slip_write.specs.Write.{doubles_bytes, numbers_bytes, three_bytes, piece_bytes, pieces_bytes, counts_bytes, mesh_bytes, rest_bytes, slip_of}
use Rattle.slip_laws.specs.Plain.{IsByte, PlainAt, Plain}
use Rattle.slip_laws.specs.Whole.{answer_of}
use Rattle.slip_laws.proofs.Rows.{all_get_d}
use Rattle.slip_laws.proofs.Stands.{Stands, stands_none, stands_then, stands_byte, number_below, number_stands, double_stands, doubles_stand, numbers_stand, bytes_stand}

module _ (s : List ℕ) where
  -- ---- the pieces of an accepted slip
  known_kind : (n i : ℕ) → 0 < n → is_job (after_pieces s n i) ≡ true → get_or s i 0 ≤ 1
  unfolding after_pieces
  known_kind zero i h j = absurd (omega arith)
  known_kind (suc n) i h j =
      let kind = get_or s i 0 in
      let whole-piece = cond (ltb (length s) (i + piece_size kind)) (Err TooShort) (after_pieces s n (i + piece_size kind)) in
      let known = job_else (ltb (length s) (i + 1)) (Err TooShort) (cond (ltb 1 kind) (Err UnknownKind) whole-piece) refl j in
      ltb-false _ _ (job_else (ltb 1 kind) (Err UnknownKind) whole-piece refl known.1).0

  ends_there : (i : ℕ) → is_job (after_pieces s 0 i) ≡ true → i + 8 ≡ length s
  unfolding after_pieces
  ends_there i j =
      let answer : Result SlipJob SlipRefusal = Ok (record { vertices = vertex_count_in s; triangles = triangle_count_in s; pieces = piece_count_in s; limit = double_from s i }) in
      let a = job_else (ltb (length s) (i + 8)) (Err TooShort) (cond (ltb (i + 8) (length s)) (Err LeftOver) answer) refl j in
      let b = job_else (ltb (i + 8) (length s)) (Err LeftOver) answer refl a.1 in
      omega (arith, ltb-false (length s) (i + 8) a.0, ltb-false (i + 8) (length s) b.0)

  module _ (all : ℕ) (job : is_job (after_pieces s all (pieces_from s)) ≡ true) where
    rest_is_job : (k : ℕ) → k ≤ all → is_job (after_pieces s (all - k) (piece_from s k)) ≡ true
    unfolding piece_from
    rest_is_job zero h = let none : all - 0 ≡ all = omega arith in rw none job
    rest_is_job (suc k) h =
        let less : all - suc k ≡ all - k - 1 = omega arith in rw less (stands s (all - k) (piece_from s k) (omega arith) (rest_is_job k (omega arith))).1

    piece_fits : (k : ℕ) → k < all → piece_from s k + piece_size (get_or s (piece_from s k) 0) ≤ length s
    piece_fits k h = (stands s (all - k) (piece_from s k) (omega arith) (rest_is_job k (omega arith))).0

    kind_is : (k : ℕ) → k < all → get_or s (piece_from s k) 0 ≤ 1
    kind_is k h = known_kind (all - k) (piece_from s k) (omega arith) (rest_is_job k (omega arith))

    limit_there : piece_from s all + 8 ≡ length s
    limit_there = let none : all - all ≡ 0 = omega arith in ends_there (piece_from s all) (rw none at (rest_is_job all (omega arith)))

  -- coordinate a of piece k
  coord_is : (all k a m : ℕ) → k < all → a < 6 → m ≡ 6 * k + a → get_or (coords_in s all) m nan ≡ get_or (piece_coords s (piece_from s k)) a nan
  unfolding coords_in
  coord_is zero k a m h l e = absurd (omega arith)
  coord_is (suc n) k a m h l e = go (dec_le (suc k) n) (λ q. coord_is n k a m q l e)
    where
      go : Dec (suc k ≤ n) → (suc k ≤ n → get_or (coords_in s n) m nan ≡ get_or (piece_coords s (piece_from s k)) a nan)
          → get_or (coords_in s n ++ piece_coords s (piece_from s n)) m nan ≡ get_or (piece_coords s (piece_from s k)) a nan
      go (yes q) before = get_or-append (coords_in s n) (piece_coords s (piece_from s n)) nan m (omega (arith, length_coords_in s n)) ∙ before q
      go (no q) before =
          let same : k ≡ n = omega (arith, q) in
          let place : m ≡ length (coords_in s n) + a = omega (arith, length_coords_in s n, same) in
          ap (λ (i : ℕ). get_or (coords_in s n ++ piece_coords s (piece_from s n)) i nan) place
          ∙ get_or-append-add (coords_in s n) (piece_coords s (piece_from s n)) a nan ∙ ap (λ (i : ℕ). get_or (piece_coords s (piece_from s i)) a nan) (sym same)

module _ (s : List ℕ) (bytes : (i : ℕ) → IsByte (get_or s i 0)) where
  -- three coordinates from m on, whose doubles stand from byte i on
  three_stand : (c : List Float) (i j m : ℕ) → j ≡ i + 24 → j ≤ length s → ((k : ℕ) → k < 3 → PlainAt s (i + 8 * k))
      → get_or c m nan ≡ double_from s i → get_or c (m + 1) nan ≡ double_from s (i + 8) → get_or c (m + 2) nan ≡ double_from s (i + 16) → Stands s i (three_bytes c m) j
  unfolding three_bytes
  three_stand c i j m e h p x y z =
      let i0 : i + 8 * 0 ≡ i = omega arith in
      let i1 : i + 8 * 1 ≡ i + 8 = omega arith in
      let i2 : i + 8 * 2 ≡ i + 16 = omega arith in
      rw (x, y, z)
      (stands_then s i (i + 16) j (double_bytes (double_from s i) ++ double_bytes (double_from s (i + 8))) (double_bytes (double_from s (i + 16)))
      (stands_then s i (i + 8) (i + 16) (double_bytes (double_from s i)) (double_bytes (double_from s (i + 8)))
      (double_stands s bytes i (i + 8) refl (omega arith) (rw i0 at (p 0 (omega arith))))
      (double_stands s bytes (i + 8) (i + 16) (omega arith) (omega arith) (rw i1 at (p 1 (omega arith)))))
      (double_stands s bytes (i + 16) j (omega arith) h (rw i2 at (p 2 (omega arith)))))

  module _ (plain : Plain s) (job : is_job (after_pieces s (piece_count_in s) (pieces_from s)) ≡ true) where
    abbrev kinds : List ℕ
    kinds = kinds_in s (piece_count_in s)

    abbrev faces : List ℕ
    faces = faces_in s (piece_count_in s)

    abbrev coords : List Float
    coords = coords_in s (piece_count_in s)

    second_stands : (b : Bool) (k : ℕ) → k < piece_count_in s → eqb (get_or s (piece_from s k) 0) 0 ≡ b → piece_from s k + cond b 29 53 ≤ length s
        → Stands s (piece_from s k + 29) (cond b [] (three_bytes coords (6 * k + 3))) (piece_from s k + cond b 29 53)
    unfolding piece_coords second_double_at
    second_stands true k h e l = stands_none s (piece_from s k + 29) (piece_from s k + 29) refl
    second_stands false k h e l =
        let at = piece_from s k in
        let kind : get_or s at 0 ≡ 1 = omega (arith, kind_is s (piece_count_in s) job k h, eqb-false (get_or s at 0) 0 e) in
        let x : (a m q : ℕ) → a < 6 → m ≡ 6 * k + a → get_or (piece_coords s at) a nan ≡ double_from s q → get_or coords m nan ≡ double_from s q = λ a m q la em eq. coord_is s (piece_count_in s) k a m h la em ∙ eq in
        three_stand coords (at + 29) (at + 53) (6 * k + 3) (omega arith) l (λ i li. plain.second_ends k i h kind li)
        (x 3 (6 * k + 3) (at + 29) (omega arith) refl (rw e))
        (x 4 (6 * k + 3 + 1) (at + 29 + 8) (omega arith) (omega arith) (let p : at + 29 + 8 ≡ at + 37 = omega arith in rw (p, e)))
        (x 5 (6 * k + 3 + 2) (at + 29 + 16) (omega arith) (omega arith) (let p : at + 29 + 16 ≡ at + 45 = omega arith in rw (p, e)))

    piece_stands : (k : ℕ) → k < piece_count_in s → Stands s (piece_from s k) (piece_bytes kinds faces coords k) (piece_from s k + piece_size (get_or s (piece_from s k) 0))
    unfolding piece_bytes piece_size kinds_in faces_in piece_coords
    piece_stands k h =
        let at = piece_from s k in
        let kind : get_or kinds k 0 ≡ get_or s at 0 = get_d_list_of (piece_count_in s) (λ i. get_or s (piece_from s i) 0) k 0 h in
        let face : get_or faces k 0 ≡ number_from s (at + 1) = get_d_list_of (piece_count_in s) (λ i. number_from s (piece_from s i + 1)) k 0 h in
        let fits = piece_fits s (piece_count_in s) job k h in
        let long = size_bounds (get_or s at 0) in
        let one = get_or s at 0 ∷ [] in
        let two = number_bytes (number_from s (at + 1)) in
        let three = three_bytes coords (6 * k) in
        let p13 : at + 13 ≡ at + 5 + 8 = omega arith in
        let p21 : at + 21 ≡ at + 5 + 16 = omega arith in
        let x0 = coord_is s (piece_count_in s) k 0 (6 * k) h (omega arith) (omega arith) in
        let x1 = coord_is s (piece_count_in s) k 1 (6 * k + 1) h (omega arith) refl ∙ ap (double_from s) p13 in
        let x2 = coord_is s (piece_count_in s) k 2 (6 * k + 2) h (omega arith) refl ∙ ap (double_from s) p21 in
        rw (kind, face)
        (stands_then s at (at + 29) (at + piece_size (get_or s at 0)) (one ++ two ++ three) (cond (eqb (get_or s at 0) 0) [] (three_bytes coords (6 * k + 3)))
        (stands_then s at (at + 5) (at + 29) (one ++ two) three
        (stands_then s at (at + 1) (at + 5) one two (stands_byte s at (at + 1) refl (omega arith)) (number_stands s bytes (at + 1) (at + 5) (omega arith) (omega arith)))
        (three_stand coords (at + 5) (at + 29) (6 * k) (omega arith) (omega arith) (λ i li. plain.ends k i h li) x0 x1 x2))
        (second_stands (eqb (get_or s at 0) 0) k h refl fits))

    pieces_stand : (n : ℕ) → n ≤ piece_count_in s → Stands s (pieces_from s) (pieces_bytes kinds faces coords n) (piece_from s n)
    unfolding pieces_bytes piece_from
    pieces_stand zero h = refl
    pieces_stand (suc n) h =
        stands_then s (pieces_from s) (piece_from s n) (piece_from s (suc n)) (pieces_bytes kinds faces coords n) (piece_bytes kinds faces coords n) (pieces_stand n (omega arith)) (piece_stands n (omega arith))

  -- ---- the three parts of the slip
  counts_stand : 12 ≤ length s → Stands s 0 (counts_bytes (vertex_count_in s) (triangle_count_in s) (piece_count_in s)) 12
  unfolding counts_bytes
  counts_stand h =
      let low : (i : ℕ) → number_from s i % 4_294_967_296 ≡ number_from s i = λ i. omega (arith, number_below s bytes i) in
      rw (low 0, low 4, low 8)
      (stands_then s 0 8 12 (number_bytes (number_from s 0) ++ number_bytes (number_from s 4)) (number_bytes (number_from s 8))
      (stands_then s 0 4 8 (number_bytes (number_from s 0)) (number_bytes (number_from s 4)) (number_stands s bytes 0 4 refl (omega arith)) (number_stands s bytes 4 8 refl (omega arith)))
      (number_stands s bytes 8 12 refl h))

  mesh_stands : Plain s → pieces_from s ≤ length s → Stands s 12 (mesh_bytes (job_in s).vertices (job_in s).triangles (job_in s).flags) (pieces_from s)
  unfolding mesh_bytes job_in
  mesh_stands plain h =
      let nv = 3 * vertex_count_in s in
      let nt = 3 * triangle_count_in s in
      let lv : length (doubles_from s 12 nv) ≡ nv = unfold doubles_from in length_list_of nv (λ j. double_from s (12 + 8 * j)) in
      let lt : length (numbers_from s (triangles_from s) nt) ≡ nt = unfold numbers_from in length_list_of nt (λ j. number_from s (triangles_from s + 4 * j)) in
      let ev : 12 + 8 * nv ≡ triangles_from s = omega arith in
      let et : triangles_from s + 4 * nt ≡ flags_from s = omega arith in
      let vs = doubles_bytes (doubles_from s 12 nv) nv in
      let ts = numbers_bytes (numbers_from s (triangles_from s) nt) nt in
      rw (lv, lt)
      (stands_then s 12 (flags_from s) (pieces_from s) (vs ++ ts) (bytes_from s (flags_from s) (vertex_count_in s))
      (stands_then s 12 (triangles_from s) (flags_from s) vs ts
      (doubles_stand s bytes 12 nv nv (omega arith) (omega arith) plain.vertices ∙ ap (λ (k : ℕ). vs ++ drop k s) ev)
      (numbers_stand s bytes (triangles_from s) nt nt (omega arith) (omega arith) ∙ ap (λ (k : ℕ). ts ++ drop k s) et))
      (bytes_stand s bytes (flags_from s) (vertex_count_in s) h))

  rest_stands : Plain s → is_job (after_pieces s (piece_count_in s) (pieces_from s)) ≡ true
      → Stands s (pieces_from s) (rest_bytes (job_in s).kinds (job_in s).faces (job_in s).coords (job_in s).limit) (length s)
  unfolding rest_bytes job_in
  rest_stands plain job =
      let n = piece_count_in s in
      let ln : length (kinds_in s n) ≡ n = unfold kinds_in in length_list_of n (λ i. get_or s (piece_from s i) 0) in
      rw ln
      (stands_then s (pieces_from s) (piece_from s n) (length s) (pieces_bytes (kinds_in s n) (faces_in s n) (coords_in s n) n) (double_bytes (double_from s (piece_from s n)))
      (pieces_stand plain job n (omega arith))
      (double_stands s bytes (piece_from s n) (length s) (sym (limit_there s n job)) (omega arith) plain.limit))

-- the counts of the job that is read
module _ (s : List ℕ) where
  pub vertices_told : job.vertex_count (job_in s) ≡ vertex_count_in s
  unfolding job_in doubles_from
  vertices_told = let n = 3 * vertex_count_in s in rw (length_list_of n (λ j. double_from s (12 + 8 * j))) (omega arith)

  pub triangles_told : job.triangle_count (job_in s) ≡ triangle_count_in s
  unfolding job_in numbers_from
  triangles_told = let n = 3 * triangle_count_in s in rw (length_list_of n (λ j. number_from s (triangles_from s + 4 * j))) (omega arith)

  pub pieces_told : job.piece_count (job_in s) ≡ piece_count_in s
  unfolding job_in kinds_in
  pieces_told = length_list_of (piece_count_in s) (λ i. get_or s (piece_from s i) 0)

  -- the limit is the last double of an accepted slip
  limit_last : (n i : ℕ) → is_job (after_pieces s n i) ≡ true
      → after_pieces s n i ≡ Ok (record { vertices = vertex_count_in s; triangles = triangle_count_in s; pieces = piece_count_in s; limit = double_from s (length s - 8) })
  unfolding after_pieces
  limit_last zero i j =
      let answer : ℕ → Result SlipJob SlipRefusal = λ k. Ok (record { vertices = vertex_count_in s; triangles = triangle_count_in s; pieces = piece_count_in s; limit = double_from s k }) in
      let a = job_else (ltb (length s) (i + 8)) (Err TooShort) (cond (ltb (i + 8) (length s)) (Err LeftOver) (answer i)) refl j in
      let b = job_else (ltb (i + 8) (length s)) (Err LeftOver) (answer i) refl a.1 in
      let e : i ≡ length s - 8 = omega (arith, ltb-false (length s) (i + 8) a.0, ltb-false (i + 8) (length s) b.0) in
      rw (a.0, b.0) (ap answer e)
  limit_last (suc n) i j =
      let kind = get_or s i 0 in
      let behind = after_pieces s n (i + piece_size kind) in
      let whole-piece = cond (ltb (length s) (i + piece_size kind)) (Err TooShort) behind in
      let there = job_else (ltb (length s) (i + 1)) (Err TooShort) (cond (ltb 1 kind) (Err UnknownKind) whole-piece) refl j in
      let known = job_else (ltb 1 kind) (Err UnknownKind) whole-piece refl there.1 in
      let whole = job_else (ltb (length s) (i + piece_size kind)) (Err TooShort) behind refl known.1 in
      rw (there.0, known.0, whole.0) (limit_last n (i + piece_size kind) whole.1)

  limit_told : is_job (after_pieces s (piece_count_in s) (pieces_from s)) ≡ true → double_from s (length s - 8) ≡ (job_in s).limit
  unfolding job_in
  limit_told h = let e : length s - 8 ≡ piece_from s (piece_count_in s) = omega (arith, limit_there s (piece_count_in s) h) in ap (double_from s) e

  -- an accepted slip is answered with the counts and the limit of the job that stands in it
  pub answer_told : (vertices triangles pieces : ℕ) → is_job (answer_to s vertices triangles pieces) ≡ true → answer_to s vertices triangles pieces ≡ answer_of (job_in s)
  unfolding answer_to
  answer_told vertices triangles pieces h =
      let behind = after_pieces s (piece_count_in s) (pieces_from s) in
      let whole-mesh = cond (ltb (length s) (pieces_from s)) (Err TooShort) behind in
      let a = job_else (ltb (length s) 12) (Err TooShort) (cond (exceeds s vertices triangles pieces) (Err TooMany) whole-mesh) refl h in
      let b = job_else (exceeds s vertices triangles pieces) (Err TooMany) whole-mesh refl a.1 in
      let c = job_else (ltb (length s) (pieces_from s)) (Err TooShort) behind refl b.1 in
      rw (a.0, b.0, c.0)
      (limit_last (piece_count_in s) (pieces_from s) c.1
      ∙ (λ k. Ok (record { vertices = sym vertices_told k; triangles = sym triangles_told k; pieces = sym pieces_told k; limit = limit_told c.1 k })))

-- ---- the laws
module _ (s : List ℕ) (bytes : All IsByte s) (plain : Plain s) (vertices triangles pieces : ℕ) (accepted : is_job (answer_to s vertices triangles pieces) ≡ true) where
  -- an accepted slip is the slip of the job that stands in it
  pub slip_back : slip_of (job_in s) ≡ s
  unfolding slip_of
  slip_back =
      let f = job_fits s vertices triangles pieces accepted in
      let each : (i : ℕ) → IsByte (get_or s i 0) = all_get_d IsByte 0 (omega arith) s bytes in
      let counts = counts_bytes (vertex_count_in s) (triangle_count_in s) (piece_count_in s) in
      let mesh = mesh_bytes (job_in s).vertices (job_in s).triangles (job_in s).flags in
      let rest = rest_bytes (job_in s).kinds (job_in s).faces (job_in s).coords (job_in s).limit in
      let whole = stands_then s 0 (pieces_from s) (length s) (counts ++ mesh) rest
      (stands_then s 0 12 (pieces_from s) counts mesh (counts_stand s each f.counts) (mesh_stands s each plain f.mesh))
      (rest_stands s each plain f.rest) in
      (λ i. counts_bytes (vertices_told s i) (triangles_told s i) (pieces_told s i) ++ mesh ++ rest)
      ∙ (sym (append-nil (counts ++ mesh ++ rest)) ∙ ap (λ l. counts ++ mesh ++ rest ++ l) (sym (drop_of_length-le s {i = length s} (omega arith))) ∙ sym whole)

-- so one job has one slip
pub one_slip : (s t : List ℕ) → All IsByte s → All IsByte t → Plain s → Plain t → (v n p : ℕ) → is_job (answer_to s v n p) ≡ true → is_job (answer_to t v n p) ≡ true → job_in s ≡ job_in t → s ≡ t
one_slip s t bs bt ps pt v n p js jt e = sym (slip_back s bs ps v n p js) ∙ ap slip_of e ∙ slip_back t bt pt v n p jt
