-- The slip of a whole job is read as that job. Assumes nothing.
use Prim.Native.Nat.{ℕ, ◌+◌, ◌*◌, ◌%◌, ◌≤◌}
use native.Mathlib.Omega.{arith}
use mathlib.Core.Path.{◌≡◌, refl, sym, ap, ◌∙◌}
use mathlib.Core.List.{List, [], ◌++◌, append_assoc, append-nil}
use borrow.Author.Tests.{le-ltb}
use lib.ListN.{length, drop, length-append}
use lib.Ieee.{nan}
use Rattle.std.specs.Prelude.{Ok}
use Rattle.job_checks.specs.Job.{Job, vertex_count, triangle_count, piece_count}
use Rattle.little_endian.specs.Bytes.{number_from, double_from, doubles_from, numbers_from, bytes_from, number_bytes, double_bytes}
use Rattle.slip.specs.Format.{triangles_from, flags_from, pieces_from, piece_from, kinds_in, faces_in, coords_in, job_in, after_pieces, exceeds, answer_to}
use Rattle.slip.specs.Reading.{Rows, vertex_slots, triangle_slots, piece_slots, filled, written, slip_answer, reading}
use Rattle.slip_write.specs.Write.{doubles_bytes, numbers_bytes, pieces_bytes, counts_bytes, mesh_bytes, rest_bytes, slip_of}
use Rattle.slip_laws.specs.Whole.{IsDouble, IsNumber, Whole, answer_of}
use Rattle.slip_laws.proofs.Parts.{past, reaches, number_here, double_here}
use Rattle.slip_write.proofs.Lengths.{length_number, length_double}
use Rattle.slip_laws.proofs.Rows.{all_get_d, elements, nan_double, length_doubles, length_numbers, doubles_here, numbers_here, bytes_here}
use Rattle.slip_laws.proofs.Walk.{pieces_past, kinds_read, faces_read, coords_read, walked}

-- what stands in the slip from each part on
module _ (j : Job) where
  abbrev limit_on : List ℕ
  limit_on = double_bytes j.limit

  abbrev pieces_on : List ℕ
  pieces_on = pieces_bytes j.kinds j.faces j.coords (length j.kinds) ++ limit_on

  abbrev flags_on : List ℕ
  flags_on = j.flags ++ pieces_on

  abbrev triangles_on : List ℕ
  triangles_on = numbers_bytes j.triangles (length j.triangles) ++ flags_on

  abbrev vertices_on : List ℕ
  vertices_on = doubles_bytes j.vertices (length j.vertices) ++ triangles_on

  abbrev count_bytes : ℕ → List ℕ
  count_bytes n = number_bytes (n % 4_294_967_296)

  laid : drop 0 (slip_of j) ≡ count_bytes (vertex_count j) ++ (count_bytes (triangle_count j) ++ (count_bytes (piece_count j) ++ vertices_on))
  unfolding slip_of counts_bytes mesh_bytes rest_bytes
  laid =
      let v = count_bytes (vertex_count j) in
      let t = count_bytes (triangle_count j) in
      let p = count_bytes (piece_count j) in
      let vs = doubles_bytes j.vertices (length j.vertices) in
      let ts = numbers_bytes j.triangles (length j.triangles) in
      let mesh : (vs ++ ts ++ j.flags) ++ pieces_on ≡ vertices_on = append_assoc (vs ++ ts) j.flags pieces_on ∙ append_assoc vs ts flags_on in
      append_assoc (v ++ t ++ p) (vs ++ ts ++ j.flags) pieces_on ∙ ap (λ l. v ++ t ++ p ++ l) mesh ∙ append_assoc (v ++ t) p vertices_on ∙ append_assoc v t (p ++ vertices_on)

-- where the parts stand, of any bytes that are the slip
module _ (j : Job) (w : Whole j) (s : List ℕ) (h : drop 0 s ≡ count_bytes j (vertex_count j) ++ (count_bytes j (triangle_count j) ++ (count_bytes j (piece_count j) ++ vertices_on j))) where
  from_4 : drop 4 s ≡ count_bytes j (triangle_count j) ++ (count_bytes j (piece_count j) ++ vertices_on j)
  from_4 = past s 0 (count_bytes j (vertex_count j)) (count_bytes j (triangle_count j) ++ (count_bytes j (piece_count j) ++ vertices_on j)) 4 (length_number (vertex_count j % 4_294_967_296)) h

  from_8 : drop 8 s ≡ count_bytes j (piece_count j) ++ vertices_on j
  from_8 = past s 4 (count_bytes j (triangle_count j)) (count_bytes j (piece_count j) ++ vertices_on j) 4 (length_number (triangle_count j % 4_294_967_296)) from_4

  from_vertices : drop 12 s ≡ vertices_on j
  from_vertices = past s 8 (count_bytes j (piece_count j)) (vertices_on j) 4 (length_number (piece_count j % 4_294_967_296)) from_8

  low : (n : ℕ) → IsNumber n → n % 4_294_967_296 ≡ n
  low n l = omega (arith, l)

  vertex_count_held : number_from s 0 ≡ vertex_count j
  vertex_count_held =
      number_here s 0 (vertex_count j % 4_294_967_296) (count_bytes j (triangle_count j) ++ (count_bytes j (piece_count j) ++ vertices_on j)) (omega arith) h
      ∙ low (vertex_count j) w.vertex_count_held

  triangle_count_held : number_from s 4 ≡ triangle_count j
  triangle_count_held = number_here s 4 (triangle_count j % 4_294_967_296) (count_bytes j (piece_count j) ++ vertices_on j) (omega arith) from_4 ∙ low (triangle_count j) w.triangle_count_held

  piece_count_held : number_from s 8 ≡ piece_count j
  piece_count_held = number_here s 8 (piece_count j % 4_294_967_296) (vertices_on j) (omega arith) from_8 ∙ low (piece_count j) w.piece_count_held

  from_triangles : drop (triangles_from s) s ≡ triangles_on j
  from_triangles =
      past s 12 (doubles_bytes j.vertices (length j.vertices)) (triangles_on j) (24 * number_from s 0)
      (length_doubles j.vertices (length j.vertices) ∙ omega (arith, vertex_count_held, w.vertices)) from_vertices

  from_flags : drop (flags_from s) s ≡ flags_on j
  from_flags =
      past s (triangles_from s) (numbers_bytes j.triangles (length j.triangles)) (flags_on j) (12 * number_from s 4)
      (length_numbers j.triangles (length j.triangles) ∙ omega (arith, triangle_count_held, w.triangles)) from_triangles

  from_pieces : drop (pieces_from s) s ≡ pieces_on j
  from_pieces = past s (flags_from s) j.flags (pieces_on j) (number_from s 0) (w.flags ∙ sym vertex_count_held) from_flags

  from_limit : drop (piece_from s (piece_count j)) s ≡ limit_on j ++ []
  from_limit = pieces_past s j.kinds j.faces j.coords (piece_count j) (limit_on j) from_pieces ∙ sym (append-nil (limit_on j))

  limit_is : double_from s (piece_from s (piece_count j)) ≡ j.limit
  limit_is = double_here s (piece_from s (piece_count j)) j.limit [] w.limit_is from_limit

  vertices_are : doubles_from s 12 (3 * number_from s 0) ≡ j.vertices
  vertices_are =
      let n : 3 * number_from s 0 ≡ length j.vertices = omega (arith, vertex_count_held, w.vertices) in
      ap (doubles_from s 12) n ∙ doubles_here s 12 j.vertices (length j.vertices) (triangles_on j) refl w.vertices_are from_vertices

  triangles_are : numbers_from s (triangles_from s) (3 * number_from s 4) ≡ j.triangles
  triangles_are =
      let n : 3 * number_from s 4 ≡ length j.triangles = omega (arith, triangle_count_held, w.triangles) in
      ap (numbers_from s (triangles_from s)) n ∙ numbers_here s (triangles_from s) j.triangles (length j.triangles) (flags_on j) refl w.triangles_are from_triangles

  flags_are : bytes_from s (flags_from s) (number_from s 0) ≡ j.flags
  flags_are = bytes_here s (flags_from s) j.flags (number_from s 0) (pieces_on j) (w.flags ∙ sym vertex_count_held) from_flags

  kinds_are : kinds_in s (number_from s 8) ≡ j.kinds
  kinds_are = ap (kinds_in s) piece_count_held ∙ kinds_read s j.kinds j.faces j.coords (piece_count j) (limit_on j) from_pieces ∙ elements 0 j.kinds (piece_count j) refl

  faces_are : faces_in s (number_from s 8) ≡ j.faces
  faces_are =
      ap (faces_in s) piece_count_held
      ∙ faces_read s j.kinds j.faces j.coords (all_get_d IsNumber 0 (omega arith) j.faces w.faces_are) (piece_count j) (limit_on j) from_pieces
      ∙ elements 0 j.faces (piece_count j) w.faces

  coords_are : coords_in s (number_from s 8) ≡ j.coords
  coords_are =
      ap (coords_in s) piece_count_held
      ∙ coords_read s j.kinds j.faces j.coords (all_get_d IsDouble nan nan_double j.coords w.coords_are) (piece_count j) w.points (piece_count j) (limit_on j) (omega arith) from_pieces
      ∙ elements nan j.coords (6 * piece_count j) w.coords

  job_is : job_in s ≡ j
  unfolding job_in
  job_is = λ t. record {
    vertices = vertices_are t;
    triangles = triangles_are t;
    flags = flags_are t;
    kinds = kinds_are t;
    faces = faces_are t;
    coords = coords_are t;
    limit = (ap (λ (n : ℕ). double_from s (piece_from s n)) piece_count_held ∙ limit_is) t;
  }

  long : length s ≡ piece_from s (piece_count j) + 8
  long =
      let l = length_double j.limit in
      let e = reaches s (piece_from s (piece_count j)) (limit_on j) [] (omega (arith, l)) from_limit in omega (arith, e, l)

  mesh_there : pieces_from s ≤ length s
  mesh_there =
      let l : length (pieces_on j) ≡ length (pieces_bytes j.kinds j.faces j.coords (length j.kinds)) + 8 =
      length-append (pieces_bytes j.kinds j.faces j.coords (length j.kinds)) (limit_on j) ∙ rw (length_double j.limit) in
      let e = reaches s (pieces_from s) (pieces_on j) [] (omega (arith, l)) (from_pieces ∙ sym (append-nil (pieces_on j))) in omega (arith, e)

  after : after_pieces s (number_from s 8) (pieces_from s) ≡ answer_of j
  after =
      let all : number_from s 8 ≡ 0 + piece_count j = omega (arith, piece_count_held) in
      ap (λ (n : ℕ). after_pieces s n (pieces_from s)) all
      ∙ walked s j.kinds j.faces j.coords (all_get_d (λ n. n ≤ 1) 0 (omega arith) j.kinds w.kinds_are) (piece_count j) 0 (limit_on j) from_pieces ∙ ends
    where
      ends : after_pieces s 0 (piece_from s (piece_count j)) ≡ answer_of j
      ends =
          unfold after_pieces in
          rw (le-ltb (length s) (piece_from s (piece_count j) + 8) (omega (arith, long)), le-ltb (piece_from s (piece_count j) + 8) (length s) (omega (arith, long)))
          (λ t. Ok (record { vertices = vertex_count_held t; triangles = triangle_count_held t; pieces = piece_count_held t; limit = limit_is t }))

  answer_is : (vertices triangles pieces : ℕ) → vertex_count j ≤ vertices → triangle_count j ≤ triangles → piece_count j ≤ pieces
      → answer_to s vertices triangles pieces ≡ answer_of j
  unfolding answer_to exceeds
  answer_is vertices triangles pieces hv ht hp =
      rw (
        le-ltb (length s) 12 (omega (arith, mesh_there)),
        le-ltb vertices (number_from s 0) (omega (arith, vertex_count_held, hv)),
        le-ltb triangles (number_from s 4) (omega (arith, triangle_count_held, ht)),
        le-ltb pieces (number_from s 8) (omega (arith, piece_count_held, hp)),
        le-ltb (length s) (pieces_from s) mesh_there,
      ) after

-- ---- the laws
module _ (j : Job) (w : Whole j) where
  -- the job that stands in its slip
  pub job_back : job_in (slip_of j) ≡ j
  job_back = job_is j w (slip_of j) (laid j)

  -- the slip is accepted wherever there is room for its counts
  pub slip_answer_lem : (vertices triangles pieces : ℕ) → vertex_count j ≤ vertices → triangle_count j ≤ triangles → piece_count j ≤ pieces
      → answer_to (slip_of j) vertices triangles pieces ≡ answer_of j
  slip_answer_lem = answer_is j w (slip_of j) (laid j)

  -- reading it leaves the job at the fronts
  pub slip_read : (b : Rows) → vertex_count j ≤ vertex_slots b → triangle_count j ≤ triangle_slots b → piece_count j ≤ piece_slots b
      → reading (slip_of j) b ≡ (answer_of j, filled j b)
  unfolding reading slip_answer written
  slip_read b hv ht hp = rw (slip_answer_lem (vertex_slots b) (triangle_slots b) (piece_slots b) hv ht hp) (ap (λ (k : Job). (answer_of j, filled k b)) job_back)
