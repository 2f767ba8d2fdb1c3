-- The ways that the check of a slip in groups can go, and what a slip that passed it has. Assumes nothing.
use Prim.Native.Nat.{ℕ, ◌+◌, ◌*◌, ◌≤◌, ◌<◌}
use native.Mathlib.Omega.{arith}
use mathlib.Core.Path.{◌≡◌, refl, sym, ap, ◌∙◌}
use mathlib.Core.Bool.{Bool, true, false, cond, ◌||◌, true≢false}
use mathlib.Core.List.{List}
use borrow.Author.Tests.{ltb-false}
use lib.Dec.{ltb}
use lib.ListN.{length}
use lib.Ieee.{Float}
use Rattle.std.specs.Prelude.{Result, Ok, Err}
use Rattle.slip.specs.declared.SlipJob.{SlipJob}
use Rattle.little_endian.specs.Bytes.{put_in_front, doubles_from, bytes_from}
use Rattle.slip.specs.Reading.{Rows, vertex_slots, triangle_slots, piece_slots, filled, job_rows}
use Rattle.groups.specs.declared.Form.TheVariants.{Plain, Groups}
use Rattle.slip_moves.specs.declared.Refusal.{Refusal}
use Rattle.slip_moves.specs.declared.MoveRefusal.{MoveRefusal}
use Rattle.slip_moves.specs.declared.MoveRefusal.TheVariants as move
use Rattle.slip_moves.specs.Moves.{Part, put, stop, then, counted, form_head_at, head_bytes, bytes_moved, pieces_moved, mesh_moved, rest_moved, body_moved, ended, slip_moved, answer_of_move}
use Rattle.slip_moves.proofs.Whole.{counted_head}
use Rattle.slip_moves.proofs.Reach.{reach_mesh}
use Rattle.form_read.specs.declared.ReadRefusal.{ReadRefusal}
use Rattle.form_read.specs.declared.ReadRefusal.TheVariants.{Slip, TooMany}
use Rattle.form_read.specs.Places.{is_put, numbers_in, kinds_from, faces_from, coords_from, flags_place, first_piece, job_at}
use Rattle.form_read.specs.FormReading.{is_read, counts_exceed, passed_answer, walk_answer, behind_counts, groups_answer, job_written, form_written, groups_reading}
use Rattle.form_read.specs.There.{MeshThere, PiecesThere}
use Rattle.form_read.proofs.Parts.{also_put, then_put, is_put_lem, put_of, bytes_fit, mesh_put}

module _ (s : List ℕ) (vertices triangles pieces : ℕ) where
  pub refused_counts : {why : Refusal} → form_head_at Groups s ≡ Err why → Err (Slip why) ≡ groups_answer s vertices triangles pieces
  unfolding groups_answer behind_counts
  refused_counts e = rw e

  module _ {v t p i : ℕ} (e : form_head_at Groups s ≡ counted v t p i) where
    pub too_many : counts_exceed v t p vertices triangles pieces ≡ true → Err TooMany ≡ groups_answer s vertices triangles pieces
    unfolding groups_answer behind_counts
    too_many x = rw (e, x)

    pub walk_refused : {why : Refusal} → counts_exceed v t p vertices triangles pieces ≡ false → slip_moved Groups Plain s ≡ stop why → Err (Slip why) ≡ groups_answer s vertices triangles pieces
    unfolding groups_answer behind_counts walk_answer
    walk_refused x m = rw (e, x, m)

    pub walk_done : counts_exceed v t p vertices triangles pieces ≡ false → is_put (slip_moved Groups Plain s) ≡ true → passed_answer s v t p ≡ groups_answer s vertices triangles pieces
    unfolding groups_answer behind_counts walk_answer
    walk_done x m = rw (e, x, (put_of (slip_moved Groups Plain s) m).2)

-- what the move of a slip says of the walk over it
module _ (out : List ℕ) {out' : List ℕ} {r : Result ℕ MoveRefusal} where
  pub moved_refused : {why : Refusal} (x : Part) → ◌≡◌ {A = Result ℕ MoveRefusal × List ℕ} (r, out') (answer_of_move x out) → r ≡ Err (move.Slip why) → x ≡ stop why
  unfolding answer_of_move
  moved_refused {why} (stop w) e h = let q : ◌≡◌ {A = Result ℕ MoveRefusal} (Err (move.Slip w)) (Err (move.Slip why)) = sym (ap (λ (p : Result ℕ MoveRefusal × List ℕ). p.0) e) ∙ h in let ew : w ≡ why = cc q in ap stop ew
  moved_refused {why} (put j bs) e h = go (ltb (length out) (length bs)) e
    where
      go : (b : Bool) → ◌≡◌ {A = Result ℕ MoveRefusal × List ℕ} (r, out') (cond b (Err (move.NoRoom (length bs)), out) (Ok (length bs), put_in_front bs out)) → put j bs ≡ stop why
      go true q = absurd (let f : ◌≡◌ {A = Result ℕ MoveRefusal} (Err (move.NoRoom (length bs))) (Err (move.Slip why)) = sym (ap (λ (p : Result ℕ MoveRefusal × List ℕ). p.0) q) ∙ h in let z : ◌≡◌ {A = ℕ} 0 1 = cc f in omega arith)
      go false q = absurd (let f : ◌≡◌ {A = Result ℕ MoveRefusal} (Ok (length bs)) (Err (move.Slip why)) = sym (ap (λ (p : Result ℕ MoveRefusal × List ℕ). p.0) q) ∙ h in let z : ◌≡◌ {A = ℕ} 0 1 = cc f in omega arith)

  pub moved_length : {n : ℕ} (x : Part) → ◌≡◌ {A = Result ℕ MoveRefusal × List ℕ} (r, out') (answer_of_move x out) → r ≡ Ok n → is_put x ≡ true
  unfolding answer_of_move
  moved_length (put j bs) e h = refl
  moved_length {n} (stop w) e h = absurd (let f : ◌≡◌ {A = Result ℕ MoveRefusal} (Err (move.Slip w)) (Ok n) = sym (ap (λ (p : Result ℕ MoveRefusal × List ℕ). p.0) e) ∙ h in let z : ◌≡◌ {A = ℕ} 0 1 = cc f in omega arith)

  pub moved_no_room : {n : ℕ} (x : Part) → ◌≡◌ {A = Result ℕ MoveRefusal × List ℕ} (r, out') (answer_of_move x out) → r ≡ Err (move.NoRoom n) → is_put x ≡ true
  unfolding answer_of_move
  moved_no_room (put j bs) e h = refl
  moved_no_room {n} (stop w) e h = absurd (let f : ◌≡◌ {A = Result ℕ MoveRefusal} (Err (move.Slip w)) (Err (move.NoRoom n)) = sym (ap (λ (p : Result ℕ MoveRefusal × List ℕ). p.0) e) ∙ h in let z : ◌≡◌ {A = ℕ} 0 1 = cc f in omega arith)

-- the parts of a slip that is walked over to its end
pub record WalkedSlip (s : List ℕ) (v t p i : ℕ) : Type 0 where
  pub mesh : is_put (mesh_moved Groups Plain s v t i) ≡ true
  pub pieces : is_put (pieces_moved Groups Plain s p (first_piece s v t i)) ≡ true
  pub near : first_piece s v t i ≤ i + (25 * v + 15 * t)
  pub long : 8 ≤ length s

module _ (s : List ℕ) {v t p i : ℕ} (e : form_head_at Groups s ≡ counted v t p i) where
  pub slip_walked : is_put (slip_moved Groups Plain s) ≡ true → WalkedSlip s v t p i
  unfolding body_moved rest_moved
  slip_walked m =
      let whole : is_put (then (body_moved Groups Plain s v t p i) (ended s)) ≡ true =
      also_put (head_bytes Plain v t p) (then (body_moved Groups Plain s v t p i) (ended s)) (rw (counted_head Groups Plain s e) at m) in
      let body = then_put (body_moved Groups Plain s v t p i) (ended s) whole in
      let mesh = then_put (mesh_moved Groups Plain s v t i) (rest_moved Groups Plain s p) (is_put_lem (body_moved Groups Plain s v t p i) body.2.0) in
      let first = mesh_put s v t i mesh.0 mesh.1 mesh.2.0 in
      let rest = then_put (pieces_moved Groups Plain s p mesh.0) (bytes_moved s 8) mesh.2.1 in
      record {
        mesh = is_put_lem (mesh_moved Groups Plain s v t i) mesh.2.0;
        pieces = rw first (is_put_lem (pieces_moved Groups Plain s p mesh.0) rest.2.0);
        near = omega (arith, first, (reach_mesh Groups Plain s v t i mesh.0 mesh.1 mesh.2.0).0);
        long = omega (arith, bytes_fit s 8 rest.0 rest.2.1);
      }

  -- of a slip that the check passed
  pub passed : (vertices triangles pieces : ℕ) → is_read (groups_answer s vertices triangles pieces) ≡ true → (counts_exceed v t p vertices triangles pieces ≡ false) × (is_put (slip_moved Groups Plain s) ≡ true)
  unfolding groups_answer behind_counts walk_answer
  passed vertices triangles pieces h = go (counts_exceed v t p vertices triangles pieces) (slip_moved Groups Plain s) refl (rw e at h)
    where
      put_read : (x : Part) → is_read (walk_answer s v t p x) ≡ true → is_put x ≡ true
      put_read (put j bs) q = refl
      put_read (stop w) q = absurd (true≢false (sym q))

      go : (b : Bool) (x : Part) → counts_exceed v t p vertices triangles pieces ≡ b → is_read (cond b (Err TooMany) (walk_answer s v t p x)) ≡ true → (counts_exceed v t p vertices triangles pieces ≡ false) × (is_put x ≡ true)
      go true x eb q = absurd (true≢false (sym q))
      go false x eb q = (eb, put_read x q)

or_false : (a b : Bool) → a || b ≡ false → (a ≡ false) × (b ≡ false)
or_false true b h = absurd (true≢false h)
or_false false b h = (refl, h)

pub in_rooms : (v t p vertices triangles pieces : ℕ) → counts_exceed v t p vertices triangles pieces ≡ false → (v ≤ vertices) × ((t ≤ triangles) × (p ≤ pieces))
unfolding counts_exceed
in_rooms v t p vertices triangles pieces h =
    let most = or_false (ltb vertices v || ltb triangles t) (ltb pieces p) h in
    let two = or_false (ltb vertices v) (ltb triangles t) most.0 in
    (ltb-false _ _ two.0, (ltb-false _ _ two.1, ltb-false _ _ most.1))

-- what the writers are handed
module _ (s : List ℕ) (b : Rows) (ok : is_read (groups_answer s (vertex_slots b) (triangle_slots b) (piece_slots b)) ≡ true)
    {v t p i : ℕ} (e : form_head_at Groups s ≡ counted v t p i) (hv : v < 4_294_967_296) (ht : t < 4_294_967_296) (hp : p < 4_294_967_296) (hi : i ≤ 16) where
  pub mesh_ready : MeshThere s i v t (length b.vertices) (length b.triangles) (length b.flags)
  unfolding vertex_slots triangle_slots piece_slots
  mesh_ready =
      let ps = passed s e (vertex_slots b) (triangle_slots b) (piece_slots b) ok in
      let fit = in_rooms v t p (vertex_slots b) (triangle_slots b) (piece_slots b) ps.0 in
      record {
        near = hi;
        few_vertices = hv;
        few_triangles = ht;
        stands = (slip_walked s e ps.1).mesh;
        vertices_fit = omega (arith, fit.0);
        triangles_fit = omega (arith, fit.1.0);
        flags_fit = omega (arith, fit.0);
      }

  pub pieces_ready : PiecesThere s (first_piece s v t i) p (length b.kinds) (length b.faces) (length b.coords)
  unfolding vertex_slots triangle_slots piece_slots
  pieces_ready =
      let ps = passed s e (vertex_slots b) (triangle_slots b) (piece_slots b) ok in
      let fit = in_rooms v t p (vertex_slots b) (triangle_slots b) (piece_slots b) ps.0 in
      let w = slip_walked s e ps.1 in
      record {
        near = omega (arith, w.near);
        few = hp;
        stand = w.pieces;
        kinds_fit = omega (arith, fit.1.1);
        faces_fit = omega (arith, fit.1.1);
        coords_fit = omega (arith, fit.1.1);
      }

-- a head that is refused writes nothing
pub none_written : {why : Refusal} (s : List ℕ) (b : Rows) → form_head_at Groups s ≡ Err why → b ≡ job_written s (form_head_at Groups s) b
unfolding job_written
none_written s b e = rw e

-- a job is written, and a refusal leaves all as it is
module _ (s : List ℕ) (b : Rows) where
  pub did_read : (j : SlipJob) → Ok j ≡ groups_answer s (vertex_slots b) (triangle_slots b) (piece_slots b) → (b' : Rows) → b' ≡ job_written s (form_head_at Groups s) b → (Ok j, b') ≡ groups_reading s b
  unfolding groups_reading form_written
  did_read j e b' w = λ i. (e i, (w ∙ ap (λ a. form_written s a b) e) i)

  pub did_refuse : (why : ReadRefusal) → Err why ≡ groups_answer s (vertex_slots b) (triangle_slots b) (piece_slots b) → (Err why, b) ≡ groups_reading s b
  unfolding groups_reading form_written
  did_refuse why e = λ i. (e i, ap (λ a. form_written s a b) e i)

-- the parts written one behind the other are the job
pub job_filled : {v t p i at : ℕ} {vs cs : List Float} {ts fs ks ns : List ℕ} (s : List ℕ) (b : Rows) → form_head_at Groups s ≡ counted v t p i → at ≡ first_piece s v t i
    → vs ≡ put_in_front (doubles_from s i (3 * v)) b.vertices → ts ≡ put_in_front (numbers_in s (i + 24 * v) (3 * t)) b.triangles → fs ≡ put_in_front (bytes_from s (flags_place s v t i) v) b.flags
    → ks ≡ put_in_front (kinds_from s at p) b.kinds → ns ≡ put_in_front (faces_from s at p) b.faces → cs ≡ put_in_front (coords_from s at p) b.coords
    → job_rows vs ts fs ks ns cs ≡ job_written s (form_head_at Groups s) b
unfolding filled job_written job_at
job_filled {v} {t} {p} {i} {at} s b e ea ev et ef ek en ec =
    rw e
    (λ j. job_rows (ev j) (et j) (ef j) ((ek ∙ ap (λ (q : ℕ). put_in_front (kinds_from s q p) b.kinds) ea) j) ((en ∙ ap (λ (q : ℕ). put_in_front (faces_from s q p) b.faces) ea) j)
    ((ec ∙ ap (λ (q : ℕ). put_in_front (coords_from s q p) b.coords) ea) j))
