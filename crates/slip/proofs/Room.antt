-- What the slip of a job has: its counts, its parts and its pieces stand in it, and there is room for them. Assumes nothing.
use Prim.Native.Nat.{ℕ, ◌*◌, ◌≤◌}
use native.Mathlib.Omega.{arith}
use mathlib.Core.Path.{◌≡◌, refl, ap, ◌∙◌}
use mathlib.Core.Bool.{Bool, true, false, cond, ◌||◌, true≢false}
use mathlib.Core.List.{List}
use borrow.Author.Tests.{ltb-false}
use lib.Dec.{ltb}
use lib.ListN.{length}
use Rattle.std.specs.Prelude.{Ok, Err}
use Rattle.slip.specs.declared.SlipJob.{SlipJob}
use Rattle.slip.specs.declared.SlipRefusal.{SlipRefusal}
use Rattle.slip.specs.declared.SlipRefusal.TheVariants.{TooShort, TooMany}
use Rattle.slip.specs.Format.{is_job, vertex_count_in, triangle_count_in, piece_count_in, pieces_from, exceeds, after_pieces, answer_to}
use Rattle.slip.specs.Format.{job_in}
use Rattle.slip.specs.Reading.{Rows, vertex_slots, triangle_slots, piece_slots, filled, written, slip_answer, reading}
use Rattle.slip.proofs.Pieces.{job_else}

or_false : (a b : Bool) → a || b ≡ false → (a ≡ false) × (b ≡ false)
or_false true b h = absurd (true≢false h)
or_false false b h = (refl, h)

pub record Fits (s : List ℕ) (vertices triangles pieces : ℕ) : Type 0 where
  pub counts : 12 ≤ length s
  pub vertices_fit : vertex_count_in s ≤ vertices
  pub triangles_fit : triangle_count_in s ≤ triangles
  pub pieces_fit : piece_count_in s ≤ pieces
  pub mesh : pieces_from s ≤ length s
  pub rest : is_job (after_pieces s (piece_count_in s) (pieces_from s)) ≡ true

pub job_fits : (s : List ℕ) (v t p : ℕ) → is_job (answer_to s v t p) ≡ true → Fits s v t p
unfolding answer_to exceeds
job_fits s v t p h =
    let behind = after_pieces s (piece_count_in s) (pieces_from s) in
    let whole-mesh = cond (ltb (length s) (pieces_from s)) (Err TooShort) behind in
    let a = job_else (ltb (length s) 12) (Err TooShort) (cond (exceeds s v t p) (Err TooMany) whole-mesh) refl h in
    let b = job_else (exceeds s v t p) (Err TooMany) whole-mesh refl a.1 in
    let c = job_else (ltb (length s) (pieces_from s)) (Err TooShort) behind refl b.1 in
    let most = or_false (ltb v (vertex_count_in s) || ltb t (triangle_count_in s)) (ltb p (piece_count_in s)) b.0 in
    let two = or_false (ltb v (vertex_count_in s)) (ltb t (triangle_count_in s)) most.0 in
    record {
      counts = ltb-false _ _ a.0;
      vertices_fit = ltb-false _ _ two.0;
      triangles_fit = ltb-false _ _ two.1;
      pieces_fit = ltb-false _ _ most.1;
      mesh = ltb-false _ _ c.0;
      rest = c.1;
    }

pub record Ready (s : List ℕ) (b : Rows) : Type 0 where
  pub counts : 12 ≤ length s
  pub mesh : pieces_from s ≤ length s
  pub rest : is_job (after_pieces s (piece_count_in s) (pieces_from s)) ≡ true
  pub vertices : 3 * vertex_count_in s ≤ length b.vertices
  pub triangles : 3 * triangle_count_in s ≤ length b.triangles
  pub flags : vertex_count_in s ≤ length b.flags
  pub kinds : piece_count_in s ≤ length b.kinds
  pub faces : piece_count_in s ≤ length b.faces
  pub coords : 6 * piece_count_in s ≤ length b.coords

pub ready : (s : List ℕ) (b : Rows) → is_job (slip_answer s b) ≡ true → Ready s b
unfolding slip_answer vertex_slots triangle_slots piece_slots
ready s b h =
    let f = job_fits s (vertex_slots b) (triangle_slots b) (piece_slots b) h in
    record {
      counts = f.counts;
      mesh = f.mesh;
      rest = f.rest;
      vertices = omega (arith, f.vertices_fit);
      triangles = omega (arith, f.triangles_fit);
      flags = omega (arith, f.vertices_fit);
      kinds = omega (arith, f.pieces_fit);
      faces = omega (arith, f.pieces_fit);
      coords = omega (arith, f.pieces_fit);
    }

-- a job is read, and a refusal leaves all as it is
module _ (s : List ℕ) (b : Rows) where
  pub did_read : (j : SlipJob) → Ok j ≡ slip_answer s b → (b' : Rows) → b' ≡ filled (job_in s) b → (Ok j, b') ≡ reading s b
  unfolding reading written
  did_read j e b' w = λ i. (e i, (w ∙ ap (λ a. written s a b) e) i)

  pub did_refuse : (why : SlipRefusal) → Err why ≡ slip_answer s b → (Err why, b) ≡ reading s b
  unfolding reading written
  did_refuse why e = λ i. (e i, ap (λ a. written s a b) e i)
