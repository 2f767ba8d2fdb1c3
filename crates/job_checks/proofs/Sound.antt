-- What the checks found, as facts on numbers, each law from the checks that it needs: later layers need no test of their own. Assumes nothing.
use Prim.Native.Nat.{ℕ, ◌*◌, ◌/◌, ◌%◌, ◌<◌, ◌≤◌}
use mathlib.Core.Path.{◌≡◌}
use mathlib.Core.Bool.{false}
use mathlib.Core.List.{List}
use native.Mathlib.Omega.{arith}
use borrow.Author.Tests.{ltb-false, eqb-true, eqb-false, not-false}
use lib.ListN.{length, get_or}
use lib.Ieee.{Float}
use Rattle.job_checks.specs.declared.BufferCounts.{BufferCounts}
use Rattle.job_checks.specs.Job.{Job}
use Rattle.job_checks.specs.Any.{first_of}
use Rattle.job_checks.specs.Refusals.{max_triangles, wrong_counts, malformed, repeated, degenerate_triangle, is_too_short, mesh_tests, piece_tests, refusals, refusal_of}
use Rattle.job_checks.specs.Sound.{WholeRecords, Distinct, ValidTriangles, VerticesInRange, RegularTriangles, SoundPieces, LongEnough, Sound}
use Rattle.job_checks.proofs.Any.{none_below, head_none, tail_none, first_after, first_none, passed_here, passed_on, Numbered}
use Rattle.job_checks.proofs.Tests.{at_most_one, present}

whole_records : (vertices triangles flags kinds faces coords : ℕ) → wrong_counts vertices triangles flags kinds faces coords ≡ false → WholeRecords vertices triangles flags kinds faces coords
unfolding wrong_counts
whole_records vertices triangles flags kinds faces coords e1 =
    let e2 = tail_none _ _ e1 in
    let e3 = tail_none _ _ e2 in
    let e4 = tail_none _ _ e3 in
    let e5 = tail_none _ _ e4 in
    let e6 = tail_none _ _ e5 in
    let e7 = tail_none _ _ e6 in
    let e8 = tail_none _ _ e7 in
    let v : vertices % 3 ≡ 0 = eqb-true _ _ (not-false _ (head_none _ _ e1)) in
    let t : triangles % 3 ≡ 0 = eqb-true _ _ (not-false _ (head_none _ _ e2)) in
    record {
      whole_vertices = omega arith;
      whole_triangles = omega arith;
      few_vertices = ltb-false _ _ (head_none _ _ e3);
      few_triangles = ltb-false _ _ (head_none _ _ e4);
      few_pieces = ltb-false _ _ (head_none _ _ e5);
      flag_each = eqb-true _ _ (not-false _ (head_none _ _ e6));
      face_each = eqb-true _ _ (not-false _ (head_none _ _ e7));
      six_each = eqb-true _ _ (not-false _ (head_none _ _ e8));
    }

module _ (vertices triangles : ℕ) (flags kinds : List ℕ) (faces coords : ℕ) (e : malformed vertices triangles flags kinds faces coords ≡ false) where
  pub well_formed : WholeRecords vertices triangles (length flags) (length kinds) faces coords
  unfolding malformed
  well_formed = whole_records vertices triangles (length flags) (length kinds) faces coords (head_none _ _ e)

  pub flags_low : (i : ℕ) → i < length flags → get_or flags i 0 ≤ 1
  unfolding malformed
  flags_low i l = at_most_one _ _ (none_below _ _ (head_none _ _ (tail_none _ _ e)) i l)

  pub kinds_low : (i : ℕ) → i < length kinds → get_or kinds i 0 ≤ 1
  unfolding malformed
  kinds_low i l = at_most_one _ _ (none_below _ _ (head_none _ _ (tail_none _ _ (tail_none _ _ e))) i l)

pub distinct_of : (a b c : ℕ) → repeated a b c ≡ false → Distinct a b c
unfolding repeated
distinct_of a b c e =
    record {
      first_second = eqb-false _ _ (head_none _ _ e);
      second_third = eqb-false _ _ (head_none _ _ (tail_none _ _ e));
      third_first = eqb-false _ _ (head_none _ _ (tail_none _ _ (tail_none _ _ e)));
    }

pub long_enough : (vertices triangles pieces : ℕ) (b : BufferCounts) → is_too_short vertices triangles pieces b ≡ false → LongEnough vertices triangles pieces b
unfolding is_too_short
long_enough vertices triangles pieces b e1 =
    let e2 = tail_none _ _ e1 in
    let e3 = tail_none _ _ e2 in
    let e4 = tail_none _ _ e3 in
    let e5 = tail_none _ _ e4 in
    let e6 = tail_none _ _ e5 in
    let e7 = tail_none _ _ e6 in
    record {
      edges_fit = ltb-false _ _ (head_none _ _ e1);
      vertex_faces_fit = ltb-false _ _ (head_none _ _ e2);
      vertices_fit = ltb-false _ _ (head_none _ _ e3);
      triangles_fit = ltb-false _ _ (head_none _ _ e4);
      pieces_fit = ltb-false _ _ (head_none _ _ e5);
      scratch_fits = ltb-false _ _ (head_none _ _ e6);
      other_scratch_fits = ltb-false _ _ (head_none _ _ e7);
    }

-- From the checks of one thing each.
module _ (v : List Float) (triangles : List ℕ) where
  module _ (p2 : first_of (mesh_tests v triangles) ≡ 0) where
    pub valid_triangles : length triangles ≡ 3 * (length triangles / 3) → length triangles / 3 ≤ max_triangles → ValidTriangles triangles (length v / 3)
    unfolding mesh_tests
    valid_triangles w f =
        record {
          whole = w;
          few = f;
          there = λ i l. present _ _ _ (none_below _ _ (passed_here _ _ _ (omega arith) p2) i l);
          distinct = λ t l. distinct_of _ _ _ (none_below _ _ (passed_here _ _ _ (omega arith) (passed_on _ _ _ (omega arith) p2)) t l);
        }

    pub vertices_in_range : VerticesInRange v
    unfolding mesh_tests
    vertices_in_range = record { in_range = none_below _ _ (passed_here _ _ _ (omega arith) (passed_on _ _ _ (omega arith) (passed_on _ _ _ (omega arith) p2))) }

  pub regular_triangles : degenerate_triangle v triangles ≡ false → RegularTriangles v triangles
  regular_triangles e = record { regular = none_below _ _ e }

pub sound_pieces : (triangles : ℕ) (kinds faces : List ℕ) (coords : List Float) → first_of (piece_tests triangles kinds faces coords) ≡ 0 → SoundPieces triangles kinds faces coords
unfolding piece_tests
sound_pieces triangles kinds faces coords p6 =
    record {
      face_there = λ i l. present _ _ _ (none_below _ _ (passed_here _ _ _ (omega arith) p6) i l);
      piece_in_range = none_below _ _ (passed_here _ _ _ (omega arith) (passed_on _ _ _ (omega arith) p6));
    }

-- A job that passed all nine.
module _ (j : Job) (b : BufferCounts) where
  pub refusals_numbered : Numbered (refusals j b)
  unfolding refusals
  refusals_numbered = (omega arith, (omega arith, (omega arith, (omega arith, (omega arith, (omega arith, (omega arith, (omega arith, (omega arith, tt)))))))))

  pub sound : refusal_of j b ≡ 0 → Sound j b
  unfolding refusals mesh_tests piece_tests
  sound p1 =
      let p2 = passed_on _ _ _ (omega arith) p1 in
      let p3 = passed_on _ _ _ (omega arith) p2 in
      let p4 = passed_on _ _ _ (omega arith) p3 in
      let p5 = passed_on _ _ _ (omega arith) p4 in
      let p6 = passed_on _ _ _ (omega arith) p5 in
      let p7 = passed_on _ _ _ (omega arith) p6 in
      let p8 = passed_on _ _ _ (omega arith) p7 in
      let p9 = passed_on _ _ _ (omega arith) p8 in
      let m = passed_here _ _ _ (omega arith) p1 in
      let w = well_formed _ _ _ _ _ _ m in
      let mesh : first_of (mesh_tests j.vertices j.triangles) ≡ 0 = first_after _ _ _ _ (passed_here _ _ _ (omega arith) p2) (first_after _ _ _ _ (passed_here _ _ _ (omega arith) p3) (first_after _ _ _ _ (passed_here _ _ _ (omega arith) p4) first_none)) in
      record {
        whole = w;
        flag = flags_low _ _ _ _ _ _ m;
        kind = kinds_low _ _ _ _ _ _ m;
        triangles = valid_triangles j.vertices j.triangles mesh w.whole_triangles w.few_triangles;
        vertices = vertices_in_range j.vertices j.triangles mesh;
        regular = regular_triangles j.vertices j.triangles (passed_here _ _ _ (omega arith) p5);
        pieces =
            sound_pieces _ _ _ _ (first_after _ _ _ _ (passed_here _ _ _ (omega arith) p6) (first_after _ _ _ _ (passed_here _ _ _ (omega arith) p7) first_none));
        limit_in_range = passed_here _ _ _ (omega arith) p8;
        buffers = long_enough _ _ _ _ (passed_here _ _ _ (omega arith) p9);
      }
