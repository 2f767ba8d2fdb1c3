-- How long the parts of a file are, what a mesh that passed the checks has, and the answers of writing. Assumes nothing.
use Prim.Native.Nat.{ℕ, zero, suc, ◌+◌, ◌*◌, ◌/◌, ◌%◌, ◌≤◌, ◌<◌}
use native.Mathlib.Nat.{zero-add}
use native.Mathlib.Omega.{arith}
use mathlib.Core.Path.{◌≡◌, refl, ap, ◌∙◌}
use mathlib.Core.Bool.{Bool, true, false, not, ◌||◌, true≢false}
use mathlib.Core.List.{List, ◌++◌}
use borrow.Author.Tests.{ltb-false, lt-ltb, le-ltb}
use lib.Dec.{T, eqb, ltb}
use lib.ListN.{length, get_or, replicate, length-append}
use lib.Ieee.{Float, nan}
use lib.Seq.{sets-eq}
use Rattle.job_checks.specs.Any.{any_below}
use Rattle.job_checks.specs.Refusals.{max_vertices, max_triangles, missing, missing_vertex}
use Rattle.job_checks.proofs.Any.{none_below}
use Rattle.job_checks.proofs.Tests.{present}
use Rattle.little_endian.specs.Bytes.{number_bytes, put_in_front}
use Rattle.single.specs.Single.{is_single}
use Rattle.text_out.specs.Text.{Puts}
use Rattle.std.specs.Prelude.{Ok, Err}
use Rattle.stl_format.specs.declared.StlRefusal.TheVariants as stl
use Rattle.stl_format.specs.Format.{file_length, single_bytes, vertex_bytes, record_bytes, records_bytes, file_of}
use Rattle.stl_format.specs.Answers.{wrong_sizes, not_single, write_answer, after_writing, stl_writing}
use Rattle.stl.specs.Parts.{WritableTriangles}

pub length_single : (x : Float) → length (single_bytes x) ≡ 4
unfolding single_bytes number_bytes
length_single x = refl

pub length_vertex : (v : List Float) (a : ℕ) → length (vertex_bytes v a) ≡ 12
unfolding vertex_bytes single_bytes number_bytes
length_vertex v a = refl

pub length_record : (v : List Float) (t : List ℕ) (k : ℕ) → length (record_bytes v t k) ≡ 50
unfolding record_bytes vertex_bytes single_bytes number_bytes
length_record v t k = refl

pub length_records : (v : List Float) (t : List ℕ) (n : ℕ) → length (records_bytes v t n) ≡ 50 * n
unfolding records_bytes
length_records v t zero = refl
length_records v t (suc n) = length-append (records_bytes v t n) (record_bytes v t n) ∙ rw (length_records v t n, length_record v t n) (omega arith)

pub length_count : (n : ℕ) → length (number_bytes n) ≡ 4
unfolding number_bytes
length_count n = refl

length_front : (n : ℕ) → length (replicate 80 0 ++ number_bytes n) ≡ 84
unfolding number_bytes
length_front n = refl

pub length_file : (v : List Float) (t : List ℕ) → length (file_of v t) ≡ file_length (length t / 3)
unfolding file_of
length_file v t =
    length-append (replicate 80 0 ++ number_bytes (length t / 3)) (records_bytes v t (length t / 3))
    ∙ (ap (λ (k : ℕ). k + length (records_bytes v t (length t / 3))) (length_front (length t / 3)) ∙ ap (λ (k : ℕ). 84 + k) (length_records v t (length t / 3)))

-- ---- what passed

or_false : (a b : Bool) → a || b ≡ false → (a ≡ false) × (b ≡ false)
or_false true b h = absurd (true≢false h)
or_false false b h = (refl, h)

pub few_triangles : (v t : ℕ) → wrong_sizes v t ≡ false → t / 3 ≤ 131070
unfolding wrong_sizes
few_triangles v t h = ltb-false _ _ (or_false (not (eqb (v % 3) 0) || not (eqb (t % 3) 0) || ltb max_vertices (v / 3)) (ltb max_triangles (t / 3)) h).1

not_not : (b : Bool) → not b ≡ false → T b
not_not true h = tt
not_not false h = absurd (true≢false h)

pub writable : (v : List Float) (t : List ℕ) → missing_vertex v t ≡ false → any_below (not_single v) (length v) ≡ false → WritableTriangles v t
unfolding not_single
writable v t m s h l =
    let a : get_or t h 0 < length v / 3 = present (length v / 3) t h (none_below (missing (length v / 3) t) (length t) m h l) in
    record { there = omega arith; singles = λ i k. not_not (is_single (get_or v i nan)) (none_below (not_single v) (length v) s i k) }

-- ---- the answers

module _ (v : List Float) (t out : List ℕ) where
  pub wrong : wrong_sizes (length v) (length t) ≡ true → (Err stl.Malformed, out) ≡ stl_writing v t out
  unfolding stl_writing write_answer after_writing
  wrong h = rw h

  module _ (h : wrong_sizes (length v) (length t) ≡ false) where
    pub names_none : missing_vertex v t ≡ true → (Err stl.MissingVertex, out) ≡ stl_writing v t out
    unfolding stl_writing write_answer after_writing
    names_none m = rw (h, m)

    module _ (m : missing_vertex v t ≡ false) where
      pub no_single : any_below (not_single v) (length v) ≡ true → (Err stl.NotSingle, out) ≡ stl_writing v t out
      unfolding stl_writing write_answer after_writing
      no_single s = rw (h, m, s)

      module _ (s : any_below (not_single v) (length v) ≡ false) where
        pub too_short : length out < file_length (length t / 3) → (Err stl.ShortBuffer, out) ≡ stl_writing v t out
        unfolding stl_writing write_answer after_writing
        too_short l = rw (h, m, s, lt-ltb _ _ l)

        pub written : file_length (length t / 3) ≤ length out → (left : List ℕ) (r : ℕ) → Puts out 0 (file_of v t) left r → (Ok (file_length (length t / 3)), left) ≡ stl_writing v t out
        unfolding stl_writing write_answer after_writing put_in_front
        written l left r p =
            let e : left ≡ put_in_front (file_of v t) out = p.holds ∙ (sets-eq (file_of v t) out 0 (rw (zero-add, length_file v t) l) ∙ rw zero-add) in
            rw (h, m, s, le-ltb _ _ l) (ap (λ o. (Ok (file_length (length t / 3)), o)) e)
