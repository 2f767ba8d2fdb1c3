-- Where the count and the points of a mesh stand in its file. Assumes nothing.
use Prim.Native.Nat.{ℕ, zero, suc, ◌+◌, ◌*◌, ◌/◌, ◌%◌, ◌≤◌, ◌<◌}
use native.Mathlib.Omega.{arith}
use mathlib.Core.Path.{◌≡◌, refl, sym, ap, ◌∙◌, subst}
use mathlib.Core.Bool.{Bool, true, false}
use mathlib.Core.List.{List, [], ◌++◌, append_assoc, append-nil}
use borrow.Author.Tests.{eqb-true, eqb-false}
use lib.Dec.{T, eqb}
use lib.ListN.{length, get_or, drop, replicate}
use lib.Ieee.{Float, nan, binary32, fits, of_bits, to_bits}
use lib.Ieee.Bits.{to_bits-lt, of_bits-to_bits}
use lib.Ieee.Fits.{and_r}
use lib.Ieee.Scale.{finite}
use lib.Seq.{drop_at, drop-append-le, drop-drop}
use Rattle.little_endian.specs.Bytes.{number_from, number_bytes}
use Rattle.single.specs.Single.{is_single}
use Rattle.slip_laws.proofs.Parts.{past, number_here}
use Rattle.stl.proofs.Written.{length_single, length_vertex, length_records}
use Rattle.stl_format.specs.Format.{record_count, point_from, coordinate, single_bytes, vertex_bytes, record_bytes, records_bytes, file_of}

single_fits : (x : Float) → T (is_single x) → T (fits binary32 x)
unfolding is_single
single_fits x h = and_r (finite x) (fits binary32 x) h

-- the coordinates of a vertex whose bytes stand from i on
module _ (v : List Float) (a : ℕ) (s : List ℕ) (i : ℕ) (rest : List ℕ) (h : drop i s ≡ vertex_bytes v a ++ rest) where
  abbrev part : ℕ → List ℕ
  part k = single_bytes (get_or v (3 * a + k) nan)

  apart : drop i s ≡ single_bytes (get_or v (3 * a) nan) ++ (part 1 ++ (part 2 ++ rest))
  unfolding vertex_bytes
  apart = h ∙ (append_assoc (single_bytes (get_or v (3 * a) nan) ++ part 1) (part 2) rest ∙ append_assoc (single_bytes (get_or v (3 * a) nan)) (part 1) (part 2 ++ rest))

  single_here : (j : ℕ) (x : Float) (more : List ℕ) → T (is_single x) → drop j s ≡ single_bytes x ++ more → number_from s j ≡ to_bits binary32 x
  unfolding single_bytes
  single_here j x more t e = number_here s j (to_bits binary32 x) more (to_bits-lt binary32 x (single_fits x t)) e

  second : drop (i + 4) s ≡ part 1 ++ (part 2 ++ rest)
  second = past s i (single_bytes (get_or v (3 * a) nan)) (part 1 ++ (part 2 ++ rest)) 4 (length_single (get_or v (3 * a) nan)) apart

  third : drop (i + 4 + 4) s ≡ part 2 ++ rest
  third = past s (i + 4) (part 1) (part 2 ++ rest) 4 (length_single (get_or v (3 * a + 1) nan)) second

  pub vertex_here : ((k : ℕ) → k < 3 → T (is_single (get_or v (3 * a + k) nan))) → (k : ℕ) → k < 3 → number_from s (i + 4 * k) ≡ to_bits binary32 (get_or v (3 * a + k) nan)
  vertex_here t zero l =
      let e : i + 4 * 0 ≡ i = omega arith in
      let f : 3 * a + 0 ≡ 3 * a = omega arith in
      rw (e, f) (single_here i (get_or v (3 * a) nan) (part 1 ++ (part 2 ++ rest)) (subst (λ (m : ℕ). T (is_single (get_or v m nan))) f (t 0 (omega arith))) apart)
  vertex_here t (suc zero) l = single_here (i + 4) (get_or v (3 * a + 1) nan) (part 2 ++ rest) (t 1 (omega arith)) second
  vertex_here t (suc (suc zero)) l =
      let e : i + 8 ≡ i + 4 + 4 = omega arith in
      rw e (single_here (i + 4 + 4) (get_or v (3 * a + 2) nan) rest (t 2 (omega arith)) third)
  vertex_here t (suc (suc (suc k))) l = absurd (omega arith)

module _ (v : List Float) (t : List ℕ) where
  -- what stands from record k on, among m records
  abbrev RecordAt : ℕ → List ℕ → Type 0
  RecordAt k l = (rest : List ℕ) × (drop (50 * k) l ≡ record_bytes v t k ++ rest)

  one_more : (m k : ℕ) (b : Bool) → eqb k m ≡ b → k < suc m → (k < m → RecordAt k (records_bytes v t m)) → RecordAt k (records_bytes v t m ++ record_bytes v t m)
  one_more m k true e l f =
      let q : k ≡ m = eqb-true k m e in
      ([], rw q (drop_at (records_bytes v t m) (record_bytes v t m) (50 * m) (length_records v t m) ∙ sym (append-nil (record_bytes v t m))))
  one_more m k false e l f =
      let q : k ≡ m → ⊥ = eqb-false k m e in
      let r = f (omega arith) in
      let w : 50 * k ≤ length (records_bytes v t m) = omega (arith, length_records v t m) in
      (r.0 ++ record_bytes v t m, drop-append-le (50 * k) (records_bytes v t m) (record_bytes v t m) w ∙ (ap (λ l. l ++ record_bytes v t m) r.1 ∙ append_assoc (record_bytes v t k) r.0 (record_bytes v t m)))

  records_at : (m k : ℕ) → k < m → RecordAt k (records_bytes v t m)
  unfolding records_bytes
  records_at zero k l = absurd (omega arith)
  records_at (suc m) k l = one_more m k (eqb k m) refl l (records_at m k)

  from_count : drop 80 (file_of v t) ≡ number_bytes (length t / 3) ++ records_bytes v t (length t / 3)
  unfolding file_of number_bytes
  from_count = refl

  from_records : drop 84 (file_of v t) ≡ records_bytes v t (length t / 3)
  unfolding file_of number_bytes
  from_records = refl

  pub count_here : length t / 3 < 4294967296 → record_count (file_of v t) ≡ length t / 3
  count_here l = number_here (file_of v t) 80 (length t / 3) (records_bytes v t (length t / 3)) l from_count

  record_here : (k : ℕ) → k < length t / 3 → (rest : List ℕ) × (drop (84 + 50 * k) (file_of v t) ≡ record_bytes v t k ++ rest)
  record_here k l =
      let r = records_at (length t / 3) k l in
      (r.0, sym (drop-drop (50 * k) 84 (file_of v t)) ∙ (ap (drop (50 * k)) from_records ∙ r.1))

  -- the three vertices of record k
  module _ (k : ℕ) (l : k < length t / 3) where
    abbrev Z : List ℕ
    Z = replicate 12 0

    abbrev W : List ℕ
    W = replicate 2 0

    abbrev vertex : ℕ → List ℕ
    vertex j = vertex_bytes v (get_or t (3 * k + j) 0)

    abbrev behind : List ℕ
    behind = W ++ (record_here k l).0

    all_here : drop (84 + 50 * k) (file_of v t) ≡ Z ++ (vertex_bytes v (get_or t (3 * k) 0) ++ (vertex 1 ++ (vertex 2 ++ behind)))
    unfolding record_bytes
    all_here =
        let A = vertex_bytes v (get_or t (3 * k) 0) in
        (record_here k l).1
        ∙ (append_assoc (Z ++ A ++ vertex 1 ++ vertex 2) W (record_here k l).0
        ∙ (append_assoc (Z ++ A ++ vertex 1) (vertex 2) behind ∙ (append_assoc (Z ++ A) (vertex 1) (vertex 2 ++ behind) ∙ append_assoc Z A (vertex 1 ++ (vertex 2 ++ behind)))))

    from_first : drop (84 + 50 * k + 12) (file_of v t) ≡ vertex_bytes v (get_or t (3 * k) 0) ++ (vertex 1 ++ (vertex 2 ++ behind))
    from_first = past (file_of v t) (84 + 50 * k) Z (vertex_bytes v (get_or t (3 * k) 0) ++ (vertex 1 ++ (vertex 2 ++ behind))) 12 refl all_here

    from_second : drop (84 + 50 * k + 12 + 12) (file_of v t) ≡ vertex 1 ++ (vertex 2 ++ behind)
    from_second = past (file_of v t) (84 + 50 * k + 12) (vertex_bytes v (get_or t (3 * k) 0)) (vertex 1 ++ (vertex 2 ++ behind)) 12 (length_vertex v (get_or t (3 * k) 0)) from_first

    from_third : drop (84 + 50 * k + 12 + 12 + 12) (file_of v t) ≡ vertex 2 ++ behind
    from_third = past (file_of v t) (84 + 50 * k + 12 + 12) (vertex 1) (vertex 2 ++ behind) 12 (length_vertex v (get_or t (3 * k + 1) 0)) from_second

  module _ (singles : (i : ℕ) → i < length v → T (is_single (get_or v i nan))) (there : (h : ℕ) → h < length t → 3 * get_or t h 0 + 3 ≤ length v) where
    ok : (h : ℕ) → h < length t → (c : ℕ) → c < 3 → T (is_single (get_or v (3 * get_or t h 0 + c) nan))
    ok h l c d = singles (3 * get_or t h 0 + c) (omega (arith, there h l))

    vertex_at_lem : (k j c : ℕ) → k < length t / 3 → j < 3 → c < 3 → number_from (file_of v t) (84 + 50 * k + 12 + 12 * j + 4 * c) ≡ to_bits binary32 (get_or v (3 * get_or t (3 * k + j) 0 + c) nan)
    vertex_at_lem k zero c l m d =
        let e : 84 + 50 * k + 12 + 12 * 0 ≡ 84 + 50 * k + 12 = omega arith in
        let f : 3 * k + 0 ≡ 3 * k = omega arith in
        rw (e, f) (vertex_here v (get_or t (3 * k) 0) (file_of v t) (84 + 50 * k + 12) (vertex k l 1 ++ (vertex k l 2 ++ behind k l)) (from_first k l) (ok (3 * k) (omega arith)) c d)
    vertex_at_lem k (suc zero) c l m d = vertex_here v (get_or t (3 * k + 1) 0) (file_of v t) (84 + 50 * k + 12 + 12) (vertex k l 2 ++ behind k l) (from_second k l) (ok (3 * k + 1) (omega arith)) c d
    vertex_at_lem k (suc (suc zero)) c l m d =
        let e : 84 + 50 * k + 12 + 24 ≡ 84 + 50 * k + 12 + 12 + 12 = omega arith in
        rw e (vertex_here v (get_or t (3 * k + 2) 0) (file_of v t) (84 + 50 * k + 12 + 12 + 12) (behind k l) (from_third k l) (ok (3 * k + 2) (omega arith)) c d)
    vertex_at_lem k (suc (suc (suc j))) c l m d = absurd (omega arith)

    pub bits_here : (h c : ℕ) → h < 3 * (length t / 3) → c < 3 → number_from (file_of v t) (point_from h + 4 * c) ≡ to_bits binary32 (get_or v (3 * get_or t h 0 + c) nan)
    bits_here h c l d =
        let p : point_from h + 4 * c ≡ 84 + 50 * (h / 3) + 12 + 12 * (h % 3) + 4 * c = omega arith in
        let q : 3 * (h / 3) + h % 3 ≡ h = omega arith in
        ap (number_from (file_of v t)) p ∙ (vertex_at_lem (h / 3) (h % 3) c (omega arith) (omega arith) d ∙ ap (λ (m : ℕ). to_bits binary32 (get_or v (3 * get_or t m 0 + c) nan)) q)

    -- a point has the coordinates of its vertex
    pub coordinate_here : (h c : ℕ) → h < 3 * (length t / 3) → c < 3 → coordinate (file_of v t) h c ≡ get_or v (3 * get_or t h 0 + c) nan
    unfolding coordinate
    coordinate_here h c l d = ap (of_bits binary32) (bits_here h c l d) ∙ of_bits-to_bits binary32 _ (single_fits _ (ok h (omega arith) c d))
