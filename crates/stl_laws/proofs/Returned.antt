-- What is read is written back, and what is written is read back. Assumes nothing.
use Prim.Native.Nat.{ℕ, ◌+◌, ◌*◌, ◌/◌, ◌%◌, ◌≤◌, ◌<◌}
use native.Mathlib.Omega.{arith}
use mathlib.Core.Path.{◌≡◌, refl, sym, ap, ◌∙◌, subst}
use mathlib.Core.Bool.{Bool, true, false, not}
use mathlib.Core.List.{List}
use borrow.Author.Tests.{eqb-true, eq-eqb, le-ltb}
use lib.Dec.{T, eqb}
use lib.ListN.{length, get_or}
use lib.Seq.{ext_get_or}
use lib.Ieee.{Float, nan, binary32, fits, of_bits, to_bits, eq}
use lib.Ieee.Bits.{is_true, of_bits-fits, to_bits-of_bits}
use lib.Ieee.Fits.{and_i, and_l}
use lib.Ieee.Scale.{finite}
use Rattle.float_laws.proofs.Order.{finite_number, eq_refl}
use Rattle.job_checks.specs.Any.{any_below}
use Rattle.job_checks.specs.Refusals.{max_vertices, max_triangles, missing, missing_vertex}
use Rattle.job_checks.proofs.Any.{none_all}
use Rattle.job_checks.proofs.Tests.{not_missing}
use Rattle.little_endian.specs.Bytes.{number_from, put_in_front}
use Rattle.nat_laws.proofs.Lists.{length_list_of, get_d_list_of}
use Rattle.single.specs.Single.{is_single}
use Rattle.std.specs.Prelude.{Ok}
use Rattle.stl_format.specs.Format.{StlMesh, record_count, file_length, point_from, coordinate, bytes_not_finite, same_point, first_points, vertex_points, vertex_of_point, mesh_in, file_of}
use Rattle.stl_format.specs.Answers.{mesh_lists, stl_reading, wrong_sizes, not_single, write_answer, after_writing, stl_writing}
use Rattle.stl_table.specs.Keys.{zero_unsigned}
use Rattle.stl.proofs.Same.{Bytes, same_single, number_below}
use Rattle.stl.proofs.Agreeing.{first_agree, first_below}
use Rattle.stl.proofs.Written.{length_file}
use Rattle.stl_laws.specs.Accepted.{Readable, Room, mesh_answer, WritableMesh, uses, InOrder}
use Rattle.stl_laws.proofs.Points.{count_here, bits_here, coordinate_here}
use Rattle.stl_laws.proofs.Equal.{equal_at, same_of, finite_at, same_self, same_through}
use Rattle.stl_laws.proofs.Accepting.{read_gives, vertex_of_lem, vertex_low, triangle_at, vertex_at_lem, vertex_equal}
use Rattle.stl_laws.proofs.Counting.{few_vertices}

-- ---- a writable mesh

module _ (v : List Float) (t out : List ℕ) (w : WritableMesh v t) where
  sizes : wrong_sizes (length v) (length t) ≡ false
  unfolding wrong_sizes
  sizes = rw (eq-eqb _ _ w.whole_vertices, eq-eqb _ _ w.whole_triangles, le-ltb max_vertices (length v / 3) w.few_vertices, le-ltb max_triangles (length t / 3) w.few_triangles)

  names : missing_vertex v t ≡ false
  names = none_all (missing (length v / 3) t) (length t) (λ h l. not_missing (length v / 3) t h (w.there h l))

  all_singles : any_below (not_single v) (length v) ≡ false
  unfolding not_single
  all_singles = none_all (not_single v) (length v) (λ i l. ap not (is_true (is_single (get_or v i nan)) (w.singles i l)))

  -- it is written wherever there is room for its file
  pub write_gives : file_length (length t / 3) ≤ length out → stl_writing v t out ≡ (Ok (file_length (length t / 3)), put_in_front (file_of v t) out)
  unfolding stl_writing write_answer after_writing
  write_gives l = rw (sizes, names, all_singles, le-ltb (length out) (file_length (length t / 3)) l)

-- finite coordinates that compare equal have the same bits, those of zeros aside
equal_bits : (s : List ℕ) → Bytes s → (p h c : ℕ) → T (finite (coordinate s p c)) → T (finite (coordinate s h c)) → T (eq (coordinate s p c) (coordinate s h c)) → zero_unsigned (to_bits binary32 (coordinate s p c)) ≡ zero_unsigned (number_from s (point_from h + 4 * c))
unfolding coordinate
equal_bits s bytes p h c f g e =
    let a = number_from s (point_from p + 4 * c) in
    let b = number_from s (point_from h + 4 * c) in
    let la = number_below s bytes (point_from p + 4 * c) in
    let lb = number_below s bytes (point_from h + 4 * c) in
    ap zero_unsigned (to_bits-of_bits binary32 a la (finite_number (of_bits binary32 a) f)) ∙ eqb-true (zero_unsigned a) (zero_unsigned b) (same_single a b la lb f g ∙ is_true (eq (of_bits binary32 a) (of_bits binary32 b)) e)

-- ---- write after read
module _ (s : List ℕ) (bytes : Bytes s) (r : Readable s) where
  abbrev vs : List Float
  vs = (mesh_in s).vertices

  abbrev ts : List ℕ
  ts = (mesh_in s).triangles

  length_vs : length vs ≡ 3 * length (vertex_points s)
  unfolding mesh_in
  length_vs = length_list_of (3 * length (vertex_points s)) _

  length_ts : length ts ≡ 3 * record_count s
  unfolding mesh_in
  length_ts = length_list_of (3 * record_count s) _

  single_of : (p c : ℕ) → T (finite (coordinate s p c)) → T (is_single (coordinate s p c))
  unfolding is_single coordinate
  single_of p c f = and_i (finite (coordinate s p c)) (fits binary32 (coordinate s p c)) f (of_bits-fits binary32 (number_from s (point_from p + 4 * c)))

  vertex_finite : (i c : ℕ) → i < length (vertex_points s) → c < 3 → T (finite (coordinate s (get_or (vertex_points s) i 0) c))
  vertex_finite i c l k = finite_at s (get_or (vertex_points s) i 0) (r.finite (get_or (vertex_points s) i 0) (vertex_low s r i l)) c k

  -- the mesh of a readable file is writable
  pub mesh_writable : WritableMesh vs ts
  mesh_writable = record {
    whole_vertices = omega (arith, length_vs);
    whole_triangles = omega (arith, length_ts);
    few_vertices = omega (arith, length_vs, r.few_vertices);
    few_triangles = omega (arith, length_ts, r.few_triangles);
    there = λ h l.
        let k : h < 3 * record_count s = omega (arith, length_ts) in
        subst (λ (m : ℕ). m < length vs / 3) (sym (triangle_at s r h k)) (omega (arith, length_vs, (vertex_of_lem s r h k).0));
    singles = λ i l.
        let a : i / 3 < length (vertex_points s) = omega (arith, length_vs) in
        let b : i % 3 < 3 = omega arith in
        let q : 3 * (i / 3) + i % 3 ≡ i = omega arith in
        subst (λ (m : ℕ). T (is_single (get_or vs m nan))) q (subst (λ x. T (is_single x)) (sym (vertex_at_lem s r (i / 3) (i % 3) a b)) (single_of (get_or (vertex_points s) (i / 3) 0) (i % 3) (vertex_finite (i / 3) (i % 3) a b)));
  }

  triangles_are : length ts / 3 ≡ record_count s
  triangles_are = omega (arith, length_ts)

  -- its file is as long, has the count, and the bits of each coordinate, those of zeros aside
  pub file_length_lem : length (file_of vs ts) ≡ length s
  file_length_lem = length_file vs ts ∙ (ap file_length triangles_are ∙ sym r.long)

  pub file_count : record_count (file_of vs ts) ≡ record_count s
  file_count = count_here vs ts (omega (arith, triangles_are, r.few_triangles)) ∙ triangles_are

  pub file_bits : (h c : ℕ) → h < 3 * record_count s → c < 3 → zero_unsigned (number_from (file_of vs ts) (point_from h + 4 * c)) ≡ zero_unsigned (number_from s (point_from h + 4 * c))
  file_bits h c l k =
      let a = vertex_of_lem s r h l in
      let p = get_or (vertex_points s) (vertex_of_point s h) 0 in
      let x : get_or vs (3 * get_or ts h 0 + c) nan ≡ coordinate s p c = ap (λ (i : ℕ). get_or vs (3 * i + c) nan) (triangle_at s r h l) ∙ vertex_at_lem s r (vertex_of_point s h) c a.0 k in
      let w = mesh_writable in
      let b : number_from (file_of vs ts) (point_from h + 4 * c) ≡ to_bits binary32 (coordinate s p c) =
      bits_here vs ts w.singles (λ g m. let d : get_or ts g 0 < length vs / 3 = w.there g m in omega arith) h c (omega (arith, triangles_are)) k ∙ ap (to_bits binary32) x in
      ap zero_unsigned b ∙ equal_bits s bytes p h c (vertex_finite (vertex_of_point s h) c a.0 k) (finite_at s h (r.finite h l) c k) (equal_at s p h a.1 c k)

  -- so it is written back where there are as many bytes
  pub read_written : (out : List ℕ) → length s ≤ length out → stl_writing vs ts out ≡ (Ok (length s), put_in_front (file_of vs ts) out)
  read_written out l =
      let e : file_length (length ts / 3) ≡ length s = ap file_length triangles_are ∙ sym r.long in
      write_gives vs ts out mesh_writable (subst (λ (k : ℕ). k ≤ length out) (sym e) l) ∙ ap (λ (k : ℕ). (Ok k, put_in_front (file_of vs ts) out)) e

-- ---- read after write
module _ (v : List Float) (t : List ℕ) (w : WritableMesh v t) where
  abbrev file : List ℕ
  file = file_of v t

  abbrev points : ℕ
  points = 3 * (length t / 3)

  room_for : (h : ℕ) → h < length t → 3 * get_or t h 0 + 3 ≤ length v
  room_for h l = let d : get_or t h 0 < length v / 3 = w.there h l in omega arith

  point_at : (h c : ℕ) → h < points → c < 3 → coordinate file h c ≡ get_or v (3 * get_or t h 0 + c) nan
  point_at h c l k = coordinate_here v t w.singles room_for h c l k

  count_is : record_count file ≡ length t / 3
  count_is = count_here v t (omega (arith, w.few_triangles))

  single_finite : (x : Float) → T (is_single x) → T (finite x)
  unfolding is_single
  single_finite x h = and_l (finite x) (fits binary32 x) h

  point_finite : (h c : ℕ) → h < points → c < 3 → T (finite (coordinate file h c))
  point_finite h c l k = subst (λ x. T (finite x)) (sym (point_at h c l k)) (single_finite _ (w.singles (3 * get_or t h 0 + c) (omega (arith, room_for h (omega arith)))))

  all_finite : (h : ℕ) → h < points → bytes_not_finite file h ≡ false
  unfolding bytes_not_finite
  all_finite h l = rw (is_true (finite (coordinate file h 0)) (point_finite h 0 l (omega arith)), is_true (finite (coordinate file h 1)) (point_finite h 1 l (omega arith)), is_true (finite (coordinate file h 2)) (point_finite h 2 l (omega arith)))

  -- points of one vertex are the same
  numbered : (g h : ℕ) → g < points → h < points → get_or t g 0 ≡ get_or t h 0 → same_point file g h ≡ true
  numbered g h l k e =
      same_of file g h
      (λ c m. subst (λ x. T (eq (coordinate file g c) x)) (point_at g c l m ∙ (ap (λ (i : ℕ). get_or v (3 * i + c) nan) e ∙ sym (point_at h c k m))) (eq_refl (coordinate file g c) (finite_number (coordinate file g c) (point_finite g c l m))))

  few : length (first_points (same_point file) points) ≤ length v / 3
  few = few_vertices t (length v / 3) (same_point file) points (λ g l. w.there g (omega arith)) (λ h l. same_self file h (all_finite h l)) (λ f g h a b c. same_through file f g h) numbered

  -- the file of a writable mesh is readable
  pub file_readable : Readable file
  unfolding vertex_points
  file_readable = record {
    long = length_file v t ∙ ap file_length (sym count_is);
    finite = λ h l. all_finite h (omega (arith, count_is));
    few_triangles = omega (arith, count_is, w.few_triangles);
    few_vertices = subst (λ (m : ℕ). length (first_points (same_point file) (3 * m)) ≤ 65535) (sym count_is) (omega (arith, few, w.few_vertices));
  }

  -- and is read back into slices with as many slots as the mesh itself has
  pub room_kept : (b : StlMesh) → length v / 3 ≤ length b.vertices / 3 → length t / 3 ≤ length b.triangles / 3 → Room file b
  unfolding vertex_points
  room_kept b lv lt = record {
    vertices = subst (λ (m : ℕ). length (first_points (same_point file) (3 * m)) ≤ length b.vertices / 3) (sym count_is) (omega (arith, few));
    triangles = omega (arith, count_is);
  }

  pub written_read : (b : StlMesh) → length v / 3 ≤ length b.vertices / 3 → length t / 3 ≤ length b.triangles / 3
      → stl_reading file b ≡ (mesh_answer file, mesh_lists (put_in_front (mesh_in file).vertices b.vertices) (put_in_front (mesh_in file).triangles b.triangles))
  written_read b lv lt = read_gives file b file_readable (room_kept b lv lt)

  -- its mesh has the same coordinates, triangle by triangle
  pub coordinates_kept : (h c : ℕ) → h < points → c < 3 → T (eq (get_or (mesh_in file).vertices (3 * get_or (mesh_in file).triangles h 0 + c) nan) (get_or v (3 * get_or t h 0 + c) nan))
  coordinates_kept h c l k = subst (λ x. T (eq (get_or (mesh_in file).vertices (3 * get_or (mesh_in file).triangles h 0 + c) nan) x)) (point_at h c l k) (vertex_equal file file_readable h c (omega (arith, count_is)) k)

  -- where the vertices are pairwise unequal and in the order of their first use, it is the very mesh
  module _ (o : InOrder v t) where
    abbrev by_number : ℕ → ℕ → Bool
    by_number g h = eqb (get_or t g 0) (get_or t h 0)

    truth : (a b : Bool) → (a ≡ true → b ≡ true) → (b ≡ true → a ≡ true) → a ≡ b
    truth true b f q = sym (f refl)
    truth false true f q = q refl
    truth false false f q = refl

    whole : points ≡ length t
    whole = omega (arith, w.whole_triangles)

    agree : (g h : ℕ) → g < points → h < points → same_point file g h ≡ by_number g h
    agree g h l k =
        truth (same_point file g h) (by_number g h)
        (λ e. eq-eqb _ _ (o.unequal (get_or t g 0) (get_or t h 0) (w.there g (omega arith)) (w.there h (omega arith)) (λ c m. subst (λ x. T (eq x (get_or v (3 * get_or t h 0 + c) nan))) (point_at g c l m) (subst (λ x. T (eq (coordinate file g c) x)) (point_at h c k m) (equal_at file g h e c m)))))
        (λ e. numbered g h l k (eqb-true _ _ e))

    vertices_used : vertex_points file ≡ uses t
    unfolding vertex_points
    vertices_used =
        ap (λ (m : ℕ). first_points (same_point file) (3 * m)) count_is ∙ (first_agree (same_point file) by_number points agree points (omega arith) ∙ ap (first_points by_number) whole)

    count_used : length (vertex_points file) ≡ length v / 3
    count_used = ap length vertices_used ∙ o.all_used

    used_low : (i : ℕ) → i < length (uses t) → get_or (uses t) i 0 < points
    used_low i l = subst (λ (m : ℕ). get_or (uses t) i 0 < m) (sym whole) (first_below by_number (length t) i l)

    coordinate_kept : (i c : ℕ) → i < length v / 3 → c < 3 → coordinate file (get_or (vertex_points file) i 0) c ≡ get_or v (3 * i + c) nan
    coordinate_kept i c l k =
        let m : i < length (uses t) = omega (arith, o.all_used) in
        ap (λ us. coordinate file (get_or us i 0) c) vertices_used ∙ (point_at (get_or (uses t) i 0) c (used_low i m) k ∙ ap (λ (j : ℕ). get_or v (3 * j + c) nan) (o.ordered i m))

    pub vertices_kept : (mesh_in file).vertices ≡ v
    unfolding mesh_in
    vertices_kept =
        ext_get_or nan (mesh_in file).vertices v
        (length_list_of (3 * length (vertex_points file)) _ ∙ omega (arith, count_used, w.whole_vertices))
        (λ i l.
        let k : i < 3 * length (vertex_points file) = subst (λ (m : ℕ). i < m) (length_list_of (3 * length (vertex_points file)) _) l in
        let q : 3 * (i / 3) + i % 3 ≡ i = omega arith in
        get_d_list_of (3 * length (vertex_points file)) (λ j. coordinate file (get_or (vertex_points file) (j / 3) 0) (j % 3)) i nan k
        ∙ (coordinate_kept (i / 3) (i % 3) (omega (arith, count_used)) (omega arith) ∙ ap (λ (j : ℕ). get_or v j nan) q))

    triangle_kept : (h : ℕ) → h < points → vertex_of_point file h ≡ get_or t h 0
    triangle_kept h l =
        let k : h < 3 * record_count file = omega (arith, count_is) in
        let a = vertex_of_lem file file_readable h k in
        let i = vertex_of_point file h in
        let m : i < length (uses t) = omega (arith, a.0, ap length vertices_used) in
        let e : same_point file (get_or (uses t) i 0) h ≡ true = subst (λ us. same_point file (get_or us i 0) h ≡ true) vertices_used a.1 in
        sym (o.ordered i m) ∙ eqb-true (get_or t (get_or (uses t) i 0) 0) (get_or t h 0) (sym (agree (get_or (uses t) i 0) h (used_low i m) l) ∙ e)

    pub triangles_kept : (mesh_in file).triangles ≡ t
    unfolding mesh_in
    triangles_kept =
        ext_get_or 0 (mesh_in file).triangles t (length_list_of (3 * record_count file) _ ∙ (ap (λ (m : ℕ). 3 * m) count_is ∙ whole))
        (λ h l.
        let k : h < 3 * record_count file = subst (λ (m : ℕ). h < m) (length_list_of (3 * record_count file) _) l in
        get_d_list_of (3 * record_count file) (λ j. vertex_of_point file j) h 0 k ∙ triangle_kept h (omega (arith, count_is)))
