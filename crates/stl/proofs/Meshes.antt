-- The table of a file's points is its mesh, and the answers of reading. Assumes nothing.
use Prim.Native.Nat.{ℕ, ◌-◌, ◌*◌, ◌/◌, ◌%◌, ◌≤◌, ◌<◌}
use native.Mathlib.Omega.{arith}
use mathlib.Core.Path.{◌≡◌, refl, sym, ap, ◌∙◌, subst}
use mathlib.Core.Bool.{Bool, true, false, cond, ◌||◌}
use mathlib.Core.List.{List}
use borrow.Author.Tests.{lt-ltb, le-ltb, eq-eqb, ne_eqb}
use lib.Dec.{ltb}
use lib.ListN.{length, get_or, take}
use lib.Ieee.{Float}
use lib.Seq.{get_or-take}
use Rattle.job_checks.specs.Any.{any_below}
use Rattle.job_checks.specs.Refusals.{max_vertices, max_triangles}
use Rattle.job_checks.proofs.Any.{none_below}
use Rattle.little_endian.specs.Bytes.{put_in_front}
use Rattle.nat_laws.specs.Lists.{list_of}
use Rattle.nat_laws.proofs.Lists.{list_of_same}
use Rattle.std.specs.Prelude.{Result, Ok, Err}
use Rattle.stl_format.specs.declared.StlCounts.{StlCounts}
use Rattle.stl_format.specs.declared.StlRefusal.{StlRefusal}
use Rattle.stl_format.specs.declared.StlRefusal.TheVariants as stl
use Rattle.stl_format.specs.Format.{StlMesh, record_count, file_length, coordinate, bytes_not_finite, same_point, link_among, first_points, vertex_points, vertex_of_point, mesh_in}
use Rattle.stl_format.specs.Answers.{counts_too_many, read_answer, after_reading, mesh_lists, stl_reading}
use Rattle.stl_table.specs.Keys.{same_at, key_bucket_at}
use Rattle.stl_table.specs.Table.{HasPoint, HasPoints, found_at, Findable, VertexTable, TableBuilt}
use Rattle.stl_table.proofs.Following.{link_take}
use Rattle.stl_table.proofs.Entering.{walk, link_found, bucket_below}
use Rattle.stl.specs.Parts.{CheckedFile}
use Rattle.stl.proofs.Same.{Bytes, same_is}
use Rattle.stl.proofs.Agreeing.{first_agree, vertex_agree}

-- the points of n records are there
pub has_points : (s : List ℕ) (n : ℕ) → length s ≡ file_length n → HasPoints s (3 * n)
has_points s n e h l = omega arith

pub answered : (s : List ℕ) (m : StlMesh) (a : Result StlCounts StlRefusal) → read_answer s (length m.vertices / 3) (length m.triangles / 3) ≡ a → (a, after_reading s a m) ≡ stl_reading s m
unfolding stl_reading
answered s m a e = ap (λ x. (x, after_reading s x m)) (sym e)

-- ---- 40 to 43, for any number of slots
module _ (s : List ℕ) (v t : ℕ) where
  pub is_short : length s < 84 → read_answer s v t ≡ Err stl.TooShort
  unfolding read_answer
  is_short l = rw (lt-ltb _ _ l)

  module _ (l : 84 ≤ length s) where
    pub is_wrong : (length s ≡ file_length (record_count s) → ⊥) → read_answer s v t ≡ Err stl.WrongLength
    unfolding read_answer
    is_wrong e = rw (le-ltb _ _ l, ne_eqb _ _ e)

    module _ (e : length s ≡ file_length (record_count s)) where
      pub is_infinite : any_below (bytes_not_finite s) (3 * record_count s) ≡ true → read_answer s v t ≡ Err stl.NotFinite
      unfolding read_answer
      is_infinite f = rw (le-ltb _ _ l, eq-eqb _ _ e, f)

      module _ (f : any_below (bytes_not_finite s) (3 * record_count s) ≡ false) where
        pub is_many : counts_too_many s ≡ true → read_answer s v t ≡ Err stl.TooMany
        unfolding read_answer
        is_many k = rw (le-ltb _ _ l, eq-eqb _ _ e, f, k)

        pub is_mesh_lem : counts_too_many s ≡ false → read_answer s v t ≡ cond (ltb v (length (vertex_points s)) || ltb t (record_count s)) (Err stl.ShortBuffer) (Ok (record { vertices = length (vertex_points s); triangles = record_count s }))
        unfolding read_answer
        is_mesh_lem k = rw (le-ltb _ _ l, eq-eqb _ _ e, f, k)

pub many_records : (s : List ℕ) → 131070 < record_count s → counts_too_many s ≡ true
unfolding counts_too_many
many_records s l = rw (lt-ltb max_triangles (record_count s) l)

or_true : (a : Bool) → a || true ≡ true
or_true true = refl
or_true false = refl

-- ---- a checked file and its table
module _ (s : List ℕ) (bytes : Bytes s) (n : ℕ) (c : CheckedFile s n) where
  finite_at : (h : ℕ) → h < 3 * n → bytes_not_finite s h ≡ false
  finite_at h l = none_below (bytes_not_finite s) (3 * n) c.finite h l

  agree : (g h : ℕ) → g < 3 * n → h < 3 * n → same_at s g h ≡ same_point s g h
  agree g h l k = same_is s bytes g h (finite_at g l) (finite_at h k)

  points_are : first_points (same_at s) (3 * n) ≡ vertex_points s
  unfolding vertex_points
  points_are = first_agree (same_at s) (same_point s) (3 * n) agree (3 * n) (omega arith) ∙ ap (λ (k : ℕ). first_points (same_point s) (3 * k)) c.counted

  few_records : ltb max_triangles (record_count s) ≡ false
  few_records = le-ltb max_triangles (record_count s) (omega (arith, c.few, c.counted))

  long_enough : 84 ≤ length s
  long_enough = omega (arith, c.long)

  long_is : length s ≡ file_length (record_count s)
  long_is = c.long ∙ ap file_length c.counted

  finite_all : any_below (bytes_not_finite s) (3 * record_count s) ≡ false
  finite_all = subst (λ (k : ℕ). any_below (bytes_not_finite s) (3 * k) ≡ false) c.counted c.finite

  module _ (r : ℕ) (heads links firsts : List ℕ) (b : TableBuilt s (3 * n) r heads links firsts) where
    pub over_many : (v t : ℕ) → 65535 < r → read_answer s v t ≡ Err stl.TooMany
    unfolding counts_too_many
    over_many v t l =
        let k : 65535 < length (vertex_points s) = subst (λ vs. 65535 < length vs) points_are (b.many l) in
        is_many s v t long_enough long_is finite_all (rw (lt-ltb max_vertices (length (vertex_points s)) k) (or_true (ltb max_triangles (record_count s))))

    module _ (l : r ≤ 65535) where
      table : VertexTable s r heads links firsts
      table = (b.few l).0

      front : take r firsts ≡ vertex_points s
      front = (b.few l).1.0 ∙ points_are

      count_is : r ≡ length (vertex_points s)
      count_is = (b.few l).1.1 ∙ ap length points_are

      not_many : counts_too_many s ≡ false
      unfolding counts_too_many
      not_many = rw (few_records, le-ltb max_vertices (length (vertex_points s)) (omega (arith, count_is)))

      pub no_vertices : (v t : ℕ) → v < r → read_answer s v t ≡ Err stl.ShortBuffer
      no_vertices v t k = is_mesh_lem s v t long_enough long_is finite_all not_many ∙ rw (lt-ltb v (length (vertex_points s)) (omega (arith, count_is)))

      pub no_triangles : (v t : ℕ) → r ≤ v → t < n → read_answer s v t ≡ Err stl.ShortBuffer
      no_triangles v t j k = is_mesh_lem s v t long_enough long_is finite_all not_many ∙ rw (le-ltb v (length (vertex_points s)) (omega (arith, count_is)), lt-ltb t (record_count s) (omega (arith, c.counted)))

      mesh_answer_lem : (v t : ℕ) → r ≤ v → n ≤ t → read_answer s v t ≡ Ok (record { vertices = r; triangles = n })
      mesh_answer_lem v t j k =
          is_mesh_lem s v t long_enough long_is finite_all not_many
          ∙ rw (le-ltb v (length (vertex_points s)) (omega (arith, count_is)), le-ltb t (record_count s) (omega (arith, c.counted))) (λ i. Ok (record { vertices = sym count_is i; triangles = sym c.counted i }))

      first_is : (i : ℕ) → i < r → get_or firsts i 0 ≡ get_or (vertex_points s) i 0
      first_is i k = sym (get_or-take r firsts i 0 k) ∙ ap (λ vs. get_or vs i 0) front

      vertices_are : list_of (3 * r) (λ j. coordinate s (get_or firsts (j / 3) 0) (j % 3)) ≡ (mesh_in s).vertices
      unfolding mesh_in
      vertices_are =
          list_of_same (3 * r) (λ j. coordinate s (get_or (vertex_points s) (j / 3) 0) (j % 3)) (λ j. coordinate s (get_or firsts (j / 3) 0) (j % 3)) (λ j k. ap (λ (p : ℕ). coordinate s p (j % 3)) (first_is (j / 3) (omega arith)))
          ∙ ap (λ (k : ℕ). list_of (3 * k) (λ j. coordinate s (get_or (vertex_points s) (j / 3) 0) (j % 3))) count_is

      pub findable : (h : ℕ) → h < 3 * n → Findable s heads links firsts h
      findable h k = (has_points s n c.long h k, (table.heads_fit, walk s r heads links firsts table (key_bucket_at s h) (bucket_below s h)))

      vertex_is : (h : ℕ) → h < 3 * n → found_at s heads links firsts h - 1 ≡ vertex_of_point s h
      unfolding vertex_of_point
      vertex_is h k =
          let vs = vertex_points s in
          let a : found_at s heads links firsts h ≡ link_among (same_at s) firsts r h = link_found s r heads links firsts table h (get_or heads (key_bucket_at s h) 0) (bucket_below s h) refl in
          let d : link_among (same_at s) firsts r h ≡ link_among (same_at s) vs (length vs) h =
          sym (link_take (same_at s) h firsts r r (omega arith)) ∙ (ap (λ us. link_among (same_at s) us r h) front ∙ ap (λ (j : ℕ). link_among (same_at s) vs j h) count_is) in
          let e : link_among (same_at s) vs (length vs) h ≡ link_among (same_point s) vs (length vs) h = vertex_agree (same_at s) (same_point s) (3 * n) agree vs h (sym points_are) k in
          ap (λ (j : ℕ). j - 1) (a ∙ (d ∙ e))

      triangles_are : list_of (3 * n) (λ h. found_at s heads links firsts h - 1) ≡ (mesh_in s).triangles
      unfolding mesh_in
      triangles_are =
          list_of_same (3 * n) (λ h. vertex_of_point s h) (λ h. found_at s heads links firsts h - 1) vertex_is ∙ ap (λ (k : ℕ). list_of (3 * k) (λ h. vertex_of_point s h)) c.counted

      -- both lists are written
      pub read_done : (m : StlMesh) (vs : List Float) (ts : List ℕ) → r ≤ length m.vertices / 3 → n ≤ length m.triangles / 3
          → vs ≡ put_in_front (list_of (3 * r) (λ j. coordinate s (get_or firsts (j / 3) 0) (j % 3))) m.vertices → ts ≡ put_in_front (list_of (3 * n) (λ h. found_at s heads links firsts h - 1)) m.triangles
          → (Ok (record { vertices = r; triangles = n }), mesh_lists vs ts) ≡ stl_reading s m
      unfolding after_reading
      read_done m vs ts j k ev et =
          ap (λ x. (Ok (record { vertices = r; triangles = n }), x))
          (λ i. mesh_lists ((ev ∙ ap (λ l. put_in_front l m.vertices) vertices_are) i) ((et ∙ ap (λ l. put_in_front l m.triangles) triangles_are) i))
          ∙ answered s m (Ok (record { vertices = r; triangles = n })) (mesh_answer_lem (length m.vertices / 3) (length m.triangles / 3) j k)

      pub there : (i : ℕ) → i < r → HasPoint s (get_or firsts i 0)
      there i k = table.there i k

      pub firsts_fit : r ≤ length firsts
      firsts_fit = omega (arith, table.firsts_fit)
