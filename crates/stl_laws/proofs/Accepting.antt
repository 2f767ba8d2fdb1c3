-- A file is read exactly where it is readable and there is room, and then its mesh stands at the fronts; so of writing. In a readable file two points have one
-- vertex exactly where they are the same, and a point compares equal to its vertex. Assumes nothing.
use Prim.Native.Nat.{ℕ, ◌+◌, ◌-◌, ◌*◌, ◌/◌, ◌%◌, ◌<◌}
use native.Mathlib.Omega.{arith}
use mathlib.Core.Path.{◌≡◌, refl, sym, ap, ◌∙◌, subst}
use mathlib.Core.Bool.{Bool, true, false, not, cond, ◌||◌, true≢false}
use mathlib.Core.List.{List}
use borrow.Author.Tests.{ltb-false, eqb-true, le-ltb}
use lib.Dec.{T, eqb, ltb}
use lib.ListN.{length, get_or}
use lib.Ieee.{nan, eq}
use Rattle.job_checks.specs.Any.{any_below}
use Rattle.job_checks.specs.Refusals.{max_vertices, max_triangles}
use Rattle.job_checks.proofs.Any.{none_all, none_below}
use Rattle.little_endian.specs.Bytes.{put_in_front}
use Rattle.nat_laws.proofs.Lists.{get_d_list_of}
use Rattle.std.specs.Prelude.{Result, Err}
use Rattle.stl_format.specs.declared.StlCounts.{StlCounts}
use Rattle.stl_format.specs.declared.StlRefusal.{StlRefusal}
use Rattle.stl_format.specs.declared.StlRefusal.TheVariants as stl
use Rattle.stl_format.specs.Format.{StlMesh, record_count, file_length, coordinate, bytes_not_finite, same_point, vertex_points, vertex_of_point, mesh_in}
use Rattle.stl_format.specs.Answers.{counts_too_many, read_answer, after_reading, mesh_lists, stl_reading}
use Rattle.stl.proofs.Agreeing.{first_below}
use Rattle.stl.proofs.Meshes.{answered, is_mesh_lem}
use Rattle.stl_laws.specs.Accepted.{Readable, Room, is_mesh, mesh_answer}
use Rattle.stl_laws.proofs.Numbering.{vertex_same, same_vertex, vertex_one}
use Rattle.stl_laws.proofs.Equal.{equal_at, same_self, same_turned, same_through}

-- ---- what reading accepts

or_false : (a b : Bool) → a || b ≡ false → (a ≡ false) × (b ≡ false)
or_false true b h = absurd (true≢false h)
or_false false b h = (refl, h)

-- a refusal was not picked
on : (b : Bool) (x r : Result StlCounts StlRefusal) → is_mesh x ≡ false → is_mesh (cond b x r) ≡ true → (b ≡ false) × (is_mesh r ≡ true)
on true x r e h = absurd (true≢false (sym h ∙ e))
on false x r e h = (refl, h)

not_false : (b : Bool) → not b ≡ false → b ≡ true
not_false true h = refl
not_false false h = absurd (true≢false h)

module _ (s : List ℕ) (b : StlMesh) where
  pub read_needs : is_mesh (stl_reading s b).0 ≡ true → Readable s × Room s b
  unfolding stl_reading read_answer counts_too_many
  read_needs h =
      let e5 = cond (ltb (length b.vertices / 3) (length (vertex_points s)) || ltb (length b.triangles / 3) (record_count s)) (Err stl.ShortBuffer) (mesh_answer s) in
      let e4 = cond (ltb max_triangles (record_count s) || ltb max_vertices (length (vertex_points s))) (Err stl.TooMany) e5 in
      let e3 = cond (any_below (bytes_not_finite s) (3 * record_count s)) (Err stl.NotFinite) e4 in
      let e2 = cond (not (eqb (length s) (file_length (record_count s)))) (Err stl.WrongLength) e3 in
      let a = on (ltb (length s) 84) (Err stl.TooShort) e2 refl h in
      let c = on (not (eqb (length s) (file_length (record_count s)))) (Err stl.WrongLength) e3 refl a.1 in
      let d = on (any_below (bytes_not_finite s) (3 * record_count s)) (Err stl.NotFinite) e4 refl c.1 in
      let m = on (ltb max_triangles (record_count s) || ltb max_vertices (length (vertex_points s))) (Err stl.TooMany) e5 refl d.1 in
      let r = on (ltb (length b.vertices / 3) (length (vertex_points s)) || ltb (length b.triangles / 3) (record_count s)) (Err stl.ShortBuffer) (mesh_answer s) refl m.1 in
      let few = or_false (ltb max_triangles (record_count s)) (ltb max_vertices (length (vertex_points s))) m.0 in
      let room = or_false (ltb (length b.vertices / 3) (length (vertex_points s))) (ltb (length b.triangles / 3) (record_count s)) r.0 in (
        record {
          long = eqb-true (length s) (file_length (record_count s)) (not_false (eqb (length s) (file_length (record_count s))) c.0);
          finite = λ k l. none_below (bytes_not_finite s) (3 * record_count s) d.0 k l;
          few_triangles = ltb-false _ _ few.0;
          few_vertices = ltb-false _ _ few.1;
        },
        record { vertices = ltb-false _ _ room.0; triangles = ltb-false _ _ room.1 },
      )

  pub read_gives : Readable s → Room s b → stl_reading s b ≡ (mesh_answer s, mesh_lists (put_in_front (mesh_in s).vertices b.vertices) (put_in_front (mesh_in s).triangles b.triangles))
  unfolding after_reading counts_too_many
  read_gives r m =
      let few : counts_too_many s ≡ false = rw (le-ltb max_triangles (record_count s) r.few_triangles, le-ltb max_vertices (length (vertex_points s)) r.few_vertices) in
      let e : read_answer s (length b.vertices / 3) (length b.triangles / 3) ≡ mesh_answer s =
      is_mesh_lem s (length b.vertices / 3) (length b.triangles / 3) (omega (arith, r.long)) r.long (none_all (bytes_not_finite s) (3 * record_count s) r.finite) few
      ∙ rw (le-ltb (length b.vertices / 3) (length (vertex_points s)) m.vertices, le-ltb (length b.triangles / 3) (record_count s) m.triangles) in
      sym (answered s b (mesh_answer s) e)

-- ---- the numbering of a readable file
module _ (s : List ℕ) (r : Readable s) where
  abbrev n : ℕ
  n = 3 * record_count s

  self : (h : ℕ) → h < n → same_point s h h ≡ true
  self h l = same_self s h (r.finite h l)

  -- the vertex of a point: its number is below the count, and it is the same as the point
  pub vertex_of_lem : (h : ℕ) → h < n → (vertex_of_point s h < length (vertex_points s)) × (same_point s (get_or (vertex_points s) (vertex_of_point s h) 0) h ≡ true)
  unfolding vertex_of_point vertex_points
  vertex_of_lem h l = vertex_same (same_point s) n self h l

  pub vertex_low : (i : ℕ) → i < length (vertex_points s) → get_or (vertex_points s) i 0 < n
  unfolding vertex_points
  vertex_low i l = first_below (same_point s) n i l

  -- two points have one vertex exactly where all three coordinates compare equal
  pub same_number : (g h : ℕ) → g < n → h < n → same_point s g h ≡ true → vertex_of_point s g ≡ vertex_of_point s h
  unfolding vertex_of_point vertex_points
  same_number g h l k e = ap (λ (m : ℕ). m - 1) (same_vertex (same_point s) n self (λ a b la lb. same_turned s a b) (λ a b c la lb lc. same_through s a b c) g h l k e)

  pub number_same : (g h : ℕ) → g < n → h < n → vertex_of_point s g ≡ vertex_of_point s h → same_point s g h ≡ true
  unfolding vertex_of_point vertex_points
  number_same g h l k e = vertex_one (same_point s) n self (λ a b la lb. same_turned s a b) (λ a b c la lb lc. same_through s a b c) g h l k e

  -- the mesh's lists, element by element
  pub triangle_at : (h : ℕ) → h < n → get_or (mesh_in s).triangles h 0 ≡ vertex_of_point s h
  unfolding mesh_in
  triangle_at h l = get_d_list_of (3 * record_count s) (λ k. vertex_of_point s k) h 0 l

  pub vertex_at_lem : (i c : ℕ) → i < length (vertex_points s) → c < 3 → get_or (mesh_in s).vertices (3 * i + c) nan ≡ coordinate s (get_or (vertex_points s) i 0) c
  unfolding mesh_in
  vertex_at_lem i c l k =
      let q : (3 * i + c) / 3 ≡ i = omega arith in
      let m : (3 * i + c) % 3 ≡ c = omega arith in
      get_d_list_of (3 * length (vertex_points s)) (λ j. coordinate s (get_or (vertex_points s) (j / 3) 0) (j % 3)) (3 * i + c) nan (omega arith)
      ∙ (ap (λ (j : ℕ). coordinate s (get_or (vertex_points s) j 0) ((3 * i + c) % 3)) q ∙ ap (λ (j : ℕ). coordinate s (get_or (vertex_points s) i 0) j) m)

  -- each coordinate of a point's vertex compares equal to the point's
  pub vertex_equal : (h c : ℕ) → h < n → c < 3 → T (eq (get_or (mesh_in s).vertices (3 * get_or (mesh_in s).triangles h 0 + c) nan) (coordinate s h c))
  vertex_equal h c l k =
      let a = vertex_of_lem h l in
      subst (λ x. T (eq x (coordinate s h c))) (sym (ap (λ (i : ℕ). get_or (mesh_in s).vertices (3 * i + c) nan) (triangle_at h l) ∙ vertex_at_lem (vertex_of_point s h) c a.0 k)) (equal_at s (get_or (vertex_points s) (vertex_of_point s h) 0) h a.1 c k)
