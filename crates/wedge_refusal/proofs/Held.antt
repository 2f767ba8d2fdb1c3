-- Where the buffers hold a mesh and the table of the pieces' ends, `any_wedge` answers refusal 11 of the job. Assumes nothing.
use Prim.Native.Nat.{ℕ, zero, suc, ◌*◌, ◌/◌, ◌<◌}
use mathlib.Core.Path.{◌≡◌, refl, ap}
use mathlib.Core.Bool.{Bool, ◌&&◌, ◌||◌}
use mathlib.Core.List.{List}
use native.Mathlib.Omega.{arith}
use lib.Dec.{ltb}
use lib.Ieee.{Float}
use lib.ListN.{length, get_or}
use Rattle.vec3.specs.declared.Vec3.{Vec3}
use Rattle.job_checks.specs.Any.{any_below}
use Rattle.carriers.specs.Carrier.{carrier_of}
use Rattle.carriers.specs.Nearest.{nearest_at}
use Rattle.carriers.proofs.Held.{count_held}
use Rattle.segments_behind.specs.of_piece_ends.Ends.{end_point}
use Rattle.segments_behind.proofs.laws_of_piece_ends.Held.{is_first_held}
use Rattle.segments_behind.proofs.Held.{any_round_held}
use Rattle.wedge_refusal.specs.Held.{HoldsJob}
use Rattle.wedge_refusal.specs.Wedge.{wedge_met, any_wedge, over_two_at, wedge_at, any_wedge_at}

any_same : (f g : ℕ → Bool) (n : ℕ) → ((e : ℕ) → e < n → f e ≡ g e) → any_below f n ≡ any_below g n
unfolding any_below
any_same f g zero same = refl
any_same f g (suc n) same = λ i. any_same f g n (λ e l. same e (omega arith)) i || same n (omega arith) i

module _ (v : List Float) (triangles : List ℕ) (n : ℕ) (edge_words : List ℕ) (edge_reals : List Float) (triangle_words : List ℕ) (triangleReals : List Float) (vertex_words round kinds faces : List ℕ) (coords : List Float) (words : List ℕ)
    (held : HoldsJob v triangles n edge_words edge_reals triangle_words triangleReals vertex_words round kinds faces coords words) where
  over_held : (f : ℕ) (p : Vec3) → f < length triangles / 3 → over_two_at v edge_words edge_reals triangle_words triangleReals vertex_words f p ≡ ltb 2 (length (carrier_of v triangles f p))
  unfolding over_two_at
  over_held f p l =
      ap (ltb 2) (count_held v triangles n edge_words edge_reals triangle_words triangleReals vertex_words round held.mesh held.round_vertex f l p)

  end_held : (e : ℕ) → e < 2 * length kinds → wedge_at v edge_words edge_reals triangle_words triangleReals vertex_words triangles kinds faces coords words (length kinds) e ≡ wedge_met v triangles kinds faces coords e
  unfolding wedge_at wedge_met
  end_held e l = λ i.
      is_first_held kinds coords words held.table e i
      && (over_held (get_or faces (e / 2) 0) (end_point coords e) (held.face_there (e / 2) (omega arith)) i
      && any_round_held kinds faces coords words held.table triangles (nearest_at v triangles (get_or faces (e / 2) 0) (end_point coords e)) (end_point coords e) i)

  pub wedge_held : any_wedge_at v edge_words edge_reals triangle_words triangleReals vertex_words triangles kinds faces coords words ≡ any_wedge v triangles kinds faces coords
  unfolding any_wedge_at any_wedge
  wedge_held =
      any_same (wedge_at v edge_words edge_reals triangle_words triangleReals vertex_words triangles kinds faces coords words (length kinds)) (wedge_met v triangles kinds faces coords) (2 * length kinds) end_held
