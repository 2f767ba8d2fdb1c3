-- The vertices' reals as the code writes them, and what stands there. Assumes nothing.
use Prim.Native.Nat.{ℕ, ◌+◌, ◌*◌, ◌<◌, ◌≤◌}
use mathlib.Core.Bool.{false}
use mathlib.Core.List.{List, [], ◌∷◌}
use mathlib.Core.Path.{◌≡◌, refl, ap, ◌∙◌}
use native.Mathlib.Omega.{arith}
use lib.Ieee.{Float, nan, inf, binary64, div}
use lib.ListN.{length, get_or, set, replicate, length-replicate}
use Rattle.layout.specs.Layout.{reals_per_vertex, vertex_distance, vertex_emitted}
use Rattle.float64.specs.Scalar.{zero64, one}
use Rattle.propagation.proofs.Infinity.{infinity_is}
use Rattle.buffers.specs.Slots.{fill}
use Rattle.buffers.specs.Zero.{zero_from}
use Rattle.frames.specs.Stored.{with_rows}
use Rattle.frames.proofs.Rows.{rows_at, zero_past_rows}
use Rattle.begin.specs.Begin.{unreached, vertex_reals}

-- one written
pub unreached_is : (v : ℕ) (r r₁ r₂ : List Float) → r₁ ≡ set r (reals_per_vertex * v + vertex_distance) (div binary64 one zero64) → r₂ ≡ set r₁ (reals_per_vertex * v + vertex_emitted) (div binary64 one zero64)
    → r₂ ≡ fill reals_per_vertex r v 0 unreached
unfolding fill
unreached_is v r r₁ r₂ first second =
    second ∙ ((λ i. set (first i) (reals_per_vertex * v + vertex_emitted) (div binary64 one zero64)) ∙ ap (λ (x : Float). fill reals_per_vertex r v 0 (x ∷ x ∷ [])) infinity_is)

-- all written, and the rest zeroed
pub vertices_made : (n : ℕ) (r₀ r out : List Float) → r ≡ with_rows reals_per_vertex (λ (v : ℕ). unreached) n r₀ → out ≡ zero_from zero64 (reals_per_vertex * n) r → out ≡ vertex_reals n (length r₀)
unfolding vertex_reals
vertices_made n r₀ r out written zeroed =
    zeroed ∙ (ap (zero_from zero64 (reals_per_vertex * n)) written ∙ zero_past_rows zero64 reals_per_vertex (λ (v : ℕ). unreached) (λ k. refl) n r₀)

-- ---- read
-- every vertex is infinitely far and has emitted nothing
pub vertex_unreached : (n size v : ℕ) → v < n → reals_per_vertex * n ≤ size
    → (get_or (vertex_reals n size) (reals_per_vertex * v + vertex_distance) nan ≡ inf false) × (get_or (vertex_reals n size) (reals_per_vertex * v + vertex_emitted) nan ≡ inf false)
unfolding vertex_reals
vertex_unreached n size v l room =
    let long : reals_per_vertex * n ≤ length (replicate size zero64) = omega (arith, room, length-replicate size zero64) in
    let at = rows_at reals_per_vertex (λ (v : ℕ). unreached) (λ k. refl) n (replicate size zero64) v in
    (at vertex_distance l long (omega arith), at vertex_emitted l long (omega arith))
