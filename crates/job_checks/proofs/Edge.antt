-- The length and the altitude as the code computes and compares them, step by step. Assumes nothing.
use Prim.Native.Nat.{ℕ, ◌+◌, ◌*◌, ◌<◌}
use mathlib.Core.Path.{◌≡◌, ap, ◌∙◌}
use mathlib.Core.Bool.{Bool, true, false, cond}
use mathlib.Core.List.{List}
use native.Mathlib.Omega.{arith}
use lib.Dec.{ltb}
use lib.ListN.{get_or}
use lib.Ieee.{Float, nan, le, neg}
use Rattle.layout.specs.Layout.{coordinates_per_vertex}
use Rattle.float64.specs.Scalar.{one}
use Rattle.float64.specs.Notation.{◌⊘◌}
use Rattle.vec3.specs.declared.Vec3.{Vec3}
use Rattle.vec3.specs.Vec.{scale_of, axpy_of, sub_of, dot_of, norm_of}
use Rattle.job_checks.specs.Edge.{vertex_at, lower, higher, len_of, xhat_of, perpendicular_from, perpendicular_of, altitude_of}
use Rattle.job_checks.specs.Refusals.{min_length, degenerate}
use Rattle.job_checks.proofs.Altitude.{min_radicand, altitude_test}

-- a vertex from what is read of its slot
pub vertex_of_lem : (v : List Float) (k : ℕ) (x y z : Float) → x ≡ get_or v (coordinates_per_vertex * k + 0) nan → y ≡ get_or v (coordinates_per_vertex * k + 1) nan → z ≡ get_or v (coordinates_per_vertex * k + 2) nan → record { x = x; y = y; z = z } ≡ vertex_at v k
vertex_of_lem v k x y z p q r =
    let e : coordinates_per_vertex * k + 0 ≡ coordinates_per_vertex * k = omega arith in
    λ i. record { x = (p ∙ ap (λ (n : ℕ). get_or v n nan) e) i; y = q i; z = r i }

pub ends_below : (a b n : ℕ) → a < n → b < n → (lower a b < n) × (higher a b < n)
ends_below a b n p q = go (ltb a b)
  where
    go : (s : Bool) → (cond s a b < n) × (cond s b a < n)
    go true = (p, q)
    go false = (q, p)

module _ (o b third d : Vec3) (len : Float) (from : d ≡ sub_of b o) (long : len ≡ norm_of d) where
  pub short_edge : le min_length len ≡ false → degenerate o b third ≡ true
  unfolding degenerate len_of
  short_edge h = rw (← from, ← long, h)

module _
    (o b third d xhat w p : Vec3) (len k n : Float)
    (from : d ≡ sub_of b o) (long : len ≡ norm_of d) (unit : xhat ≡ scale_of d (one ⊘ len))
    (up : w ≡ sub_of third o) (along : k ≡ dot_of w xhat) (across : p ≡ axpy_of w (neg k) xhat) (high : n ≡ dot_of p p)
    (fine : le min_length len ≡ true)
  where
    pub low_vertex : le min_radicand n ≡ false → degenerate o b third ≡ true
    unfolding degenerate len_of altitude_of perpendicular_of perpendicular_from xhat_of
    low_vertex h = rw (← from, ← long, fine, ← unit, ← up, ← along, ← across, altitude_test p, ← high, h)

    pub sound_edge : le min_radicand n ≡ true → degenerate o b third ≡ false
    unfolding degenerate len_of altitude_of perpendicular_of perpendicular_from xhat_of
    sound_edge h = rw (← from, ← long, fine, ← unit, ← up, ← along, ← across, altitude_test p, ← high, h)
