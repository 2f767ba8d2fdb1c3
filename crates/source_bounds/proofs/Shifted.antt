-- Bounds of a distance from those of the root, and of a line. Assumes nothing.
use Rattle.std.specs.Prelude.{Option, Some, None, IfSome}
use mathlib.Core.Bool.{true, false}
use mathlib.Core.Path.{◌≡◌}
use lib.Dec.{T}
use lib.Ieee.{Float, nan, inf, fin, binary64, add, neg, le, of_bits}
use lib.Ieee.Scale.{finite}
use Rattle.root_spec.specs.Root.{hypot_of}
use Rattle.float64.specs.Notation.{◌⊕◌, ◌⊖◌, ◌⊗◌}
use Rattle.float_laws.proofs.Order.{finite_number, le_refl, le_number_l, finite_between}
use Rattle.float_laws.proofs.Sum.{add_mono}
use Rattle.source.specs.declared.Src.TheVariants.{Point, Line}
use Rattle.source.specs.Distance.{edge_of}
use Rattle.source_bounds.specs.declared.Enclosure.{Enclosure}
use Rattle.source_bounds.specs.Bounds.{least_bound, greatest_bound, Bounded, Encloses}

-- what `limited` says
abbrev Limited : Float → Float → Option Enclosure → Type 0
Limited lo hi r = IfSome r (λ e. (e.lo ≡ lo) × (e.hi ≡ hi) × (T (le least_bound lo) × T (le hi greatest_bound)))

-- sums from -1 to 1e100 are of a finite s
addend_finite : (l u s : Float) → T (finite l) → T (finite u) → T (le least_bound (l ⊕ s)) → T (le (u ⊕ s) greatest_bound) → T (finite s)
unfolding add le neg of_bits
addend_finite nan u s F G h k = absurd F
addend_finite (inf t) u s F G h k = absurd F
addend_finite (fin a m e) nan s F G h k = absurd G
addend_finite (fin a m e) (inf t) s F G h k = absurd G
addend_finite (fin a m e) (fin b n d) nan F G h k = h
addend_finite (fin a m e) (fin b n d) (inf true) F G h k = h
addend_finite (fin a m e) (fin b n d) (inf false) F G h k = k
addend_finite (fin a m e) (fin b n d) (fin c o i) F G h k = tt

sum_bounded : (lo hi v s : Float) → Encloses lo hi v → T (le least_bound (lo ⊕ s)) → T (le (hi ⊕ s) greatest_bound) → Bounded (lo ⊕ s) (hi ⊕ s) (v ⊕ s)
sum_bounded lo hi v s e h k =
    let F = addend_finite lo hi s e.lo_finite e.hi_finite h k in
    let G = finite_between lo v hi e.lo_finite e.hi_finite e.from e.upto in
    let r = le_refl s (finite_number s F) in
    record {
      least = h;
      from = add_mono binary64 lo v s s e.lo_finite G F F e.from r;
      upto = add_mono binary64 v hi s s G e.hi_finite F F e.upto r;
      greatest = k;
    }

pub point_bounded : (sx y s x lo hi : Float) (r : Option Enclosure) → Encloses lo hi (hypot_of binary64 (x ⊖ sx) y) → Limited (lo ⊕ s) (hi ⊕ s) r → IfSome r (λ e. Bounded e.lo e.hi (edge_of (Point sx y s) x))
unfolding edge_of
point_bounded sx y s x lo hi None e l = tt
point_bounded sx y s x lo hi (Some b) e l = rw (l.0, l.1) (sum_bounded lo hi (hypot_of binary64 (x ⊖ sx) y) s e l.2.0 l.2.1)

pub line_bounded : (ux uy c x : Float) (r : Option Enclosure) → Limited (c ⊕ ux ⊗ x) (c ⊕ ux ⊗ x) r → IfSome r (λ e. Bounded e.lo e.hi (edge_of (Line ux uy c) x))
unfolding edge_of
line_bounded ux uy c x None l = tt
line_bounded ux uy c x (Some b) l =
    let v = c ⊕ ux ⊗ x in
    let r = le_refl v (le_number_l v greatest_bound l.2.1) in
    rw (l.0, l.1) (record { least = l.2.0; from = r; upto = r; greatest = l.2.1 })
