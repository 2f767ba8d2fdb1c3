-- The real roots of a quadratic, as the Rust's `roots` finds them. Definitions only.
use Rattle.std.specs.Prelude.{◌||◌, not, Float, if◌then◌else◌}
use Rattle.std.specs.Float.{binary64}
use Rattle.std.specs.Float.Ieee.{of_bits, neg, lt, le, eq, ne}
use Rattle.root_spec.specs.Root.{sqrt_of}
use Rattle.float64.specs.Scalar.{zero64, max_of, abs_of, signum_of, is_finite}
use Rattle.float64.specs.Notation.{◌⊕◌, ◌⊖◌, ◌⊗◌, ◌⊘◌}
use Rattle.source.specs.declared.RealRoots.{RealRoots}
use Rattle.source.specs.declared.RealRoots.TheVariants.{None, One, Two}

-- 0.5, 4.0 and 8.0
abbrev pub half : Float
half = of_bits binary64 0x3fe0_0000_0000_0000

abbrev pub four : Float
four = of_bits binary64 0x4010_0000_0000_0000

abbrev pub eight : Float
eight = of_bits binary64 0x4020_0000_0000_0000

-- 1e-13: a leading coefficient of at most this part of the largest counts as none
abbrev pub negligible : Float
negligible = of_bits binary64 0x3d3c_25c2_6849_7682

-- the roots of a x² + b x + c, linear where a vanishes against the other coefficients
unfoldable pub roots_of : Float → Float → Float → RealRoots
roots_of a b c =
    let s = max_of (max_of (abs_of a) (abs_of b)) (abs_of c) in
    if eq s zero64 || not (is_finite s) then None else
    if le (abs_of a) (negligible ⊗ s) then (if ne b zero64 then One (neg c ⊘ b) else None) else
    let disc = b ⊗ b ⊖ four ⊗ a ⊗ c in
    if lt disc zero64 then None else
    let q = neg half ⊗ (b ⊕ signum_of b ⊗ sqrt_of binary64 disc) in
    if ne q zero64 then Two (q ⊘ a) (c ⊘ q) else One (q ⊘ a)
