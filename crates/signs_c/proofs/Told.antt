-- The number of a sign, from the sources as they were given. Assumes nothing.
use mathlib.Core.Path.{◌≡◌, sym, ap, ◌∙◌}
use lib.Ieee.{Float}
use Rattle.std.specs.declared.cmp.Ordering.{Ordering}
use Rattle.source.specs.declared.Src.{Src}
use Rattle.better.specs.Cutting.{sign_of}
use Rattle.signs_c.specs.Exports.{sign_number}

pub told : (p q p' q' : Src) (x : Float) (r s : Ordering) → r ≡ s → r ≡ sign_of p q x → p ≡ p' → q ≡ q' → sign_number s ≡ sign_number (sign_of p' q' x)
told p q p' q' x r s e f g h = ap sign_number (sym e ∙ f ∙ ap (λ (z : Src). sign_of z q x) g ∙ ap (λ (z : Src). sign_of p' z x) h)
