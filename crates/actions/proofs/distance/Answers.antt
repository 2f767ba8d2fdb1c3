use mathlib.Core.Path.{refl}
use lib.Ieee.{div, of_bits}
use borrow.Author.Tests.{lt-ltb, le-ltb}
use Rattle.actions.proofs.distance.Goals as goal

pub returns-then-i-vertex : goal.returns-then-i-vertex
returns-then-i-vertex c = rw (lt-ltb _ _ c.if-i-vertex.true) refl

pub returns : goal.returns
unfolding div of_bits
returns c = rw (le-ltb _ _ c.if-i-vertex.false) refl
