use mathlib.Core.Path.{sym}
use Rattle.topology.proofs.Triangles.{on_low, on_high}
use Rattle.mesh_readers.proofs.Steps.{off_both}
use Rattle.mesh_readers.proofs.off_ends.Goals as goal

pub returns-then-k-low : goal.returns-then-k-low
returns-then-k-low c = sym (on_low _ _ c.if-k-low.true)

pub returns-then-k-high : goal.returns-then-k-high
returns-then-k-high c = sym (on_high _ _ c.if-k-high.true)

pub returns : goal.returns
returns c = sym (off_both _ _ _ c.if-k-low.false c.if-k-high.false)
