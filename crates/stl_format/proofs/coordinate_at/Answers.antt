-- `stl_format::coordinate_at` meets its contract. Assumes nothing.
use Prim.Native.Nat.{ℕ, ◌+◌, ◌*◌}
use mathlib.Core.Path.{ap, ◌∙◌}
use lib.Ieee.{binary32, of_bits}
use Rattle.little_endian.specs.Bytes.{number_from}
use Rattle.stl_format.specs.Format.{coordinate}
use Rattle.stl_format.proofs.coordinate_at.Goals as goal

pub returns : goal.returns
unfolding coordinate
returns c =
    let a = c.args in
    c.single_value.ensures ∙ ap (of_bits binary32) (c.word_at.ensures ∙ ap (λ (i : ℕ). number_from a.s.now (i + 4 * a.k)) c.point_from.ensures)
