-- `segments_behind::face_of` meets its contract. Assumes nothing.
use mathlib.Core.Path.{◌∙◌}
use Rattle.segments_behind.proofs.Finding.{face_read}
use Rattle.segments_behind.proofs.face_of.Goals as goal

pub returns : goal.returns
returns c =
    let a = c.args in
    λ i. record { 0 = (c.read_u32.ensures ∙ face_read a.faces.now a.e) i }
