use Rattle.field_check.specs.FieldCheck.{meets_refusal}
use Rattle.field_check.proofs.meets_refusal.Goals as goal

pub returns : goal.returns
unfolding meets_refusal
returns c =
    rw (c.either-3.ensures, c.either-2.ensures, c.either.ensures, c.any_above_one-d.ensures, c.over-c.ensures, c.refusal_number-2.ensures, c.check_pieces-pieces.ensures, c.any_degenerate-b.ensures, c.over-a.ensures, c.refusal_number.ensures, c.check_mesh-mesh.ensures)
