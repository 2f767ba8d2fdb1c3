-- `moves_c::sirmolaat_slip_to_groups` meets its contract. Assumes nothing.
use mathlib.Core.Path.{ap, ◌∙◌}
use Rattle.slip_moves.specs.Moves.{moved_number}
use Rattle.moves_c.specs.Exports.{told_length, exported}
use Rattle.moves_c.proofs.sirmolaat_slip_to_groups.Goals as goal

pub shape_of-out : goal.shape_of-out
shape_of-out c = c.to_groups.auto.out

pub shape_of-told : goal.shape_of-told
shape_of-told c = c.tell.auto.told

pub returns : goal.returns
unfolding exported
returns c =
    let told = c.to_groups.ensures in
    λ t. ((c.tell.ensures.0 ∙ ap (λ q. moved_number q.0) told) t, ((told t).1, (c.tell.ensures.1 ∙ ap (λ q. told_length q.0 c.args.told.now) told) t))
