-- `field_c::sirmolaat_print_out` meets its contract. Assumes nothing.
use Rattle.field_c.proofs.Slipped.{text_told}
use Rattle.field_c.proofs.sirmolaat_print_out.Goals as goal

pub returns : goal.returns
returns c =
    text_told _ _ _ c.told_answer-answer.ensures c.live_count-live.ensures c.read_u32.ensures c.print_out.ensures
