-- `slip_program::print_answer` meets its contract. Assumes nothing.
use Prim.Native.Nat.{ℕ}
use mathlib.Core.Path.{ap, ◌∙◌}
use Rattle.print_out.specs.PrintOut.{live_count, text_of}
use Rattle.slip_program.proofs.Texts.{puts_same}
use Rattle.slip_program.proofs.print_answer.Goals as goal

pub returns : goal.returns
returns c =
    let a = c.args in
    puts_same (ap (λ (n : ℕ). text_of a.computed n a.vertex.now) (c.live_count-live.ensures ∙ ap (live_count a.words.now) c.window_count.ensures)) c.print_out.ensures
