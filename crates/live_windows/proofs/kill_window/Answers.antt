use native.Mathlib.Omega.{arith}
use mathlib.Core.Path.{ap, ◌∙◌}
use lib.ListN.{length}
use Rattle.layout.specs.Layout.{words_per_edge, queued_flag}
use Rattle.buffers.proofs.Strides.{in_slots}
use Rattle.windows.proofs.WindowList.{counted}
use Rattle.windows.specs.Windows.{has_flag}
use Rattle.chains.specs.Chains.{links, link_in}
use Rattle.live_windows.proofs.Killed.{kill_done}
use Rattle.live_windows.proofs.kill_window.Goals as goal

pub returns : goal.returns
returns c =
    let a = c.args in
    kill_done a.made (links a.edges.now a.words.now) a.e.0 a.before a.id.0 c.within-next.result c.has_flag-queued.result
    (counted a.id.0 (length a.words.now) (length a.reals.now) (omega (arith, c.requires))).0 (in_slots (length a.edges.now) words_per_edge a.e.0 c.requires.1.0) c.requires.1.1.0 c.requires.1.1.1
    (c.within-next.ensures ∙ ap (link_in a.made) c.read_u32-link.ensures) (c.has_flag-queued.ensures ∙ ap (λ z. has_flag z queued_flag) c.read_u32-flags.ensures)
    _ _ _ _ c.set_link.ensures c.write_u32.ensures c.store_flags.ensures
