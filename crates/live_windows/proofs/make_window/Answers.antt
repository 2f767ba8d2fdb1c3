use native.Mathlib.Numerals.{add-one}
use lib.ListN.{length}
use Rattle.layout.specs.Layout.{words_per_edge}
use Rattle.buffers.proofs.Strides.{in_slots}
use Rattle.windows.proofs.WindowList.{counted}
use Rattle.chains.specs.Chains.{links}
use Rattle.live_windows.proofs.Made.{make_after}
use Rattle.live_windows.proofs.make_window.Goals as goal

pub returns : goal.returns
returns c =
    let a = c.args in
    let fits = counted a.made (length a.words.now) (length a.reals.now) c.requires.0 in
    make_after a.made (links a.edges.now a.words.now) a.reals.now a.e a.before c.next_link-next.result a.carried a.win
    fits.0 fits.1 (in_slots (length a.edges.now) words_per_edge a.e.0 c.requires.1.0) c.requires.1.1 c.next_link-next.ensures.is
    _ _ _ _ c.store.ensures.0 (add-one a.made) c.set_link.ensures c.store.ensures.1
