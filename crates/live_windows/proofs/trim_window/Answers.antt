use lib.ListN.{length}
use Rattle.windows.proofs.WindowList.{counted}
use Rattle.live_windows.proofs.Changed.{trim_done}
use Rattle.live_windows.proofs.trim_window.Goals as goal

pub returns : goal.returns
returns c =
    let a = c.args in
    trim_done a.reals.now a.id.0 a.b0 a.b1 a.low (counted a.id.0 (length a.words.now) (length a.reals.now) c.requires).1 _ c.store_range.ensures
