use Prim.Native.Nat.{◌+◌, ◌*◌}
use lib.ListN.{get_or}
use lib.Ieee.{nan}
use Rattle.layout.specs.Layout.{reals_per_window, window_b0, window_b1, window_low}
use Rattle.windows.specs.Windows.{win_at}
use Rattle.windows.proofs.load_win.Goals as goal

pub returns : goal.returns
unfolding win_at
returns c =
    let a = c.args in
    let f = a.reals.now in
    let k = a.id.0 in
    λ t. record {
      b0 = get_or f (reals_per_window * k + window_b0) nan;
      b1 = get_or f (reals_per_window * k + window_b1) nan;
      low = get_or f (reals_per_window * k + window_low) nan;
      src = c.source_of-src.ensures t;
    }
