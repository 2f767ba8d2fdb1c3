use mathlib.Core.Path.{ap, ◌∙◌}
use Rattle.windows.specs.Windows.{edge_stored, into_of, link_of, win_at, window_at}
use Rattle.windows.proofs.load.Goals as goal

pub returns : goal.returns
unfolding window_at
returns c =
    let a = c.args in
    let w = a.words.now in
    let k = a.id.0 in
    λ t. record {
      edge = record { 0 = edge_stored w k };
      carried = record { into = record { 0 = into_of w k }; queued = c.has_flag-2.ensures t };
      alive = c.has_flag-3.ensures t;
      link = link_of w k;
      win = (c.load_win-win.ensures ∙ ap (λ line. win_at line a.reals.now k) c.has_flag.ensures) t;
    }
