use Rattle.chains.specs.Chains.{links}
use Rattle.live_windows.proofs.Walks.{follows}
use Rattle.live_windows.proofs.next_link.Goals as goal

pub returns : goal.returns
returns c =
    let a = c.args in
    follows a.made (links a.edges.now a.words.now) a.e.0 a.before c.link_at.result c.link_at.ensures
