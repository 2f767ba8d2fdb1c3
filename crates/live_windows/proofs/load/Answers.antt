use Rattle.live_windows.proofs.Changed.{loaded}
use Rattle.live_windows.proofs.load.Goals as goal

pub returns : goal.returns
returns c = let a = c.args in loaded a.words.now a.reals.now a.id.0 c.load.result c.load.ensures
