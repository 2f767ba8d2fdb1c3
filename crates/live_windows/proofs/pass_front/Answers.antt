use Rattle.chains.specs.Chains.{links}
use Rattle.trim_model.specs.Add.{passes}
use Rattle.live_windows.proofs.Fronts.{fronted}
use Rattle.live_windows.proofs.pass_front.Goals as goal

pub pass_from-last-requires : goal.pass_from-last-requires
pass_from-last-requires c = (c.requires.0, (c.requires.1, c.remembered-from.ensures.made))

pub returns : goal.returns
returns c =
    let a = c.args in
    fronted (passes a.tiny a.b0) a.made (links a.edges.now a.words.now) a.reals.now _ a.e.0 c.remembered-from.result c.pass_from-last.result
    c.remembered-from.ensures c.pass_from-last.ensures c.write_u32.ensures
