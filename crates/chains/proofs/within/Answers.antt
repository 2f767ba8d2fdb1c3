use native.Mathlib.Omega.{arith}
use mathlib.Core.Path.{sym}
use Rattle.chains.proofs.Turns.{link_in_lem, link_none}
use Rattle.chains.proofs.within.Goals as goal

pub returns-then-link-count : goal.returns-then-link-count
returns-then-link-count c = sym (link_in_lem c.args.count c.args.link c.if-link-count.true)

pub returns : goal.returns
returns c = sym (link_none c.args.count c.args.link (omega arith))
