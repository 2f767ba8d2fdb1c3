use Rattle.pop.specs.Words.{item_pending, item_claimed}
use borrow.Author.Rules.{rules}
use Rattle.pop.proofs.claim_item.Goals as goal

pub returns-in-Window : goal.returns-in-Window
unfolding item_pending item_claimed
returns-in-Window c = rw c.in-Window.is c.claim.ensures

pub returns-in-Vertex : goal.returns-in-Vertex
unfolding item_pending item_claimed
returns-in-Vertex c = search rules
