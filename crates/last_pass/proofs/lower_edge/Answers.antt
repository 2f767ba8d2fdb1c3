use mathlib.Core.Path.{refl, sym, ap, ◌∙◌}
use native.Mathlib.Omega.{arith}
use lib.ListN.{length}
use Rattle.chains.specs.Chains.{links, link_at}
use Rattle.chains.proofs.Turns.{link_le}
use Rattle.last_pass.specs.Buffers.{chain_behind, wins_on}
use Rattle.last_pass.proofs.Turns.{done_chain, done_count, one_less, length_edge}
use Rattle.last_pass.proofs.lower_edge.Goals as goal

pub loop-left-init : goal.loop-left-init
loop-left-init c = (omega arith, (omega arith, refl))

pub returns-then-at-eq0 : goal.returns-then-at-eq0
returns-then-at-eq0 c =
    let l = c.loop-left in
    let a = c.args in
    sym (done_chain a.made (links a.edge_words.now a.words.now) a.reals.now a.e l.left l.before c.link_at-at.result c.link_at-at.ensures c.if-at-eq0.true l.vertex) ∙ l.invariant.1.1

pub shape_of-vertex-then-at-eq0 : goal.shape_of-vertex-then-at-eq0
shape_of-vertex-then-at-eq0 c =
    let a = c.args in
    ap length (returns-then-at-eq0 c) ∙ length_edge a.e (wins_on a.words.now a.reals.now (chain_behind a.made (links a.edge_words.now a.words.now) a.e.id.0 a.made 0)) a.vertex.now

pub load-x-requires : goal.load-x-requires
load-x-requires c =
    let l = c.loop-left in
    let a = c.args in
    omega (arith, c.requires.0, c.if-at-eq0.false, link_le a.made (link_at (links a.edge_words.now a.words.now) a.e.id.0 l.before) c.link_at-at.result c.link_at-at.ensures)

pub loop-left-preserved : goal.loop-left-preserved
loop-left-preserved c =
    let l = c.loop-left in
    let a = c.args in (
      link_le a.made (link_at (links a.edge_words.now a.words.now) a.e.id.0 l.before) c.link_at-at.result c.link_at-at.ensures,
      (
        omega (arith, l.invariant.1.0),
        one_less a.made (links a.edge_words.now a.words.now) a.reals.now a.e l.left l.before c.link_at-at.result c.link_at-at.ensures c.loop-left-test.true c.if-at-eq0.false
            c.load-x.result c.load-x.ensures l.vertex _ c.lower_ends.ensures ∙ l.invariant.1.1,
      ),
    )

pub returns : goal.returns
returns c =
    let l = c.loop-left in
    let a = c.args in
    sym (done_count a.made (links a.edge_words.now a.words.now) a.reals.now a.e l.left l.before (omega (arith, c.loop-left-test.false)) l.vertex) ∙ l.invariant.1.1

pub shape_of-vertex : goal.shape_of-vertex
shape_of-vertex c =
    let a = c.args in
    ap length (returns c) ∙ length_edge a.e (wins_on a.words.now a.reals.now (chain_behind a.made (links a.edge_words.now a.words.now) a.e.id.0 a.made 0)) a.vertex.now
