-- `edge_table::find_in_bucket` meets its contract. The invariant: what is found from here is what is found from the head. The measure is the link, since links fall.
-- Assumes nothing.
use mathlib.Core.Path.{refl}
use Rattle.edge_table.proofs.Seeking.{seek_at_here, seek_at_low, seek_at_high, falls, seek_end}
use borrow.Author.Rules.{rules}
use Rattle.edge_table.proofs.find_in_bucket.Goals as goal
use Rattle.edge_table.proofs.find_in_bucket.Goals.{else-read_u32-low, then-read_u32-low+else-read_u32-high}

pub loop-at-init : goal.loop-at-init
loop-at-init c = (search rules, refl)

pub returns-then-read_u32-high : goal.returns-then-read_u32-high
returns-then-read_u32-high c =
    let a = c.args in
    seek_at_here a.edge_words.now a.low a.high c.loop-at.at a.head _ c.requires c.loop-at-test.true c.loop-at.invariant.1 c.read_u32.ensures _ c.read_u32-then-read_u32-low.ensures c.if-read_u32-low.true c.if-read_u32-high.true

pub loop-at-smaller : goal.loop-at-smaller
loop-at-smaller c =
    let a = c.args in
    falls a.edge_words.now c.loop-at.at c.requires c.loop-at-test.true _ c.read_u32-at.ensures

pub loop-at-preserved : goal.loop-at-preserved
loop-at-preserved c =
    let a = c.args in
    let words = a.edge_words.now in (
      search rules,
      elim c.if-read_u32-low.branch [
        | then-read_u32-low+else-read_u32-high w ↦ seek_at_high words a.low a.high c.loop-at.at a.head _ c.requires c.loop-at-test.true c.loop-at.invariant.1 c.read_u32.ensures _ c.read_u32-at.ensures _ w.read_u32-then-read_u32-low.ensures w.if-read_u32-low.true w.if-read_u32-high.false
        | else-read_u32-low w ↦ seek_at_low words a.low a.high c.loop-at.at a.head _ c.requires c.loop-at-test.true c.loop-at.invariant.1 c.read_u32.ensures _ c.read_u32-at.ensures w.if-read_u32-low.false
      ],
    )

pub returns : goal.returns
returns c =
    let a = c.args in
    seek_end a.edge_words.now a.low a.high c.loop-at.at a.head c.loop-at.invariant.1 c.loop-at-test.false
