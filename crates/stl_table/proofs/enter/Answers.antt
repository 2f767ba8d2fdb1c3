-- `stl_table::enter` meets its contract. Assumes nothing.
use mathlib.Core.Path.{sym, ◌∙◌}
use Rattle.stl_table.proofs.Entering.{bucket_is, walk, link_sought, entered_old, entered_new}
use Rattle.stl_table.proofs.enter.Goals as goal

pub seek-requires : goal.seek-requires
seek-requires c =
    let a = c.args in
    walk a.s.now a.count a.heads.now a.links.now a.firsts.now c.requires.1.1 c.bucket_of-b.result c.bucket_of-b.ensures.1

pub returns-then-seek-ne0 : goal.returns-then-seek-ne0
returns-then-seek-ne0 c =
    let a = c.args in
    let t = c.requires.1.1 in
    let link = link_sought a.s.now a.count a.heads.now a.links.now a.firsts.now t a.h _ _ _ c.key_at-k.ensures (bucket_is _ _ _ _ c.key_at-k.ensures c.bucket_of-b.ensures.0) c.seek.ensures in
    entered_old a.s.now a.count a.heads.now a.links.now a.firsts.now t a.h c.requires.1.0 c.requires.0 (λ e. c.if-seek-ne0.true (link ∙ e))

pub returns : goal.returns
returns c =
    let a = c.args in
    let t = c.requires.1.1 in
    let b = bucket_is _ _ _ _ c.key_at-k.ensures c.bucket_of-b.ensures.0 in
    let link = link_sought a.s.now a.count a.heads.now a.links.now a.firsts.now t a.h _ _ _ c.key_at-k.ensures b c.seek.ensures in
    entered_new a.s.now a.count a.heads.now a.links.now a.firsts.now t a.h c.requires.1.0 c.requires.0 c.bucket_of-b.result b c.bucket_of-b.ensures.1 (sym link ∙ c.if-seek-ne0.false)
