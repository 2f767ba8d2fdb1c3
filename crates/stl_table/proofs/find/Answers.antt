-- `stl_table::find` meets its contract. Assumes nothing.
use Prim.Native.Nat.{ℕ}
use mathlib.Core.Path.{sym, subst}
use lib.ListN.{get_or}
use Rattle.stl_table.specs.Table.{Walkable}
use Rattle.stl_table.proofs.Entering.{bucket_is, found_is}
use Rattle.stl_table.proofs.find.Goals as goal

pub seek-requires : goal.seek-requires
seek-requires c =
    let a = c.args in
    subst (λ (b : ℕ). Walkable a.s.now a.links.now a.firsts.now (get_or a.heads.now b 0)) (sym (bucket_is _ _ _ _ c.key_at-k.ensures c.bucket_of-b.ensures.0)) c.requires.1.1

pub returns : goal.returns
returns c =
    let a = c.args in
    found_is a.s.now a.heads.now a.links.now a.firsts.now a.h _ _ _ c.key_at-k.ensures (bucket_is _ _ _ _ c.key_at-k.ensures c.bucket_of-b.ensures.0) c.seek.ensures
