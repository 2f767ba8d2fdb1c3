-- `signs_c::sirmolaat_sign` meets its contract. Assumes nothing.
use Rattle.std.specs.declared.cmp.Ordering.TheVariants.{Less, Equal, Greater}
use Rattle.signs_c.proofs.Told.{told}
use Rattle.signs_c.proofs.sirmolaat_sign.Goals as goal

pub returns-in-Less : goal.returns-in-Less
returns-in-Less c =
    told _ _ _ _ _ _ Less c.in-Less.is c.sign-sign.ensures c.source_given-p.ensures c.source_given-q.ensures

pub returns-in-Equal : goal.returns-in-Equal
returns-in-Equal c =
    told _ _ _ _ _ _ Equal c.in-Equal.is c.sign-sign.ensures c.source_given-p.ensures c.source_given-q.ensures

pub returns-in-Greater : goal.returns-in-Greater
returns-in-Greater c =
    told _ _ _ _ _ _ Greater c.in-Greater.is c.sign-sign.ensures c.source_given-p.ensures c.source_given-q.ensures
