-- `insert_vectors::insert_holds_in` is safe and ends. Assumes nothing.
use Rattle.insert_vectors.proofs.insert_holds_in.Goals as goal

pub insert_holds-requires : goal.insert_holds-requires
insert_holds-requires c = c.requires

pub shape_of-edge_words : goal.shape_of-edge_words
shape_of-edge_words c =
    c.insert_holds.auto.edge_words

pub shape_of-triangle_words : goal.shape_of-triangle_words
shape_of-triangle_words c =
    c.insert_holds.auto.triangle_words
