-- `edge_table::build` meets its contract: all sides are entered and the links zeroed, or an edge had a third face. Assumes nothing.
use mathlib.Core.Path.{◌∙◌}
use lib.ListN.{length}
use Rattle.edge_table.proofs.Whole.{none_entered, built_third, built_all, turned_third, turned_on, same_zeros, still_long}
use Rattle.edge_table.proofs.build.Goals as goal

pub enter_sides-requires : goal.enter_sides-requires
enter_sides-requires c =
    let a = c.args in
    record {
      mesh = c.requires.0;
      long = still_long a.triangles.now _ _ _ _ _ _ c.requires.1 c.zero_u32.auto.s c.zero_u32-2.auto.s c.zero_u32-3.auto.s;
      words = none_entered a.triangles.now (length a.triangles.now) _ _ _ (length a.heads.now) (length a.edge_words.now) (length a.triangle_words.now) c.zero_u32.ensures c.zero_u32-2.ensures c.zero_u32-3.ensures;
    }

pub shape_of-heads-in-Ok : goal.shape_of-heads-in-Ok
shape_of-heads-in-Ok c =
    c.enter_sides.auto.heads ∙ c.zero_u32.auto.s

pub shape_of-edge_words-in-Ok : goal.shape_of-edge_words-in-Ok
shape_of-edge_words-in-Ok c =
    c.clear_links.auto.edge_words ∙ c.enter_sides.auto.edge_words ∙ c.zero_u32-2.auto.s

pub shape_of-triangle_words-in-Ok : goal.shape_of-triangle_words-in-Ok
shape_of-triangle_words-in-Ok c =
    c.enter_sides.auto.triangle_words ∙ c.zero_u32-3.auto.s

pub returns-in-Ok : goal.returns-in-Ok
returns-in-Ok c =
    let a = c.args in
    let t = turned_on a.triangles.now (length a.triangles.now) _ _ _ _ _ c.enter_sides.ensures _ c.in-Ok.is in
    built_all a.triangles.now (length a.triangles.now) _ _ _ _ _ _ _
    (c.enter_sides.auto.heads ∙ c.zero_u32.auto.s)
    (c.enter_sides.auto.edge_words ∙ c.zero_u32-2.auto.s)
    (c.enter_sides.auto.triangle_words ∙ c.zero_u32-3.auto.s)
    t.1 _ t.0 c.clear_links.ensures

pub shape_of-heads-in-Err : goal.shape_of-heads-in-Err
shape_of-heads-in-Err c =
    c.zero_u32-in-Err.auto.s ∙ c.enter_sides.auto.heads ∙ c.zero_u32.auto.s

pub shape_of-edge_words-in-Err : goal.shape_of-edge_words-in-Err
shape_of-edge_words-in-Err c =
    c.zero_u32-in-Err-2.auto.s ∙ c.enter_sides.auto.edge_words ∙ c.zero_u32-2.auto.s

pub shape_of-triangle_words-in-Err : goal.shape_of-triangle_words-in-Err
shape_of-triangle_words-in-Err c =
    c.zero_u32-in-Err-3.auto.s ∙ c.enter_sides.auto.triangle_words ∙ c.zero_u32-3.auto.s

pub returns-in-Err : goal.returns-in-Err
returns-in-Err c =
    let a = c.args in
    built_third a.triangles.now (length a.triangles.now) _ _ _ _ _ _ (turned_third a.triangles.now (length a.triangles.now) _ _ _ _ _ c.enter_sides.ensures _ c.in-Err.is)
    (c.zero_u32-in-Err.ensures ∙ same_zeros (c.enter_sides.auto.heads ∙ c.zero_u32.auto.s))
    (c.zero_u32-in-Err-2.ensures ∙ same_zeros (c.enter_sides.auto.edge_words ∙ c.zero_u32-2.auto.s))
    (c.zero_u32-in-Err-3.ensures ∙ same_zeros (c.enter_sides.auto.triangle_words ∙ c.zero_u32-3.auto.s))
