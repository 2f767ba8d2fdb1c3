-- `edge_table::enter_sides` meets its contract. The invariant: the buffers hold the table of the sides entered so far, and are as long as they were. Assumes nothing.
use mathlib.Core.Path.{◌≡◌, refl, sym, ◌∙◌}
use native.Mathlib.Omega.{arith}
use lib.ListN.{length}
use Rattle.std.proofs.lemmas.Result.{err_from_is_err_and}
use Rattle.edge_table.proofs.Whole.{none_counted, turned_third, turned_on, third_turned, all_turned, still_long}
use Rattle.edge_table.proofs.enter_sides.Goals as goal

pub overflow_cast-sides : goal.overflow_cast-sides
overflow_cast-sides c =
    omega (arith, c.requires.mesh.whole, c.requires.mesh.few_triangles)

pub loop-h-init : goal.loop-h-init
loop-h-init c =
    let a = c.args in
    (sym (none_counted a.triangles.now (length a.triangles.now)), refl, refl, refl, c.requires.words)

pub enter_side-requires : goal.enter_side-requires
enter_side-requires c =
    let a = c.args in
    record {
      mesh = c.requires.mesh;
      long = still_long a.triangles.now _ _ _ _ _ _ c.requires.long c.loop-h.invariant.1 c.loop-h.invariant.2 c.loop-h.invariant.3;
      side = c.loop-h-test.true;
      counted = c.loop-h.invariant.0;
      words = c.loop-h.invariant.4;
    }

pub returns-in_err-count : goal.returns-in_err-count
returns-in_err-count c =
    let a = c.args in
    let p = err_from_is_err_and c.from_residual.result c.from_residual.ensures.1 in
    rw p.1 (third_turned a.triangles.now (length a.triangles.now) _ _ _ _ (turned_third a.triangles.now (length a.triangles.now) _ _ _ _ _ c.enter_side.ensures _ c.in_err-count.was))

pub loop-h-preserved : goal.loop-h-preserved
loop-h-preserved c =
    let a = c.args in
    let t = turned_on a.triangles.now (length a.triangles.now) _ _ _ _ _ c.enter_side.ensures _ c.in_ok-count.was in
    (t.0, c.enter_side.auto.heads ∙ c.loop-h.invariant.1, c.enter_side.auto.edge_words ∙ c.loop-h.invariant.2, c.enter_side.auto.triangle_words ∙ c.loop-h.invariant.3, t.1)

pub returns : goal.returns
returns c =
    let a = c.args in
    let e : c.loop-h.h ≡ length a.triangles.now = omega arith in
    all_turned a.triangles.now (length a.triangles.now) _ _ c.loop-h.count _ _ _ e c.loop-h.invariant.0 c.loop-h.invariant.4
