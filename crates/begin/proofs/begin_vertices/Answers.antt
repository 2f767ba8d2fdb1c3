-- `begin::begin_vertices` meets its contract. The invariant: the vertices so far are written. Assumes nothing.
use Prim.Native.Nat.{◌-◌}
use mathlib.Core.Path.{refl, ◌∙◌}
use native.Mathlib.Omega.{arith}
use borrow.Author.Rules.{rules}
use Rattle.layout.specs.Layout.{reals_per_vertex}
use Rattle.frames.proofs.Rows.{rows_start, rows_turn, rows_done}
use Rattle.begin.specs.Begin.{unreached}
use Rattle.begin.proofs.Vertices.{vertices_made}
use Rattle.begin.proofs.begin_vertices.Goals as goal

pub loop-v-init : goal.loop-v-init
loop-v-init c = (omega arith, (refl, rows_start reals_per_vertex _ _))

pub loop-v-preserved : goal.loop-v-preserved
loop-v-preserved c =
    (search rules, (c.leave_unreached.auto.vertex ∙ c.loop-v.invariant.1.0, rows_turn reals_per_vertex _ _ _ _ _ c.loop-v.v _ refl c.leave_unreached.ensures refl c.loop-v.invariant.1.1))

pub returns : goal.returns
returns c =
    let a = c.args in
    vertices_made a.n _ _ _ (rows_done reals_per_vertex _ _ _ c.loop-v.v _ c.loop-v.invariant.1.1 c.loop-v.invariant.0 c.loop-v-test.false) c.zero_f64_from.ensures
