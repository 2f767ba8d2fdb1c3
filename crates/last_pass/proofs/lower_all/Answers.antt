use Prim.Native.Nat.{ℕ, ◌-◌}
use mathlib.Core.Path.{ap, ◌∙◌}
use native.Mathlib.Omega.{arith}
use lib.ListN.{length}
use Rattle.chains.specs.Chains.{links}
use Rattle.last_pass.specs.Buffers.{lowered_all_at}
use Rattle.last_pass.proofs.Turns.{none_yet, one_group, length_all}
use Rattle.last_pass.proofs.lower_all.Goals as goal

pub loop-e-init : goal.loop-e-init
loop-e-init c =
    let a = c.args in
    (omega arith, none_yet a.made a.edge_reals.now (links a.edge_words.now a.words.now) a.reals.now a.vertex.now)

pub lower_group-requires : goal.lower_group-requires
lower_group-requires c =
    let p = c.requires in
    (p.0, (omega (arith, p.1, c.group_end-end.ensures.1), omega (arith, c.group_end-end.ensures.0)))

pub loop-e-preserved : goal.loop-e-preserved
loop-e-preserved c =
    let l = c.loop-e in
    let a = c.args in (
      omega (arith, c.group_end-end.ensures.1),
      one_group a.made a.edge_reals.now (links a.edge_words.now a.words.now) a.reals.now l.e c.group_end-end.result (omega (arith, c.group_end-end.ensures.0)) a.vertex.now l.vertex _
          l.invariant.1 c.lower_group.ensures,
    )

pub returns : goal.returns
returns c =
    let l = c.loop-e in
    let a = c.args in
    l.invariant.1 ∙ ap (λ (n : ℕ). lowered_all_at a.made a.edge_reals.now (links a.edge_words.now a.words.now) a.reals.now n a.vertex.now) (omega (arith, l.invariant.0, c.loop-e-test.false))

pub shape_of-vertex : goal.shape_of-vertex
shape_of-vertex c =
    let a = c.args in
    ap length (returns c) ∙ length_all a.made a.edge_reals.now (links a.edge_words.now a.words.now) a.reals.now a.edges a.vertex.now
