use Prim.Native.Nat.{ℕ, ◌-◌}
use mathlib.Core.Path.{◌≡◌, ap, ◌∙◌}
use native.Mathlib.Omega.{arith}
use native.Mathlib.Numerals.{add-one}
use lib.ListN.{length}
use Rattle.windows.specs.declared.Edge.{Edge}
use Rattle.chains.specs.Chains.{links}
use Rattle.last_pass.specs.Buffers.{lowered_from}
use Rattle.last_pass.proofs.Turns.{none_of_group, one_of_group, length_group}
use Rattle.last_pass.proofs.lower_group.Goals as goal

pub loop-e-init : goal.loop-e-init
loop-e-init c =
    let a = c.args in
    let none : 0 ≡ a.from - a.from = omega arith in (
      (omega arith, omega (arith, c.requires.1.1)),
      none_of_group a.made a.edge_reals.now (links a.edge_words.now a.words.now) a.reals.now a.from a.vertex.now
          ∙ ap (λ (k : ℕ). lowered_from a.made a.edge_reals.now (links a.edge_words.now a.words.now) a.reals.now a.from k a.vertex.now) none,
    )

pub lower_edge-requires : goal.lower_edge-requires
lower_edge-requires c =
    let p = c.requires in
    (p.0, omega (arith, p.1.0, c.loop-e-test.true, ap (λ (x : Edge). x.id.0) c.edge-edge.ensures))

pub loop-e-preserved : goal.loop-e-preserved
loop-e-preserved c =
    let l = c.loop-e in
    let a = c.args in (
      (omega (arith, l.invariant.0.0), omega (arith, c.loop-e-test.true)),
      rw (add-one l.e)
          (one_of_group a.made a.edge_reals.now (links a.edge_words.now a.words.now) a.reals.now a.from l.e l.invariant.0.0 a.vertex.now l.vertex _
          c.edge-edge.result c.edge-edge.ensures l.invariant.1 c.lower_edge.ensures),
    )

pub returns : goal.returns
returns c =
    let l = c.loop-e in
    let a = c.args in
    let all : l.e - a.from ≡ a.end - a.from = omega (arith, l.invariant.0.1, c.loop-e-test.false) in
    l.invariant.1 ∙ ap (λ (k : ℕ). lowered_from a.made a.edge_reals.now (links a.edge_words.now a.words.now) a.reals.now a.from k a.vertex.now) all

pub shape_of-vertex : goal.shape_of-vertex
shape_of-vertex c =
    let a = c.args in
    ap length (returns c) ∙ length_group a.made a.edge_reals.now (links a.edge_words.now a.words.now) a.reals.now a.from (a.end - a.from) a.vertex.now
