use Prim.Native.Nat.{◌+◌, ◌*◌}
use mathlib.Core.Path.{refl, ap, ◌∙◌}
use native.Mathlib.Omega.{arith}
use native.Mathlib.Numerals.{add-one}
use lib.ListN.{set, length-set}
use Rattle.layout.specs.Layout.{words_per_edge, edge_scratch}
use Rattle.contents.specs.Contents.{forgotten}
use Rattle.contents.proofs.Forgotten.{forget_turn, forget_none}
use Rattle.contents.proofs.forget.Goals as goal

pub loop-e-init : goal.loop-e-init
loop-e-init c = (omega arith, (refl, forget_none c.args.edges.now))

pub loop-e-preserved : goal.loop-e-preserved
loop-e-preserved c =
    let l = c.loop-e in
    let given = c.args.edges.now in (
      omega (arith, c.loop-e-test.true),
      (
        length-set l.edges (words_per_edge * l.e + edge_scratch) 0 ∙ l.invariant.1.0,
        rw (add-one l.e) (forget_turn l.e given (set l.edges (words_per_edge * l.e + edge_scratch) 0) (ap (λ z. set z (words_per_edge * l.e + edge_scratch) 0) l.invariant.1.1)),
      ),
    )

pub shape_of-edges : goal.shape_of-edges
shape_of-edges c = c.loop-e.invariant.1.0

pub returns : goal.returns
returns c = c.loop-e.invariant.1.1 ∙ ap (λ k. forgotten k c.args.edges.now) (omega (arith, c.loop-e-test.false, c.loop-e.invariant.0))
