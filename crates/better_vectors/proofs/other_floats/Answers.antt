-- `better_vectors::other_floats` meets its contract. Assumes nothing.
use mathlib.Core.Path.{◌≡◌, refl, sym, ap, ◌∙◌}
use native.Mathlib.Omega.{arith}
use Rattle.vectors.specs.Records.{agrees, failing}
use Rattle.vectors.proofs.Laws.{same_count, one_more}
use Rattle.better_vectors.proofs.other_floats.Goals as goal
use Rattle.better_vectors.proofs.other_floats.Goals.{then-not-agrees, else-not-agrees}

pub loop-k-init : goal.loop-k-init
unfolding failing
loop-k-init c = (omega arith, omega arith, refl)

pub loop-k-preserved : goal.loop-k-preserved
loop-k-preserved c =
    let h = c.agrees.ensures ∙ ap (agrees _) c.word_from.ensures in
    elim c.if-not-agrees.branch [ then-not-agrees w ↦ (omega arith, omega arith, w.count-is ∙ one_more _ _ _ c.loop-k.invariant.2 (sym h ∙ w.if-not-agrees.true)) | else-not-agrees w ↦ (omega arith, omega arith, w.count-is ∙ same_count _ _ _ c.loop-k.invariant.2 (sym h ∙ w.if-not-agrees.false)) ]

pub returns : goal.returns
returns c =
    let e : c.loop-k.k ≡ c.args.n = omega arith in
    rw e at c.loop-k.invariant.2
