-- `root_vectors::differences` meets its contract. Assumes nothing.
use mathlib.Core.Path.{◌≡◌, refl, sym, ◌∙◌}
use Prim.Native.Nat.{ℕ, ◌+◌, ◌*◌, ◌≤◌}
use native.Mathlib.Nat.{add-mul, one-mul}
use native.Mathlib.Omega.{arith}
use Rattle.root_vectors.specs.Replay.{arity, numbers_per_record, records_in}
use Rattle.vectors.specs.Records.{failing}
use Rattle.vectors.proofs.Laws.{same_count, one_more}
use Rattle.nat_laws.proofs.Ring.{run_within}
use Rattle.root_vectors.proofs.differences.Goals as goal
use Rattle.root_vectors.proofs.differences.Goals.{then-not-holds, else-not-holds}

pub loop-k-init : goal.loop-k-init
unfolding failing
loop-k-init c = (omega arith, refl)

pub holds-requires : goal.holds-requires
holds-requires c =
    omega (arith, run_within (numbers_per_record c.args.f) {k = c.loop-k.k} {n = c.records-n.result} (omega arith), c.records-n.ensures.1)

pub overflow_add-count : goal.overflow_add-count
overflow_add-count c = omega arith

pub loop-k-preserved : goal.loop-k-preserved
loop-k-preserved c =
    let h = c.holds.ensures in
    elim c.if-not-holds.branch [
      | then-not-holds w ↦ (omega arith, w.count-is ∙ one_more _ _ _ c.loop-k.invariant.1 (sym h ∙ w.if-not-holds.true))
      | else-not-holds w ↦ (omega arith, w.count-is ∙ same_count _ _ _ c.loop-k.invariant.1 (sym h ∙ w.if-not-holds.false))
    ]

few : (a n l : ℕ) → 8 * ((a + 1) * n) ≤ l → n ≤ l
few a n l h = omega (arith, simp (add-mul, one-mul) at h)

pub returns : goal.returns
returns c =
    let e : c.loop-k.k ≡ records_in c.args.f c.args.s.now = omega (arith, c.records-n.ensures.0) in
    (rw e at c.loop-k.invariant.1, omega (arith, few (arity c.args.f) c.records-n.result _ c.records-n.ensures.1))
