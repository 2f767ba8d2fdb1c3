-- `stored_numbers::replay_records` meets its contract. The invariant: with what the records so far came to, what is left makes the tally of all. Assumes nothing.
use native.Mathlib.Omega.{arith}
use Rattle.stored_numbers.proofs.Records.{none_yet, one_replayed, one_differs, all_told}
use Rattle.stored_numbers.proofs.replay_records.Goals as goal
use Rattle.stored_numbers.proofs.replay_records.Goals.{then-not-replays, else-not-replays}

pub loop-k-init : goal.loop-k-init
loop-k-init g c = (omega arith, (omega arith, (omega arith, none_yet _ _ _ _)))

pub overflow_add-differences : goal.overflow_add-differences
overflow_add-differences g c = omega (arith, c.loop-k.invariant.0, c.loop-k.invariant.1.0, c.loop-k.invariant.1.1.0)

pub overflow_add-cases : goal.overflow_add-cases
overflow_add-cases g c = omega (arith, c.loop-k.invariant.0, c.loop-k.invariant.1.0)

pub loop-k-preserved : goal.loop-k-preserved
loop-k-preserved g c =
    let l = c.loop-k in
    elim c.if-not-replays.branch [
      | then-not-replays w ↦ (
        omega arith,
        (
          omega arith,
          (
            omega (arith, w.differences-is, l.invariant.1.1.0),
            rw w.differences-is (one_differs _ _ _ _ l.k l.cases l.differences _ c.loop-k-test.true c.record_size-k.ensures.0 w.if-not-replays.ensures l.invariant.1.1.1),
          ),
        ),
      )
      | else-not-replays w ↦ (
        omega arith,
        (
          omega arith,
          (
            omega (arith, w.differences-is, l.invariant.1.1.0),
            rw w.differences-is (one_replayed _ _ _ _ l.k l.cases l.differences _ c.loop-k-test.true c.record_size-k.ensures.0 w.if-not-replays.ensures l.invariant.1.1.1),
          ),
        ),
      )
    ]

pub returns : goal.returns
returns g c =
    let l = c.loop-k in
    rw c.at_most-end.ensures at (all_told _ _ _ _ l.k l.cases l.differences c.loop-k-test.false l.invariant.1.1.1)
