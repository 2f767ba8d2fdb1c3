use Prim.Native.Nat.{◌+◌, ◌-◌, ◌/◌, ◌<◌}
use native.Mathlib.Omega.{arith}
use mathlib.Core.Path.{◌≡◌, refl, sym, ◌∙◌}
use lib.ListN.{length}
use Rattle.heap.specs.Queue.{queue}
use Rattle.heap_vectors.proofs.Outcomes.{answer_le, records_start, records_more, records_end}
use Rattle.heap_vectors.proofs.replay_records.Goals as goal

pub loop-k-init : goal.loop-k-init
loop-k-init c = (refl, (refl, (omega arith, (omega arith, records_start _ _ _ _))))

pub overflow_add-differences : goal.overflow_add-differences
overflow_add-differences c =
    let l = c.loop-k in
    let a = c.args in
    let q = queue l.keys l.events in
    omega (arith, l.invariant, answer_le a.s.now l.k l.n q c.replay_record-r.ensures)

pub loop-k-preserved : goal.loop-k-preserved
loop-k-preserved c =
    let l = c.loop-k in
    let a = c.args in
    let q = queue l.keys l.events in
    let m = length a.s.now / 32 in
    let more : l.k < m = c.loop-k-test.true in
    let e : m - l.k - 1 ≡ m - (l.k + 1) = omega arith in (
      c.replay_record-r.auto.keys ∙ l.invariant.0,
      (
        c.replay_record-r.auto.events ∙ l.invariant.1.0,
        (
          omega arith,
          (
            omega (arith, l.invariant, answer_le a.s.now l.k l.n q c.replay_record-r.ensures),
            l.invariant.1.1.1.1
                ∙ records_more a.s.now l.k l.n l.differences q (m - l.k) (omega arith) c.replay_record-r.ensures
                ∙ rw e refl,
          ),
        ),
      ),
    )

pub returns : goal.returns
returns c =
    let l = c.loop-k in
    let a = c.args in
    let k : l.k ≡ length a.s.now / 32 = omega (arith, l.invariant, c.loop-k-test.false) in record {
      events_value = records_end a.s.now l.k l.n l.differences (queue l.keys l.events) (length a.s.now / 32 - l.k) (omega arith) ∙ sym l.invariant.1.1.1.1;
      cases_value = (k, l.invariant.1.1.1.0);
    }
