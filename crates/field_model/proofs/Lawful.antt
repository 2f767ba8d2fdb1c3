-- The list in order pops the least event, and so does every queue of crate heap's. Assumes nothing.
use native.Mathlib.Omega.{arith}
use mathlib.Core.List.{List, [], ◌∷◌}
use mathlib.Core.Path.{refl, sym}
use Rattle.heap.specs.declared.Event.{Event}
use Rattle.heap.specs.Model.{sum, TakesLeast, none, one, AnyQueue, TakenFrom, nothing, event}
use Rattle.heap.proofs.SameAnswers.{Sorted, all_insert, sorted_insert, sum_insert}
use Rattle.field_model.specs.Queue.{first_taken, queue_in_order, OfRest, LeastFirst, queue_kind}

rest_sorted : (l : List Event) → Sorted l → OfRest Sorted (first_taken l)
rest_sorted [] s = tt
rest_sorted (x ∷ l) s = s.1

first_least : (l : List Event) → Sorted l → TakesLeast (λ (l : List Event). l) l (first_taken l)
first_least [] s = none refl
first_least (x ∷ l) s = one x l (omega arith, s.0) (record { sums = λ w. refl; each = λ P h. h })

pub in_order : LeastFirst queue_in_order
in_order = record {
  Reached = Sorted;
  at_start = tt;
  after_put = sorted_insert;
  after_take = rest_sorted;
  starts = refl;
  puts = λ e l s. record { sums = λ w. unfold sum in sym (sum_insert w e l); each = λ P h. all_insert P e l h.0 h.1 };
  takes = first_least;
}

any_rest : {S : Type 0} (t : TakenFrom S) → OfRest (λ (s : S). Unit {0}) t
any_rest nothing = tt
any_rest (event x t) = tt

pub any_kind : (A : AnyQueue) → LeastFirst (queue_kind A)
any_kind A = record {
  Reached = λ (s : A.State). Unit {0};
  at_start = tt;
  after_put = λ e s h. tt;
  after_take = λ s h. any_rest (A.take s);
  starts = A.starts;
  puts = λ e s h. A.puts e s;
  takes = λ s h. A.takes s;
}
